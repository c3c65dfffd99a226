-- `stage_rows::gather` meets its contract. The loop's invariant: the words passed are gathered, every other word is as it was.
use Rattle.stage_rows.proofs.Prelude.{arith, ◌-◌}
use Rattle.stage_rows.proofs.Uncut.{gathered_low}
use Rattle.stage_rows.proofs.gather.Goals as goal

pub greater-requires : goal.greater-requires
greater-requires c = let given = c.requires in
    let l = c.loop-b in
    (omega (arith, given.laid.capped c.entry.result), omega (arith, gathered_low given l.invariant.3 (l.b - 1) (omega arith)))
