-- `stages::resume` meets its contract: the walk goes on where that of the cut's parts ended.
use Rattle.stages.proofs.Prelude.{◌≡◌, ◌+◌, max, arith}
use Rattle.stages.proofs.Steps.{resumed}
use Rattle.stages.proofs.resume.Goals as goal

pub returns : goal.returns
returns c = let e : max c.args.s.most (max 1 c.args.parts.stages + 1) ≡ c.max-2.result = omega (arith, c.max.ensures, c.max-2.ensures) in
    resumed c.args.d c.args.s c.requires.6 c.requires.0 (rw e c.along.ensures)
