-- `chains::pass_one` meets its contract: the entries from what the kind takes on, then those below.
use Rattle.chains.proofs.Prelude.{refl, ◌≤◌, arith, length, sym, ◌∙◌}
use Rattle.std.proofs.lemmas.Bool.{false≢true}
use Rattle.chains.proofs.Sweeps.{swept_on, steps_on, swept_all}
use Rattle.chains.proofs.pass_one.Goals as goal

pub sweep_first-first-requires : goal.sweep_first-first-requires
sweep_first-first-requires c = let rest = c.sweep_rest-rest.ensures.0 in
    (steps_on _ _ _ c.requires rest, omega arith, omega (arith, rest.long, c.if-n-lt1.false), omega (arith, rest.long, c.if-n-m.false))

pub returns-else-rest : goal.returns-else-rest
returns-else-rest c = let rest = c.sweep_rest-rest.ensures in
    let first = c.sweep_first-first.ensures in
    let old = c.args.table.now in
    let t = c.args.t in
    let m = c.args.m in
    let n = length c.args.table.now in
    let l : 0 ≤ m = omega arith in
    let u : m ≤ n = omega (arith, c.if-n-m.false) in
    (swept_all old m t refl (swept_on old m t 0 m n l u rest.0 first.0), λ p. absurd (false≢true (sym c.if-rest.false ∙ p)))
