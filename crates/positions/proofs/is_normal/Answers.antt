-- `positions::is_normal` meets its contract.
use Rattle.std.proofs.Common.{rules, tests, arith}
use Rattle.std.proofs.lemmas.Iterator.{cases_from_any, YieldsList-from_slice}
use Rattle.positions.proofs.Prelude.{sym}
use Rattle.positions.proofs.Sums.{sum_zero, scanned, Leads, Misses}
use Rattle.positions.proofs.is_normal.Goals as goal

pub returns-then-x-eq0 : goal.returns-then-x-eq0
returns-then-x-eq0 c = rw c.if-x-eq0.true (sym (sum_zero _))

pub returns-else-x-eq0 : goal.returns-else-x-eq0
returns-else-x-eq0 c =
    let marks = c.args.marks.now in
    let x = c.args.x in
    let found = cases_from_any _ _ c.any.result (Leads marks x) (Misses marks x) c.any.ensures.ran (YieldsList-from_slice c.args.fit.now cc) (λ s q k. search (rules, tests)) (λ s q k. search (rules, tests)) in
    scanned c.args.fit.now x marks c.requires.positive c.requires.marked c.any.result found (omega arith)
