-- `pieces::list_pieces` meets its contract: after each kind the array begins with the pieces of the kinds read.
use Rattle.pieces.proofs.Prelude.{◌≡◌, refl, ap, arith, widened, job_of, weight_in}
use Rattle.pieces.proofs.Growing.{kinds_below, listed_as, listed_none, kinds_more, kinds_count, listed_all}
use Rattle.pieces.proofs.list_pieces.Goals as goal

pub loop-i-init : goal.loop-i-init
loop-i-init c = listed_none (widened (job_of c.args.job)) (weight_in c.args.weights.now) _ c.requires.2

pub put_kind-n-requires : goal.put_kind-n-requires
put_kind-n-requires c = let n = kinds_count (widened (job_of c.args.job)) c.loop-i.i c.loop-i.invariant in
    (omega (arith, n, c.requires.0.kinds.1, c.loop-i-test.true), c.loop-i.invariant.entries, omega (arith, c.requires.0.kinds.1, c.loop-i-test.true))

pub loop-i-preserved : goal.loop-i-preserved
loop-i-preserved c = let e = c.args in
    let J = widened (job_of e.job) in
    listed_as (kinds_more J c.loop-i.i c.may_turn-turns.ensures)
    (c.put_kind-n.ensures J (weight_in e.weights.now) _ c.loop-i.i c.loop-i.invariant (rw c.widen.ensures refl))

pub overflow_cast-result : goal.overflow_cast-result
overflow_cast-result c = let turn = c.loop-i in
    omega (arith, kinds_count (widened (job_of c.args.job)) turn.i turn.invariant, c.loop-i.auto, c.requires.0.kinds.1)

pub returns : goal.returns
returns c = let e = c.args in
    let turn = c.loop-i in
    let n : turn.i ≡ e.job.count = omega (arith, turn.auto) in
    listed_all (widened (job_of e.job)) (weight_in e.weights.now) _ _ (listed_as (ap (kinds_below (widened (job_of e.job))) n) turn.invariant)
