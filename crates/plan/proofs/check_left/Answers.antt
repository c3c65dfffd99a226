-- `plan::check_left` meets its contract.
use Rattle.plan.proofs.Prelude.{lt-ltb, le-ltb, first_refusal}
use Rattle.plan.proofs.check_left.Goals as goal

pub returns-then-k-n : goal.returns-then-k-n
unfolding first_refusal
returns-then-k-n c = let a = c.args in simp (lt-ltb a.k a.n c.if-k-n.true)

pub returns : goal.returns
unfolding first_refusal
returns c = let a = c.args in simp (le-ltb a.k a.n c.if-k-n.false)
