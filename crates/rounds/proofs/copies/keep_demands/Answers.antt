-- `rounds::copies::keep_demands` meets its contract.
use Rattle.std.proofs.Common.{rules}
use Rattle.rounds.proofs.Prelude.{sym, ap, Bool, not, ℕ, lt-ltb, le-ltb, ltb, get_or, any_none, any_more, any_some}
use Rattle.rounds.proofs.copies.keep_demands.Goals as goal

pub loop-i-init : goal.loop-i-init
loop-i-init c = (search rules, any_none (λ k. ltb (get_or c.args.demands.now k 0) (get_or c.args.copies.now k 0)))

pub returns-then-demands-k : goal.returns-then-demands-k
returns-then-demands-k c = let f : ℕ → Bool = λ k. ltb (get_or c.args.demands.now k 0) (get_or c.args.copies.now k 0) in
    ap not (sym (any_some f c.args.n c.loop-i.i c.loop-i-test.true (lt-ltb _ _ c.if-demands-k.true)))

pub loop-i-preserved : goal.loop-i-preserved
loop-i-preserved c = let f : ℕ → Bool = λ k. ltb (get_or c.args.demands.now k 0) (get_or c.args.copies.now k 0) in
    (search rules, any_more f c.loop-i.i c.loop-i.invariant.1 (le-ltb _ _ c.if-demands-k.false))
