-- `rack::settle` meets its contract: one profit more is in its plate's record after each turn.
use Rattle.rack.proofs.Prelude.{◌∙◌, refl, sym, ap, arith, add-one, set, get_or, blank, with_profit, paid}
use Rattle.rack.proofs.Records.{paid_none, paid_more}
use Rattle.rack.proofs.settle.Goals as goal

pub loop-i-init : goal.loop-i-init
loop-i-init c = record { inside = omega arith; end = refl; written = sym (paid_none c.args.rack.now c.args.profits) }

pub loop-i-preserved : goal.loop-i-preserved
loop-i-preserved c = let l = c.loop-i in
    record {
      inside = omega (arith, c.loop-i-test);
      end = refl;
      written = ap (λ r. set r l.i (with_profit (get_or r l.i blank) (get_or c.args.profits l.i 0))) l.invariant.written
          ∙ paid_more c.args.rack.now c.args.profits l.i ∙ ap (paid c.args.rack.now c.args.profits) (sym (add-one l.i));
    }
