-- `rack::check_sides` meets its contract.
use Rattle.rack.proofs.Prelude.{◌∙◌, ap, arith, length, refuse_when, RackSide, passes, stops, ends, check_last, plate_at, plate_check}
use Rattle.refusal.proofs.Results.{as_check}
use Rattle.rack.proofs.check_sides.Goals as goal

pub returns-in_err-refuse_if : goal.returns-in_err-refuse_if
returns-in_err-refuse_if c = let a = c.args in
    let l = c.loop-i in
    as_check _ c.in_err-refuse_if.was c.from_residual.ensures.1 ∙ stops (plate_check (plate_at a.lengths.now a.widths.now)) l.i (length a.lengths.now) (omega (arith, c.loop-i-test.true, l.invariant.1)) l.invariant.2
    (check_last _ _ (c.refuse_if.ensures ∙ ap (λ b. refuse_when b (RackSide l.i)) c.sides_outside-outside.ensures)) c.in_err-refuse_if.was

pub loop-i-preserved : goal.loop-i-preserved
loop-i-preserved c = let a = c.args in
    let l = c.loop-i in (
      omega (arith, c.loop-i-test.true, l.invariant.1),
      l.invariant.1,
      passes (plate_check (plate_at a.lengths.now a.widths.now)) l.i (length a.lengths.now) (omega (arith, c.loop-i-test.true, l.invariant.1)) l.invariant.2
          (check_last _ _ (c.refuse_if.ensures ∙ ap (λ b. refuse_when b (RackSide l.i)) c.sides_outside-outside.ensures)) c.in_ok-refuse_if.was,
    )

pub returns : goal.returns
returns c = let a = c.args in
    let l = c.loop-i in
    ends (plate_check (plate_at a.lengths.now a.widths.now)) l.i (length a.lengths.now) (omega (arith, c.loop-i-test.false, l.invariant.1)) l.invariant.2
