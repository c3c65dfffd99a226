-- `rack::check_size` meets its contract.
use Rattle.rack.proofs.Prelude.{◌≡◌, ◌∙◌, sym, ap, ◌||◌, length, ltb, lt-ltb, le-ltb, refuse_when, next_stops, next_passes, RackSize}
use Rattle.refusal.proofs.Results.{as_check}
use Rattle.rack.proofs.Before.{size_parts}
use Rattle.rack.proofs.check_size.Goals.{then-n-lt1, else-n-lt1}
use Rattle.rack.proofs.check_size.Goals as goal

pub returns-in_err-refuse_if : goal.returns-in_err-refuse_if
returns-in_err-refuse_if c = as_check _ c.in_err-refuse_if.was c.from_residual.ensures.1 ∙ c.refuse_if.ensures ∙ next_stops _ (sym c.refuse_if.ensures ∙ c.in_err-refuse_if.was) ∙ sym (size_parts c.args.lengths.now c.args.widths.now)

pub returns : goal.returns
returns c = let n = length c.args.lengths.now in
    let e : c.if-n-lt1.refuse_if ≡ (ltb n 1 || ltb 16 n) = elim c.if-n-lt1.branch [
      | then-n-lt1 w ↦ let l = lt-ltb n 1 w.if-n-lt1.true in w.refuse_if-is ∙ l ∙ sym (ap (λ t. t || ltb 16 n) l)
      | else-n-lt1 w ↦ w.refuse_if-is ∙ sym (ap (λ t. t || ltb 16 n) (le-ltb n 1 w.if-n-lt1.false))
    ] in
    c.refuse_if-2.ensures ∙ ap (λ b. refuse_when b RackSize) e ∙ next_passes _ (sym c.refuse_if.ensures ∙ c.in_ok-refuse_if.was) ∙ sym (size_parts c.args.lengths.now c.args.widths.now)
