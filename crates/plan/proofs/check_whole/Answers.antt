-- `plan::check_whole` meets its contract: 10 comes before 11.
use Rattle.plan.proofs.Prelude.{◌≡◌, ◌∙◌, sym, ap, length, lt-ltb, le-ltb, NodeCount, refuse_when, ltb, ◌||◌}
use Rattle.refusal.proofs.Results.{as_check}
use Rattle.job.proofs.Checks.{check_stops, check_passes, check_last}
use Rattle.plan.proofs.check_whole.Goals.{then-count-lt1, else-count-lt1}
use Rattle.plan.proofs.check_whole.Goals as goal

pub returns-in_err-refuse_if : goal.returns-in_err-refuse_if
returns-in_err-refuse_if c = as_check _ c.in_err-refuse_if.was c.from_residual.ensures.1 ∙ check_stops _ _ _ c.refuse_if.ensures c.in_err-refuse_if.was

pub returns : goal.returns
returns c = let n = length c.args.kinds.now in
    let e : c.if-count-lt1.refuse_if ≡ (ltb n 1 || ltb 4095 n) = elim c.if-count-lt1.branch [
      | then-count-lt1 w ↦ (let l = lt-ltb n 1 w.if-count-lt1.true in w.refuse_if-is ∙ l ∙ sym (ap (λ t. t || ltb 4095 n) l))
      | else-count-lt1 w ↦ w.refuse_if-is ∙ sym (ap (λ t. t || ltb 4095 n) (le-ltb n 1 w.if-count-lt1.false))
    ] in
    check_last _ _ (c.refuse_if-2.ensures ∙ ap (λ b. refuse_when b NodeCount) e) ∙ check_passes _ _ _ c.refuse_if.ensures c.in_ok-refuse_if.was
