-- `job::check_counts` meets its contract: the checks run 3, 27, 4.
use Rattle.refusal.proofs.Results.{as_check}
use Rattle.job.proofs.Prelude.{◌∙◌, ap, ap₂, not, ◌+◌, ◌*◌, ltb, eqb, length, refuse_when, KindCount, Kerf, BlockLength, outside, kind_bytes}
use Rattle.job.proofs.Checks.{check_stops, check_passes, check_last}
use Rattle.job.proofs.check_counts.Goals as goal

pub returns-in_err-refuse_if : goal.returns-in_err-refuse_if
returns-in_err-refuse_if c = as_check _ c.in_err-refuse_if.was c.from_residual.ensures.1
    ∙ check_stops _ _ _ (c.refuse_if.ensures ∙ ap (λ t. refuse_when t KindCount) (c.lies_outside.ensures ∙ ap (outside 1 64) c.read_u16-n.ensures)) c.in_err-refuse_if.was

pub returns-in_err-refuse_if-2 : goal.returns-in_err-refuse_if-2
returns-in_err-refuse_if-2 c = as_check _ c.in_err-refuse_if-2.was c.from_residual-in_err-refuse_if-2.ensures.1
    ∙ check_stops _ _ _ (c.refuse_if-2.ensures ∙ ap (λ k. refuse_when (ltb 20 k) Kerf) c.read_kerf.ensures) c.in_err-refuse_if-2.was
    ∙ check_passes _ _ _ (c.refuse_if.ensures ∙ ap (λ t. refuse_when t KindCount) (c.lies_outside.ensures ∙ ap (outside 1 64) c.read_u16-n.ensures)) c.in_ok-refuse_if.was

pub returns : goal.returns
returns c = let s = c.args.block.now in
    let grain = c.args.choices.grain in
    check_last _ _ (c.refuse_if-3.ensures ∙ ap₂ (λ e b. refuse_when (not (eqb (length s) (e + b))) BlockLength) c.sizes_end.ensures.0 (c.kinds_bytes.ensures.0 ∙ ap (λ n. kind_bytes grain * n) c.read_u16-n.ensures))
    ∙ check_passes _ _ _ (c.refuse_if-2.ensures ∙ ap (λ k. refuse_when (ltb 20 k) Kerf) c.read_kerf.ensures) c.in_ok-refuse_if-2.was
    ∙ check_passes _ _ _ (c.refuse_if.ensures ∙ ap (λ t. refuse_when t KindCount) (c.lies_outside.ensures ∙ ap (outside 1 64) c.read_u16-n.ensures)) c.in_ok-refuse_if.was
