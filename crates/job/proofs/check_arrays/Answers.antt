-- `job::check_arrays` meets its contract: the sizes come before the pairs, and these before the grain bytes.
use Rattle.refusal.proofs.Results.{as_check}
use Rattle.job.proofs.Prelude.{sym, ◌∙◌, ap, [], ◌∷◌, first_refusal, size_check, each_kind, pairs_by}
use Rattle.job.proofs.Checks.{next_stops, next_passes, first_append}
use Rattle.job.proofs.check_arrays.Goals as goal

pub returns-in_err-check_sizes : goal.returns-in_err-check_sizes
returns-in_err-check_sizes c = let s = c.args.block.now in
    let a = c.check_sizes.ensures ∙ ap (λ n. first_refusal (each_kind (λ i. size_check c.args.h s i ∷ []) 0 n)) c.requires.0.0 in
    as_check _ c.in_err-check_sizes.was c.from_residual.ensures.1
    ∙ a ∙ next_stops _ (sym a ∙ c.in_err-check_sizes.was) ∙ sym (first_append (each_kind (λ i. size_check c.args.h s i ∷ []) 0 _) _)

pub returns-in_err-check_pairs : goal.returns-in_err-check_pairs
returns-in_err-check_pairs c = let s = c.args.block.now in
    let a = c.check_sizes.ensures ∙ ap (λ n. first_refusal (each_kind (λ i. size_check c.args.h s i ∷ []) 0 n)) c.requires.0.0 in
    let b = c.check_pairs.ensures ∙ ap (λ n. first_refusal (each_kind (pairs_by c.args.priced c.args.h s) 0 n)) c.requires.0.0 in
    as_check _ c.in_err-check_pairs.was c.from_residual-in_err-check_pairs.ensures.1
    ∙ b ∙ next_stops _ (sym b ∙ c.in_err-check_pairs.was) ∙ sym (first_append (each_kind (pairs_by c.args.priced c.args.h s) 0 _) _)
    ∙ next_passes _ (sym a ∙ c.in_ok-check_sizes.was) ∙ sym (first_append (each_kind (λ i. size_check c.args.h s i ∷ []) 0 _) _)

pub returns : goal.returns
returns c = let s = c.args.block.now in
    let a = c.check_sizes.ensures ∙ ap (λ n. first_refusal (each_kind (λ i. size_check c.args.h s i ∷ []) 0 n)) c.requires.0.0 in
    let b = c.check_pairs.ensures ∙ ap (λ n. first_refusal (each_kind (pairs_by c.args.priced c.args.h s) 0 n)) c.requires.0.0 in
    c.check_grains.ensures ∙ next_passes _ (sym b ∙ c.in_ok-check_pairs.was) ∙ sym (first_append (each_kind (pairs_by c.args.priced c.args.h s) 0 _) _)
    ∙ next_passes _ (sym a ∙ c.in_ok-check_sizes.was) ∙ sym (first_append (each_kind (λ i. size_check c.args.h s i ∷ []) 0 _) _)
