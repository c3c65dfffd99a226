-- The check of a rack over three slices: what it promises, by whether there are as many profits as plates.
use Rattle.planner_c.proofs.Prelude.{◌≡◌, refl, sym, ◌∙◌, ap, Bool, not, List, [], ◌∷◌, ℕ, ◌≤◌, arith, length, take, eq-eqb, ne_eqb, RackSize, Choices, by_check, next, first_refusal, Rack, rack_verdict, rack_walked, PlatesPromises, RackSlices, before_passed, size_passed, before_is, walked_checks, result_unwrap_or, answer_by, verdict_of, verdict_is, outcome_of, Gives, Ok, Err, passed, Checked, Answer}

-- a check's words are those of its verdict
pub given_verdict : (a : Answer (List ℕ)) (words : List ℕ) {number : ℕ} {new : List ℕ} → Gives (outcome_of (λ (p : List ℕ). []) a) number words new → Gives (outcome_of (λ (u : Unit {0}). []) (verdict_of a)) number words new
given_verdict (Ok ps) words g = g
given_verdict (Err x) words g = g

module _ (s : List ℕ) (choices : Choices) (k : Rack) (old : List ℕ) where
  abbrev by_slices : Bool → Checked
  by_slices b = next (first_refusal ((not b, RackSize) ∷ [])) (rack_verdict s choices k)

  -- other than as many profits as plates
  pub slices_apart : (length old ≡ length k.lengths → ⊥) → RackSlices s choices k old old (Err RackSize)
  unfolding first_refusal
  slices_apart h = record { answers = sym (ap by_slices (ne_eqb (length old) (length k.lengths) h)); profits = refl; checks = walked_checks s choices k }

  module _ {r : Answer (List ℕ)} (p : PlatesPromises s choices k r) where
    verdict_of_it : verdict_of r ≡ rack_verdict s choices k
    verdict_of_it = ap verdict_of p.0.answer ∙ verdict_is (rack_verdict s choices k) (rack_walked s choices k).1

    -- the profits that a pass writes are the walk's
    written : (v : Checked) (ns : List ℕ) → by_check (verdict_of (answer_by v ns)) (take (length old) (result_unwrap_or (answer_by v ns) [])) (λ x. old) ≡ by_check v (take (length old) ns) (λ x. old)
    written (Ok _) ns = refl
    written (Err x) ns = refl

    -- as many
    pub slices_alike : {new : List ℕ} → length old ≡ length k.lengths → new ≡ by_check (verdict_of r) (take (length old) (result_unwrap_or r [])) (λ x. old) → RackSlices s choices k old new (verdict_of r)
    unfolding first_refusal
    slices_alike h w = record {
      answers = verdict_of_it ∙ sym (ap by_slices (eq-eqb (length old) (length k.lengths) h));
      profits = w ∙ (ap (λ a. by_check (verdict_of a) (take (length old) (result_unwrap_or a [])) (λ x. old)) p.0.answer ∙ (written (rack_verdict s choices k) (rack_walked s choices k).1
          ∙ ap (λ v. by_check v (take (length old) (rack_walked s choices k).1) (λ x. old)) (sym verdict_of_it)));
      checks = walked_checks s choices k;
    }

    -- a rack that passes has at most 16 plates
    pub plates_few : length old ≡ length k.lengths → {ps : List ℕ} → r ≡ Ok ps → length old ≤ 16
    plates_few l e = omega (arith, l, (size_passed k.lengths k.widths (before_passed s choices k.lengths k.widths k.kinds k.operands (before_is choices k s ∙ p.1.before (ap verdict_of e))).0).2)
