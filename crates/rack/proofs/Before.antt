-- The checks before any plan's: 28, the job's, each plate's, 10 and 11, in their order.
use Rattle.rack.proofs.Prelude.{◌≡◌, ◌∙◌, sym, ap, List, [], ◌∷◌, ℕ, ◌≤◌, eqb, length, eqb-true, not-false, next, first_refusal, Choices, first_append, cons_passed, passed_both, or_false, inside, plan_checks, plate_at, rack_size_check, order_checks, plate_checks, rack_checks, passed, Checked, refl, not, outside, refuse_when, check_last, RackSize}
use Rattle.plan.proofs.Calls.{either_refuses}

module _ (s : List ℕ) (choices : Choices) (lengths widths kinds operands : List ℕ) where
  abbrev size : Checked
  size = first_refusal (rack_size_check lengths widths ∷ [])

  abbrev order : Checked
  order = first_refusal (order_checks s choices)

  abbrev sides : Checked
  sides = first_refusal (plate_checks (plate_at lengths widths) (length lengths))

  abbrev whole : Checked
  whole = first_refusal (plan_checks kinds operands)

  -- they are those of the four parts
  pub before_parts : first_refusal (rack_checks s choices lengths widths kinds operands) ≡ next size (next order (next sides whole))
  unfolding rack_checks
  before_parts = first_append (rack_size_check lengths widths ∷ []) _
      ∙ ap (next size) (first_append (order_checks s choices) _ ∙ ap (next order) (first_append (plate_checks (plate_at lengths widths) (length lengths)) (plan_checks kinds operands)))

  -- where they pass, each part does
  pub before_passed : first_refusal (rack_checks s choices lengths widths kinds operands) ≡ passed → (size ≡ passed) × (order ≡ passed) × (sides ≡ passed) × (whole ≡ passed)
  before_passed p =
      let a = passed_both size (next order (next sides whole)) (sym before_parts ∙ p) in
      let b = passed_both order (next sides whole) a.1 in
      let d = passed_both sides whole b.1 in
      (a.0, b.0, d.0, d.1)

-- 28 is the check of as many lengths as widths, and then that of their number
pub size_parts : (lengths widths : List ℕ) → first_refusal (rack_size_check lengths widths ∷ []) ≡ next (refuse_when (not (eqb (length lengths) (length widths))) RackSize) (refuse_when (outside 1 16 (length lengths)) RackSize)
size_parts lengths widths = sym (check_last _ _ refl) ∙ either_refuses (not (eqb (length lengths) (length widths))) (outside 1 16 (length lengths)) RackSize

-- where 28 passes, there are as many lengths as widths, of 1 to 16 plates
pub size_passed : (lengths widths : List ℕ) → first_refusal (rack_size_check lengths widths ∷ []) ≡ passed → (length lengths ≡ length widths) × (1 ≤ length lengths) × (length lengths ≤ 16)
size_passed lengths widths p =
    let q = or_false _ _ (cons_passed _ _ _ p).0 in
    let r = inside 1 16 (length lengths) q.1 in
    (eqb-true (length lengths) (length widths) (not-false (eqb (length lengths) (length widths)) q.0), r.0, r.1)
