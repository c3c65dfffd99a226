-- What is known of weights that were accepted, what each answer says, and the capacity as a loop sums it.
use Rattle.job.proofs.Prelude.{◌≡◌, refl, ◌∙◌, ap, List, ℕ, suc, ◌+◌, ◌*◌, ◌≤◌, ◌<◌, mul-le-mul, arith, ltb-false, eqb-true, not-false, eqb, length, Job, capacity, InRange, sum, first_refusal, job_checks, weight_in, weight_checks, block_job, Accepted, Choices, passed, Checked, refuse_when, not, ltb}
use Rattle.promises.specs.declared.Refusal.TheVariants as refusal
use Rattle.job.proofs.Checks.{check_last, check_passes, cons_passed, append_passed, passed_append}
use Rattle.job.proofs.Read.{read_in_range}

-- a demand times a weight is at most 255 times 255
pub weighed : (d w : ℕ) → d ≤ 255 → w < 256 → d * w ≤ 65025
weighed d w h k = mul-le-mul h (let e : w ≤ 255 = omega (arith, k) in e)

-- one summand more
pub sum_more : (f : ℕ → ℕ) (i : ℕ) → sum i f + f i ≡ sum (i + 1) f
unfolding sum
sum_more f i = let e : suc i ≡ i + 1 = omega arith in ap (λ n. sum n f) e

-- no summand yet
pub sum_none : (f : ℕ → ℕ) → 0 ≡ sum 0 f
unfolding sum
sum_none f = refl

-- the checks of the weights: 8, and where it passes 9 decides
pub weighed_checks : (J : Job) (ws : List ℕ) (q : ℕ) {a b : Checked} → a ≡ refuse_when (not (eqb (length ws) J.count)) refusal.WeightCount → a ≡ passed → q ≡ capacity J (weight_in ws)
    → b ≡ refuse_when (ltb 4095 q) refusal.Capacity → b ≡ first_refusal (weight_checks J ws)
weighed_checks J ws q e p h f = check_last _ _ (f ∙ ap (λ n. refuse_when (ltb 4095 n) refusal.Capacity) h) ∙ check_passes _ _ _ e p

-- weights that passed: as many as kinds, and a capacity of at most 4,095
pub weights_passed : (J : Job) (ws : List ℕ) → first_refusal (weight_checks J ws) ≡ passed → (length ws ≡ J.count) × (capacity J (weight_in ws) ≤ 4095)
weights_passed J ws p =
    let a = cons_passed _ _ _ p in
    let b = cons_passed _ _ _ a.1 in
    (eqb-true (length ws) J.count (not-false (eqb (length ws) J.count) a.0), ltb-false 4095 (capacity J (weight_in ws)) b.0)

-- a job block and weights are accepted where both pass
pub accepted_both : (s : List ℕ) (choices : Choices) (ws : List ℕ) → Accepted s choices ws → (first_refusal (job_checks s choices) ≡ passed) × (first_refusal (weight_checks (block_job s choices) ws) ≡ passed)
accepted_both s choices ws p = append_passed (job_checks s choices) (weight_checks (block_job s choices) ws) p

pub both_accepted : (s : List ℕ) (choices : Choices) (ws : List ℕ) → first_refusal (job_checks s choices) ≡ passed → first_refusal (weight_checks (block_job s choices) ws) ≡ passed → Accepted s choices ws
both_accepted s choices ws p q = passed_append (job_checks s choices) (weight_checks (block_job s choices) ws) p q

-- the job of an accepted block is in the scope's ranges
pub accepted_in_range : (s : List ℕ) (choices : Choices) (ws : List ℕ) → Accepted s choices ws → InRange (block_job s choices)
accepted_in_range s choices ws p = read_in_range s choices (accepted_both s choices ws p).0
