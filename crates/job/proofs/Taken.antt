-- What a job block and weights answer together, from the verdicts of the two, and what a caller then knows.
use Rattle.job.proofs.Prelude.{◌≡◌, refl, sym, ◌∙◌, ap, ap₂, List, [], ◌∷◌, ◌++◌, ℕ, capacity, next, first_refusal, Refusal, job_checks, record_of, read_of, job_values, job_of, weight_in, weight_checks, weights_answer, block_job, Accepted, acceptance_of, acceptance_outcome, acceptance_said, Choices, JobRecord, Acceptance, Ok, Err, passed, Checked, Answer}
use Rattle.job.proofs.Checks.{first_append}
use Rattle.job.proofs.Read.{answered}
use Rattle.job.proofs.Weights.{both_accepted}
use Rattle.std.specs.Result.{IsErrAnd}
use Rattle.refusal.proofs.Results.{value_answered, refusal_answered, refused_answer, given_answer, told}

-- a job and a capacity that were taken from a block and weights which are accepted
pub record Taken (s : List ℕ) (choices : Choices) (ws : List ℕ) (j : JobRecord) (q : ℕ) : Type 0 where
  pub accepted : Accepted s choices ws
  pub record_is : j ≡ record_of s choices
  pub capacity_is : q ≡ capacity (block_job s choices) (weight_in ws)

module _ (s : List ℕ) (choices : Choices) (ws : List ℕ) where
  -- the verdict of both: the job's, and where it passes the weights'
  pub both_by : {v w : Checked} → first_refusal (job_checks s choices) ≡ v → first_refusal (weight_checks (block_job s choices) ws) ≡ w
      → first_refusal (job_checks s choices ++ weight_checks (block_job s choices) ws) ≡ next v w
  both_by e f = first_append (job_checks s choices) (weight_checks (block_job s choices) ws) ∙ ap₂ next e f

  -- what a caller knows from a refusal
  pub refused_both : {a : Answer Acceptance} {x : Refusal} → a ≡ acceptance_of s choices ws → a ≡ Err x → first_refusal (job_checks s choices ++ weight_checks (block_job s choices) ws) ≡ Err x
  refused_both e p = refusal_answered _ _ (sym e ∙ p)

  -- and from an answer that both passed
  pub taken : {a : Answer Acceptance} {b : Acceptance} → a ≡ acceptance_of s choices ws → a ≡ Ok b → Taken s choices ws b.job b.capacity
  taken e p = let k = value_answered _ _ (sym e ∙ p) in record { accepted = k.0; record_is = ap (λ b. b.job) k.1; capacity_is = ap (λ b. b.capacity) k.1 }

  -- and from the two answers, taken apart one after the other
  pub taken_apart : {a : Answer JobRecord} {j : JobRecord} {w : Answer ℕ} {q : ℕ} → a ≡ read_of s choices → a ≡ Ok j → w ≡ weights_answer (job_of j) ws → w ≡ Ok q → Taken s choices ws j q
  taken_apart e p f g =
      let j = answered s choices e p in
      let k = value_answered _ _ (sym (f ∙ ap (λ j. weights_answer (job_of j) ws) j.1) ∙ g) in
      record { accepted = both_accepted s choices ws j.0 k.0; record_is = j.1; capacity_is = k.1 }

  -- the first of the two that is refused is the answer's refusal
  pub job_refused : {x : Refusal} → first_refusal (job_checks s choices) ≡ Err x → first_refusal (job_checks s choices ++ weight_checks (block_job s choices) ws) ≡ Err x
  job_refused e = both_by e refl

  pub weights_refused : {j : JobRecord} {w : Answer ℕ} {x : Refusal} → first_refusal (job_checks s choices) ≡ passed → j ≡ record_of s choices → w ≡ weights_answer (job_of j) ws → w ≡ Err x
      → first_refusal (job_checks s choices ++ weight_checks (block_job s choices) ws) ≡ Err x
  weights_refused e i f g = both_by e (refusal_answered _ _ (sym (f ∙ ap (λ j. weights_answer (job_of j) ws) i) ∙ g))

  -- both clauses of an answer: a refusal's, and that of a job and a capacity that were taken
  abbrev Told : Answer Acceptance → Type 0
  Told r = (r ≡ acceptance_of s choices ws) × (acceptance_outcome r ≡ acceptance_said s choices ws)

  told_as : {r : Answer Acceptance} → r ≡ acceptance_of s choices ws → Told r
  told_as e = told (λ b. job_values b.job ++ (b.capacity ∷ [])) (first_refusal (job_checks s choices ++ weight_checks (block_job s choices) ws)) _ e

  pub told_refused : {r : Answer Acceptance} {x : Refusal} → first_refusal (job_checks s choices ++ weight_checks (block_job s choices) ws) ≡ Err x → IsErrAnd r (λ y. y ≡ x) → Told r
  told_refused e p = told_as (refused_answer _ _ _ e p)

  pub told_taken : {b : Acceptance} → Taken s choices ws b.job b.capacity → Told (Ok b)
  told_taken t = told_as (given_answer _ _ t.accepted (ap₂ (λ j q. Ok (record { job = j; capacity = q })) t.record_is t.capacity_is))
