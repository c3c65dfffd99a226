-- The staged check of a job block: a job that is refused, a limit that is, and both read; an answer that equals the definition meets the
-- whole contract.
use Rattle.staged_plan.proofs.Prelude.{◌≡◌, refl, sym, ◌∙◌, ap, subst, List, [], ◌∷◌, ℕ, Refusal, refused_as, Answer, Checked, passed, by_check, next, proceed, first_refusal, Choices, JobRecord, job_checks, read_of, job_of, block_job, passed_both, limit_check, StagedReport, within_answer, read_verdict, LimitPasses, staged_check_answer, staged_before_idle, staged_check_outcome, staged_check_said, ChecksStaged, Ok, Err}
use Rattle.job.proofs.Read as read
use Rattle.staged_plan.proofs.Within.{staged_after}

-- an answer's number and values after the verdict of other checks
said_after : (v : Checked) (a : Answer StagedReport) → staged_check_outcome (proceed v a) ≡ by_check v (staged_check_outcome a) refused_as
said_after (Ok _) a = refl
said_after (Err r) a = refl

module _ (s : List ℕ) (choices : Choices) (n : ℕ) (kinds operands : List ℕ) where
  abbrev within : Answer StagedReport
  within = within_answer (block_job s choices) n kinds operands

  pub check_met : {r : Answer StagedReport} → r ≡ staged_check_answer s choices n kinds operands
      → (r ≡ staged_check_answer s choices n kinds operands) × ((staged_check_outcome r ≡ staged_check_said s choices n kinds operands) × ChecksStaged (LimitPasses s choices n) (block_job s choices) n kinds operands (staged_before_idle s choices n kinds operands) r)
  check_met e = (
    e,
    (
      ap (λ a. staged_check_outcome a) e ∙ said_after (read_verdict s choices n) within,
      subst (λ (a : Answer StagedReport). ChecksStaged (LimitPasses s choices n) (block_job s choices) n kinds operands (staged_before_idle s choices n kinds operands) a) (sym e)
          (staged_after (read_verdict s choices n) (λ p. (read.read_in_range s choices (passed_both (first_refusal (job_checks s choices)) (first_refusal (limit_check n ∷ [])) p).0).kinds.1)),
    ),
  )

  module _ {a : Answer JobRecord} (e : a ≡ read_of s choices) where
    -- the job is refused
    pub read_stops : {x : Refusal} {r : Answer StagedReport} → a ≡ Err x → r ≡ Err x → r ≡ staged_check_answer s choices n kinds operands
    read_stops p h = h ∙ sym (ap (λ v. proceed (next v (first_refusal (limit_check n ∷ []))) within) (read.refused s choices e p))

    module _ {j : JobRecord} (p : a ≡ Ok j) {v : Checked} (limited : v ≡ first_refusal (limit_check n ∷ [])) where
      limit_decides : staged_check_answer s choices n kinds operands ≡ proceed v within
      limit_decides = ap (λ v. proceed (next v (first_refusal (limit_check n ∷ []))) within) (read.answered s choices e p).0 ∙ ap (λ v. proceed v within) (sym limited)

      -- the limit is refused
      pub limit_stops : {x : Refusal} {r : Answer StagedReport} → v ≡ Err x → r ≡ Err x → r ≡ staged_check_answer s choices n kinds operands
      limit_stops q h = h ∙ sym (limit_decides ∙ ap (λ v. proceed v within) q)

      -- what follows for the job that was read is the answer
      pub read_on : v ≡ passed → {r : Answer StagedReport} → r ≡ within_answer (job_of j) n kinds operands → r ≡ staged_check_answer s choices n kinds operands
      read_on q f = f ∙ ap (λ (j : JobRecord). within_answer (job_of j) n kinds operands) (read.answered s choices e p).1 ∙ sym (limit_decides ∙ ap (λ v. proceed v within) q)
