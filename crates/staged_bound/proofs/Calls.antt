-- What the staged bound call promises, from the verdicts of job, weights and limit and from the staged bound of an accepted job.
use Rattle.staged_bound.proofs.Prelude.{◌≡◌, refl, sym, ◌∙◌, ap, subst, false, List, [], ◌∷◌, ℕ, ◌≤◌, arith, Direction, Length, Width, Sides, rect_of, sides_of, most_limit, Job, SolidKinds, InRange, widened, capacity, at_full_demand, ordered, members, pieces, block, staged_bound, listed_weight, pieces_job, PieceArray, range_solid, widened_solid, staged_finer, stages_finer, capacity_less, block_figure, block_recursion, block_floor, block_most, staged_under_most, staged_under_earned, staged_most, staged_holds, staged_more, staged_less, staged_ceiling, normal_listed, first_refusal, Refusal, StageLimit, Choices, JobRecord, outside, job_of, block_job, weight_in, Accepted, passed_both, weights_passed, accepted_both, accepted_in_range, Taken, limit_check, limit_inside, Memory, answer_by, wide_job, block_capacity, accept_verdict, bound_values, bound_outcome, BoundReport, pieces_range, range_taken, staged_checks, StagedLeaves, limit_verdict, staged_verdict, staged_block_report, staged_answer, StagedHolds, StagedPromises, Stageable, Staged, Ok, Err, passed, Checked, Answer, Acceptance, acceptance_of, refused_both, Bool, refuse_when, check_last, passed_false}
use Rattle.refusal.proofs.Results.{before_refuses, before_passes, refused_answer, said_by, value_answered}
use Rattle.std.specs.Result.{IsErrAnd}
use Rattle.staged_bound.proofs.Listed.{pieces_staged}

-- the staged bound of the full demands is no less: its blocks are the same, and its capacity is no less
module _ (J : Job) (solid : SolidKinds J) (weight : ℕ → ℕ) (n : ℕ) where
  same_block : (d : Direction) (l w c : ℕ) → block (widened (at_full_demand J)) weight n d l w c ≡ block (widened J) weight n d l w c
  unfolding pieces members ordered
  same_block d l w c = block_figure (widened (at_full_demand J)) weight n d l w c ∙ sym (block_figure (widened J) weight n d l w c)

  staged_full : staged_bound J weight n ≤ staged_bound (at_full_demand J) weight n
  staged_full =
      let q = capacity (at_full_demand J) weight in
      let e = staged_under_earned J solid weight (capacity J weight) n in
      omega (
        arith,
        e.3,
        staged_under_most J solid weight q n e.0 e.1.0 (omega (arith, e.2, capacity_less J weight)) e.1.1,
        same_block Length (widened J).plate.0 (widened J).plate.1 q,
        same_block Width (widened J).plate.0 (widened J).plate.1 q,
      )

-- the staged bound of a job in range holds at its capacity
staged_held : (J : Job) (weight : ℕ → ℕ) (n : ℕ) → InRange J → StagedHolds J weight n (capacity J weight) (staged_bound J weight n)
staged_held J weight n h = record {
  most = staged_most J (range_solid J h) weight n;
  most_finer = stages_finer J (range_solid J h) weight n (capacity J weight) (staged_bound J weight n) (staged_most J (range_solid J h) weight n);
  demands = staged_holds J (range_solid J h) weight n;
  finer = staged_finer J (range_solid J h) n (staged_bound J weight n) (staged_holds J (range_solid J h) weight n);
  ceiling = staged_ceiling J weight n h;
  figure = refl;
  capacity_is = refl;
  more = λ k l. staged_more J (range_solid J h) weight (capacity J weight) n k l;
  less = staged_less J (range_solid J h) weight n;
  full_demand = staged_full J (range_solid J h) weight n;
}

-- the check of the limit
module _ (n : ℕ) {b : Bool} {a : Checked} (h : b ≡ outside 1 most_limit n) (e : a ≡ refuse_when b StageLimit) where
  pub limited : a ≡ first_refusal (limit_check n ∷ [])
  limited = check_last _ _ (e ∙ ap (λ b. refuse_when b StageLimit) h)

  pub limit_passed : a ≡ passed → outside 1 most_limit n ≡ false
  limit_passed p = sym h ∙ passed_false _ _ (sym e ∙ p)

module _ (s : List ℕ) (choices : Choices) (ws : List ℕ) (n : ℕ) (old : Memory) where
  -- the answer and the memory give the rest
  promised : {new : Memory} (r : Answer BoundReport) → r ≡ staged_answer s choices ws n old → StagedLeaves (limit_verdict s choices ws n) (wide_job s choices) (weight_in ws) n (block_capacity s choices ws) old new → StagedPromises s choices ws n old new r
  promised r e l = record {
    answers = e;
    outcome = ap (λ x. bound_outcome x) e ∙ said_by bound_values (staged_verdict s choices ws n old) (staged_block_report s choices ws n);
    memory = l;
    exact = λ b f. held b (sym e ∙ f);
    recursion = block_recursion (wide_job s choices) (weight_in ws);
    normal = normal_listed (wide_job s choices);
    accepted = λ a. staged_held (block_job s choices) (weight_in ws) n (accepted_in_range s choices ws a);
    figures = λ a. block_most (block_job s choices) (range_solid (block_job s choices) (accepted_in_range s choices ws a)) (weight_in ws);
    floor = λ a. block_floor (wide_job s choices) (weight_in ws) (widened_solid (block_job s choices) (range_solid (block_job s choices) (accepted_in_range s choices ws a)));
  }
    where
      held : (b : BoundReport) → staged_answer s choices ws n old ≡ Ok b → StagedHolds (block_job s choices) (weight_in ws) n b.capacity b.bound
      held b f =
          let w = value_answered _ _ f in
          let v = passed_both (limit_verdict s choices ws n) (first_refusal (staged_checks (wide_job s choices) n (block_capacity s choices ws) old)) w.0 in
          let u = passed_both (accept_verdict s choices ws) (first_refusal (limit_check n ∷ [])) v.0 in
          rw w.1 (staged_held (block_job s choices) (weight_in ws) n (accepted_in_range s choices ws u.0))

  -- a refusal before the storage checks changes nothing
  refused : {x : Refusal} {r : Answer BoundReport} → limit_verdict s choices ws n ≡ Err x → IsErrAnd r (λ y. y ≡ x) → StagedPromises s choices ws n old old r
  refused {r = r} v p = promised r (refused_answer _ _ _ (before_refuses _ _ v) p) (rw v (record { lengths = refl; widths = refl; table = refl }))

  -- the job or its weights are refused
  pub early : {a : Answer Acceptance} {x : Refusal} {r : Answer BoundReport} → a ≡ acceptance_of s choices ws → a ≡ Err x → IsErrAnd r (λ y. y ≡ x) → StagedPromises s choices ws n old old r
  early e f p = refused (before_refuses _ _ (refused_both s choices ws e f)) p

  -- the limit is
  pub limit_refused : {a : Checked} {x : Refusal} {r : Answer BoundReport} → Accepted s choices ws → a ≡ first_refusal (limit_check n ∷ []) → a ≡ Err x → IsErrAnd r (λ y. y ≡ x) → StagedPromises s choices ws n old old r
  limit_refused v e f p = refused (before_passes _ _ v ∙ sym e ∙ f) p

  -- all are accepted
  pub accepted : {a : Checked} → Accepted s choices ws → a ≡ first_refusal (limit_check n ∷ []) → a ≡ passed → {new : Memory} (r : Answer BoundReport)
      → Staged (wide_job s choices) (weight_in ws) n (block_capacity s choices ws) old new r → StagedPromises s choices ws n old new r
  accepted v e f {new} r b =
      let u : limit_verdict s choices ws n ≡ passed = before_passes _ _ v ∙ sym e ∙ f in
      promised r (b.answer ∙ sym (ap (λ v. answer_by v (staged_block_report s choices ws n)) (before_passes _ _ u))) (rw u b.memory)

-- what the staged bound of the pieces asks, and what it says of the job's block
module _ (s : List ℕ) (choices : Choices) (ws : List ℕ) {j : JobRecord} {q : ℕ} (t : Taken s choices ws j q) (n : ℕ) where
  pub stageable : {plate : Sides} {count : ℕ} {pieces : List ℕ} → outside 1 most_limit n ≡ false → plate ≡ sides_of (widened (job_of j)).plate → PieceArray (widened (job_of j)) (weight_in ws) count pieces → Stageable (pieces_job (rect_of plate) count pieces) q n
  stageable {plate} {count} {pieces} l e a =
      let k = weights_passed (block_job s choices) ws (accepted_both s choices ws t.accepted).1 in
      let b : Stageable (pieces_job (widened (job_of j)).plate count pieces) q n =
      record { in_range = pieces_range (job_of j) (weight_in ws) count pieces a (range_taken s choices ws t); most = omega (arith, k.1, t.capacity_is); limit = limit_inside n l } in
      subst (λ p. Stageable (pieces_job (rect_of p) count pieces) q n) (sym e) b

  pub job_staged : {plate : Sides} {count : ℕ} {pieces : List ℕ} {old new : Memory} {r : Answer BoundReport} → plate ≡ sides_of (widened (job_of j)).plate → PieceArray (widened (job_of j)) (weight_in ws) count pieces
      → Staged (pieces_job (rect_of plate) count pieces) (listed_weight pieces) n q old new r → Staged (wide_job s choices) (weight_in ws) n (block_capacity s choices ws) old new r
  job_staged {plate} {count} {pieces} {old} {new} {r} e a b =
      let c = pieces_staged (widened (job_of j)) (weight_in ws) count pieces a n q old new r (subst (λ p. Staged (pieces_job (rect_of p) count pieces) (listed_weight pieces) n q old new r) e b) in
      let d : Staged (widened (job_of j)) (weight_in ws) n (block_capacity s choices ws) old new r = subst (λ q. Staged (widened (job_of j)) (weight_in ws) n q old new r) t.capacity_is c in
      subst (λ j. Staged (widened (job_of j)) (weight_in ws) n (block_capacity s choices ws) old new r) t.record_is d
