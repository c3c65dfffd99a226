-- What the bound call promises, from the job's and the weights' verdicts and from the bound of an accepted job.
use Rattle.bound.proofs.Prelude.{◌≡◌, refl, sym, ◌∙◌, ap, ap₂, subst, List, ◌++◌, ℕ, ◌≤◌, length, arith, Sides, rect_of, sides_of, InRange, widened, capacity, most_capacity, listed_weight, pieces_job, PieceArray, recursion, figures_most, normal_listed, floor_figures, Check, next, first_refusal, Refusal, Choices, JobRecord, job_of, ReadAlike, block_job, weight_in, weight_checks, Accepted, passed_both, kerf_none_read, weights_passed, accepted_both, accepted_in_range, Taken, Memory, Leaves, wide_job, answer_by, bound_report, memory_checks, bound_values, block_capacity, block_report, accept_verdict, bound_verdict, bound_answer, bound_outcome, BoundLeaves, BoundSaid, BoundPromises, Boundable, Bounded, RecordBoundable, BoundReport, Err, Answer, acceptance_of, Acceptance, refused_both}
use Rattle.bound.proofs.Listed.{pieces_range, pieces_bounded}
use Rattle.bound.proofs.Holds.{bound_held}
use Rattle.refusal.proofs.Results.{before_refuses, before_passes, refused_answer, said_by, value_answered}
use Rattle.std.specs.Result.{IsErrAnd}

-- what the bound of a record's pieces asks, and what it says of the record
module _ (j : JobRecord) (weight : ℕ → ℕ) (q : ℕ) {plate : Sides} {n : ℕ} {pieces : List ℕ} (e : plate ≡ sides_of (widened (job_of j)).plate) (a : PieceArray (widened (job_of j)) weight n pieces) where
  pub record_boundable : {floors : List ℕ} → InRange (job_of j) → q ≤ most_capacity → length floors ≡ 2042 → Boundable (pieces_job (rect_of plate) n pieces) q floors
  record_boundable {floors} range low h =
      let b : Boundable (pieces_job (widened (job_of j)).plate n pieces) q floors =
      record { in_range = pieces_range (job_of j) weight n pieces a range; most = low; floors_there = h } in
      subst (λ p. Boundable (pieces_job (rect_of p) n pieces) q floors) (sym e) b

  pub record_bounded : {floors : List ℕ} {old new : Memory} {r : Answer BoundReport} → Bounded (pieces_job (rect_of plate) n pieces) (listed_weight pieces) q old new floors r
      → Bounded (widened (job_of j)) weight q old new floors r
  record_bounded {floors} {old} {new} {r} b =
      pieces_bounded (widened (job_of j)) weight n pieces a q old new floors r (subst (λ p. Bounded (pieces_job (rect_of p) n pieces) (listed_weight pieces) q old new floors r) e b)

-- what listing the pieces and the bound of them ask, from a job and a capacity that were taken from an accepted block
module _ (s : List ℕ) (choices : Choices) (ws : List ℕ) {j : JobRecord} {q : ℕ} (t : Taken s choices ws j q) where
  pub range_taken : InRange (job_of j)
  range_taken = rw t.record_is (accepted_in_range s choices ws t.accepted)

  pub weights_there : j.count ≤ length ws
  weights_there =
      let k = weights_passed (block_job s choices) ws (accepted_both s choices ws t.accepted).1 in
      omega (arith, k.0, ap (λ j. (job_of j).count) t.record_is)

  pub capacity_low : q ≤ most_capacity
  capacity_low = let k = weights_passed (block_job s choices) ws (accepted_both s choices ws t.accepted).1 in omega (arith, k.1, t.capacity_is)

  pub boundable : {plate : Sides} {n : ℕ} {pieces floors : List ℕ} → plate ≡ sides_of (widened (job_of j)).plate → PieceArray (widened (job_of j)) (weight_in ws) n pieces → length floors ≡ 2042
      → Boundable (pieces_job (rect_of plate) n pieces) q floors
  boundable e a h = record_boundable j (weight_in ws) q e a range_taken capacity_low h

  pub record_ready : RecordBoundable (job_of j) q ws
  record_ready = record { in_range = range_taken; weighed = weights_there; most = capacity_low }

  -- what the bound of the record says of the job's block
  pub block_bounded : {floors : List ℕ} {old new : Memory} {r : Answer BoundReport} → Bounded (widened (job_of j)) (weight_in ws) q old new floors r
      → Bounded (wide_job s choices) (weight_in ws) (block_capacity s choices ws) old new floors r
  block_bounded {floors} {old} {new} {r} b =
      let d : Bounded (widened (job_of j)) (weight_in ws) (block_capacity s choices ws) old new floors r = subst (λ q. Bounded (widened (job_of j)) (weight_in ws) q old new floors r) t.capacity_is b in
      subst (λ j. Bounded (widened (job_of j)) (weight_in ws) (block_capacity s choices ws) old new floors r) t.record_is d

  -- and what the bound of the pieces says of it
  pub job_bounded : {plate : Sides} {n : ℕ} {pieces floors : List ℕ} {old new : Memory} {r : Answer BoundReport} → plate ≡ sides_of (widened (job_of j)).plate → PieceArray (widened (job_of j)) (weight_in ws) n pieces
      → Bounded (pieces_job (rect_of plate) n pieces) (listed_weight pieces) q old new floors r → Bounded (wide_job s choices) (weight_in ws) (block_capacity s choices ws) old new floors r
  job_bounded e a b = block_bounded (record_bounded j (weight_in ws) q e a b)

-- an answered bound is exact
pub exact_by : (s : List ℕ) (choices : Choices) (ws : List ℕ) (m : Memory) → BoundSaid s choices ws (bound_answer s choices ws m)
exact_by s choices ws m b e =
    let w = value_answered _ _ e in
    let v = passed_both (accept_verdict s choices ws) (first_refusal (memory_checks (wide_job s choices) (block_capacity s choices ws) m)) w.0 in
    rw w.1 (bound_held (block_job s choices) (weight_in ws) (accepted_in_range s choices ws v.0))

-- blocks that are read alike: answer and memory are the same
module _ (ws : List ℕ) (old : Memory) where
  abbrev answer_from : List Check → JobRecord → Answer BoundReport
  answer_from checks j = answer_by (next (first_refusal (checks ++ weight_checks (job_of j) ws)) (first_refusal (memory_checks (widened (job_of j)) (capacity (job_of j) (weight_in ws)) old)))
      (bound_report (widened (job_of j)) (weight_in ws) (capacity (job_of j) (weight_in ws)))

  abbrev LeftFrom : Memory → List Check × JobRecord → Type 0
  LeftFrom new r = Leaves (first_refusal (r.0 ++ weight_checks (job_of r.1) ws)) (widened (job_of r.1)) (weight_in ws) (capacity (job_of r.1) (weight_in ws)) old new

  module _ {s : List ℕ} {choices : Choices} {z : List ℕ} {other : Choices} (same : ReadAlike s choices z other) where
    alike_answers : bound_answer s choices ws old ≡ bound_answer z other ws old
    alike_answers = ap₂ answer_from same.checks same.record_is

    alike_leaves : (new : Memory) → BoundLeaves s choices ws old new → BoundLeaves z other ws old new
    alike_leaves new l = subst (LeftFrom new) (λ i. (same.checks i, same.record_is i)) l

module _ (s : List ℕ) (choices : Choices) (ws : List ℕ) (old : Memory) where
  -- the answer and the memory give the rest
  promised : {new : Memory} (r : Answer BoundReport) → r ≡ bound_answer s choices ws old → BoundLeaves s choices ws old new → BoundPromises s choices ws old new r
  promised r e l =
      record {
        answers = e;
        outcome = ap (λ x. bound_outcome x) e ∙ said_by bound_values (bound_verdict s choices ws old) (block_report s choices ws);
        memory = l;
        exact = λ b f. exact_by s choices ws old b (sym e ∙ f);
        recursion = recursion (wide_job s choices) (weight_in ws);
        normal = normal_listed (wide_job s choices);
        accepted = λ a. bound_held (block_job s choices) (weight_in ws) (accepted_in_range s choices ws a);
        figures = λ a. figures_most (block_job s choices) (weight_in ws) (accepted_in_range s choices ws a);
        floor = λ a. floor_figures (block_job s choices) (weight_in ws) (accepted_in_range s choices ws a);
        kerf_none = λ z n h. (let same = kerf_none_read s choices z n h in (e ∙ alike_answers ws old same, alike_leaves ws old same _ l));
      }

  -- the job or its weights are refused
  pub early : {a : Answer Acceptance} {x : Refusal} {r : Answer BoundReport} → a ≡ acceptance_of s choices ws → a ≡ Err x → IsErrAnd r (λ y. y ≡ x) → BoundPromises s choices ws old old r
  early {r = r} e f p =
      let v = refused_both s choices ws e f in
      promised r (refused_answer _ _ _ (before_refuses _ _ v) p) (rw v (record { lengths = refl; widths = refl; table = refl }))

  -- both are accepted
  pub accepted : Accepted s choices ws → {new : Memory} {floors : List ℕ} (r : Answer BoundReport) → Bounded (wide_job s choices) (weight_in ws) (block_capacity s choices ws) old new floors r
      → BoundPromises s choices ws old new r
  accepted v {new} {floors} r b =
      promised r (b.answer ∙ sym (ap (λ v. answer_by v (block_report s choices ws)) (before_passes _ _ v))) (rw v b.memory)
