-- The bound call, the staged bound and the bound of two weights: what the inner call promises gives its instance.
use Rattle.planner.proofs.Prelude.{◌≡◌, refl, sym, ◌∙◌, ap, ap₂, List, [], ◌∷◌, ℕ, suc, max, Direction, Length, Width, Shares, Piece, staged_bound, saw, staged, other, Job, widened, capacity, pieces, by_kind, SolidKinds, saw_proper, staged_eq, staged_none, range_solid, normal_listed, by_check, next, first_refusal, Choices, job_checks, block_job, weight_in, Accepted, append_passed, read_in_range, accepted_in_range, limit_check, position_count, words_needed, two_words, BoundReport, Memory, block_report, accept_verdict, TwoReport, figure, one_weight, two_weights, within_stages, bound_in, BlockRecursion, storage_checks, Fills, bound_values, two_values, bound_report, accepts_two, BoundPromises, StagedPromises, TwoPromises, Ok, Err, passed, Checked, Answer}
use Rattle.cutting.specs.Figure as theory
use Rattle.bound.specs.Bound as bound
use Rattle.two_bound.specs.Two as two
use Rattle.staged_bound.specs.Staged as staged_call
use Rattle.planner.proofs.Alike.{alike_new}
use Rattle.planner.proofs.Figures.{figure_is, single_is, divided_is, recursion, figures_most, floors}
use Rattle.planner.proofs.Held.{one_sound, two_sound, staged_sound, bound_is, two_is, staged_is, one_held, two_held, staged_held}
use Rattle.planner.proofs.Lent.{answers_by, stored_is, one_words, one_leaves, pair_words, two_leaves, staged_leaves}

-- a bound's report with another bound
at_bound : BoundReport → ℕ → BoundReport
at_bound b n = record { bound = n; capacity = b.capacity; length_count = b.length_count; columns = b.columns }

module _ (s : List ℕ) (choices : Choices) (ws : List ℕ) (m : Memory) where
  abbrev J : Job
  J = block_job s choices

  abbrev weight : ℕ → ℕ
  weight = weight_in ws

  solid : Accepted s choices ws → SolidKinds J
  solid a = range_solid J (accepted_in_range s choices ws a)

  -- the storage checks are the same
  pub one_stored : first_refusal (bound.memory_checks (widened J) (capacity J weight) m) ≡ first_refusal (storage_checks J (one_weight weight J) m)
  one_stored = stored_is passed J (one_weight weight J) m m (words_needed (widened J) (capacity J weight)) (one_words J weight)

  pub one_report : block_report s choices ws ≡ bound_report J (one_weight weight J) (capacity J weight)
  one_report = λ i. record { bound = sym (bound_is J weight) i; capacity = capacity J weight; length_count = position_count (widened J) Length; columns = position_count (widened J) Width }

  pub one_fills : (before : Checked) (n : Memory) → bound.Leaves before (widened J) weight (capacity J weight) m n → (Accepted s choices ws → bound.BlockHolds s choices ws)
      → Fills (Accepted s choices ws) before J (one_weight weight) m n
  one_fills before n l h = record {
    memory = one_leaves before J weight m n l;
    normal = normal_listed (widened J);
    recursion = recursion (widened J) (by_kind weight);
    holds = λ a. one_held J weight (h a);
    figures = λ a. figures_most J (one_weight weight J) (solid a) (one_sound J weight);
    floors = λ a. floors J (one_weight weight J) (solid a) (one_sound J weight);
  }

  -- from answer and memory alone
  pub bound_from : (n : Memory) (r : Answer BoundReport) → r ≡ bound.bound_answer s choices ws m → bound.BoundLeaves s choices ws m n → (Accepted s choices ws → bound.BlockHolds s choices ws) → BoundPromises s choices ws m n r
  bound_from n r e l h = record {
    answers = answers_by bound_values (next (accept_verdict s choices ws) (first_refusal (storage_checks J (one_weight weight J) m))) (bound_report J (one_weight weight J) (capacity J weight)) r
        (e ∙ ap₂ (λ v b. by_check (next (accept_verdict s choices ws) v) (Ok b) Err) one_stored one_report);
    fills = one_fills (accept_verdict s choices ws) n l h;
    held = λ a. ((h a).held, (h a).full_capacity);
    kerf_none = alike_new s choices;
  }

  pub bound_new : (n : Memory) (r : Answer BoundReport) → bound.BoundPromises s choices ws m n r → BoundPromises s choices ws m n r
  bound_new n r p = bound_from n r p.answers p.memory p.accepted

-- the recursion by blocks
pub blocks_new : (J : Job) (weight : ℕ → ℕ) → BlockRecursion J weight
blocks_new J weight = record {
  none = λ d l w c. figure_is J H l w (d, 0, c) ∙ (staged_none (pieces J) (saw 0) (by_kind weight) (saw_proper 0) d (l, w) c ∙ sym (single_is J (by_kind weight) l w c));
  more = λ k d l w c. figure_is J H l w (d, suc k, c) ∙ (staged_eq (pieces J) (saw 0) (by_kind weight) (saw_proper 0) d k (l, w) c
      ∙ ap₂ max (sym (figure_is J H l w (other d, k, c))) (sym (divided_is J (by_kind weight) (λ l w c. figure J H l w (d, suc k, c)) (λ r c. theory.figure (pieces J) (saw 0) H r (d, suc k, c)) (λ l w c. figure_is J H l w (d, suc k, c)) d l w c)));
}
  where
    H : Shares Piece (Direction × ℕ × ℕ)
    H = staged (by_kind weight)

module _ (s : List ℕ) (choices : Choices) (ws : List ℕ) (k : ℕ) (m : Memory) where
  pub staged_stored : first_refusal (staged_call.staged_checks (widened (J s choices ws m)) k (capacity (J s choices ws m) (weight_in ws)) m) ≡ first_refusal (storage_checks (J s choices ws m) (within_stages (weight_in ws) k (J s choices ws m)) m)
  staged_stored = refl

  staged_reported : staged_call.staged_block_report s choices ws k ≡ bound_report (block_job s choices) (within_stages (weight_in ws) k (block_job s choices)) (capacity (block_job s choices) (weight_in ws))
  staged_reported = λ i. record { bound = sym (staged_is (block_job s choices) (weight_in ws) k) i; capacity = capacity (block_job s choices) (weight_in ws); length_count = position_count (widened (block_job s choices)) Length; columns = position_count (widened (block_job s choices)) Width }

  pub staged_fills : (before : Checked) (n : Memory) → staged_call.StagedLeaves before (widened (block_job s choices)) (weight_in ws) k (capacity (block_job s choices) (weight_in ws)) m n
      → (Accepted s choices ws → staged_call.StagedHolds (block_job s choices) (weight_in ws) k (capacity (block_job s choices) (weight_in ws)) (staged_bound (block_job s choices) (weight_in ws) k))
      → Fills (Accepted s choices ws) before (block_job s choices) (within_stages (weight_in ws) k) m n
  staged_fills before n l h = record {
    memory = staged_leaves before (block_job s choices) (weight_in ws) k m n l;
    normal = normal_listed (widened (block_job s choices));
    recursion = recursion (widened (block_job s choices)) (staged (by_kind (weight_in ws)));
    holds = λ a. staged_held (block_job s choices) (weight_in ws) k (solid s choices ws m a) (h a);
    figures = λ a. figures_most (block_job s choices) (within_stages (weight_in ws) k (block_job s choices)) (solid s choices ws m a) (staged_sound (block_job s choices) (weight_in ws) k);
    floors = λ a. floors (block_job s choices) (within_stages (weight_in ws) k (block_job s choices)) (solid s choices ws m a) (staged_sound (block_job s choices) (weight_in ws) k);
  }

  pub staged_new : (n : Memory) (r : Answer BoundReport) → staged_call.StagedPromises s choices ws k m n r → StagedPromises s choices ws k m n r
  staged_new n r p = record {
    answers = answers_by bound_values (next (next (accept_verdict s choices ws) (first_refusal (limit_check k ∷ []))) (first_refusal (storage_checks (block_job s choices) (within_stages (weight_in ws) k (block_job s choices)) m)))
        (bound_report (block_job s choices) (within_stages (weight_in ws) k (block_job s choices)) (capacity (block_job s choices) (weight_in ws))) r
        (p.answers ∙ ap (λ b. by_check (next (next (accept_verdict s choices ws) (first_refusal (limit_check k ∷ []))) (first_refusal (storage_checks (block_job s choices) (within_stages (weight_in ws) k (block_job s choices)) m))) (Ok b) Err) staged_reported);
    fills = staged_fills (next (accept_verdict s choices ws) (first_refusal (limit_check k ∷ []))) n p.memory p.accepted;
    blocks = blocks_new (widened (block_job s choices)) (weight_in ws);
    more = λ a j h. rw (staged_is (block_job s choices) (weight_in ws) k) (rw (staged_is (block_job s choices) (weight_in ws) j) ((p.accepted a).more j h));
    less = λ a. rw (staged_is (block_job s choices) (weight_in ws) k) (rw (bound_is (block_job s choices) (weight_in ws)) (p.accepted a).less);
  }

module _ (s : List ℕ) (choices : Choices) (first second : List ℕ) (m : Memory) where
  two_solid : two.BothAccepted s choices first second → SolidKinds (block_job s choices)
  two_solid a = range_solid (block_job s choices) (read_in_range s choices (append_passed (job_checks s choices) (two.two_checks (block_job s choices) first second) a).0)

  two_stored : first_refusal (two.two_storage_checks (widened (block_job s choices)) (capacity (block_job s choices) (weight_in first)) (capacity (block_job s choices) (weight_in second)) m)
      ≡ first_refusal (storage_checks (block_job s choices) (two_weights (weight_in first) (weight_in second) (block_job s choices)) m)
  two_stored = stored_is passed (block_job s choices) (two_weights (weight_in first) (weight_in second) (block_job s choices)) m m (two_words (widened (block_job s choices)) (capacity (block_job s choices) (weight_in first)) (capacity (block_job s choices) (weight_in second)))
      (pair_words (block_job s choices) (weight_in first) (weight_in second))

  -- a report of two weights with this bound and second capacity
  abbrev two_reported : ℕ → ℕ → TwoReport
  two_reported n q = record { bound = n; first_capacity = capacity (block_job s choices) (weight_in first); second_capacity = q; length_count = position_count (widened (block_job s choices)) Length; columns = position_count (widened (block_job s choices)) Width }

  one_alone : (v : Checked) → two.with_second_none (bound.answer_by v (block_report s choices first)) ≡ by_check v (Ok (two_reported (bound_in (block_job s choices) (one_weight (weight_in first) (block_job s choices))) 0)) Err
  one_alone (Ok _) = ap (λ n. Ok (two_reported n 0)) (sym (bound_is (block_job s choices) (weight_in first)))
  one_alone (Err x) = refl

  pub two_new : (n : Memory) (r : Answer TwoReport) → two.TwoPromises s choices first second m n r → TwoPromises s choices first second m n r
  two_new n r p = record {
    answers = answers_by two_values (next (accepts_two s choices first second) (first_refusal (storage_checks (block_job s choices) (two_weights (weight_in first) (weight_in second) (block_job s choices)) m)))
        (two_reported (bound_in (block_job s choices) (two_weights (weight_in first) (weight_in second) (block_job s choices))) (capacity (block_job s choices) (weight_in second))) r
        (p.answers ∙ ap₂ (λ v b. by_check (next (accepts_two s choices first second) v) (Ok (two_reported b (capacity (block_job s choices) (weight_in second)))) Err) two_stored (sym (two_is (block_job s choices) (weight_in first) (weight_in second))));
    fills = record {
      memory = two_leaves (accepts_two s choices first second) (block_job s choices) (weight_in first) (weight_in second) m n p.memory;
      normal = p.normal;
      recursion = recursion (widened (block_job s choices)) (two_weights (weight_in first) (weight_in second) (block_job s choices)).shares;
      holds = λ a. two_held (block_job s choices) (weight_in first) (weight_in second) (two_solid a) (p.accepted a);
      figures = λ a. figures_most (block_job s choices) (two_weights (weight_in first) (weight_in second) (block_job s choices)) (two_solid a) (two_sound (block_job s choices) (weight_in first) (weight_in second));
      floors = λ a. floors (block_job s choices) (two_weights (weight_in first) (weight_in second) (block_job s choices)) (two_solid a) (two_sound (block_job s choices) (weight_in first) (weight_in second));
    };
    one = λ e z. (let o = p.one e z in (
      o.0 ∙ (one_alone (bound.bound_verdict s choices first m) ∙ ap (λ v. by_check (next (accept_verdict s choices first) v) (Ok (two_reported (bound_in (block_job s choices) (one_weight (weight_in first) (block_job s choices))) 0)) Err) (one_stored s choices first m)),
      one_leaves (accept_verdict s choices first) (block_job s choices) (weight_in first) m n o.1,
    ));
  }
