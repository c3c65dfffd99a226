-- Numbers, places and lent memory: what the inner definitions say is what the promises' say.
use Rattle.planner.proofs.Prelude.{◌≡◌, refl, sym, ◌∙◌, ap, List, [], ◌∷◌, ℕ, ltb, length, get_or, arith, Length, Width, Job, widened, capacity, by_kind, figure_of, normal_positions, staged, figure_two, by_copies, full_state, exact_figure, block_figure, by_check, next, first_refusal, Refusal, position, words_needed, two_words, staged_words, Memory, refused_as, outcome_by, System, one_weight, two_weights, remaining_copies, within_stages, table_words, Answers, storage_checks, Leaves, Ok, Err, Checked, Answer, outcome_of, said_by}
use Rattle.promises.specs.declared.Refusal.TheVariants as refusal
use Rattle.bound.specs.Bound as bound
use Rattle.two_bound.specs.Two as two
use Rattle.staged_bound.specs.Staged as staged_call
use Rattle.exact.specs.Exact as exact
use Rattle.promises.specs.Systems.{Kept}
use Rattle.promises.specs.Systems as new
use Rattle.promises.specs.Call.{list_check}
use Rattle.planner.proofs.Figures.{figure_is}

-- an answer by its verdict has its number and values
pub answers_by : {A : Type 0} (values : A → List ℕ) (v : Checked) (a : A) (r : Answer A) → r ≡ by_check v (Ok a) Err → Answers values v a r
answers_by values v a r e = record { answer = e; said = ap (outcome_of values) e ∙ said_by values v a }

module _ {S : Type 0} (before : Checked) (J : Job) (Y : System S) (m n : Memory) (words : ℕ) (e : table_words (widened J) Y ≡ words) where
  -- the storage checks by the words needed
  pub stored_is : first_refusal (list_check J m ∷ (ltb (length m.table) words, refusal.TableShort words) ∷ []) ≡ first_refusal (storage_checks J Y m)
  stored_is = ap (λ k. first_refusal (list_check J m ∷ (ltb (length m.table) k, refusal.TableShort k) ∷ [])) (sym e)

  after_by : (v : Checked) (A B C : Type 0) → (A → B) → by_check v A (λ r. C) → by_check v B (λ r. C)
  after_by (Ok _) A B C f a = f a
  after_by (Err r) A B C f c = c

  -- lent memory by the figures that the words hold
  pub leaves_by : {Holds : Type 0} → (Holds → new.Figures (widened J) Y n.table)
      → n.lengths ≡ bound.list_after (next before (first_refusal (list_check J m ∷ []))) (normal_positions (widened J) Length) m.lengths
      → n.widths ≡ bound.list_after (next before (first_refusal (list_check J m ∷ []))) (normal_positions (widened J) Width) m.widths
      → by_check (next before (first_refusal (list_check J m ∷ (ltb (length m.table) words, refusal.TableShort words) ∷ []))) (Holds × Kept words m.table n.table) (λ r. n.table ≡ m.table)
      → Leaves before J Y m n
  leaves_by {Holds} f l w t = record {
    lengths = l;
    widths = w;
    table = rw⁻¹ stored_is (rw e (after_by (next before (first_refusal (list_check J m ∷ (ltb (length m.table) words, refusal.TableShort words) ∷ []))) (Holds × Kept words m.table n.table) (new.Figures (widened J) Y n.table × Kept words m.table n.table) (n.table ≡ m.table) (λ h. (f h.0, h.1)) t));
  }

-- one weight
pub one_words : (J : Job) (weight : ℕ → ℕ) → table_words (widened J) (one_weight weight J) ≡ words_needed (widened J) (capacity J weight)
one_words J weight = omega arith

pub one_leaves : (before : Checked) (J : Job) (weight : ℕ → ℕ) (m n : Memory) → bound.Leaves before (widened J) weight (capacity J weight) m n → Leaves before J (one_weight weight J) m n
unfolding figure_of
one_leaves before J weight m n h = leaves_by before J (one_weight weight J) m n (words_needed (widened J) (capacity J weight)) (one_words J weight)
    (λ f a b c ha hb hc. ap (λ i. get_or n.table i 0) (omega arith) ∙ (f a b c ha hb hc ∙ sym (figure_is (widened J) (by_kind weight) (position (widened J) Length a) (position (widened J) Width b) c)))
    h.lengths h.widths h.table

-- two weights
pub pair_words : (J : Job) (first second : ℕ → ℕ) → table_words (widened J) (two_weights first second J) ≡ two_words (widened J) (capacity J first) (capacity J second)
pair_words J first second = omega arith

pub two_leaves : (before : Checked) (J : Job) (first second : ℕ → ℕ) (m n : Memory) → two.TwoLeaves before (widened J) (figure_two (widened J) first second) (capacity J first) (capacity J second) m n
    → Leaves before J (two_weights first second J) m n
unfolding figure_two
two_leaves before J first second m n h = leaves_by before J (two_weights first second J) m n (two_words (widened J) (capacity J first) (capacity J second)) (pair_words J first second)
    (λ f a b c ha hb hc. ap (λ i. get_or n.table i 0) (omega arith) ∙ (f a b c.0 c.1 ha hb hc.0 hc.1 ∙ sym (figure_is (widened J) (two_weights first second J).shares (position (widened J) Length a) (position (widened J) Width b) c)))
    h.lengths h.widths h.table

-- the remaining copies
pub copies_words : (J : Job) → table_words (widened J) (remaining_copies J) ≡ words_needed (widened J) (full_state J)
copies_words J = omega arith

pub copies_leaves : (before : Checked) (J : Job) (m n : Memory) → exact.ExactLeaves before (widened J) (exact_figure (widened J)) (full_state J) m n → Leaves before J (remaining_copies J) m n
unfolding exact_figure
copies_leaves before J m n h = leaves_by before J (remaining_copies J) m n (words_needed (widened J) (full_state J)) (copies_words J)
    (λ f a b s ha hb hs. ap (λ i. get_or n.table i 0) (omega arith) ∙ (f a b s ha hb hs ∙ sym (figure_is (widened J) (by_copies J) (position (widened J) Length a) (position (widened J) Width b) s)))
    h.lengths h.widths h.table

-- within a limit on stages
pub staged_leaves : (before : Checked) (J : Job) (weight : ℕ → ℕ) (k : ℕ) (m n : Memory) → staged_call.StagedLeaves before (widened J) weight k (capacity J weight) m n → Leaves before J (within_stages weight k J) m n
staged_leaves before J weight k m n h = leaves_by before J (within_stages weight k J) m n (staged_words (widened J) (capacity J weight) k) refl
    (λ f a b s ha hb hs. f s.1 s.0 a b s.2 hs.0 ha hb hs.1 ∙ (block_figure (widened J) weight s.1 s.0 (position (widened J) Length a) (position (widened J) Width b) s.2
    ∙ sym (figure_is (widened J) (staged (by_kind weight)) (position (widened J) Length a) (position (widened J) Width b) s)))
    h.lengths h.widths h.table
