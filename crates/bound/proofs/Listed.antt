-- From the pieces back to the job: what is answered and left for the plain job of the array that lists a job's pieces is the job's own.
use Rattle.bound.proofs.Prelude.{◌≡◌, refl, sym, ◌∙◌, ap, ap₂, subst, List, [], ◌∷◌, ℕ, ◌+◌, ◌*◌, arith, ltb, length, get_or, drop, Direction, Length, Width, floor, Job, InRange, widened, figure_of, normal_positions, InTableRange, size_in, price_in, listed_weight, pieces_job, PieceArray, listed_normal, listed_positions, listed_figure, listed_range, first_refusal, TableShort, position_count, position, words_needed, Figures, Kept, Mapped, Memory, list_check, list_after, TableAfter, memory_checks, answer_by, bound_report, BothMapped, Bounded, Ok, Err, Checked, Answer, BoundReport}
use Rattle.bound.proofs.Storage.{report_is}

-- the plain job of the pieces of a job in range, the kerf added, is in the table's ranges
pub pieces_range : (J : Job) (weight : ℕ → ℕ) (n : ℕ) (pieces : List ℕ) → PieceArray (widened J) weight n pieces → InRange J → InTableRange (pieces_job (widened J).plate n pieces)
pieces_range J weight n pieces array h = listed_range J weight n (size_in pieces) (price_in pieces) (listed_weight pieces) array.listing h

module _ (J : Job) (weight : ℕ → ℕ) (n : ℕ) (pieces : List ℕ) (array : PieceArray J weight n pieces) where
  -- the plain job of the pieces
  abbrev N : Job
  N = pieces_job J.plate n pieces

  pub same_positions : (d : Direction) → normal_positions N d ≡ normal_positions J d
  same_positions d = listed_positions J weight n (size_in pieces) (price_in pieces) (listed_weight pieces) array.listing d

  pub same_figure : (l w c : ℕ) → figure_of N (listed_weight pieces) l w c ≡ figure_of J weight l w c
  same_figure l w c = listed_figure J weight n (size_in pieces) (price_in pieces) (listed_weight pieces) array.listing l w c

  pub same_count : (d : Direction) → position_count N d ≡ position_count J d
  same_count d = ap length (same_positions d)

  pub same_position : (d : Direction) (a : ℕ) → position N d a ≡ position J d a
  same_position d a = ap (λ xs. get_or xs a 0) (same_positions d)

  pub same_words : (q : ℕ) → words_needed N q ≡ words_needed J q
  same_words q = ap₂ (λ p r. p * r * (q + 1)) (same_count Length) (same_count Width)

  -- the figures of the table are the job's
  pub same_figures : (q : ℕ) (xs : List ℕ) → Figures N (listed_weight pieces) q xs → Figures J weight q xs
  same_figures q xs f a b c ha hb hc =
      let p = same_count Length in
      let r = same_count Width in
      ap (λ r. get_or xs ((a * r + b) * (q + 1) + c) 0) (sym r) ∙ f a b c (omega (arith, p)) (omega (arith, r)) hc
      ∙ same_figure (position N Length a) (position N Width b) c ∙ ap₂ (λ l w. figure_of J weight l w c) (same_position Length a) (same_position Width b)

  same_mapped : (d : Direction) (floors : List ℕ) → Mapped N d floors → Mapped J d floors
  same_mapped d floors m x h =
      let f = m x h in
      (omega (arith, f.0, same_count d), sym (same_position d (get_or floors x 0)) ∙ f.1 ∙ ap (λ t. floor t x) (listed_normal J weight n (size_in pieces) (price_in pieces) (listed_weight pieces) array.listing d))

  pub same_both : {floors : List ℕ} → BothMapped N floors → BothMapped J floors
  same_both {floors} m = record { entries = m.entries; lengths = same_mapped Length floors m.lengths; widths = same_mapped Width (drop 1021 floors) m.widths }

  module _ (q : ℕ) (old new : Memory) where
    same_checks : first_refusal (memory_checks N q old) ≡ first_refusal (memory_checks J q old)
    same_checks = ap (λ k. first_refusal (list_check J (length old.lengths) (length old.widths) ∷ (ltb (length old.table) k, TableShort k) ∷ [])) (same_words q)

    -- the verdict of the check of the lists
    abbrev lists : Checked
    lists = first_refusal (list_check J (length old.lengths) (length old.widths) ∷ [])

    same_table : (v : Checked) → TableAfter v N (listed_weight pieces) q old.table new.table → TableAfter v J weight q old.table new.table
    same_table (Ok _) t = (same_figures q new.table t.0, subst (λ k. Kept k old.table new.table) (same_words q) t.1)
    same_table (Err r) t = t

    same_report : bound_report N (listed_weight pieces) q ≡ bound_report J weight q
    same_report = report_is (same_figure J.plate.0 J.plate.1 q) refl (same_count Length) (same_count Width)

    -- so is the whole answer
    pub pieces_bounded : (floors : List ℕ) (r : Answer BoundReport) → Bounded N (listed_weight pieces) q old new floors r → Bounded J weight q old new floors r
    pieces_bounded floors r b = record {
      answer = b.answer ∙ ap₂ answer_by same_checks same_report;
      memory = record {
        lengths = b.memory.lengths ∙ ap (λ xs. list_after lists xs old.lengths) (same_positions Length);
        widths = b.memory.widths ∙ ap (λ xs. list_after lists xs old.widths) (same_positions Width);
        table = same_table (first_refusal (memory_checks J q old)) (subst (λ v. TableAfter v N (listed_weight pieces) q old.table new.table) same_checks b.memory.table);
      };
      mapped = λ x e. same_both (b.mapped x e);
    }
