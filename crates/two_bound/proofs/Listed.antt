-- What is answered and left in memory for the array of a job's pieces, with the numbers of their states, is the job's own; and the word
-- from which the bound is read.
use Rattle.two_bound.proofs.Prelude.{◌≡◌, refl, sym, ◌∙◌, ap, ap₂, subst, Bool, List, [], ◌∷◌, ℕ, ◌+◌, ◌-◌, ◌*◌, ◌≤◌, ◌<◌, arith, ltb, length, get_or, Length, Width, Rect, leaf, saw, kind, sized, Job, laid, members, pieces, normal_side, normal_floor, figure_two, InTableRange, size_in, price_in, listed_weight, plain, Listing, pieces_job, PieceArray, figure_same, floor_figure, members_solid, table_solid, sides_suffice, positions_some, greatest_listed, first_refusal, TableShort, position_count, position, words_needed, Kept, two_words, TwoFigures, below, by_state, figure_at, pair_blocks, figure_pair, pair_state, by_state_monotone, digits_order, pair_blocked, Memory, list_check, list_after, last_position, word_last, words_some, same_positions, same_count, same_position, same_words, TwoAfter, two_storage_checks, two_report, answer_by, Paired, Ok, Err, Checked, Answer, TwoReport}
use Rattle.states.proofs.Ties.{figure_two as figure_numbered}
use Rattle.two_bound.proofs.Storage.{report_is}

module _ (J : Job) (h : InTableRange J) (own : ℕ → ℕ) (q q' : ℕ) where
  -- a rectangle on the plate has the figure of its largest normal sides
  pair_floor : (l w c c' : ℕ) → l ≤ J.plate.0 → w ≤ J.plate.1 → figure_pair J q q' own l w c c' ≡ figure_pair J q q' own (normal_floor J Length l) (normal_floor J Width w) c c'
  unfolding figure_at pieces
  pair_floor l w c c' on_length on_width =
      let le : ℕ → ℕ → Bool = below (pair_blocks q q') 1 in
      floor_figure (members J) (λ p. J.price (kind p)) (laid J) (members_solid J (table_solid J h)) (by_state le (λ p. own (kind p)))
      (by_state_monotone le (digits_order (pair_blocks q q') 1 (pair_blocked q q')) (λ p. own (kind p))) J.plate (normal_side J) (sides_suffice J) (l, w) (c * (q' + 1) + c') (on_length, on_width)

  last_word : (n : ℕ) → 1 ≤ n → (n - 1) * (q' + 1) + q' ≡ n * (q' + 1) - 1
  last_word n h = go (n - 1) (omega arith)
    where
      go : (k : ℕ) → n ≡ k + 1 → k * (q' + 1) + q' ≡ n * (q' + 1) - 1
      go k e = rw e (omega arith)

  -- the last word holds the plate's figure
  pub pair_last : (xs : List ℕ) → TwoFigures J (figure_pair J q q' own) q q' xs → get_or xs (two_words J q q' - 1) 0 ≡ figure_pair J q q' own J.plate.0 J.plate.1 q q'
  pair_last xs f =
      let p = position_count J Length in
      let r = position_count J Width in
      let a = positions_some J Length in
      let b = positions_some J Width in
      rw (← last_word (words_needed J q) (words_some J q), ← word_last p r q a b)
      (f (p - 1) (r - 1) q q' (omega arith) (omega arith) (omega arith) (omega arith)
      ∙ ap₂ (λ l w. figure_pair J q q' own l w q q') (last_position J Length) (last_position J Width)
      ∙ sym (pair_floor J.plate.0 J.plate.1 q q' (omega arith) (omega arith)))

-- the numbers that stand for a job's pieces have the same figures over states
listed_state : (J : Job) (own : ℕ → ℕ) (n : ℕ) (size : ℕ → Rect) (price heavy : ℕ → ℕ) → Listing J own n size price heavy → (le : ℕ → ℕ → Bool) (l w s : ℕ)
    → figure_at (plain J.plate n size price) le heavy l w s ≡ figure_at J le own l w s
unfolding figure_at leaf pieces sized by_state
listed_state J own n size price heavy given le l w s = figure_same (pieces (plain J.plate n size price)) (pieces J) (saw 0) (by_state le (λ p. heavy (kind p))) (by_state le (λ p. own (kind p)))
    (λ r s. greatest_listed J own n size price heavy given _ _ (λ j h. rw (given.sizes j h, given.prices j h, given.weights j h) refl)) (λ d s. refl) (l, w) s

module _ (J : Job) (first second : ℕ → ℕ) (q q' n : ℕ) (pieces : List ℕ) (array : PieceArray J (pair_state q q' first second) n pieces) where
  abbrev own : ℕ → ℕ
  own = pair_state q q' first second

  abbrev N : Job
  N = pieces_job J.plate n pieces

  abbrev F : ℕ → ℕ → ℕ → ℕ → ℕ
  F = figure_pair N q q' (listed_weight pieces)

  abbrev G : ℕ → ℕ → ℕ → ℕ → ℕ
  G = figure_two J first second

  same_figure : (l w c c' : ℕ) → c < q + 1 → c' < q' + 1 → F l w c c' ≡ G l w c c'
  same_figure l w c c' h h' = listed_state J own n (size_in pieces) (price_in pieces) (listed_weight pieces) array.listing (below (pair_blocks q q') 1) l w (c * (q' + 1) + c') ∙ figure_numbered J q q' first second l w c c' h h'

  all_same : two_words N q q' ≡ two_words J q q'
  all_same = ap (λ w. w * (q' + 1)) (same_words J own n pieces array q)

  same_figures : (xs : List ℕ) → TwoFigures N F q q' xs → TwoFigures J G q q' xs
  same_figures xs f a b c c' ha hb hc hc' =
      let p = same_count J own n pieces array Length in
      let r = same_count J own n pieces array Width in
      ap (λ r. get_or xs (((a * r + b) * (q + 1) + c) * (q' + 1) + c') 0) (sym r) ∙ f a b c c' (omega (arith, p)) (omega (arith, r)) hc hc'
      ∙ same_figure (position N Length a) (position N Width b) c c' hc hc' ∙ ap₂ (λ l w. G l w c c') (same_position J own n pieces array Length a) (same_position J own n pieces array Width b)

  module _ (old new : Memory) where
    same_checks : first_refusal (two_storage_checks N q q' old) ≡ first_refusal (two_storage_checks J q q' old)
    same_checks = ap (λ k. first_refusal (list_check J (length old.lengths) (length old.widths) ∷ (ltb (length old.table) k, TableShort k) ∷ [])) all_same

    abbrev lists : Checked
    lists = first_refusal (list_check J (length old.lengths) (length old.widths) ∷ [])

    same_table : (v : Checked) → TwoAfter v N F q q' old.table new.table → TwoAfter v J G q q' old.table new.table
    same_table (Ok _) t = (same_figures new.table t.0, subst (λ k. Kept k old.table new.table) all_same t.1)
    same_table (Err r) t = t

    same_report : two_report N F q q' ≡ two_report J G q q'
    same_report = report_is (same_figure J.plate.0 J.plate.1 q q' (omega arith) (omega arith)) refl refl (same_count J own n pieces array Length) (same_count J own n pieces array Width)

    -- the whole answer is the job's
    pub pieces_paired : (r : Answer TwoReport) → Paired N F q q' old new r → Paired J G q q' old new r
    pieces_paired r b = record {
      answer = b.answer ∙ ap₂ answer_by same_checks same_report;
      memory = record {
        lengths = b.memory.lengths ∙ ap (λ xs. list_after lists xs old.lengths) (same_positions J own n pieces array Length);
        widths = b.memory.widths ∙ ap (λ xs. list_after lists xs old.widths) (same_positions J own n pieces array Width);
        table = same_table (first_refusal (two_storage_checks J q q' old)) (subst (λ v. TwoAfter v N F q q' old.table new.table) same_checks b.memory.table);
      };
    }
