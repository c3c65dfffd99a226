-- What is answered and left in memory for the array of a job's pieces is the job's own; and the words of the table from which the bound
-- is read.
use Rattle.staged_bound.proofs.Prelude.{◌≡◌, refl, sym, ◌∙◌, ap, ap₂, subst, List, [], ◌∷◌, ℕ, ◌+◌, ◌-◌, ◌*◌, ◌≤◌, max, mul-le-mul_right, arith, ltb, length, get_or, Direction, Length, Width, Job, block, InTableRange, size_in, price_in, listed_weight, pieces_job, PieceArray, table_solid, positions_some, block_floor, listed_block, first_refusal, TableShort, position_count, position, words_needed, Kept, block_number, staged_words, StagedFigures, Memory, list_check, list_after, answer_by, report_is, last_position, word_last, words_some, same_positions, same_count, same_position, same_words, StagedAfter, staged_checks, staged_report, Staged, Ok, Err, Checked, Answer, BoundReport}

-- the last word of a block holds the plate's figure
pub block_last : (J : Job) (weight : ℕ → ℕ) → InTableRange J → (n q : ℕ) (xs : List ℕ) → StagedFigures J weight n q xs → (d : Direction) → get_or xs (block_number n d * words_needed J q + (words_needed J q - 1)) 0 ≡ block J weight n d J.plate.0 J.plate.1 q
block_last J weight h n q xs f d =
    let p = position_count J Length in
    let r = position_count J Width in
    let a = positions_some J Length in
    let b = positions_some J Width in
    rw (← word_last p r q a b)
    (f n d (p - 1) (r - 1) q (omega arith) (omega arith) (omega arith) (omega arith)
    ∙ ap₂ (λ l w. block J weight n d l w q) (last_position J Length) (last_position J Width)
    ∙ sym (block_floor J weight (table_solid J h) n d J.plate.0 J.plate.1 q (omega arith) (omega arith)))

-- the words of one block among those of all
module _ (J : Job) (n q : ℕ) (some : 1 ≤ n) where
  pub last_word : staged_words J q n - 1 ≡ block_number n Width * words_needed J q + (words_needed J q - 1)
  last_word = omega (arith, words_some J q)

  pub before_word : staged_words J q n - 1 - words_needed J q ≡ block_number n Length * words_needed J q + (words_needed J q - 1)
  before_word =
      let e : 2 * n - 1 + 1 ≡ 2 * n = omega arith in
      let f : 2 * n * words_needed J q ≡ (2 * n - 1) * words_needed J q + words_needed J q = sym (ap (λ x. x * words_needed J q) e) ∙ omega arith in
      omega (arith, words_some J q)

  pub one_less : words_needed J q ≤ staged_words J q n - 1
  one_less = omega (arith, words_some J q, mul-le-mul_right {m = 2} {n = 2 * n} (words_needed J q) (omega arith))

module _ (J : Job) (weight : ℕ → ℕ) (n : ℕ) (pieces : List ℕ) (array : PieceArray J weight n pieces) where
  abbrev N : Job
  N = pieces_job J.plate n pieces

  same_block : (k : ℕ) (d : Direction) (l w c : ℕ) → block N (listed_weight pieces) k d l w c ≡ block J weight k d l w c
  same_block k d l w c = listed_block J weight n (size_in pieces) (price_in pieces) (listed_weight pieces) array.listing k d l w c

  module _ (limit q : ℕ) (old new : Memory) where
    all_same : staged_words N q limit ≡ staged_words J q limit
    all_same = ap (λ w. (2 * limit + 1) * w) (same_words J weight n pieces array q)

    same_figures : (xs : List ℕ) → StagedFigures N (listed_weight pieces) limit q xs → StagedFigures J weight limit q xs
    same_figures xs f k d a b c hk ha hb hc =
        let p = same_count J weight n pieces array Length in
        let r = same_count J weight n pieces array Width in
        ap₂ (λ w r. get_or xs (block_number k d * w + ((a * r + b) * (q + 1) + c)) 0) (sym (same_words J weight n pieces array q)) (sym r) ∙ f k d a b c hk (omega (arith, p)) (omega (arith, r)) hc
        ∙ same_block k d (position N Length a) (position N Width b) c ∙ ap₂ (λ l w. block J weight k d l w c) (same_position J weight n pieces array Length a) (same_position J weight n pieces array Width b)

    same_checks : first_refusal (staged_checks N limit q old) ≡ first_refusal (staged_checks J limit q old)
    same_checks = ap (λ k. first_refusal (list_check J (length old.lengths) (length old.widths) ∷ (ltb (length old.table) k, TableShort k) ∷ [])) all_same

    abbrev lists : Checked
    lists = first_refusal (list_check J (length old.lengths) (length old.widths) ∷ [])

    same_table : (v : Checked) → StagedAfter v N (listed_weight pieces) limit q old.table new.table → StagedAfter v J weight limit q old.table new.table
    same_table (Ok _) t = (same_figures new.table t.0, subst (λ k. Kept k old.table new.table) all_same t.1)
    same_table (Err r) t = t

    same_report : staged_report N (listed_weight pieces) limit q ≡ staged_report J weight limit q
    same_report = report_is (ap₂ max (same_block limit Length J.plate.0 J.plate.1 q) (same_block limit Width J.plate.0 J.plate.1 q)) refl (same_count J weight n pieces array Length) (same_count J weight n pieces array Width)

    -- the whole answer is the job's
    pub pieces_staged : (r : Answer BoundReport) → Staged N (listed_weight pieces) limit q old new r → Staged J weight limit q old new r
    pieces_staged r b = record {
      answer = b.answer ∙ ap₂ answer_by same_checks same_report;
      memory = record {
        lengths = b.memory.lengths ∙ ap (λ xs. list_after lists xs old.lengths) (same_positions J weight n pieces array Length);
        widths = b.memory.widths ∙ ap (λ xs. list_after lists xs old.widths) (same_positions J weight n pieces array Width);
        table = same_table (first_refusal (staged_checks J limit q old)) (subst (λ v. StagedAfter v N (listed_weight pieces) limit q old.table new.table) same_checks b.memory.table);
      };
    }
