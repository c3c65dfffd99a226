-- What the storage checks decide, a short list, a short table or neither, and how lent storage is then laid out; and what a caller has from
-- either answer.
use Rattle.storage.proofs.Prelude.{◌≡◌, refl, ◌∙◌, ap, ap₂, subst, Bool, true, false, ◌||◌, List, ℕ, ◌+◌, ◌-◌, ◌≤◌, ◌<◌, mul-le-mul, arith, ltb-false, ltb, length, Length, Width, over, Job, normal_positions, positions_some, next, refuse_when, by_check, first_refusal, Refusal, ListShort, TableShort, TableSize, list_after, BothMapped, table_size, cell_words, lists_verdict, storage_verdict, LaidOut, Ok, Err, passed, Checked, Answer, Layout, sym}
use Rattle.refusal.proofs.Results.{before_refuses, before_passes, refused_answer, given_answer, value_answered, refusal_answered}
use Rattle.std.specs.Result.{IsErrAnd}

-- none of two tests passes
or_false : (a b : Bool) → (a || b) ≡ false → (a ≡ false) × (b ≡ false)
or_false true b e = (e, cc)
or_false false b e = (refl, e)

-- a check that passed: its condition does not hold
passed_false : (t : Bool) (r : Refusal) → refuse_when t r ≡ passed → t ≡ false
passed_false true r p = cc
passed_false false r p = refl

-- lists that are long enough
pub lists_long : (m n l w : ℕ) {b : Bool} {a : Checked} → b ≡ (ltb m (l + 1) || ltb n (w + 1)) → a ≡ refuse_when b ListShort → a ≡ passed → (l < m) × (w < n)
lists_long m n l w h e p =
    let f = or_false (ltb m (l + 1)) (ltb n (w + 1)) (sym h ∙ passed_false _ _ (sym e ∙ p)) in
    let a = ltb-false m (l + 1) f.0 in
    let b = ltb-false n (w + 1) f.1 in
    (omega arith, omega arith)

module _ (J : Job) (q per_cell room : ℕ) (lengths widths floors : List ℕ) where
  -- whether a list is short
  abbrev short : Bool
  short = ltb (length lengths) (J.plate.0 + 1) || ltb (length widths) (J.plate.1 + 1)

  -- the check of the lists that refuses decides for both checks
  lists_refuse : {b : Bool} {a : Checked} {x : Refusal} → b ≡ short → a ≡ refuse_when b ListShort → a ≡ Err x
      → (lists_verdict J lengths widths ≡ Err x) × ((n : ℕ) → storage_verdict J n room lengths widths ≡ Err x)
  unfolding first_refusal
  lists_refuse h e i = let k = ap (λ b. refuse_when b ListShort) (sym h) ∙ sym e ∙ i in (before_refuses _ _ k, λ n. before_refuses _ _ k)

  -- and where it passes the room decides
  lists_pass : {b : Bool} {a : Checked} → b ≡ short → a ≡ refuse_when b ListShort → a ≡ passed
      → (lists_verdict J lengths widths ≡ passed) × ((n : ℕ) → storage_verdict J n room lengths widths ≡ next (refuse_when (ltb room n) (TableShort n)) passed)
  unfolding first_refusal
  lists_pass h e i = let k = ap (λ b. refuse_when b ListShort) (sym h) ∙ sym e ∙ i in (before_passes _ _ k, λ n. before_passes _ _ k)

  -- refusal 19, and nothing is changed
  pub lists_short : {b : Bool} {a : Checked} {x : Refusal} {r : Answer Layout} → b ≡ short → a ≡ refuse_when b ListShort → a ≡ Err x → IsErrAnd r (λ y. y ≡ x)
      → LaidOut J q per_cell room lengths widths floors lengths widths floors r
  lists_short h e i p =
      let v = lists_refuse h e i in
      record {
        answer = refused_answer _ _ _ (v.1 (cell_words J per_cell)) p;
        lengths_left = sym (ap (λ v. list_after v (normal_positions J Length) lengths) v.0);
        widths_left = sym (ap (λ v. list_after v (normal_positions J Width) widths) v.0);
        floors_left = subst (λ v. by_check v (BothMapped J floors) (λ r. floors ≡ floors)) (sym (v.1 (cell_words J per_cell))) refl;
      }

  module _ {b : Bool} {a : Checked} (h : b ≡ short) (a_is : a ≡ refuse_when b ListShort) (a_passed : a ≡ passed) {new_lengths new_widths : List ℕ}
      (l : new_lengths ≡ over (normal_positions J Length) lengths) (w : new_widths ≡ over (normal_positions J Width) widths) {n : ℕ} (k : n ≡ cell_words J per_cell) where
    -- the table is short: refusal 20 with the words needed
    pub table_short : {c : Checked} {x : Refusal} {r : Answer Layout} → c ≡ refuse_when (ltb room n) (TableShort n) → c ≡ Err x → IsErrAnd r (λ y. y ≡ x)
        → LaidOut J q per_cell room lengths widths floors new_lengths new_widths floors r
    table_short e i p =
        let v = lists_pass h a_is a_passed in
        let z = v.1 (cell_words J per_cell) ∙ before_refuses _ _ (ap (λ n. refuse_when (ltb room n) (TableShort n)) (sym k) ∙ sym e ∙ i) in
        record {
          answer = refused_answer _ _ _ z p;
          lengths_left = l ∙ sym (ap (λ v. list_after v (normal_positions J Length) lengths) v.0);
          widths_left = w ∙ sym (ap (λ v. list_after v (normal_positions J Width) widths) v.0);
          floors_left = subst (λ v. by_check v (BothMapped J floors) (λ r. floors ≡ floors)) (sym z) refl;
        }

    -- there is room
    pub laid_out : {c : Checked} {size : TableSize} {new_floors : List ℕ} → c ≡ refuse_when (ltb room n) (TableShort n) → c ≡ passed → size ≡ table_size J q → BothMapped J new_floors
        → LaidOut J q per_cell room lengths widths floors new_lengths new_widths new_floors (Ok (record { size = size; words = n }))
    laid_out {new_floors = new_floors} e i s m =
        let v = lists_pass h a_is a_passed in
        let z = v.1 (cell_words J per_cell) ∙ before_passes _ _ (ap (λ n. refuse_when (ltb room n) (TableShort n)) (sym k) ∙ sym e ∙ i) in
        record {
          answer = given_answer _ _ z (ap₂ (λ s n. Ok (record { size = s; words = n })) s k);
          lengths_left = l ∙ sym (ap (λ v. list_after v (normal_positions J Length) lengths) v.0);
          widths_left = w ∙ sym (ap (λ v. list_after v (normal_positions J Width) widths) v.0);
          floors_left = subst (λ v. by_check v (BothMapped J new_floors) (λ r. new_floors ≡ floors)) (sym z) m;
        }

both_passed : (a b : Bool) (r s : Refusal) → next (refuse_when a r) (next (refuse_when b s) passed) ≡ passed → (a ≡ false) × (b ≡ false)
both_passed true b r s e = (cc, cc)
both_passed false true r s e = (refl, cc)
both_passed false false r s e = (refl, refl)

-- both checks passed: so did that of the lists, and there is room
pub verdict_passed : (J : Job) (words room : ℕ) (lengths widths : List ℕ) → storage_verdict J words room lengths widths ≡ passed → (lists_verdict J lengths widths ≡ passed) × (words ≤ room)
unfolding first_refusal
verdict_passed J words room lengths widths e =
    let f = both_passed (ltb (length lengths) (J.plate.0 + 1) || ltb (length widths) (J.plate.1 + 1)) (ltb room words) ListShort (TableShort words) e in
    (rw f.0 refl, ltb-false room words f.1)

-- storage that is laid out: both checks passed, size and words are the job's, there is room, and the lists and the floors of both sides are
-- those of its normal positions
pub record Laid (J : Job) (q per_cell room : ℕ) (lengths widths new_lengths new_widths new_floors : List ℕ) (size : TableSize) (n : ℕ) : Type 0 where
  pub passed : storage_verdict J (cell_words J per_cell) room lengths widths ≡ passed
  pub size_is : size ≡ table_size J q
  pub words_are : n ≡ cell_words J per_cell
  pub room_there : n ≤ room
  pub lengths_hold : new_lengths ≡ over (normal_positions J Length) lengths
  pub widths_hold : new_widths ≡ over (normal_positions J Width) widths
  pub mapped : BothMapped J new_floors

module _ {J : Job} {q per_cell room : ℕ} {lengths widths floors new_lengths new_widths new_floors : List ℕ} {r : Answer Layout} (laid : LaidOut J q per_cell room lengths widths floors new_lengths new_widths new_floors r) where
  -- a refusal is the verdict of both checks
  pub refused_laid : {x : Refusal} → r ≡ Err x → storage_verdict J (cell_words J per_cell) room lengths widths ≡ Err x
  refused_laid e = refusal_answered _ _ (sym laid.answer ∙ e)

  pub ready_laid : {l : Layout} → r ≡ Ok l → Laid J q per_cell room lengths widths new_lengths new_widths new_floors l.size l.words
  ready_laid e =
      let k = value_answered _ _ (sym laid.answer ∙ e) in
      let p = verdict_passed J (cell_words J per_cell) room lengths widths k.0 in
      let w = ap (λ l. l.words) k.1 in
      record {
        passed = k.0;
        size_is = ap (λ l. l.size) k.1;
        words_are = w;
        room_there = omega (arith, w, p.1);
        lengths_hold = laid.lengths_left ∙ ap (λ v. list_after v (normal_positions J Length) lengths) p.0;
        widths_hold = laid.widths_left ∙ ap (λ v. list_after v (normal_positions J Width) widths) p.0;
        mapped = subst (λ v. by_check v (BothMapped J new_floors) (λ r. new_floors ≡ floors)) k.0 laid.floors_left;
      }

  -- there is a last word, and it lies within the room
  pub last_laid : {l : Layout} → r ≡ Ok l → 1 ≤ per_cell → (1 ≤ l.words) × (l.words - 1 < room)
  last_laid e some =
      let k = ready_laid e in
      let c = mul-le-mul (mul-le-mul (positions_some J Length) (positions_some J Width)) some in
      (omega (arith, c, k.words_are), omega (arith, c, k.words_are, k.room_there))
