-- Laws of words that take values where those are more: none offered, one, and those of two steps together; and of each loop's values,
-- one more.
use Rattle.row_fill.proofs.Prelude.{◌≡◌, refl, sym, ◌∙◌, ap, ap₂, List, ◌⊎◌, inl, inr, ⊎_elim, ℕ, ◌+◌, ◌-◌, ◌*◌, ◌≤◌, ◌<◌, min, max, ℕ_discrete, dec_le, arith, length, get_or, set, get_or-set_same, get_or-set_other, remainder, cell_before, size_in, price_in, listed_weight, Raised, Single, Sums, LengthCuts, Alone, Pieces, Pushed, CellPush, LengthsTaken, ceiling, SumsReady, LengthsReady}

pub raised_none : {A : ℕ → ℕ → Type 0} {xs : List ℕ} → ((i v : ℕ) → A i v → ⊥) → Raised A xs xs
raised_none e = record { grown = λ i. omega arith; low = λ i b f h. h; taken = λ i v a. absurd (e i v a) }

-- the greater of a word and a value is stored
pub raised_max : (x v u : ℕ) (xs : List ℕ) → x < length xs → u ≡ max (get_or xs x 0) v → Raised (Single x v) xs (set xs x u)
raised_max x v u xs l h = record { grown = λ i. grown i (ℕ_discrete i x); low = λ i b f k. low i b f k (ℕ_discrete i x); taken = λ i w s. rw s.0 (omega (arith, same, s.1)) }
  where
    same : get_or (set xs x u) x 0 ≡ u
    same = get_or-set_same xs x u 0 l

    grown : (i : ℕ) → Dec (i ≡ x) → get_or xs i 0 ≤ get_or (set xs x u) i 0
    grown i (yes e) = rw e (omega (arith, same))
    grown i (no e) = omega (arith, get_or-set_other xs x i u 0 e)

    low : (i b : ℕ) → ((w : ℕ) → Single x v i w → w ≤ b) → get_or xs i 0 ≤ b → Dec (i ≡ x) → get_or (set xs x u) i 0 ≤ b
    low i b f k (yes e) = let m : v ≤ b = f v (e, refl) in rw e (omega (arith, same, rw e at k))
    low i b f k (no e) = omega (arith, get_or-set_other xs x i u 0 e)

-- the same, where the value was computed lifted by 2^63
pub raised_lifted : (x v w u : ℕ) (xs : List ℕ) → x < length xs → u ≡ max (get_or xs x 0) (v + 9223372036854775808 + w - 9223372036854775808) → Raised (Single x (v + w)) xs (set xs x u)
raised_lifted x v w u xs l h = let e : v + 9223372036854775808 + w - 9223372036854775808 ≡ v + w = omega arith in raised_max x (v + w) u xs l (rw e at h)

-- a value that is more is stored
pub raised_set : (x v : ℕ) (xs : List ℕ) → x < length xs → get_or xs x 0 ≤ v → Raised (Single x v) xs (set xs x v)
raised_set x v xs l h = raised_max x v v xs l (omega arith)

-- a value that is not more is not stored
pub raised_keep : (x v : ℕ) (xs : List ℕ) → v ≤ get_or xs x 0 → Raised (Single x v) xs xs
raised_keep x v xs h = record { grown = λ i. omega arith; low = λ i b f k. k; taken = λ i u s. rw s.0 (omega (arith, s.1)) }

-- two steps
pub raised_more : {A B C : ℕ → ℕ → Type 0} {old mid new : List ℕ} → ((i v : ℕ) → A i v → C i v) → ((i v : ℕ) → B i v → C i v) → ((i v : ℕ) → C i v → A i v ⊎ B i v)
    → Raised A old mid → Raised B mid new → Raised C old new
raised_more f g h p q = record {
  grown = λ i. omega (arith, p.grown i, q.grown i);
  low = λ i b s l. q.low i b (λ v t. s v (g i v t)) (p.low i b (λ v t. s v (f i v t)) l);
  taken = λ i v c. ⊎_elim (λ a. omega (arith, p.taken i v a, q.grown i)) (λ b. q.taken i v b) (h i v c);
}

-- the same values, offered another way
pub raised_cong : {A C : ℕ → ℕ → Type 0} {old new : List ℕ} → ((i v : ℕ) → A i v → C i v) → ((i v : ℕ) → C i v → A i v) → Raised A old new → Raised C old new
raised_cong f g p = record { grown = p.grown; low = λ i b s l. p.low i b (λ v t. s v (f i v t)) l; taken = λ i v c. p.taken i v (g i v c) }

-- a word to which nothing is offered is as it was
pub raised_same : {A : ℕ → ℕ → Type 0} {old new : List ℕ} → Raised A old new → (i : ℕ) → ((v : ℕ) → A i v → ⊥) → get_or new i 0 ≡ get_or old i 0
raised_same {old = old} p i e = omega (arith, p.grown i, p.low i (get_or old i 0) (λ v a. absurd (e v a)) (omega arith))

module _ {target first second j : ℕ} {old mid : List ℕ} (p : Raised (Sums old target first second j) old mid) where
  -- the words before the row are as they were
  pub sums_same : (i : ℕ) → i < target → get_or mid i 0 ≡ get_or old i 0
  sums_same i h = raised_same p i (λ v s. omega (arith, s.place))

  -- one sum more
  pub sums_next : {new : List ℕ} → first + j < target → second + j < target → Raised (Single (target + j) (get_or mid (first + j) 0 + get_or mid (second + j) 0)) mid new
      → Raised (Sums old target first second (j + 1)) old new
  sums_next hx hy q = raised_more
      (λ i v s. record { index = s.index; inside = omega (arith, s.inside); place = s.place; value = s.value })
      (λ i v s. record { index = j; inside = omega arith; place = s.0; value = s.1 ∙ same })
      (λ i v s. last i v s (ℕ_discrete s.index j)) p q
    where
      same : get_or mid (first + j) 0 + get_or mid (second + j) 0 ≡ get_or old (first + j) 0 + get_or old (second + j) 0
      same = ap₂ (λ a b. a + b) (sums_same (first + j) hx) (sums_same (second + j) hy)

      last : (i v : ℕ) (s : Sums old target first second (j + 1) i v) → Dec (s.index ≡ j) → Sums old target first second j i v ⊎ Single (target + j) (get_or mid (first + j) 0 + get_or mid (second + j) 0) i v
      last i v s (yes e) = inr (s.place ∙ ap (λ j. target + j) e, s.value ∙ ap (λ j. get_or old (first + j) 0 + get_or old (second + j) 0) e ∙ sym same)
      last i v s (no e) = inl (record { index = s.index; inside = omega (arith, s.inside); place = s.place; value = s.value })

module _ {x least v j : ℕ} {old mid : List ℕ} (p : Raised (Pushed old x least j v) old mid) where
  -- the units up to x are as they were
  pub push_same : 1 ≤ least → (i : ℕ) → i ≤ x → get_or mid i 0 ≡ get_or old i 0
  push_same h i l = raised_same p i (λ u s. omega (arith, s.place, s.from))

  -- one unit more
  pub push_next : {new : List ℕ} → 1 ≤ least → least ≤ j → j ≤ x → Raised (Single (x + j) (v + get_or mid j 0)) mid new → Raised (Pushed old x least (j + 1) v) old new
  push_next h l m q = raised_more
      (λ i u s. record { index = s.index; from = s.from; to = omega (arith, s.to); place = s.place; value = s.value })
      (λ i u s. record { index = j; from = l; to = omega arith; place = s.0; value = s.1 ∙ ap (λ a. v + a) same })
      (λ i u s. last i u s (ℕ_discrete s.index j)) p q
    where
      same : get_or mid j 0 ≡ get_or old j 0
      same = push_same h j m

      last : (i u : ℕ) (s : Pushed old x least (j + 1) v i u) → Dec (s.index ≡ j) → Pushed old x least j v i u ⊎ Single (x + j) (v + get_or mid j 0) i u
      last i u s (yes e) = inr (s.place ∙ ap (λ j. x + j) e, s.value ∙ ap (λ j. v + get_or old j 0) e ∙ sym (ap (λ a. v + a) same))
      last i u s (no e) = inl (record { index = s.index; from = s.from; to = omega (arith, s.to); place = s.place; value = s.value })

  -- the loop past its last unit
  pub push_end : {end : ℕ} → end ≤ j → (end < j → j ≤ least) → Raised (Pushed old x least end v) old mid
  push_end {end} h l = raised_cong
      (λ i u s. record { index = s.index; from = s.from; to = below s (dec_le end s.index); place = s.place; value = s.value })
      (λ i u s. record { index = s.index; from = s.from; to = omega (arith, s.to); place = s.place; value = s.value }) p
    where
      below : {i u : ℕ} (s : Pushed old x least j v i u) → Dec (end ≤ s.index) → s.index < end
      below s (yes q) = absurd (omega (arith, s.from, s.to, l (omega (arith, s.to))))
      below s (no q) = omega arith

-- a cell that does not rise over the one before takes its word
pub cell_flat : (x least side before : ℕ) (xs : List ℕ) → x < length xs → get_or xs x 0 ≤ before → Raised (CellPush xs x least side before) xs (set xs x before)
cell_flat x least side before xs l h = raised_cong (λ i v s. inl s) (λ i v s. ⊎_elim (λ t. t) (λ t. absurd (omega (arith, t.0))) s) (raised_set x before xs l h)

-- one that rises pushes
pub cell_rises : (x least side before : ℕ) (old new : List ℕ) → before < get_or old x 0
    → Raised (Pushed old x least (min x (side - x) + 1) (get_or old x 0)) old new → Raised (CellPush old x least side before) old new
cell_rises x least side before old new h p = raised_more (λ i v s. inl s) (λ i v s. inr (h, s)) (λ i v s. ⊎_elim (λ t. inl t) (λ t. inr t.1) s) (raised_keep x before old (omega arith)) p

-- a piece that is placed
pub piece_placed : {l w piece_length piece_width weight price : ℕ} {old new : List ℕ} → piece_length ≡ l → piece_width ≤ w → weight ≡ 0
    → Raised (Single piece_width price) old new → Raised (Alone l w piece_length piece_width weight price) old new
piece_placed a b c p = raised_cong (λ i v s. record { long = a; fits = b; light = c; place = s.0; value = s.1 }) (λ i v k. (k.place, k.value)) p

-- one piece more
pub pieces_next : {l w j : ℕ} {pieces old mid new : List ℕ} → Raised (Pieces l w pieces j) old mid
    → Raised (Alone l w (size_in pieces j).0 (size_in pieces j).1 (listed_weight pieces j) (price_in pieces j)) mid new → Raised (Pieces l w pieces (j + 1)) old new
pieces_next {l} {w} {j} {pieces} p q = raised_more
    (λ i v s. record { index = s.index; inside = omega (arith, s.inside); alone = s.alone }) (λ i v s. record { index = j; inside = omega arith; alone = s }) (λ i v s. last i v s (ℕ_discrete s.index j)) p q
  where
    last : (i v : ℕ) (s : Pieces l w pieces (j + 1) i v) → Dec (s.index ≡ j)
        → Pieces l w pieces j i v ⊎ Alone l w (size_in pieces j).0 (size_in pieces j).1 (listed_weight pieces j) (price_in pieces j) i v
    last i v s (yes e) = inr (rw e at s.alone)
    last i v s (no e) = inl (record { index = s.index; inside = omega (arith, s.inside); alone = s.alone })

-- no length cut yet
pub cuts_none : {a base start columns : ℕ} {normal_lengths length_floors xs : List ℕ} → Raised (LengthCuts xs normal_lengths length_floors a 1 base start columns) xs xs
cuts_none = raised_none (λ i v s. omega (arith, s.from, s.to))

module _ {a i base start columns : ℕ} {normal_lengths length_floors old mid : List ℕ} (p : Raised (LengthCuts old normal_lengths length_floors a i base start columns) old mid) where
  -- the words before the row are as they were
  pub cuts_same : (j : ℕ) → j < start → get_or mid j 0 ≡ get_or old j 0
  cuts_same j h = raised_same p j (λ v s. omega (arith, s.sums.place))

  -- a cut at entry i
  wider : (j v : ℕ) → LengthCuts old normal_lengths length_floors a i base start columns j v → LengthCuts old normal_lengths length_floors a (i + 1) base start columns j v
  wider j v s = record { part = s.part; from = s.from; to = omega (arith, s.to); exact = s.exact; sums = s.sums }

  -- one cut more whose parts make up the whole
  pub cuts_next : {y : ℕ} {new : List ℕ} → 1 ≤ i → i < a → y ≡ remainder normal_lengths length_floors a i → y < a → start ≡ base + a * columns → get_or normal_lengths i 0 + get_or normal_lengths y 0 ≡ get_or normal_lengths a 0
      → Raised (Sums mid start (base + i * columns) (base + y * columns) columns) mid new → Raised (LengthCuts old normal_lengths length_floors a (i + 1) base start columns) old new
  cuts_next {y} hi ha e hy f exact q = raised_more wider
      (λ j v s.
      (let t : Sums old start (base + i * columns) (base + y * columns) columns j v = record { index = s.index; inside = s.inside; place = s.place; value = s.value ∙ same s.index s.inside } in
      record { part = i; from = hi; to = omega arith; exact = rw e at exact; sums = rw e at t }))
      (λ j v s. last j v s (ℕ_discrete s.part i)) p q
    where
      same : (j : ℕ) → j < columns → get_or mid (base + i * columns + j) 0 + get_or mid (base + y * columns + j) 0 ≡ get_or old (base + i * columns + j) 0 + get_or old (base + y * columns + j) 0
      same j h = ap₂ (λ a b. a + b) (cuts_same (base + i * columns + j) (omega (arith, cell_before i a columns ha))) (cuts_same (base + y * columns + j) (omega (arith, cell_before y a columns hy)))

      last : (j v : ℕ) (s : LengthCuts old normal_lengths length_floors a (i + 1) base start columns j v) → Dec (s.part ≡ i)
          → LengthCuts old normal_lengths length_floors a i base start columns j v ⊎ Sums mid start (base + i * columns) (base + y * columns) columns j v
      last j v s (no n) = inl (record { part = s.part; from = s.from; to = omega (arith, s.to); exact = s.exact; sums = s.sums })
      last j v s (yes n) = inr (let t : Sums old start (base + i * columns) (base + y * columns) columns j v = rw e (rw n at s.sums) in record { index = t.index; inside = t.inside; place = t.place; value = t.value ∙ sym (same t.index t.inside) })

  -- one whose parts do not
  pub cuts_pass : (get_or normal_lengths i 0 + get_or normal_lengths (remainder normal_lengths length_floors a i) 0 ≡ get_or normal_lengths a 0 → ⊥)
      → Raised (LengthCuts old normal_lengths length_floors a (i + 1) base start columns) old mid
  cuts_pass n = raised_cong wider (λ j v s. last j v s (ℕ_discrete s.part i)) p
    where
      last : (j v : ℕ) (s : LengthCuts old normal_lengths length_floors a (i + 1) base start columns j v) → Dec (s.part ≡ i) → LengthCuts old normal_lengths length_floors a i base start columns j v
      last j v s (yes e) = absurd (n (rw e at s.exact))
      last j v s (no e) = record { part = s.part; from = s.from; to = omega (arith, s.to); exact = s.exact; sums = s.sums }

-- a row that takes its length cuts
module _ {normal_lengths length_floors : List ℕ} {a half_end base start columns : ℕ} {old : List ℕ} (ready : LengthsReady normal_lengths length_floors a half_end base start columns old) where
  abbrev other : ℕ → ℕ
  other i = remainder normal_lengths length_floors a i

  -- a cut whose parts make up the whole
  abbrev Exact : ℕ → Type 0
  Exact i = get_or normal_lengths i 0 + get_or normal_lengths (other i) 0 ≡ get_or normal_lengths a 0

  earlier : (i : ℕ) → 1 ≤ i → i < half_end → (i < a) × (other i < a)
  earlier i l m = (omega (arith, ready.cuts.most), ready.cuts.earlier i l m)

  -- the words of an earlier row end where this row begins or before
  pub row_before : (i : ℕ) → i < a → base + i * columns + columns ≤ start
  row_before i h = omega (arith, ready.place, cell_before i a columns h)

  module _ {i : ℕ} {new : List ℕ} (raised : Raised (LengthCuts old normal_lengths length_floors a i base start columns) old new) where
    -- after some cuts, the sums of one more can be taken
    pub sums_ready : {y : ℕ} → length new ≡ length old → 1 ≤ i → i < half_end → y < a → SumsReady new start (base + i * columns) (base + y * columns) columns
    sums_ready {y} same l m h = record {
      first_before = row_before i (earlier i l m).0;
      second_before = row_before y h;
      room = omega (arith, ready.room);
      first_low = low i (earlier i l m).0;
      second_low = low y h;
      target_low = λ j k. raised.low (start + j) (2 * ceiling) (λ v s. offered v s) (omega (arith, rw (← ready.place) at (ready.rows_low a j (omega arith) k)));
    }
      where
        low : (q : ℕ) → q < a → (j : ℕ) → j < columns → get_or new (base + q * columns + j) 0 ≤ ceiling
        low q h j k = omega (arith, cuts_same raised (base + q * columns + j) (omega (arith, row_before q h)), ready.rows_low q j (omega arith) k)

        offered : {j : ℕ} (v : ℕ) → LengthCuts old normal_lengths length_floors a i base start columns j v → v ≤ 2 * ceiling
        offered v s =
            let q = earlier s.part s.from (omega (arith, s.to)) in
            omega (arith, s.sums.value, ready.rows_low s.part s.sums.index (omega (arith, q.0)) s.sums.inside, ready.rows_low (other s.part) s.sums.index (omega (arith, q.1)) s.sums.inside)

  -- after all of them
  pub lengths_taken : {new : List ℕ} → Raised (LengthCuts old normal_lengths length_floors a half_end base start columns) old new → LengthsTaken normal_lengths length_floors a half_end base start columns old new
  lengths_taken raised = record {
    grown = λ b h. raised.grown (start + b);
    sums = λ i b l m h e. raised.taken (start + b) (sum i b) (record { part = i; from = l; to = m; exact = e; sums = record { index = b; inside = h; place = refl; value = refl } });
    low = λ b bound h k f. raised.low (start + b) bound (λ v s. below b bound h f v s) k;
    rest = record { before = λ i h. raised_same raised i (λ v s. omega (arith, s.sums.place)); after = λ i h. raised_same raised i (λ v s. omega (arith, s.sums.place, s.sums.inside)) };
  }
    where
      sum : ℕ → ℕ → ℕ
      sum i b = get_or old (base + i * columns + b) 0 + get_or old (base + other i * columns + b) 0

      below : (b bound : ℕ) → b < columns → ((i : ℕ) → 1 ≤ i → i < half_end → Exact i → sum i b ≤ bound)
          → (v : ℕ) → LengthCuts old normal_lengths length_floors a half_end base start columns (start + b) v → v ≤ bound
      below b bound h f v s =
          let e : s.sums.index ≡ b = omega (arith, s.sums.place) in
          omega (arith, s.sums.value, ap (λ b. sum s.part b) e, f s.part s.from s.to s.exact)
