-- The blocks cell after cell and block after block, and the table when its lists are off.
use Rattle.stage_fill.proofs.Prelude.{◌≡◌, refl, sym, ◌∙◌, ap, ap₂, List, [], ◌∷◌, ℕ, zero, suc, ◌+◌, ◌*◌, ◌/◌, ◌%◌, ◌≤◌, ◌<◌, mul-le-mul_right, mod-lt, div-add-mod', div-lt_iff_lt-mul, arith, leb, length, get_or, drop, Direction, Length, Width, Job, block, positions_some, position_count, position, block_number, staged_words, staged_word, size_job, StagedFillable, StagedBy, block_at, cell_before, words_past, entry_is, block_one, block_number_below, Shape, CellsLent, shape_of, Counted, Bare, Plain, lent_kept, lent_of, one_digit, TableSize, Block, Numbered, block_start, cell_number, Below, BlockLent, BlockMade, StagesLent, StagesMade}

pub stages_kept : {J : Job} {normal_lengths normal_widths floors : List ℕ} {shape : Shape} {limit : ℕ} {old new : List ℕ} → length new ≡ length old → StagesLent J normal_lengths normal_widths floors shape limit old → StagesLent J normal_lengths normal_widths floors shape limit new
stages_kept e w = record { lent = lent_kept e w.lent; counted = w.counted; one_digit = w.one_digit; most = w.most; floors_there = w.floors_there; room = omega (arith, e, w.room) }

-- a block whose number is at most twice the limit
pub stage_block : {J : Job} {normal_lengths normal_widths floors : List ℕ} {shape : Shape} {limit : ℕ} {xs : List ℕ} (block : Block) → Numbered block → block_number block.stage block.first ≤ 2 * limit → StagesLent J normal_lengths normal_widths floors shape limit xs → BlockLent J normal_lengths normal_widths floors shape block xs
stage_block {shape = shape} {limit = limit} block numbered h w = record {
  lent = w.lent;
  counted = w.counted;
  one_digit = w.one_digit;
  numbered = numbered;
  floors_there = w.floors_there;
  room = omega (
    arith,
    w.room,
    mul-le-mul_right {m = (block_number block.stage block.first + 1) * (shape.length_count * shape.columns)} {n = (2 * limit + 1) * (shape.length_count * shape.columns)} shape.words
        (mul-le-mul_right {m = block_number block.stage block.first + 1} {n = 2 * limit + 1} (shape.length_count * shape.columns) (omega arith)),
  );
}

-- a block so far
pub record InBlock (J : Job) (own : ℕ → ℕ) (normal_lengths normal_widths : List ℕ) (shape : Shape) (block : Block) (i flat : ℕ) (old new : List ℕ) : Type 0 where
  pub inside : i ≤ shape.length_count * shape.columns
  pub same : length new ≡ length old
  pub below : Below J own normal_lengths normal_widths shape.words (block_start shape block + i) flat new
  pub rest : (j : ℕ) → (block_start shape block + shape.length_count * shape.columns) * shape.words ≤ j → get_or new j 0 ≡ get_or old j 0

pub block_begins : {J : Job} {own : ℕ → ℕ} {normal_lengths normal_widths : List ℕ} {shape : Shape} {block : Block} {flat : ℕ} {xs : List ℕ} → Below J own normal_lengths normal_widths shape.words (block_start shape block) flat xs → InBlock J own normal_lengths normal_widths shape block 0 flat xs xs
block_begins {shape = shape} {block = block} b = let e : block_start shape block + 0 ≡ block_start shape block = omega arith in record { inside = omega arith; same = refl; below = rw e b; rest = λ j h. refl }

pub block_more : {J : Job} {own : ℕ → ℕ} {normal_lengths normal_widths : List ℕ} {shape : Shape} {block : Block} {i flat next : ℕ} {old mid new : List ℕ} → InBlock J own normal_lengths normal_widths shape block i flat old mid → i < shape.length_count * shape.columns → length new ≡ length mid
    → BlockMade J own normal_lengths normal_widths shape (block_start shape block + i + 1) next mid new → InBlock J own normal_lengths normal_widths shape block (i + 1) next old new
block_more {shape = shape} {block = block} {i = i} w h e m =
    let z : block_start shape block + i + 1 ≡ block_start shape block + (i + 1) = omega arith in
    record {
      inside = omega arith;
      same = e ∙ w.same;
      below = rw z at m.cells;
      rest = λ j l. m.rest j (omega (arith, mul-le-mul_right {m = block_start shape block + i + 1} {n = block_start shape block + shape.length_count * shape.columns} shape.words (omega arith))) ∙ w.rest j l;
    }

pub block_ends : {J : Job} {own : ℕ → ℕ} {normal_lengths normal_widths : List ℕ} {shape : Shape} {block : Block} {i flat : ℕ} {old new : List ℕ} → InBlock J own normal_lengths normal_widths shape block i flat old new → shape.length_count * shape.columns ≤ i
    → BlockMade J own normal_lengths normal_widths shape (block_start shape block + shape.length_count * shape.columns) flat old new
block_ends {shape = shape} {i = i} w h = let e : i ≡ shape.length_count * shape.columns = omega (arith, w.inside) in record { cells = rw e at w.below; rest = w.rest }

-- more blocks after those that are made
pub made_then : {J : Job} {own : ℕ → ℕ} {normal_lengths normal_widths : List ℕ} {shape : Shape} {m n flat next : ℕ} {old mid new : List ℕ} → m ≤ n → BlockMade J own normal_lengths normal_widths shape m flat old mid → BlockMade J own normal_lengths normal_widths shape n next mid new
    → BlockMade J own normal_lengths normal_widths shape n next old new
made_then {shape = shape} {m = m} {n = n} h p q = record { cells = q.cells; rest = λ j l. q.rest j l ∙ p.rest j (omega (arith, mul-le-mul_right {m = m} {n = n} shape.words h)) }

-- every number is that of a block
numbered : (n : ℕ) → (k : ℕ) × (d : Direction) × (block_number k d ≡ n) × (d ≡ Length → 1 ≤ k)
numbered zero = (0, Width, refl, λ e. apart e)
  where
    apart : Width ≡ Length → 1 ≤ 0
    apart e = absurd (let z : ◌≡◌ {A = ℕ} 0 1 = cc in let w : ⊥ = omega arith in w)
numbered (suc n) = let z = numbered n in go z.0 z.1 z.2 z.3
  where
    go : (k : ℕ) (d : Direction) → block_number k d ≡ n → (d ≡ Length → 1 ≤ k) → (k : ℕ) × (d : Direction) × (block_number k d ≡ suc n) × (d ≡ Length → 1 ≤ k)
    go k Length e h = let l = h refl in (k, Width, omega arith, λ z. l)
    go k Width e h = (k + 1, Length, omega arith, λ z. omega arith)

module _ {J : Job} {own : ℕ → ℕ} {normal_lengths normal_widths floors : List ℕ} {shape : Shape} {limit : ℕ} {t0 t1 : List ℕ} (q : ℕ) (lent : StagesLent J normal_lengths normal_widths floors shape limit t0) (states : shape.words ≡ q + 1)
    (made : StagesMade J own normal_lengths normal_widths shape limit t0 t1) where
  abbrev p : ℕ
  p = position_count J Length

  abbrev r : ℕ
  r = position_count J Width

  abbrev all : ℕ
  all = (2 * limit + 1) * (shape.length_count * shape.columns)

  cells_are : shape.length_count * shape.columns ≡ p * r
  cells_are = ap₂ (λ x y. x * y) lent.counted.lengths lent.counted.widths

  -- every cell's list ends
  pub all_bare : Bare all shape.words t1
  all_bare i j k h l m z =
      let some : 1 ≤ r = positions_some J Width in
      let full : 1 ≤ p * r = omega (arith, cell_before 0 p r (positions_some J Length)) in
      let n = i / (p * r) in
      let c = i % (p * r) in
      let b = numbered n in
      let a : c / r < p = (div-lt_iff_lt-mul {k = r} {x = c} {y = p} some).1 (mod-lt i {m = p * r} full) in
      let e : cell_number J b.0 b.1 (c / r) (c % r) ≡ i = ap₂ (λ x y. x * (p * r) + y) b.2 (div-add-mod' c r) ∙ div-add-mod' i (p * r) in
      rw e at ((made.1.cells.made b.0 b.1 (c / r) (c % r) a (mod-lt c {m = r} some) (omega (arith, e))).ended j k l m (rw e z))

  module _ {t2 : List ℕ} (off : Plain all shape.words t1 t2) (same : length t2 ≡ length t0) where
    words_are : staged_words J q limit ≡ all * shape.words
    words_are = rw (states, cells_are) (omega arith)

    figure : (k : ℕ) (d : Direction) (a b c : ℕ) → k ≤ limit → a < p → b < r → c < q + 1 → get_or t2 (staged_word J q k d a b c) 0 ≡ block J own k d (position J Length a) (position J Width b) c
    figure k d a b c hk ha hb hc =
        let at : cell_number J k d a b * shape.words + c ≡ staged_word J q k d a b c = rw states (omega arith) in
        let low : cell_number J k d a b < all = rw cells_are (omega (arith, cell_before a p r ha, cell_before (block_number k d) (2 * limit + 1) (p * r) (block_number_below limit k d hk))) in
        let on : c < shape.words = omega arith in
        ap (λ i. get_or t2 i 0) (sym at) ∙ off.plain (cell_number J k d a b) c low on
        ∙ ((made.1.cells.made k d a b ha hb low).figures c on
        ∙ (ap₂ (λ x y. block_at J leb own k d x y c) (entry_is J Length p normal_lengths floors lent.lent.range lent.lent.lengths a ha) (entry_is J Width r normal_widths (drop 1021 floors) lent.lent.range lent.lent.widths b hb)
        ∙ block_one J own k d (position J Length a) (position J Width b) c))

    -- the table holds the figures of every block
    pub staged_filled : StagedBy J own limit q t0 t2
    staged_filled = (figure, words_past (staged_words J q limit) t0 t2 same (λ i h. off.rest i (omega (arith, words_are)) ∙ made.1.rest i (omega (arith, words_are))))

-- what the blocks are lent
module _ {size : TableSize} {limit : ℕ} {pieces normal_lengths normal_widths floors xs : List ℕ} (asked : StagedFillable size limit pieces normal_lengths normal_widths floors xs) where
  staged_lent : CellsLent (size_job size pieces) normal_lengths floors normal_widths (drop 1021 floors) ((size.capacity + 1) ∷ []) 0 (size.capacity + 1) xs
      × Counted (size_job size pieces) (size.capacity + 1) size.rows size.columns (size.columns * (size.capacity + 1))
  staged_lent =
      let f = asked.fillable in
      lent_of f.in_range (one_digit (size.capacity + 1) (omega arith) (omega (arith, f.most))) f.lengths f.widths f.room refl

  pub staged_room : (2 * limit + 1) * (size.rows * size.columns) * (size.capacity + 1) ≤ length xs
  staged_room = rw (staged_lent.1.lengths, staged_lent.1.widths) (omega (arith, asked.all))

  -- for the shape of that size
  pub stages_lent : StagesLent (size_job size pieces) normal_lengths normal_widths floors (shape_of size 0 (size.capacity + 1)) limit xs
  stages_lent = record {
    lent = staged_lent.0;
    counted = staged_lent.1;
    one_digit = refl;
    most = asked.within.1;
    floors_there = asked.fillable.floors_there;
    room = staged_room;
  }
