-- Raising word after word, or block after block of the last digit: what is done below x, and what is left from there on.
use Rattle.states.proofs.Prelude.{◌≡◌, refl, ◌∙◌, ap, inl, inr, Bool, false, ◌&&◌, List, ℕ, zero, suc, ◌+◌, ◌-◌, ◌*◌, ◌/◌, ◌%◌, ◌≤◌, ◌<◌, mod-lt, div-add-mod', mul-le-mul_right, dec_le, arith, T, leb, le→leb, length, get_or, le-leb, lt-leb, Outside, below, Blocks, figure_in, held, under, Rises, Growing, Lift, Lifted}
use Rattle.states.proofs.Digits.{quotient, rest, lower_blocks, below_less, below_parts, parts_below}

-- the words below x are raised, and those from x on are as they were
pub record Partly (le : ℕ → ℕ → Bool) (at m t v x : ℕ) (old new : List ℕ) : Type 0 where
  pub done : (s : ℕ) → s < m → s < x → Lift le t v s (get_or old (at + s) 0) (get_or new (at + s) 0)
  pub left : (s : ℕ) → s < m → x ≤ s → get_or new (at + s) 0 ≡ get_or old (at + s) 0
  pub rest : Outside at (at + m) old new

module _ (le : ℕ → ℕ → Bool) (at m t v : ℕ) where
  -- no word below x is of a state from t on
  pub partly_first : (x : ℕ) (xs : List ℕ) → ((s : ℕ) → s < m → s < x → T (le t s) → ⊥) → Partly le at m t v x xs xs
  partly_first x xs h = record {
    done = λ s l k. inl (refl, λ u. absurd (h s l k u));
    left = λ s l k. refl;
    rest = record { before = λ i l. refl; after = λ i l. refl };
  }

  -- nothing is left to raise
  pub partly_stop : (x : ℕ) (old new : List ℕ) → ((s : ℕ) → s < m → x ≤ s → T (le t s) → v ≤ held old at s) → Partly le at m t v x old new → Lifted le at m t v old new
  partly_stop x old new h p = record {
    lifts = λ s l. go s l (dec_le x s);
    rest = p.rest;
  }
    where
      go : (s : ℕ) → s < m → Dec (x ≤ s) → Lift le t v s (get_or old (at + s) 0) (get_or new (at + s) 0)
      go s l (yes k) = inl (p.left s l k, h s l k)
      go s l (no k) = p.done s l (omega arith)

  pub partly_all : (x : ℕ) (old new : List ℕ) → m ≤ x → Partly le at m t v x old new → Lifted le at m t v old new
  partly_all x old new h p = partly_stop x old new (λ s l k u. absurd (omega arith)) p

-- one digit: the figures from the first that is not less are not less
pub word_stop : (at m t v j : ℕ) (old xs : List ℕ) → Rises leb m (held old at) → j < m → v ≤ figure_in (get_or xs (at + j) 0) → Partly leb at m t v j old xs → Lifted leb at m t v old xs
word_stop at m t v j old xs rises h f p =
    partly_stop leb at m t v j old xs (λ s l k u. omega (arith, ap figure_in (p.left j h (omega arith)), rises j s l (le→leb j s k))) p

module _ (blocks : List ℕ) where
  -- a comparison of one digit
  pub below_zero : (t s : ℕ) → under blocks 0 t s ≡ leb t s
  unfolding below
  below_zero t s = refl

  -- the last digit compared, and the rest of the comparison
  pub below_digit : (e t s b : ℕ) → 1 ≤ e → b ≡ get_or blocks (e - 1) 0 → t / b ≤ s / b → under blocks e t s ≡ under blocks (e - 1) (t % b) (s % b)
  unfolding below
  below_digit zero t s b h e l = absurd (omega arith)
  below_digit (suc e) t s b h f l = let k : suc e - 1 ≡ e = omega arith in rw (f, k) (ap (λ x. x && under blocks e (t % get_or blocks e 0) (s % get_or blocks e 0)) (le-leb (t / get_or blocks e 0) (s / get_or blocks e 0) (rw (f, k) at l)))

  pub below_not : (e t s b : ℕ) → 1 ≤ e → b ≡ get_or blocks (e - 1) 0 → s / b < t / b → under blocks e t s ≡ false
  unfolding below
  below_not zero t s b h e l = absurd (omega arith)
  below_not (suc e) t s b h f l = let k : suc e - 1 ≡ e = omega arith in ap (λ x. x && under blocks e (t % get_or blocks e 0) (s % get_or blocks e 0)) (lt-leb (t / get_or blocks e 0) (s / get_or blocks e 0) (rw (f, k) at l))

-- several digits: a block of the last digit lies whole before the end
pub block_room : (size end j k : ℕ) → end ≡ k * size → j * size < end → j * size + size ≤ end
block_room size end j k e h = go (dec_le k j)
  where
    go : Dec (k ≤ j) → j * size + size ≤ end
    go (yes l) = absurd (omega (arith, mul-le-mul_right {m = k} {n = j} size l))
    go (no l) = omega (arith, mul-le-mul_right {m = j + 1} {n = k} size (omega arith))

-- the blocks of the last digit before the one from x on are raised
pub record Blockwise (blocks : List ℕ) (d at t v x : ℕ) (old new : List ℕ) : Type 0 where
  pub passed : (j : ℕ) × (x ≡ j * get_or blocks (d - 1) 0) × (t / get_or blocks (d - 1) 0 ≤ j)
  pub partly : Partly (under blocks d) at (get_or blocks d 0) t v x old new

module _ (blocks : List ℕ) (e at t v : ℕ) (digits : Blocks (λ i. get_or blocks i 0) (suc e)) where
  abbrev size : ℕ
  size = get_or blocks e 0

  some : 1 ≤ size
  some = digits.some e (omega arith)

  -- a state of the j-th block
  in_block : (j s : ℕ) → j * size ≤ s → s < j * size + size → (s / size ≡ j) × (s % size ≡ s - j * size)
  in_block j s h l = (quotient s size j (s - j * size) (omega arith) (omega arith), rest s size j (s - j * size) (omega arith) (omega arith))

  -- the word that is looked at is below all that are left
  least_below : (j s : ℕ) → j * size ≤ s → T (under blocks (suc e) t s) → T (under blocks (suc e) (j * size + t % size) s)
  least_below j s h u =
      let p = below_parts (λ i. get_or blocks i 0) e t s u in
      let m = mod-lt t {m = size} some in
      parts_below (λ i. get_or blocks i 0) e (j * size + t % size) s
      (omega (arith, quotient (j * size + t % size) size j (t % size) (omega arith) m, quotient_le j s h))
      (rw (rest (j * size + t % size) size j (t % size) (omega arith) m) p.1)
    where
      quotient_le : (j s : ℕ) → j * size ≤ s → j ≤ s / size
      quotient_le j s h = go (dec_le j (s / size))
        where
          go : Dec (j ≤ s / size) → j ≤ s / size
          go (yes l) = l
          go (no l) = absurd (omega (arith, mul-le-mul_right {m = s / size + 1} {n = j} size (omega arith), div-add-mod' s size, mod-lt s {m = size} some))

  -- no state before the first block is from t on
  pub up_first : (xs : List ℕ) → Partly (under blocks (suc e)) at (get_or blocks (suc e) 0) t v (t / size * size) xs xs
  up_first xs = partly_first (under blocks (suc e)) at (get_or blocks (suc e) 0) t v (t / size * size) xs
      (λ s l k u. omega (arith, mul-le-mul_right {m = t / size} {n = s / size} size (below_parts (λ i. get_or blocks i 0) e t s u).0, div-add-mod' s size))

  pub up_stop : (j : ℕ) (old xs : List ℕ) → Rises (under blocks (suc e)) (get_or blocks (suc e) 0) (held old at) → j * size + size ≤ get_or blocks (suc e) 0
      → v ≤ held xs at (j * size + t % size) → Partly (under blocks (suc e)) at (get_or blocks (suc e) 0) t v (j * size) old xs → Lifted (under blocks (suc e)) at (get_or blocks (suc e) 0) t v old xs
  up_stop j old xs rises room h p = partly_stop (under blocks (suc e)) at (get_or blocks (suc e) 0) t v (j * size) old xs
      (λ s l k u. omega (arith, ap figure_in (p.left (j * size + t % size) (omega (arith, mod-lt t {m = size} some)) (omega arith)), rises (j * size + t % size) s l (least_below j s k u))) p

  -- in a block, figures rise with the states of the digits before
  pub up_inner : (j : ℕ) (old xs : List ℕ) → Rises (under blocks (suc e)) (get_or blocks (suc e) 0) (held old at) → j * size + size ≤ get_or blocks (suc e) 0
      → Partly (under blocks (suc e)) at (get_or blocks (suc e) 0) t v (j * size) old xs → Rises (under blocks e) size (held xs (at + j * size))
  up_inner j old xs rises room p u s h k =
      let l = below_less (λ i. get_or blocks i 0) e u s k in
      let a = in_block j (j * size + u) (omega arith) (omega arith) in
      let b = in_block j (j * size + s) (omega arith) (omega arith) in
      let x : j * size + u - j * size ≡ u = omega arith in
      let y : j * size + s - j * size ≡ s = omega arith in
      let r = rises (j * size + u) (j * size + s) (omega arith) (parts_below (λ i. get_or blocks i 0) e (j * size + u) (j * size + s) (omega (arith, a.0, b.0)) (rw (a.1, b.1, x, y) k)) in
      let f : at + j * size + u ≡ at + (j * size + u) = omega arith in
      let g : at + j * size + s ≡ at + (j * size + s) = omega arith in
      rw (f, g) (omega (arith, ap figure_in (p.left (j * size + u) (omega arith) (omega arith)), ap figure_in (p.left (j * size + s) (omega arith) (omega arith))))

  -- one block more
  pub up_more : (j : ℕ) (old xs new : List ℕ) → t / size ≤ j → j * size + size ≤ get_or blocks (suc e) 0 → Partly (under blocks (suc e)) at (get_or blocks (suc e) 0) t v (j * size) old xs
      → Lifted (under blocks e) (at + j * size) size (t % size) v xs new → Partly (under blocks (suc e)) at (get_or blocks (suc e) 0) t v (j * size + size) old new
  up_more j old xs new from room p w = record {
    done = λ s l k. go s l k (dec_le (j * size) s);
    left = λ s l k. w.rest.after (at + s) (omega arith) ∙ p.left s l (omega arith);
    rest = record {
      before = λ i l. w.rest.before i (omega arith) ∙ p.rest.before i l;
      after = λ i l. w.rest.after i (omega arith) ∙ p.rest.after i l;
    };
  }
    where
      -- a state of the block is from t on exactly if its lower digits are
      here : (s w w' : ℕ) → s < size → Lift (under blocks e) (t % size) v s w w' → Lift (under blocks (suc e)) t v (j * size + s) w w'
      here s w w' l (inl h) = inl (
        h.0,
        λ u.
            (let b = in_block j (j * size + s) (omega arith) (omega arith) in
            let y : j * size + s - j * size ≡ s = omega arith in
            h.1 (rw (b.1, y) at (below_parts (λ i. get_or blocks i 0) e t (j * size + s) u).1)),
      )
      here s w w' l (inr h) =
          let b = in_block j (j * size + s) (omega arith) (omega arith) in
          let y : j * size + s - j * size ≡ s = omega arith in
          inr (h.0, parts_below (λ i. get_or blocks i 0) e t (j * size + s) (omega (arith, b.0)) (rw (b.1, y) h.1), h.2)

      go : (s : ℕ) → s < get_or blocks (suc e) 0 → s < j * size + size → Dec (j * size ≤ s) → Lift (under blocks (suc e)) t v s (get_or old (at + s) 0) (get_or new (at + s) 0)
      go s l k (no h) = let f = w.rest.before (at + s) (omega arith) in rw f (p.done s l (omega arith))
      go s l k (yes h) =
          let y : j * size + (s - j * size) ≡ s = omega arith in
          let f : at + j * size + (s - j * size) ≡ at + s = omega arith in
          let q = w.lifts (s - j * size) (omega arith) in
          let o = p.left s l h in
          rw (y, o) at (here (s - j * size) _ _ (omega arith) (rw f at q))

-- the same at the code's d, its block size and its place
pub first_block : {blocks : List ℕ} {d at size : ℕ} {xs : List ℕ} → 1 ≤ d → Growing blocks d (get_or blocks d 0) at xs → size ≡ get_or blocks (d - 1) 0 → (t v : ℕ) → Blockwise blocks d at t v (t - t % size) xs xs
first_block {d = zero} h given f t v = absurd (omega arith)
first_block {blocks = blocks} {d = suc e} {at = at} {size = size} {xs = xs} h given f t v =
    let k : suc e - 1 ≡ e = omega arith in
    let g : size ≡ get_or blocks e 0 = rw k at f in
    let x : t - t % get_or blocks e 0 ≡ t / get_or blocks e 0 * get_or blocks e 0 = omega (arith, div-add-mod' t (get_or blocks e 0)) in
    rw (g, x) (record { passed = rw k (t / get_or blocks e 0, refl, omega arith); partly = up_first blocks e at t v given.digits.digits xs })

pub some_size : {blocks : List ℕ} {d at size : ℕ} {xs : List ℕ} → Growing blocks d (get_or blocks d 0) at xs → size ≡ get_or blocks (d - 1) 0 → 1 ≤ size
some_size {blocks} {d} given f = omega (arith, f, given.digits.digits.some (d - 1) (omega arith))

-- the block lies whole before the end
pub room_block : {blocks : List ℕ} {d at t v size x : ℕ} {old xs : List ℕ} → 1 ≤ d → Growing blocks d (get_or blocks d 0) at old → size ≡ get_or blocks (d - 1) 0 → x < get_or blocks d 0 → Blockwise blocks d at t v x old xs → x + size ≤ get_or blocks d 0
room_block {d = zero} h given f l w = absurd (omega arith)
room_block {blocks = blocks} {d = suc e} {x = x} h given f l w =
    let k : suc e - 1 ≡ e = omega arith in
    let o = given.digits.digits.whole e (omega arith) in
    let z : e + 1 ≡ suc e = omega arith in
    let b : get_or blocks (suc e) 0 ≡ o.0 * get_or blocks e 0 = rw z at o.1 in
    let y : x ≡ w.passed.0 * get_or blocks e 0 = rw k at w.passed.1 in
    omega (arith, block_room (get_or blocks e 0) (get_or blocks (suc e) 0) w.passed.0 o.0 b (omega arith), rw k at f)

pub stop_block : {blocks : List ℕ} {d at t v size x : ℕ} {old xs : List ℕ} → 1 ≤ d → Growing blocks d (get_or blocks d 0) at old → size ≡ get_or blocks (d - 1) 0 → x < get_or blocks d 0 → Blockwise blocks d at t v x old xs
    → v ≤ figure_in (get_or xs (at + x + t % size) 0) → Lifted (under blocks d) at (get_or blocks d 0) t v old xs
stop_block {d = zero} h given f l w u = absurd (omega arith)
stop_block {blocks = blocks} {d = suc e} {at = at} {t = t} {v = v} {size = size} {x = x} {old = old} {xs = xs} h given f l w u =
    let k : suc e - 1 ≡ e = omega arith in
    let g : size ≡ get_or blocks e 0 = rw k at f in
    let y : x ≡ w.passed.0 * get_or blocks e 0 = rw k at w.passed.1 in
    let a : at + w.passed.0 * get_or blocks e 0 + t % get_or blocks e 0 ≡ at + (w.passed.0 * get_or blocks e 0 + t % get_or blocks e 0) = omega arith in
    up_stop blocks e at t v given.digits.digits w.passed.0 old xs given.rises (omega (arith, room_block h given f l w)) (rw (g, y, a) at u) (rw y at w.partly)

-- a block is a cell of the digits before
pub inner_block : {blocks : List ℕ} {d at t v size x : ℕ} {old xs : List ℕ} → 1 ≤ d → Growing blocks d (get_or blocks d 0) at old → size ≡ get_or blocks (d - 1) 0 → x < get_or blocks d 0 → Blockwise blocks d at t v x old xs
    → length xs ≡ length old → Growing blocks (d - 1) (get_or blocks (d - 1) 0) (at + x) xs
inner_block {d = zero} h given f l w e = absurd (omega arith)
inner_block {blocks = blocks} {d = suc e} {at = at} {t = t} {v = v} {size = size} {x = x} {old = old} {xs = xs} h given f l w same =
    let k : suc e - 1 ≡ e = omega arith in
    let y : x ≡ w.passed.0 * get_or blocks e 0 = rw k at w.passed.1 in
    let m : x + get_or blocks e 0 ≤ get_or blocks (suc e) 0 = omega (arith, room_block h given f l w, rw k at f) in
    rw k (record {
      digits = record { digits = lower_blocks (λ i. get_or blocks i 0) e given.digits.digits; listed = omega (arith, given.digits.listed); states = refl; most = omega (arith, given.digits.most) };
      room = omega (arith, same, given.room);
      rises = rw y (up_inner blocks e at t v given.digits.digits w.passed.0 old xs given.rises (omega arith) (rw y at w.partly));
    })

pub more_block : {blocks : List ℕ} {d at t v size x : ℕ} {old xs new : List ℕ} → 1 ≤ d → Growing blocks d (get_or blocks d 0) at old → size ≡ get_or blocks (d - 1) 0 → x < get_or blocks d 0 → Blockwise blocks d at t v x old xs
    → Lifted (under blocks (d - 1)) (at + x) (get_or blocks (d - 1) 0) (t % size) v xs new → Blockwise blocks d at t v (x + size) old new
more_block {d = zero} h given f l w n = absurd (omega arith)
more_block {blocks = blocks} {d = suc e} {at = at} {t = t} {v = v} {size = size} {x = x} {old = old} {xs = xs} {new = new} h given f l w n =
    let k : suc e - 1 ≡ e = omega arith in
    let g : size ≡ get_or blocks e 0 = rw k at f in
    let y : x ≡ w.passed.0 * get_or blocks e 0 = rw k at w.passed.1 in
    rw g (record {
      passed = rw k (w.passed.0 + 1, omega arith, omega (arith, rw k at w.passed.2));
      partly = rw (← y) at (up_more blocks e at t v given.digits.digits w.passed.0 old xs new (rw k at w.passed.2) (omega (arith, room_block h given f l w)) (rw y at w.partly) (rw (k, g, y) at n));
    })

-- one digit, at the code's d
pub one_digit : (blocks : List ℕ) (d m : ℕ) (f : ℕ → ℕ) → d ≡ 0 → m ≡ get_or blocks d 0 → Rises (under blocks d) (get_or blocks d 0) f → Rises leb m f
unfolding below
one_digit blocks d m f z e rises = rw (e, z) (rw z at rises)

pub digit_lifted : (blocks : List ℕ) (d m at t v : ℕ) (old new : List ℕ) → d ≡ 0 → m ≡ get_or blocks d 0 → Lifted leb at m t v old new → Lifted (under blocks d) at (get_or blocks d 0) t v old new
unfolding below
digit_lifted blocks d m at t v old new z e w = rw z (rw (e, z) at w)
