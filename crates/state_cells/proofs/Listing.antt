-- A cell that starts, inherits and lists: loops over the words of a cell, or over the list of another, one step at a time.
use Rattle.state_cells.proofs.Prelude.{◌≡◌, sym, ◌∙◌, ap, subst, List, ℕ, ◌+◌, ◌-◌, ◌*◌, ◌≤◌, ◌<◌, ℕ_discrete, dec_le, arith, length, get_or, set, length-set, get_or-set_same, get_or-set_other, Outside, Run, figure_in, note_in, mark_in, held, note, mark, Flagged, FlaggedBelow, Steps, Told, Finished, figure_small, figure_plain, note_plain, figure_noted, note_noted, mark_noted, figure_flagged, note_flagged, held_kept, note_kept}

-- a cell that lies before is as it was
pub run_held : (f : ℕ → ℕ) (at m : ℕ) (old new : List ℕ) (x s : ℕ) → x + s < at → Run f at m old new → held new x s ≡ held old x s
run_held f at m old new x s h w = ap figure_in (w.rest.before (x + s) h)

-- the words below state `flat` are written, and then the others, which are all the same
pub run_level : (f : ℕ → ℕ) (at flat words v : ℕ) (old mid new : List ℕ) → flat ≤ words → ((s : ℕ) → flat ≤ s → s < words → f s ≡ v)
    → Run f at flat old mid → Run (λ j. v) (at + flat) (words - flat) mid new → Run f at words old new
run_level f at flat words v old mid new h same w x = record {
  here = λ j l. go j l (dec_le flat j);
  rest = record { before = λ i l. x.rest.before i (omega arith) ∙ w.rest.before i l; after = λ i l. x.rest.after i (omega arith) ∙ w.rest.after i (omega arith) };
}
  where
    go : (j : ℕ) → j < words → Dec (flat ≤ j) → get_or new (at + j) 0 ≡ f j
    go j l (yes q) = let e : at + flat + (j - flat) ≡ at + j = omega arith in rw e at (x.here (j - flat) (omega arith)) ∙ sym (same j q l)
    go j l (no q) = x.rest.before (at + j) (omega arith) ∙ w.here j (omega arith)

-- the first k entries of the list of the cell from `first` on are inherited
pub record Inherit (first second at words k : ℕ) (old new : List ℕ) : Type 0 where
  pub same : (s : ℕ) → s < words → held new at s ≡ held old at s
  pub kept : (s : ℕ) → s < words → Flagged old at s → Flagged new at s
  pub flags : (i t : ℕ) → i < k → note old first i ≡ t + 1 → held old second t < held old first t → Flagged new at t
  pub rest : Outside at (at + words) old new

module _ (first second at words : ℕ) (rx : first + words ≤ at) (ry : second + words ≤ at) where
  -- the entry is not above
  pub inherit_passed : (k t : ℕ) (old xs : List ℕ) → k < words → t < words → note xs first k ≡ t + 1 → held xs first t ≤ held xs second t → Inherit first second at words k old xs → Inherit first second at words (k + 1) old xs
  inherit_passed k t old xs hk ht e h p = record { same = p.same; kept = p.kept; flags = λ i u l m f. go i u l m f (ℕ_discrete i k); rest = p.rest }
    where
      go : (i u : ℕ) → i < k + 1 → note old first i ≡ u + 1 → held old second u < held old first u → Dec (i ≡ k) → Flagged xs at u
      go i u l m f (no z) = p.flags i u (omega arith) m f
      go i u l m f (yes z) =
          let o : t ≡ u = omega (arith, ap (λ i. note old first i) z, note_kept at (at + words) old xs p.rest first k (omega arith)) in
          absurd (omega (arith, ap (λ u. held old first u) o, ap (λ u. held old second u) o, held_kept at (at + words) old xs p.rest first t (omega arith), held_kept at (at + words) old xs p.rest second t (omega arith)))

  -- it is, and its state is flagged
  pub inherit_more : (k t w : ℕ) (old xs : List ℕ) → at + words ≤ length xs → k < words → t < words → note xs first k ≡ t + 1 → w ≡ held xs at t → Inherit first second at words k old xs → Inherit first second at words (k + 1) old (set xs (at + t) (w + 2199023255552))
  inherit_more k t w old xs room hk ht e v p = record {
    same = λ s h. same s h (ℕ_discrete s t);
    kept = λ s h f. kept s h f (ℕ_discrete s t);
    flags = λ i u l m f. go i u l m f (ℕ_discrete i k) (ℕ_discrete u t);
    rest = record {
      before = λ i l. get_or-set_other xs (at + t) i (w + 2199023255552) 0 (λ z. omega arith) ∙ p.rest.before i l;
      after = λ i l. get_or-set_other xs (at + t) i (w + 2199023255552) 0 (λ z. omega arith) ∙ p.rest.after i l;
    };
  }
    where
      small : w < 2199023255552
      small = omega (arith, v, figure_small (get_or xs (at + t) 0))

      here : get_or (set xs (at + t) (w + 2199023255552)) (at + t) 0 ≡ w + 2199023255552
      here = get_or-set_same xs (at + t) (w + 2199023255552) 0 (omega arith)

      flag : Flagged (set xs (at + t) (w + 2199023255552)) at t
      flag = omega (arith, ap note_in here, note_flagged w small)

      other : (s : ℕ) → (s ≡ t → ⊥) → get_or (set xs (at + t) (w + 2199023255552)) (at + s) 0 ≡ get_or xs (at + s) 0
      other s h = get_or-set_other xs (at + t) (at + s) (w + 2199023255552) 0 (λ z. h (omega arith))

      same : (s : ℕ) → s < words → Dec (s ≡ t) → held (set xs (at + t) (w + 2199023255552)) at s ≡ held old at s
      same s h (yes z) = rw z (ap figure_in here ∙ (figure_flagged w small ∙ (v ∙ p.same t ht)))
      same s h (no z) = ap figure_in (other s z) ∙ p.same s h

      kept : (s : ℕ) → s < words → Flagged old at s → Dec (s ≡ t) → Flagged (set xs (at + t) (w + 2199023255552)) at s
      kept s h f (yes z) = rw z flag
      kept s h f (no z) = omega (arith, ap note_in (other s z), p.kept s h f)

      go : (i u : ℕ) → i < k + 1 → note old first i ≡ u + 1 → held old second u < held old first u → Dec (i ≡ k) → Dec (u ≡ t) → Flagged (set xs (at + t) (w + 2199023255552)) at u
      go i u l m f z (yes o) = rw o flag
      go i u l m f (no z) (no o) = omega (arith, ap note_in (other u o), p.flags i u (omega arith) m f)
      go i u l m f (yes z) (no o) = absurd (o (omega (arith, ap (λ i. note old first i) z, note_kept at (at + words) old xs p.rest first k (omega arith))))

-- the flags of the first s words are off, and those of their states that are to be listed are the first k entries of the list
pub record Listing (d at shorter narrower words s k : ℕ) (old new : List ℕ) : Type 0 where
  pub most : k ≤ s
  pub same : (j : ℕ) → j < words → held new at j ≡ held old at j
  pub some : (j : ℕ) → j < k → (1 ≤ note new at j) × (note new at j ≤ s)
  pub sorted : (i j : ℕ) → i ≤ j → j < k → note new at i ≤ note new at j
  pub none : (j : ℕ) → k ≤ j → j < s → note new at j ≡ 0
  pub left : (j : ℕ) → s ≤ j → j < words → get_or new (at + j) 0 ≡ get_or old (at + j) 0
  pub found : (t : ℕ) → t < s → Flagged old at t → Steps d (held old at) t → (i : ℕ) × (i < k) × (note new at i ≡ t + 1) × Told shorter narrower old t (held old at t) (mark new at i)
  pub rest : Outside at (at + words) old new

module _ (d at shorter narrower words : ℕ) where
  -- a word without a flag
  pub listing_passed : (s k : ℕ) (old xs : List ℕ) → s < words → note xs at s ≡ 0 → Listing d at shorter narrower words s k old xs → Listing d at shorter narrower words (s + 1) k old xs
  listing_passed s k old xs hs z p = record {
    most = omega (arith, p.most);
    same = p.same;
    some = λ j h. (let q = p.some j h in omega (arith, q.1));
    sorted = p.sorted;
    none = λ j h l. none j h l (ℕ_discrete j s);
    left = λ j h l. p.left j (omega arith) l;
    found = λ t h f g. found t h f g (ℕ_discrete t s);
    rest = p.rest;
  }
    where
      none : (j : ℕ) → k ≤ j → j < s + 1 → Dec (j ≡ s) → note xs at j ≡ 0
      none j h l (yes e) = rw e z
      none j h l (no e) = p.none j h (omega arith)

      found : (t : ℕ) → t < s + 1 → Flagged old at t → Steps d (held old at) t → Dec (t ≡ s) → (i : ℕ) × (i < k) × (note xs at i ≡ t + 1) × Told shorter narrower old t (held old at t) (mark xs at i)
      found t h f g (yes e) = absurd (omega (arith, ap (λ t. note old at t) e, ap note_in (p.left s (omega arith) hs)))
      found t h f g (no e) = p.found t (omega arith) f g

  -- a flagged word that is not to be listed
  pub listing_left : (s k w : ℕ) (old xs : List ℕ) → at + words ≤ length xs → s < words → w ≡ held xs at s → (d ≡ 0) × (1 ≤ s) × (w ≤ held (set xs (at + s) w) at (s - 1)) → Listing d at shorter narrower words s k old xs
      → Listing d at shorter narrower words (s + 1) k old (set xs (at + s) w)
  listing_left s k w old xs room hs hw repeats p = record {
    most = omega (arith, p.most);
    same = λ j h. same j h (ℕ_discrete j s);
    some = λ j h. (let q = p.some j h in omega (arith, ap note_in (older j (λ z. omega (arith, p.most)))));
    sorted = λ i j h l. omega (arith, ap note_in (older i (λ z. omega (arith, p.most))), ap note_in (older j (λ z. omega (arith, p.most))), p.sorted i j h l);
    none = λ j h l. none j h l (ℕ_discrete j s);
    left = λ j h l. older j (λ z. omega arith) ∙ p.left j (omega arith) l;
    found = λ t h f g. found t h f g (ℕ_discrete t s);
    rest = record {
      before = λ i l. get_or-set_other xs (at + s) i w 0 (λ z. omega arith) ∙ p.rest.before i l;
      after = λ i l. get_or-set_other xs (at + s) i w 0 (λ z. omega arith) ∙ p.rest.after i l;
    };
  }
    where
      low : w < 2199023255552
      low = omega (arith, hw, figure_small (get_or xs (at + s) 0))

      put : get_or (set xs (at + s) w) (at + s) 0 ≡ w
      put = get_or-set_same xs (at + s) w 0 (omega arith)

      older : (j : ℕ) → (j ≡ s → ⊥) → get_or (set xs (at + s) w) (at + j) 0 ≡ get_or xs (at + j) 0
      older j h = get_or-set_other xs (at + s) (at + j) w 0 (λ z. h (omega arith))

      same : (j : ℕ) → j < words → Dec (j ≡ s) → held (set xs (at + s) w) at j ≡ held old at j
      same j h (yes e) = rw e (ap figure_in put ∙ (figure_plain w low ∙ (hw ∙ p.same s hs)))
      same j h (no e) = ap figure_in (older j e) ∙ p.same j h

      none : (j : ℕ) → k ≤ j → j < s + 1 → Dec (j ≡ s) → note (set xs (at + s) w) at j ≡ 0
      none j h l (yes e) = rw e (ap note_in put ∙ note_plain w low)
      none j h l (no e) = ap note_in (older j e) ∙ p.none j h (omega arith)

      found : (t : ℕ) → t < s + 1 → Flagged old at t → Steps d (held old at) t → Dec (t ≡ s) → (i : ℕ) × (i < k) × (note (set xs (at + s) w) at i ≡ t + 1) × Told shorter narrower old t (held old at t) (mark (set xs (at + s) w) at i)
      found t h f g (yes e) = absurd (omega (arith, rises (rw e at g), same (s - 1) (omega arith) (ℕ_discrete (s - 1) s), hw, p.same s hs, repeats.2))
        where
          rises : Steps d (held old at) s → held old at (s - 1) < held old at s
          rises g = g repeats.0 repeats.1
      found t h f g (no e) = let q = p.found t (omega arith) f g in
          let e : get_or (set xs (at + s) w) (at + q.0) 0 ≡ get_or xs (at + q.0) 0 = older q.0 (λ z. omega (arith, q.1, p.most)) in
          (q.0, q.1, ap note_in e ∙ q.2, subst (Told shorter narrower old t (held old at t)) (sym (ap mark_in e)) q.3)

  -- a flagged word that is
  module _ (s k w v g : ℕ) (old xs : List ℕ) (rx : shorter + words ≤ at) (ry : narrower + words ≤ at) (room : at + words ≤ length xs) (hs : s < words) (hw : w ≡ held xs at s) (hv : v ≡ held (set xs (at + s) w) at k)
      (hg : g ≤ 2) (told : Told shorter narrower (set xs (at + s) w) s w g) (p : Listing d at shorter narrower words s k old xs) where
    abbrev ys : List ℕ
    ys = set xs (at + s) w

    abbrev zs : List ℕ
    zs = set ys (at + k) (v + 2199023255552 * (4 * s + 1 + g))

    low : w < 2199023255552
    low = omega (arith, hw, figure_small (get_or xs (at + s) 0))

    small : v < 2199023255552
    small = omega (arith, hv, figure_small (get_or ys (at + k) 0))

    put : get_or ys (at + s) 0 ≡ w
    put = get_or-set_same xs (at + s) w 0 (omega arith)

    here : get_or zs (at + k) 0 ≡ v + 2199023255552 * (4 * s + 1 + g)
    here = get_or-set_same ys (at + k) (v + 2199023255552 * (4 * s + 1 + g)) 0 (simp length-set (omega (arith, p.most)))

    before : (j : ℕ) → (j ≡ k → ⊥) → get_or zs (at + j) 0 ≡ get_or ys (at + j) 0
    before j h = get_or-set_other ys (at + k) (at + j) (v + 2199023255552 * (4 * s + 1 + g)) 0 (λ z. h (omega arith))

    older : (j : ℕ) → (j ≡ s → ⊥) → get_or ys (at + j) 0 ≡ get_or xs (at + j) 0
    older j h = get_or-set_other xs (at + s) (at + j) w 0 (λ z. h (omega arith))

    figures : (j : ℕ) → j < words → Dec (j ≡ s) → held ys at j ≡ held old at j
    figures j h (yes e) = rw e (ap figure_in put ∙ (figure_plain w low ∙ (hw ∙ p.same s hs)))
    figures j h (no e) = ap figure_in (older j e) ∙ p.same j h

    same : (j : ℕ) → j < words → Dec (j ≡ k) → held zs at j ≡ held old at j
    same j h (yes e) = rw e (ap figure_in here ∙ (figure_noted v (4 * s + 1 + g) small ∙ (hv ∙ figures k (omega (arith, p.most)) (ℕ_discrete k s))))
    same j h (no e) = ap figure_in (before j e) ∙ figures j h (ℕ_discrete j s)

    own : note zs at k ≡ s + 1
    own = ap note_in here ∙ note_noted v s g small hg

    own_mark : mark zs at k ≡ g
    own_mark = ap mark_in here ∙ mark_noted v s g small hg

    -- the cells before are as they were
    lower : (x : ℕ) → x + words ≤ at → held ys x s ≡ held old x s
    lower x h = ap figure_in (get_or-set_other xs (at + s) (x + s) w 0 (λ z. omega arith) ∙ p.rest.before (x + s) (omega arith))

    own_told : Told shorter narrower old s (held old at s) (mark zs at k)
    own_told = record {
      longer = λ h e. told.longer (omega (arith, lower shorter rx, hw, p.same s hs)) (omega (arith, own_mark));
      wider = λ h e. told.wider (omega (arith, lower narrower ry, hw, p.same s hs)) (omega (arith, own_mark));
    }

    -- an earlier entry of the list
    entry : (j : ℕ) → j < k → get_or zs (at + j) 0 ≡ get_or xs (at + j) 0
    entry j h = before j (λ z. omega arith) ∙ older j (λ z. omega (arith, p.most))

    earlier : (j : ℕ) → j < k → note zs at j ≡ note xs at j
    earlier j h = ap note_in (entry j h)

    some : (j : ℕ) → j < k + 1 → Dec (j ≡ k) → (1 ≤ note zs at j) × (note zs at j ≤ s + 1)
    some j h (yes e) = rw e (omega (arith, own), omega (arith, own))
    some j h (no e) = let q = p.some j (omega arith) in omega (arith, earlier j (omega arith))

    sorted : (i j : ℕ) → i ≤ j → j < k + 1 → Dec (j ≡ k) → note zs at i ≤ note zs at j
    sorted i j h l (yes e) = rw e (omega (arith, own, (some i (omega arith) (ℕ_discrete i k)).1))
    sorted i j h l (no e) = omega (arith, earlier i (omega arith), earlier j (omega arith), p.sorted i j h (omega arith))

    none : (j : ℕ) → k + 1 ≤ j → j < s + 1 → Dec (j ≡ s) → note zs at j ≡ 0
    none j h l (yes e) = rw e (ap note_in (before s (λ z. omega arith) ∙ put) ∙ note_plain w low)
    none j h l (no e) = ap note_in (before j (λ z. omega arith) ∙ older j e) ∙ p.none j (omega arith) (omega arith)

    found : (t : ℕ) → t < s + 1 → Flagged old at t → Steps d (held old at) t → Dec (t ≡ s) → (i : ℕ) × (i < k + 1) × (note zs at i ≡ t + 1) × Told shorter narrower old t (held old at t) (mark zs at i)
    found t h f steps (yes e) = rw e (k, omega arith, own, own_told)
    found t h f steps (no e) = let q = p.found t (omega arith) f steps in (q.0, omega (arith, q.1), earlier q.0 q.1 ∙ q.2, subst (Told shorter narrower old t (held old at t)) (sym (ap mark_in (entry q.0 q.1))) q.3)

    pub listing_more : Listing d at shorter narrower words (s + 1) (k + 1) old zs
    listing_more = record {
      most = omega (arith, p.most);
      same = λ j h. same j h (ℕ_discrete j k);
      some = λ j h. some j h (ℕ_discrete j k);
      sorted = λ i j h l. sorted i j h l (ℕ_discrete j k);
      none = λ j h l. none j h l (ℕ_discrete j s);
      left = λ j h l. before j (λ z. omega (arith, p.most)) ∙ (older j (λ z. omega arith) ∙ p.left j (omega arith) l);
      found = λ t h f steps. found t h f steps (ℕ_discrete t s);
      rest = record {
        before = λ i l. get_or-set_other ys (at + k) i (v + 2199023255552 * (4 * s + 1 + g)) 0 (λ z. omega arith) ∙ (get_or-set_other xs (at + s) i w 0 (λ z. omega arith) ∙ p.rest.before i l);
        after = λ i l. get_or-set_other ys (at + k) i (v + 2199023255552 * (4 * s + 1 + g)) 0 (λ z. omega (arith, p.most)) ∙ (get_or-set_other xs (at + s) i w 0 (λ z. omega arith) ∙ p.rest.after i l);
      };
    }

  -- all flagged states are listed
  pub listing_end : (s k : ℕ) (old new : List ℕ) → FlaggedBelow at words s old → Listing d at shorter narrower words s k old new → Finished d at shorter narrower words old new
  listing_end s k old new below p = record {
    same = p.same;
    listed = λ t h f g. (let q = p.found t (below.flags t h f) f g in (q.0, omega (arith, q.1, p.most, below.most), q.2, q.3));
    notes = λ j h. notes j h (dec_le k j);
    ended = λ i j h l z. none j l (past i j h z (dec_le k i));
    sorted = λ i j h l z. sorted i j h l z (dec_le k j);
    rest = p.rest;
  }
    where
      none : (j : ℕ) → j < words → k ≤ j → note new at j ≡ 0
      none j h l = go (dec_le s j) (dec_le 1 (note old at j))
        where
          go : Dec (s ≤ j) → Dec (1 ≤ note old at j) → note new at j ≡ 0
          go (no m) f = p.none j l (omega arith)
          go (yes m) (yes f) = absurd (omega (arith, below.flags j h f))
          go (yes m) (no f) = omega (arith, ap note_in (p.left j m h))

      notes : (j : ℕ) → j < words → Dec (k ≤ j) → note new at j ≤ words
      notes j h (yes l) = omega (arith, none j h l)
      notes j h (no l) = omega (arith, (p.some j (omega arith)).1, below.most)

      sorted : (i j : ℕ) → i ≤ j → j < words → 1 ≤ note new at j → Dec (k ≤ j) → note new at i ≤ note new at j
      sorted i j h l z (yes m) = absurd (omega (arith, none j l m))
      sorted i j h l z (no m) = p.sorted i j h (omega arith)

      past : (i j : ℕ) → i ≤ j → note new at i ≡ 0 → Dec (k ≤ i) → k ≤ j
      past i j h z (yes l) = omega arith
      past i j h z (no l) = absurd (omega (arith, (p.some i (omega arith)).0))
