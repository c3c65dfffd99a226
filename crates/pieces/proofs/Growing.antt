-- The array of pieces grows: a piece put at the next place is there, and those before it stay. At the end it lists the pieces of a job.
use Rattle.pieces.proofs.Prelude.{◌≡◌, refl, sym, ◌∙◌, ap, ap₂, subst, Bool, true, false, List, [], ◌∷◌, ◌++◌, append-nil, append_assoc, ℕ, zero, suc, ◌+◌, ◌*◌, ◌≤◌, ◌<◌, ℕ_discrete, arith, le-leb, leb, length, get_or, set, length-set, length-append, List·getD-append, get_or-set_same, get_or-set_other, range, keep, filter, each, ways, Job, turns, ordered, members, PieceArray, range_length, filter_length, each_length, ways_count, Piece, entry_of, turned_piece, with_piece, At, Listed}
use Rattle.cutting.specs.Pieces as laid

-- the pieces of the kinds below i, as many as are ordered
abbrev pub kinds_below : Job → ℕ → List laid.Piece
kinds_below J i = each (λ j. ways (turns J j) j) (filter (λ j. leb 1 (J.demand j)) (range 0 i))

-- an array of pieces under another writing of their list
pub listed_as : {J : Job} {weight : ℕ → ℕ} {ps qs : List laid.Piece} {n : ℕ} {a : List ℕ} → ps ≡ qs → Listed J weight ps n a → Listed J weight qs n a
listed_as {J} {weight} {ps} {qs} {n} {a} e w = subst (λ ps. Listed J weight ps n a) e w

-- a number put at a place is there, unless another is put elsewhere
other : (a : List ℕ) (i k v : ℕ) {x : ℕ} → (k ≡ i → ⊥) → get_or a k 0 ≡ x → get_or (set a i v) k 0 ≡ x
other a i k v d e = get_or-set_other a i k v 0 d ∙ e

module _ (a : List ℕ) (j : ℕ) (e : Piece) where
  abbrev a1 : List ℕ
  a1 = set a (5 * j) e.size.length

  abbrev a2 : List ℕ
  a2 = set a1 (5 * j + 1) e.size.width

  abbrev a3 : List ℕ
  a3 = set a2 (5 * j + 2) e.price

  abbrev a4 : List ℕ
  a4 = set a3 (5 * j + 3) e.weight

  length_1 : length a1 ≡ length a
  length_1 = length-set a (5 * j) e.size.length

  length_2 : length a2 ≡ length a
  length_2 = length-set a1 (5 * j + 1) e.size.width ∙ length_1

  length_3 : length a3 ≡ length a
  length_3 = length-set a2 (5 * j + 2) e.price ∙ length_2

  length_4 : length a4 ≡ length a
  length_4 = length-set a3 (5 * j + 3) e.weight ∙ length_3

  pub put_length : length (with_piece a j e) ≡ length a
  put_length = length-set a4 (5 * j + 4) e.node ∙ length_4

  -- the entries before its own stay
  put_before : (k : ℕ) {x : ℕ} → k < 5 * j → get_or a k 0 ≡ x → get_or (with_piece a j e) k 0 ≡ x
  put_before k h q =
      other a4 (5 * j + 4) k e.node (λ s. omega arith)
      (other a3 (5 * j + 3) k e.weight (λ s. omega arith)
      (other a2 (5 * j + 2) k e.price (λ s. omega arith) (other a1 (5 * j + 1) k e.size.width (λ s. omega arith) (other a (5 * j) k e.size.length (λ s. omega arith) q))))

  -- its own are there
  put_here : 5 * j + 5 ≤ length a → At (with_piece a j e) j e
  put_here h = record {
    long = other a4 (5 * j + 4) (5 * j) e.node (λ s. omega arith)
        (other a3 (5 * j + 3) (5 * j) e.weight (λ s. omega arith)
        (other a2 (5 * j + 2) (5 * j) e.price (λ s. omega arith) (other a1 (5 * j + 1) (5 * j) e.size.width (λ s. omega arith) (get_or-set_same a (5 * j) e.size.length 0 (omega arith)))));
    wide = other a4 (5 * j + 4) (5 * j + 1) e.node (λ s. omega arith)
        (other a3 (5 * j + 3) (5 * j + 1) e.weight (λ s. omega arith)
        (other a2 (5 * j + 2) (5 * j + 1) e.price (λ s. omega arith) (get_or-set_same a1 (5 * j + 1) e.size.width 0 (omega (arith, length_1)))));
    price = other a4 (5 * j + 4) (5 * j + 2) e.node (λ s. omega arith)
        (other a3 (5 * j + 3) (5 * j + 2) e.weight (λ s. omega arith) (get_or-set_same a2 (5 * j + 2) e.price 0 (omega (arith, length_2))));
    weight = other a4 (5 * j + 4) (5 * j + 3) e.node (λ s. omega arith) (get_or-set_same a3 (5 * j + 3) e.weight 0 (omega (arith, length_3)));
    node = get_or-set_same a4 (5 * j + 4) e.node 0 (omega (arith, length_4));
  }

  -- and so are those of the pieces before it
  put_other : (k : ℕ) (f : Piece) → k < j → At a k f → At (with_piece a j e) k f
  put_other k f h w = record {
    long = put_before (5 * k) (omega arith) w.long;
    wide = put_before (5 * k + 1) (omega arith) w.wide;
    price = put_before (5 * k + 2) (omega arith) w.price;
    weight = put_before (5 * k + 3) (omega arith) w.weight;
    node = put_before (5 * k + 4) (omega arith) w.node;
  }

-- the entry of a list with one more at its end
entry_before : (ps : List laid.Piece) (p : laid.Piece) (k : ℕ) → k < length ps → get_or (ps ++ (p ∷ [])) k (laid.upright 0) ≡ get_or ps k (laid.upright 0)
entry_before ps p k h = List·getD-append ps (p ∷ []) (laid.upright 0) k h

entry_last : (ps : List laid.Piece) (p : laid.Piece) → get_or (ps ++ (p ∷ [])) (length ps) (laid.upright 0) ≡ p
entry_last [] p = refl
entry_last (q ∷ ps) p = entry_last ps p

module _ (J : Job) (weight : ℕ → ℕ) where
  -- one piece more
  pub listed_more : (ps : List laid.Piece) (p : laid.Piece) (n : ℕ) (a b : List ℕ) (e : Piece) → n < 128 → Listed J weight ps n a → e ≡ entry_of J weight p → b ≡ with_piece a n e
      → Listed J weight (ps ++ (p ∷ [])) (n + 1) b
  listed_more ps p n a b e h w i q = record {
    number = omega (arith, w.number, length-append ps (p ∷ []));
    entries = ap length q ∙ put_length a n e ∙ w.entries;
    each = λ k l. subst (λ b. At b k (entry_of J weight (get_or (ps ++ (p ∷ [])) k (laid.upright 0)))) (sym q) (go k l (ℕ_discrete k n));
  }
    where
      go : (k : ℕ) → k < n + 1 → Dec (k ≡ n) → At (with_piece a n e) k (entry_of J weight (get_or (ps ++ (p ∷ [])) k (laid.upright 0)))
      go k l (yes d) =
          let f : get_or (ps ++ (p ∷ [])) k (laid.upright 0) ≡ p = ap (λ k. get_or (ps ++ (p ∷ [])) k (laid.upright 0)) (d ∙ w.number) ∙ entry_last ps p in
          subst (λ z. At (with_piece a n e) k z) (i ∙ ap (entry_of J weight) (sym f)) (subst (λ k. At (with_piece a n e) k e) (sym d) (put_here a n e (omega (arith, w.entries))))
      go k l (no d) =
          let f = entry_before ps p k (omega (arith, w.number)) in
          subst (λ z. At (with_piece a n e) k z) (ap (entry_of J weight) (sym f)) (put_other a n e k _ (omega arith) (w.each k (omega arith)))

  -- an array of no pieces yet
  pub listed_none : (a : List ℕ) → length a ≡ 640 → Listed J weight (kinds_below J 0) 0 a
  unfolding each filter range
  listed_none a h = record { number = refl; entries = h; each = λ j l. absurd (omega arith) }

-- a kind that is ordered gives all its pieces, and one that is cancelled none
pub when_ordered : (f : ℕ → List laid.Piece) (ps : List laid.Piece) (i d : ℕ) → 1 ≤ d → ps ++ f i ≡ ps ++ each f (keep (leb 1 d) i [])
unfolding each
when_ordered f ps i d h = rw (le-leb 1 d h) (ap (λ qs. ps ++ qs) (sym (append-nil (f i))))

pub when_cancelled : (f : ℕ → List laid.Piece) (ps : List laid.Piece) (i d : ℕ) → d ≡ 0 → ps ≡ ps ++ each f (keep (leb 1 d) i [])
unfolding each
when_cancelled f ps i d e = rw e (sym (append-nil ps))

-- the pieces of one kind more
each_more : (f : ℕ → List laid.Piece) (test : ℕ → Bool) (a n k : ℕ) → k ≡ a + n → each f (filter test (range a (suc n))) ≡ each f (filter test (range a n)) ++ each f (keep (test k) k [])
unfolding range filter each
each_more f test a zero k e = let z : a ≡ k = omega arith in ap (λ k. each f (keep (test k) k [])) z
each_more f test a (suc n) k e = go (test a) (each_more f test (suc a) n k (omega arith))
  where
    go : (b : Bool) → each f (filter test (range (suc a) (suc n))) ≡ each f (filter test (range (suc a) n)) ++ each f (keep (test k) k [])
        → each f (keep b a (filter test (range (suc a) (suc n)))) ≡ each f (keep b a (filter test (range (suc a) n))) ++ each f (keep (test k) k [])
    go true h = ap (λ ps. f a ++ ps) h ∙ sym (append_assoc (f a) (each f (filter test (range (suc a) n))) (each f (keep (test k) k [])))
    go false h = h

-- a kind alone gives its own pieces, whatever the others
each_one : (f g : ℕ → List laid.Piece) (b : Bool) (i : ℕ) → f i ≡ g i → each f (keep b i []) ≡ each g (keep b i [])
unfolding each
each_one f g true i e = ap (λ ps. ps ++ []) e
each_one f g false i e = refl

module _ (J : Job) (i : ℕ) where
  pub kinds_more : {b : Bool} → b ≡ turns J i → kinds_below J i ++ each (ways b) (keep (leb 1 (J.demand i)) i []) ≡ kinds_below J (i + 1)
  kinds_more {b} t =
      let f : ℕ → List laid.Piece = λ j. ways (turns J j) j in
      let e : suc i ≡ i + 1 = omega arith in
      ap (λ ps. kinds_below J i ++ ps) (each_one (ways b) f (leb 1 (J.demand i)) i (ap (λ b. ways b i) t))
      ∙ sym (each_more f (λ j. leb 1 (J.demand j)) 0 i i (omega arith)) ∙ ap (kinds_below J) e

  -- there are at most two pieces a kind
  pub kinds_count : {weight : ℕ → ℕ} {n : ℕ} {a : List ℕ} → Listed J weight (kinds_below J i) n a → n ≤ 2 * i
  kinds_count w = omega (
    arith,
    w.number,
    each_length (λ j. ways (turns J j) j) 2 (λ j. ways_count (turns J j) j) (filter (λ j. leb 1 (J.demand j)) (range 0 i)),
    filter_length (λ j. leb 1 (J.demand j)) (range 0 i),
    range_length 0 i,
  )

-- two pieces more, upright and turned
pub listed_twice : (J : Job) (weight : ℕ → ℕ) (ps : List laid.Piece) (i n : ℕ) (a b c : List ℕ) (e t : Piece) → n < 127 → Listed J weight ps n a → e ≡ entry_of J weight (laid.upright i)
    → b ≡ with_piece a n e → t ≡ turned_piece e → c ≡ with_piece b (n + 1) t → Listed J weight (ps ++ ways true i) (n + 2) c
listed_twice J weight ps i n a b c e t h w p q r s =
    let x = listed_more J weight ps (laid.upright i) n a b e (omega arith) w p q in
    let y = listed_more J weight (ps ++ (laid.upright i ∷ [])) (laid.turned i) (n + 1) b c t (omega arith) x (r ∙ ap turned_piece p) s in
    let k : n + 1 + 1 ≡ n + 2 = omega arith in
    subst (λ n. Listed J weight (ps ++ ways true i) n c) k (listed_as (append_assoc ps (laid.upright i ∷ []) (laid.turned i ∷ [])) y)

-- at the end the array lists the pieces of the job
pub listed_all : (J : Job) (weight : ℕ → ℕ) (n : ℕ) (a : List ℕ) → Listed J weight (kinds_below J J.count) n a → PieceArray J weight n a
unfolding ordered members
listed_all J weight n a w = record {
  entries = w.entries;
  listing = record {
    number = w.number;
    sizes = λ j h. ap₂ (λ l w. (l, w)) (w.each j h).long (w.each j h).wide;
    prices = λ j h. (w.each j h).price;
    weights = λ j h. (w.each j h).weight;
  };
  nodes = λ j h. (w.each j h).node;
}
