-- Joining the lists of two cells: what a loop over a list has taken, one entry more, and the end of the list. The cells that are read lie
-- before the one that is made, and do not change.
use Rattle.state_joins.proofs.Prelude.{◌≡◌, sym, ◌∙◌, ap, Bool, List, ℕ, ◌+◌, ◌-◌, ◌*◌, ◌≤◌, ◌<◌, ℕ_discrete, dec_le, arith, T, length, length-take-le, get_or, get_or-take, set, take, get_or-set_same, get_or-set_other, Outside, remainder, remainder_is, figure_in, note_in, mark_in, held, note, mark, Rises, Low, Grown, Taken, Listed, Entry, Marked, Served, Ready, JoinedWith, Joined, Among, Gathered, Cuttable, CutAt, grown_then}

module _ (at end : ℕ) (old new : List ℕ) (kept : Outside at end old new) where
  pub held_kept : (x s : ℕ) → x + s < at → held new x s ≡ held old x s
  held_kept x s h = ap figure_in (kept.before (x + s) h)

  pub note_kept : (x s : ℕ) → x + s < at → note new x s ≡ note old x s
  note_kept x s h = ap note_in (kept.before (x + s) h)

  pub listed_kept : (x words t : ℕ) → x + words ≤ at → Listed old x words t → Listed new x words t
  listed_kept x words t h l = (l.0, l.1, note_kept x l.0 (omega (arith, l.1)) ∙ l.2)

  pub entry_kept : (skip x k t : ℕ) → x + k < at → Entry skip old x k t → Entry skip new x k t
  entry_kept skip x k t h e = (note_kept x k h ∙ e.0, λ z. e.1 (sym (ap mark_in (kept.before (x + k) h)) ∙ z))

  pub marked_kept : (skip x words t : ℕ) → x + words ≤ at → Marked skip old x words t → Marked skip new x words t
  marked_kept skip x words t h l = (l.0, l.1, entry_kept skip x l.0 t (omega (arith, l.1)) l.2)

  pub served_kept : (d skip x words t : ℕ) → x + words ≤ at → Served d skip old x words t → Served d skip new x words t
  served_kept d skip x words t h l = (listed_kept x words t h l.0, λ e. marked_kept skip x words t h (l.1 e))

  pub ready_kept : (x words : ℕ) → Ready old x words at → Ready new x words at
  ready_kept x words r = record {
    before = r.before;
    small = λ s l. omega (arith, held_kept x s (omega (arith, r.before)), r.small s l);
    most = λ s l. omega (arith, held_kept x s (omega (arith, r.before)), held_kept x (words - 1) (omega (arith, r.before)), r.most s l);
    notes = λ k l. omega (arith, note_kept x k (omega (arith, r.before)), r.notes k l);
    ended = λ j k l m z. note_kept x k (omega (arith, r.before)) ∙ r.ended j k l m (sym (note_kept x j (omega (arith, r.before))) ∙ z);
    sorted = λ j k l m z. omega (arith, note_kept x j (omega (arith, r.before)), note_kept x k (omega (arith, r.before)), r.sorted j k l m (omega (arith, note_kept x k (omega (arith, r.before)))));
  }

-- an entry of a list is a state
pub entry_state : {x words at end : ℕ} {old new : List ℕ} → Ready old x words at → Outside at end old new → (k t : ℕ) → k < words → note new x k ≡ t + 1 → t < words
entry_state {x} {words} {at} {end} {old} {new} ready rest k t h e = omega (arith, ready.notes k h, note_kept at end old new rest x k (omega (arith, ready.before)))

-- an entry past the end of a list is none
pub past_end : (xs : List ℕ) (x words at i k u : ℕ) → Ready xs x words at → i < words → note xs x k ≡ 0 → note xs x i ≡ u + 1 → i < k
past_end xs x words at i k u r h z e = go (dec_le k i)
  where
    go : Dec (k ≤ i) → i < k
    go (yes l) = absurd (omega (arith, r.ended k i l h z))
    go (no l) = omega arith

-- where an entry of a list and t are past all states together, so are the later ones
pub past_states : (xs : List ℕ) (x words at i k t u w : ℕ) → Ready xs x words at → i < words → note xs x k ≡ w + 1 → words ≤ t + w → note xs x i ≡ u + 1 → t + u < words → i < k
past_states xs x words at i k t u w r h m p e l = go (dec_le k i)
  where
    go : Dec (k ≤ i) → i < k
    go (yes z) = absurd (omega (arith, r.sorted k i z h (omega arith)))
    go (no z) = omega arith

-- one cut: its first part can be read, and so can its second, at the entry that the floors give
module _ {blocks positions floors : List ℕ} {d words a i base stride at : ℕ} {xs : List ℕ} (given : Cuttable blocks positions floors d words a i (i + 1) base stride at xs) where
  pub first_part : Ready xs (base + i * stride) words at
  first_part = given.ready i (omega (arith, given.cuts.most))

  pub second_entry : (whole part y : ℕ) → whole ≡ get_or positions a 0 → part ≡ get_or positions i 0 → y ≡ get_or floors (whole - part) 0 → (y ≡ remainder positions floors a i) × (y < a)
  second_entry whole part y e f g =
      let other = remainder_is positions floors a i whole part y e f g in
      (other, rw other (given.cuts.earlier i given.first (omega arith)))

-- of the first k entries of the list of the cell from x on, those with another mark than `skip` are the first n numbers of `list`
pub record Gathering (skip x k n : ℕ) (xs list : List ℕ) : Type 0 where
  pub most : n ≤ 512
  pub from : (i : ℕ) → i < n → (j : ℕ) × (j < k) × (note xs x j ≡ get_or list i 0 + 1)
  pub sorted : (i j : ℕ) → i ≤ j → j < n → get_or list i 0 ≤ get_or list j 0
  pub found : (i u : ℕ) → i < k → Entry skip xs x i u → Among n list u

module _ (skip x words end : ℕ) (xs : List ℕ) (ready : Ready xs x words end) where
  -- an entry with the mark
  pub gather_passed : (k n : ℕ) (list : List ℕ) → mark xs x k ≡ skip → Gathering skip x k n xs list → Gathering skip x (k + 1) n xs list
  gather_passed k n list e p = record {
    most = p.most;
    from = λ i h. (let q = p.from i h in (q.0, omega (arith, q.1), q.2));
    sorted = p.sorted;
    found = λ i u h m. go i u h m (ℕ_discrete i k);
  }
    where
      go : (i u : ℕ) → i < k + 1 → Entry skip xs x i u → Dec (i ≡ k) → Among n list u
      go i u h m (yes c) = absurd (rw c at m.1 e)
      go i u h m (no c) = p.found i u (omega arith) m

  -- one with another
  pub gather_more : (k n t : ℕ) (list : List ℕ) → length list ≡ 512 → n < 512 → k < words → note xs x k ≡ t + 1 → Gathering skip x k n xs list → Gathering skip x (k + 1) (n + 1) xs (set list n t)
  gather_more k n t list room hn hk e p = record {
    most = omega arith;
    from = λ i h. from i h (ℕ_discrete i n);
    sorted = λ i j h l. sorted i j h l (ℕ_discrete i n) (ℕ_discrete j n);
    found = λ i u h m. go i u h m (ℕ_discrete i k);
  }
    where
      here : get_or (set list n t) n 0 ≡ t
      here = get_or-set_same list n t 0 (omega arith)

      other : (i : ℕ) → (i ≡ n → ⊥) → get_or (set list n t) i 0 ≡ get_or list i 0
      other i h = get_or-set_other list n i t 0 h

      from : (i : ℕ) → i < n + 1 → Dec (i ≡ n) → (j : ℕ) × (j < k + 1) × (note xs x j ≡ get_or (set list n t) i 0 + 1)
      from i h (yes z) = rw (z, here) (k, omega arith, e)
      from i h (no z) = let q = p.from i (omega arith) in (q.0, omega (arith, q.1), omega (arith, q.2, other i z))

      sorted : (i j : ℕ) → i ≤ j → j < n + 1 → Dec (i ≡ n) → Dec (j ≡ n) → get_or (set list n t) i 0 ≤ get_or (set list n t) j 0
      sorted i j h l (no y) (no z) = omega (arith, other i y, other j z, p.sorted i j h (omega arith))
      sorted i j h l (no y) (yes z) = let q = p.from i (omega arith) in rw z (omega (arith, other i y, here, q.2, ready.sorted q.0 k (omega (arith, q.1)) hk (omega arith)))
      sorted i j h l (yes y) z = let c : i ≡ j = omega arith in rw c (omega arith)

      go : (i u : ℕ) → i < k + 1 → Entry skip xs x i u → Dec (i ≡ k) → Among (n + 1) (set list n t) u
      go i u h m (yes c) = (n, omega arith, omega (arith, here, rw c at m.0))
      go i u h m (no c) = let q = p.found i u (omega arith) m in (q.0, omega (arith, q.1), other q.0 (λ z. omega (arith, q.1)) ∙ q.2)

  -- at the end of the list
  pub gather_end : (k n : ℕ) (list : List ℕ) → k ≤ words → ((i u : ℕ) → i < words → note xs x i ≡ u + 1 → i < k) → Gathering skip x k n xs list → Gathered skip x words n xs list
  gather_end k n list hk done p = record {
    numbers = record {
      most = p.most;
      states = λ i h. (let q = p.from i h in omega (arith, q.1, q.2, ready.notes q.0 (omega (arith, q.1))));
      sorted = p.sorted;
    };
    found = λ u m. p.found m.0 u (done m.0 u m.1 m.2.0) m.2;
  }

-- so are the numbers before the end alone
pub gathered_taken : (skip x words n : ℕ) (xs list : List ℕ) → n ≤ length list → Gathered skip x words n xs list → Gathered skip x words (length (take n list)) xs (take n list)
gathered_taken skip x words n xs list h p = rw (length-take-le n list h) (record {
  numbers = record {
    most = p.numbers.most;
    states = λ i l. omega (arith, get_or-take n list i 0 l, p.numbers.states i l);
    sorted = λ i j l m. omega (arith, get_or-take n list i 0 (omega arith), get_or-take n list j 0 m, p.numbers.sorted i j l m);
  };
  found = λ u m. (let q = p.found u m in (q.0, q.1, get_or-take n list q.0 0 q.1 ∙ q.2));
})

-- entry i of the list of the cell from x on is state u
abbrev pub At : List ℕ → ℕ → ℕ → ℕ → Type 0
At xs x i u = note xs x i ≡ u + 1

-- so is number i of a list
abbrev pub Number : List ℕ → ℕ → ℕ → Type 0
Number list i u = get_or list i 0 ≡ u

module _ (le : ℕ → ℕ → Bool) (at words : ℕ) where
  -- the first k entries of a list of states of the cell from `second` on are taken; E i u: entry i is state u
  pub record With (E : ℕ → ℕ → Type 0) (t v second k : ℕ) (old new : List ℕ) : Type 0 where
    pub grown : Grown le at words old new
    pub sums : (i u : ℕ) → i < k → E i u → t + u < words → T (le t (t + u)) → v + held old second u ≤ held new at (t + u)
    pub low : (f : ℕ → ℕ) → Rises le words f → ((u : ℕ) → u < words → t + u < words → T (le t (t + u)) → v + held old second u ≤ f (t + u)) → Low f at words old → Low f at words new

  pub with_more : (E : ℕ → ℕ → Type 0) (t v second k u w : ℕ) (old mid new : List ℕ) → second + words ≤ at → u < words → ((z : ℕ) → E k z → u ≡ z) → w ≡ v + held mid second u → With E t v second k old mid → Taken le at words t u w mid new → With E t v second (k + 1) old new
  with_more E t v second k u w old mid new room hu e f p q = record {
    grown = grown_then le at words old mid new p.grown q.grown;
    sums = λ i z h g l b. go i z h g l b (ℕ_discrete i k);
    low = λ g r s l. q.low g r (λ a b. omega (arith, value, s u hu a b)) (p.low g r s l);
  }
    where
      value : w ≡ v + held old second u
      value = omega (arith, held_kept at (at + words) old mid p.grown.rest second u (omega arith))

      go : (i z : ℕ) → i < k + 1 → E i z → t + z < words → T (le t (t + z)) → Dec (i ≡ k) → v + held old second z ≤ held new at (t + z)
      go i z h g l b (no same) = omega (arith, p.sums i z (omega arith) g l b, q.grown.more (t + z) l)
      go i z h g l b (yes same) =
          let c : u ≡ z = e z (rw same at g) in
          omega (arith, ap (λ u. held old second u) c, ap (λ u. held new at (t + u)) c, value, q.taken (omega arith) (rw c b))

  -- the same for the list of the cell from `second` on
  pub with_listed : (t v second k u w : ℕ) (old mid new : List ℕ) → second + words ≤ at → k < words → u < words → note mid second k ≡ u + 1 → w ≡ v + held mid second u → With (At old second) t v second k old mid → Taken le at words t u w mid new
      → With (At old second) t v second (k + 1) old new
  with_listed t v second k u w old mid new room hk hu e f p q = with_more (At old second) t v second k u w old mid new room hu (λ z g. omega (arith, note_kept at (at + words) old mid p.grown.rest second k (omega arith))) f p q

  -- and for the numbers of a list of states
  pub with_number : (list : List ℕ) (t v second k u w : ℕ) (old mid new : List ℕ) → second + words ≤ at → u < words → u ≡ get_or list k 0 → w ≡ v + held mid second u → With (Number list) t v second k old mid → Taken le at words t u w mid new → With (Number list) t v second (k + 1) old new
  with_number list t v second k u w old mid new room hu e f p q = with_more (Number list) t v second k u w old mid new room hu (λ z g. e ∙ g) f p q

  -- the first k entries of the list of the cell from `first` on are joined with some states; E i t: entry i is state t
  pub record Join (E : ℕ → ℕ → Type 0) (some : ℕ → Type 0) (first second k : ℕ) (old new : List ℕ) : Type 0 where
    pub grown : Grown le at words old new
    pub sums : (i t u : ℕ) → i < k → E i t → some u → t + u < words → T (le t (t + u)) → held old first t + held old second u ≤ held new at (t + u)
    pub low : (f : ℕ → ℕ) → Rises le words f → ((t u : ℕ) → t < words → u < words → t + u < words → T (le t (t + u)) → held old first t + held old second u ≤ f (t + u)) → Low f at words old → Low f at words new

  -- an entry that is not to be read
  pub join_passed : (E : ℕ → ℕ → Type 0) (some : ℕ → Type 0) (first second k : ℕ) (old xs : List ℕ) → ((t : ℕ) → E k t → ⊥) → Join E some first second k old xs → Join E some first second (k + 1) old xs
  join_passed E some first second k old xs out p = record {
    grown = p.grown;
    sums = λ i t u h g l m b. go i t u h g l m b (ℕ_discrete i k);
    low = p.low;
  }
    where
      go : (i t u : ℕ) → i < k + 1 → E i t → some u → t + u < words → T (le t (t + u)) → Dec (i ≡ k) → held old first t + held old second u ≤ held xs at (t + u)
      go i t u h g l m b (yes c) = absurd (out t (rw c at g))
      go i t u h g l m b (no c) = p.sums i t u (omega arith) g l m b

  pub join_more : (E : ℕ → ℕ → Type 0) (some same_Some : ℕ → Type 0) (first second k t v : ℕ) (old mid new : List ℕ) → first + words ≤ at → second + words ≤ at → t < words → ((z : ℕ) → E k z → t ≡ z) → ((u : ℕ) → some u → same_Some u) → v ≡ held mid first t
      → Join E some first second k old mid → JoinedWith le at words t v second same_Some mid new → Join E some first second (k + 1) old new
  join_more E some same_Some first second k t v old mid new rx ry ht e still f p q = record {
    grown = grown_then le at words old mid new p.grown q.grown;
    sums = λ i z u h g l m b. go i z u h g l m b (ℕ_discrete i k);
    low = λ g r s l. q.low g r (λ u hu a b. omega (arith, value, same u hu, s t u ht hu a b)) (p.low g r s l);
  }
    where
      value : v ≡ held old first t
      value = f ∙ held_kept at (at + words) old mid p.grown.rest first t (omega arith)

      same : (u : ℕ) → u < words → held mid second u ≡ held old second u
      same u h = held_kept at (at + words) old mid p.grown.rest second u (omega arith)

      go : (i z u : ℕ) → i < k + 1 → E i z → some u → z + u < words → T (le z (z + u)) → Dec (i ≡ k) → held old first z + held old second u ≤ held new at (z + u)
      go i z u h g l m b (no c) = omega (arith, p.sums i z u (omega arith) g l m b, q.grown.more (z + u) m)
      go i z u h g l m b (yes c) =
          let o : t ≡ z = e z (rw c at g) in
          omega (arith, ap (λ t. held old first t) o, ap (λ t. held new at (t + u)) o, value, same u (omega arith), q.sums u (still u l) (omega arith) (rw o b))

  pub join_end : (E : ℕ → ℕ → Type 0) (some more : ℕ → Type 0) (first second k : ℕ) (old new : List ℕ) → ((t : ℕ) → more t → (i : ℕ) × (i < k) × E i t) → Join E some first second k old new → Joined le at words first second more some old new
  join_end E some more first second k old new done p = record {
    grown = p.grown;
    sums = λ t u l m h b. (let q = done t l in p.sums q.0 t u q.1 q.2 m h b);
    low = p.low;
  }

  -- the same where all listed states are joined
  pub join_listed : (first second k t v : ℕ) (old mid new : List ℕ) → first + words ≤ at → second + words ≤ at → k < words → t < words → note mid first k ≡ t + 1 → v ≡ held mid first t → Join (At old first) (Listed old second words) first second k old mid
      → JoinedWith le at words t v second (Listed mid second words) mid new → Join (At old first) (Listed old second words) first second (k + 1) old new
  join_listed first second k t v old mid new rx ry hk ht e f p q = join_more (At old first) (Listed old second words) (Listed mid second words) first second k t v old mid new rx ry ht
      (λ z g. omega (arith, note_kept at (at + words) old mid p.grown.rest first k (omega arith))) (λ u l. listed_kept at (at + words) old mid p.grown.rest second words u ry l) f p q

  -- and where those with another mark than `skip` are
  module _ (skip first second : ℕ) where
    pub join_marked : (k t v count : ℕ) (old mid new list : List ℕ) → first + words ≤ at → second + words ≤ at → k < words → t < words → note mid first k ≡ t + 1 → v ≡ held mid first t → Gathered skip second words count old list → Join (Entry skip old first) (Marked skip old second words) first second k old mid
        → JoinedWith le at words t v second (Among count list) mid new → Join (Entry skip old first) (Marked skip old second words) first second (k + 1) old new
    join_marked k t v count old mid new list rx ry hk ht e f g p q = join_more (Entry skip old first) (Marked skip old second words) (Among count list) first second k t v old mid new rx ry ht
        (λ z x. omega (arith, x.0, note_kept at (at + words) old mid p.grown.rest first k (omega arith))) g.found f p q

    pub join_unmarked : (k : ℕ) (old mid : List ℕ) → first + words ≤ at → k < words → mark mid first k ≡ skip → Join (Entry skip old first) (Marked skip old second words) first second k old mid → Join (Entry skip old first) (Marked skip old second words) first second (k + 1) old mid
    join_unmarked k old mid rx hk e p = join_passed (Entry skip old first) (Marked skip old second words) first second k old mid (λ t x. x.1 (sym (ap mark_in (p.grown.rest.before (first + k) (omega arith))) ∙ e)) p

    pub join_marked_end : (k : ℕ) (old new : List ℕ) → ((i t : ℕ) → i < words → note old first i ≡ t + 1 → i < k) → Join (Entry skip old first) (Marked skip old second words) first second k old new → Joined le at words first second (Marked skip old first words) (Marked skip old second words) old new
    join_marked_end k old new done p = join_end (Entry skip old first) (Marked skip old second words) (Marked skip old first words) first second k old new (λ t l. (l.0, done l.0 t l.1 l.2.0, l.2)) p

  module _ (d skip : ℕ) (positions floors : List ℕ) (a base stride : ℕ) where
    -- a cut whose parts make up the whole is joined
    pub cut_joined : (i : ℕ) (old new : List ℕ) → Joined le at words (base + i * stride) (base + remainder positions floors a i * stride) (Served d skip old (base + i * stride) words) (Served d skip old (base + remainder positions floors a i * stride) words) old new → CutAt le d skip positions floors a i (i + 1) base stride at words old new
    cut_joined i old new w = record {
      grown = w.grown;
      sums = λ j t u l m e x y h b. (let z : j ≡ i = omega arith in rw z (w.sums t u (rw z at x) (rw z at y) h b));
      low = λ f r s l. w.low f r (λ t u ht hu h b. s i t u (omega arith) (omega arith) ht hu h b) l;
    }

    pub cut_part : (i other : ℕ) (old new : List ℕ) → other ≡ remainder positions floors a i → Joined le at words (base + i * stride) (base + other * stride) (Served d skip old (base + i * stride) words) (Served d skip old (base + other * stride) words) old new → CutAt le d skip positions floors a i (i + 1) base stride at words old new
    cut_part i other old new e w = cut_joined i old new (rw e at w)

    -- the cuts so far, and those from there on
    pub cut_then : (from mid end : ℕ) (old xs new : List ℕ) → ((i : ℕ) → from ≤ i → i < end → (base + i * stride + words ≤ at) × (base + remainder positions floors a i * stride + words ≤ at)) → from ≤ mid → mid ≤ end
        → CutAt le d skip positions floors a from mid base stride at words old xs → CutAt le d skip positions floors a mid end base stride at words xs new → CutAt le d skip positions floors a from end base stride at words old new
    cut_then from mid end old xs new room lo hi p q = record {
      grown = grown_then le at words old xs new p.grown q.grown;
      sums = λ i t u l m e x y h b. go i t u l m e x y h b (dec_le mid i);
      low = λ f r s l. q.low f r (λ i t u lm m ht hu h b. (let k = room i (omega arith) m in omega (arith, same (base + i * stride) t (omega arith), same (base + remainder positions floors a i * stride) u (omega arith), s i t u (omega arith) m ht hu h b)))
          (p.low f r (λ i t u lm m ht hu h b. s i t u lm (omega arith) ht hu h b) l);
    }
      where
        same : (x s : ℕ) → x + s < at → held xs x s ≡ held old x s
        same x s h = held_kept at (at + words) old xs p.grown.rest x s h

        go : (i t u : ℕ) → from ≤ i → i < end → get_or positions i 0 + get_or positions (remainder positions floors a i) 0 ≡ get_or positions a 0 → Served d skip old (base + i * stride) words t → Served d skip old (base + remainder positions floors a i * stride) words u
            → t + u < words → T (le t (t + u)) → Dec (mid ≤ i) → held old (base + i * stride) t + held old (base + remainder positions floors a i * stride) u ≤ held new at (t + u)
        go i t u l m e x y h b (no k) = omega (arith, p.sums i t u l (omega arith) e x y h b, q.grown.more (t + u) h)
        go i t u l m e x y h b (yes k) =
            let o = room i l m in
            omega (
              arith,
              same (base + i * stride) t (omega arith),
              same (base + remainder positions floors a i * stride) u (omega arith),
              q.sums i t u k m e (served_kept at (at + words) old xs p.grown.rest d skip (base + i * stride) words t o.0 x) (served_kept at (at + words) old xs p.grown.rest d skip (base + remainder positions floors a i * stride) words u o.1 y) h b,
            )
