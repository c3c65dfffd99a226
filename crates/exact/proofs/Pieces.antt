-- The states of one copy in the array of pieces: one more, and what the array then lists.
use Rattle.exact.proofs.Prelude.{◌≡◌, refl, sym, ◌∙◌, ap, ap₂, ◌&&◌, List, ℕ, zero, suc, ◌+◌, ◌-◌, ◌*◌, ◌/◌, ◌%◌, ◌≤◌, ◌<◌, ℕ_discrete, arith, leb, length, get_or, set, length-set, get_or-set_same, get_or-set_other, Piece, upright, turned, kind, Job, members, states, one_copy, no_more, listed_weight, node_in, node_number, member_at, PieceArray, member_kind, members_count, get_or_mem, below, under, Digits, Multiplied, stride, Statable, Stated}
use Rattle.exact.proofs.States.{zero_one, B, states_some, blocked}

module _ (own : ℕ → ℕ) (old : List ℕ) where
  -- one piece more
  pub stated_more : (i v : ℕ) {now : List ℕ} → Stated i own old now → 5 * i + 3 < length now → v ≡ own (node_in now i / 2) → Stated (i + 1) own old (set now (5 * i + 3) v)
  stated_more i v {now} s room e = record {
    entries = length-set now (5 * i + 3) v ∙ s.entries;
    states_are = λ j h. go j h (ℕ_discrete j i);
    others = λ k h. get_or-set_other now (5 * i + 3) k v 0 (h i) ∙ s.others k h;
  }
    where
      go : (j : ℕ) → j < i + 1 → Dec (j ≡ i) → listed_weight (set now (5 * i + 3) v) j ≡ own (node_in old j / 2)
      go j h (yes d) = rw d (get_or-set_same now (5 * i + 3) v 0 room ∙ e ∙ ap (λ n. own (n / 2)) (s.others (5 * i + 4) (λ j g. omega arith)))
      go j h (no d) = get_or-set_other now (5 * i + 3) (5 * j + 3) v 0 (λ g. omega arith) ∙ s.states_are j (omega arith)

-- the kind of a node's number
half_node : (p : Piece) → node_number p / 2 ≡ kind p
half_node (upright i) = omega arith
half_node (turned i) = omega arith

module _ (J : Job) {weight : ℕ → ℕ} (n : ℕ) (old : List ℕ) (a : PieceArray J weight n old) where
  kind_of : (j : ℕ) → j < n → node_in old j / 2 ≡ kind (member_at J j)
  kind_of j h = ap (λ k. k / 2) (a.nodes j h) ∙ half_node (member_at J j)

  known : (j : ℕ) → j < n → kind (member_at J j) < J.count
  known j h = member_kind J (member_at J j) (get_or_mem (members J) j (upright 0) (omega (arith, a.listing.number)))

  pub statable : {blocks : List ℕ} → J.count ≤ 64 → length blocks ≡ 64 → Statable old n blocks
  statable few room = record { entries = a.entries; few = omega (arith, a.listing.number, members_count J); kinds = λ j l. omega (arith, kind_of j l, known j l, room) }

  -- the array lists the pieces with their states for weights
  pub stated_array : (blocks new : List ℕ) → Multiplied J J.count blocks → Stated n (stride blocks) old new → PieceArray J (one_copy J) n new
  stated_array blocks new m s = record {
    entries = s.entries ∙ a.entries;
    listing = record {
      number = a.listing.number;
      sizes = λ j h. ap₂ (λ l w. (l, w)) (s.others (5 * j) (λ i g. omega arith)) (s.others (5 * j + 1) (λ i g. omega arith)) ∙ a.listing.sizes j h;
      prices = λ j h. s.others (5 * j + 2) (λ i g. omega arith) ∙ a.listing.prices j h;
      weights = λ j h. s.states_are j h ∙ (ap (stride blocks) (kind_of j h) ∙ own (kind (member_at J j)) (known j h));
    };
    nodes = λ j h. s.others (5 * j + 4) (λ i g. omega arith) ∙ a.nodes j h;
  }
    where
      own : (k : ℕ) → k < J.count → stride blocks k ≡ states J.demand k
      own zero h = sym (zero_one J.demand)
      own (suc k) h = m k (omega arith)

-- orders of the same numbers of states are the same
below_same : (A C : ℕ → ℕ) (d : ℕ) → ((i : ℕ) → i < d → A i ≡ C i) → (t s : ℕ) → below A d t s ≡ below C d t s
unfolding below
below_same A C zero h t s = refl
below_same A C (suc d) h t s = let e = h d (omega arith) in rw e (ap (λ b. leb (t / C d) (s / C d) && b) (below_same A C d (λ i l. h i (omega arith)) (t % C d) (s % C d)))

module _ (J : Job) (some : 1 ≤ J.count) (blocks : List ℕ) (m : Multiplied J J.count blocks) where
  pub order_same : under blocks (J.count - 1) ≡ no_more J
  order_same = λ i t s. below_same (λ i. get_or blocks i 0) (B J.demand) (J.count - 1) (λ i h. m i (omega arith)) t s i

  -- the entries are digits
  pub digits_listed : {q : ℕ} → q + 1 ≡ states J.demand J.count → q ≤ 4095 → J.count ≤ length blocks → Digits blocks (J.count - 1) (q + 1)
  digits_listed {q} e most room = record {
    digits = record {
      some = λ i h. omega (arith, m i (omega arith), states_some J.demand (suc i));
      whole = λ i h. (let w = (blocked J.demand (J.count - 1)).whole i h in (w.0, m (i + 1) (omega arith) ∙ w.1 ∙ ap (λ x. w.0 * x) (sym (m i (omega arith)))));
    };
    listed = omega arith;
    states = e ∙ sym (m (J.count - 1) (omega arith) ∙ last);
    most = omega arith;
  }
    where
      last : states J.demand (suc (J.count - 1)) ≡ states J.demand J.count
      last = let k : suc (J.count - 1) ≡ J.count = omega arith in ap (states J.demand) k
