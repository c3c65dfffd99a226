-- The numbers of states in the array of pieces: one more, and what the array then lists.
use Rattle.two_bound.proofs.Prelude.{◌≡◌, refl, ◌∙◌, ap, ap₂, List, ℕ, ◌+◌, ◌*◌, ◌/◌, ◌≤◌, ◌<◌, ℕ_discrete, arith, length, set, length-set, get_or-set_same, get_or-set_other, Piece, upright, turned, kind, Job, members, listed_weight, node_in, node_number, member_at, PieceArray, member_kind, get_or_mem, pair_count, own_state, pair_state, Statable, Stated}

-- the state of two weights is that of a kind which has them
pub state_same : (first second : ℕ → ℕ) (q q' k : ℕ) → pair_state q q' (λ i. first k) (λ i. second k) 0 ≡ pair_state q q' first second k
unfolding own_state
state_same first second q q' k = refl

module _ (first second : ℕ → ℕ) (q q' : ℕ) (old : List ℕ) where
  -- one piece more
  pub stated_more : (i v : ℕ) {now : List ℕ} → Stated i first second q q' old now → 5 * i + 3 < length now → v ≡ pair_state q q' first second (node_in now i / 2) → Stated (i + 1) first second q q' old (set now (5 * i + 3) v)
  stated_more i v {now} s room e = record {
    entries = length-set now (5 * i + 3) v ∙ s.entries;
    states = λ j h. go j h (ℕ_discrete j i);
    others = λ k h. get_or-set_other now (5 * i + 3) k v 0 (h i) ∙ s.others k h;
  }
    where
      go : (j : ℕ) → j < i + 1 → Dec (j ≡ i) → listed_weight (set now (5 * i + 3) v) j ≡ pair_state q q' first second (node_in old j / 2)
      go j h (yes d) = rw d (get_or-set_same now (5 * i + 3) v 0 room ∙ e ∙ ap (λ n. pair_state q q' first second (n / 2)) (s.others (5 * i + 4) (λ j g. omega arith)))
      go j h (no d) = get_or-set_other now (5 * i + 3) (5 * j + 3) v 0 (λ g. omega arith) ∙ s.states j (omega arith)

-- the kind of a node's number
half_node : (p : Piece) → node_number p / 2 ≡ kind p
half_node (upright i) = omega arith
half_node (turned i) = omega arith

module _ (J : Job) {weight : ℕ → ℕ} (n : ℕ) (old : List ℕ) (a : PieceArray J weight n old) where
  kind_of : (j : ℕ) → j < n → node_in old j / 2 ≡ kind (member_at J j)
  kind_of j h = ap (λ k. k / 2) (a.nodes j h) ∙ half_node (member_at J j)

  pub statable : {first second : List ℕ} {q q' : ℕ} → n ≤ 128 → length first ≡ J.count → length second ≡ J.count → pair_count q q' ≤ 65536 → Statable old n first second q q'
  statable few f s h = record {
    entries = a.entries;
    few = few;
    kinds = λ j l. (let k = member_kind J (member_at J j) (get_or_mem (members J) j (upright 0) (omega (arith, a.listing.number))) in (omega (arith, kind_of j l), omega (arith, kind_of j l)));
    pairs = h;
  }

  -- the array lists the pieces with their states for weights
  pub stated_array : (first second : ℕ → ℕ) (q q' : ℕ) (new : List ℕ) → Stated n first second q q' old new → PieceArray J (pair_state q q' first second) n new
  stated_array first second q q' new s = record {
    entries = s.entries ∙ a.entries;
    listing = record {
      number = a.listing.number;
      sizes = λ j h. ap₂ (λ l w. (l, w)) (s.others (5 * j) (λ i g. omega arith)) (s.others (5 * j + 1) (λ i g. omega arith)) ∙ a.listing.sizes j h;
      prices = λ j h. s.others (5 * j + 2) (λ i g. omega arith) ∙ a.listing.prices j h;
      weights = λ j h. s.states j h ∙ ap (pair_state q q' first second) (kind_of j h);
    };
    nodes = λ j h. s.others (5 * j + 4) (λ i g. omega arith) ∙ a.nodes j h;
  }
