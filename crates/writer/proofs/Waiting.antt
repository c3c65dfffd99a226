-- The list of waiting cells: a cell that is put is there and the others stay; what a step takes from the nodes to come; how many cells
-- can wait.
use Rattle.writer.proofs.Prelude.{◌≡◌, refl, sym, ◌∙◌, ap, ap₂, subst, Bool, false, List, [], ◌∷◌, ◌++◌, append_assoc, append-nil, ℕ, zero, suc, ◌+◌, ◌-◌, ◌*◌, ◌≤◌, ◌<◌, add-one, ℕ_discrete, arith, length, get_or, set, length-set, get_or-set_same, get_or-set_other, Direction, Node, Cut, Sides, side, rect_of, preorder, node_count, KindsAbove, TableSize, size_job, Cell, Inside, Settled, cell_at, with_cell, plan_at, plate_cell, whole_plan, nodes_left, left_out, half_of, SettledAt, Waiting, Stepped}
use Rattle.writer.proofs.Plan.{Ready, first_cell, second_cell, Parts, plan_nodes, leaf_nodes, cut_position, cut_parts, cut_nodes}

module _ (xs : List ℕ) (i : ℕ) (cell : Cell) where
  pub put_length : length (with_cell xs i cell) ≡ length xs
  put_length = simp length-set

  -- the cell that was put is there
  pub put_there : 3 * i + 2 < length xs → cell_at (with_cell xs i cell) i ≡ cell
  put_there h =
      let a = set xs (3 * i) cell.sides.length in
      let b = set a (3 * i + 1) cell.sides.width in
      let n : length a ≡ length xs = length-set xs (3 * i) cell.sides.length in
      let m : length b ≡ length a = length-set a (3 * i + 1) cell.sides.width in
      let p : get_or (with_cell xs i cell) (3 * i) 0 ≡ cell.sides.length =
      get_or-set_other b (3 * i + 2) (3 * i) cell.share 0 (λ e. omega arith) ∙ get_or-set_other a (3 * i + 1) (3 * i) cell.sides.width 0 (λ e. omega arith) ∙ get_or-set_same xs (3 * i) cell.sides.length 0 (omega arith) in
      let q : get_or (with_cell xs i cell) (3 * i + 1) 0 ≡ cell.sides.width =
      get_or-set_other b (3 * i + 2) (3 * i + 1) cell.share 0 (λ e. omega arith) ∙ get_or-set_same a (3 * i + 1) cell.sides.width 0 (omega arith) in
      let r : get_or (with_cell xs i cell) (3 * i + 2) 0 ≡ cell.share = get_or-set_same b (3 * i + 2) cell.share 0 (omega arith) in
      λ k. record { sides = record { length = p k; width = q k }; share = r k }

  -- every other cell stays
  pub put_other : (j : ℕ) → (j ≡ i → ⊥) → cell_at (with_cell xs i cell) j ≡ cell_at xs j
  put_other j ne = λ k. record {
    sides = record { length = same (3 * j) (λ e. ne (omega arith)) (λ e. omega arith) (λ e. omega arith) k; width = same (3 * j + 1) (λ e. omega arith) (λ e. ne (omega arith)) (λ e. omega arith) k };
    share = same (3 * j + 2) (λ e. omega arith) (λ e. omega arith) (λ e. ne (omega arith)) k;
  }
    where
      same : (n : ℕ) → (n ≡ 3 * i → ⊥) → (n ≡ 3 * i + 1 → ⊥) → (n ≡ 3 * i + 2 → ⊥) → get_or (with_cell xs i cell) n 0 ≡ get_or xs n 0
      same n a b c = get_or-set_other (set (set xs (3 * i) cell.sides.length) (3 * i + 1) cell.sides.width) (3 * i + 2) n cell.share 0 c
          ∙ get_or-set_other (set xs (3 * i) cell.sides.length) (3 * i + 1) n cell.sides.width 0 b ∙ get_or-set_other xs (3 * i) n cell.sides.length 0 a

module _ (le : ℕ → ℕ → Bool) (kerf : ℕ) (size : TableSize) (pieces : List ℕ) where
  -- the nodes to come depend on the cells that wait
  nodes_same : (xs ys : List ℕ) (n : ℕ) → ((i : ℕ) → i < n → cell_at xs i ≡ cell_at ys i) → nodes_left le kerf size pieces xs n ≡ nodes_left le kerf size pieces ys n
  unfolding nodes_left
  nodes_same xs ys zero h = refl
  nodes_same xs ys (suc n) h = ap₂ (λ c r. preorder (plan_at le kerf size pieces c) ++ r) (h n (omega arith)) (nodes_same xs ys n (λ i l. h i (omega arith)))

  nodes_top : (xs : List ℕ) (n : ℕ) → nodes_left le kerf size pieces xs (n + 1) ≡ preorder (plan_at le kerf size pieces (cell_at xs n)) ++ nodes_left le kerf size pieces xs n
  unfolding nodes_left
  nodes_top xs n = rw (add-one n) refl

  pub none_left : (xs : List ℕ) → nodes_left le kerf size pieces xs 0 ≡ []
  unfolding nodes_left
  none_left xs = refl

  -- the cell on top of n gives the next nodes
  nodes_next : (xs : List ℕ) (n : ℕ) → 0 < n → nodes_left le kerf size pieces xs n ≡ preorder (plan_at le kerf size pieces (cell_at xs (n - 1))) ++ nodes_left le kerf size pieces xs (n - 1)
  nodes_next xs n h = let e : n ≡ n - 1 + 1 = omega arith in ap (nodes_left le kerf size pieces xs) e ∙ nodes_top xs (n - 1)

module _ {le : ℕ → ℕ → Bool} {size : TableSize} {pieces : List ℕ} (h : Ready le size pieces) {xs : List ℕ} {n : ℕ} (w : Waiting size pieces xs n) (some : 0 < n) where
  -- a cell on top of many is small: at most 2,039 wait
  pub place : n < 2040
  place =
      let l : n - 1 < n = omega arith in
      let c = w.inside (n - 1) l in
      omega (arith, c.some_length, c.some_width, w.smaller (n - 1) l, h.0.plate_length, h.0.plate_width)

  pub top_inside : Inside (size_job size pieces) size (cell_at xs (n - 1))
  top_inside = w.inside (n - 1) (omega arith)

  -- after a node without parts the cells below it wait
  below_wait : Waiting size pieces xs (n - 1)
  below_wait = record { entries = w.entries; inside = λ i l. w.inside i (omega arith); smaller = λ i l. w.smaller i (omega arith) }

  -- after a cut its parts wait besides, the second below the first
  module _ {a b : Cell} (p : Parts (size_job size pieces) size (cell_at xs (n - 1)) a b) where
    abbrev new : List ℕ
    new = with_cell (with_cell xs (n - 1) b) n a

    entries_new : length new ≡ 6120
    entries_new = put_length (with_cell xs (n - 1) b) n a ∙ put_length xs (n - 1) b ∙ w.entries

    first_there : cell_at new n ≡ a
    first_there = put_there (with_cell xs (n - 1) b) n a (omega (arith, place, put_length xs (n - 1) b, w.entries))

    second_there : cell_at new (n - 1) ≡ b
    second_there = put_other (with_cell xs (n - 1) b) n a (n - 1) (λ z. omega arith) ∙ put_there xs (n - 1) b (omega (arith, place, w.entries))

    below_there : (i : ℕ) → i < n - 1 → cell_at new i ≡ cell_at xs i
    below_there i l = put_other (with_cell xs (n - 1) b) n a i (λ z. omega arith) ∙ put_other xs (n - 1) b i (λ z. omega arith)

    -- what holds of the parts and of the cells below holds of all
    each : (P : Cell → ℕ → Type 0) → P a n → P b (n - 1) → ((i : ℕ) → i < n - 1 → P (cell_at xs i) i) → (i : ℕ) → i < n + 1 → P (cell_at new i) i
    each P u v below i l = go (ℕ_discrete i n) (ℕ_discrete i (n - 1))
      where
        go : Dec (i ≡ n) → Dec (i ≡ n - 1) → P (cell_at new i) i
        go (yes z) d = subst (λ i. P (cell_at new i) i) (sym z) (subst (λ c. P c n) (sym first_there) u)
        go (no z) (yes y) = subst (λ i. P (cell_at new i) i) (sym y) (subst (λ c. P c (n - 1)) (sym second_there) v)
        go (no z) (no y) = let m : i < n - 1 = omega arith in subst (λ c. P c i) (sym (below_there i m)) (below i m)

    parts_wait : Waiting size pieces new (n + 1)
    parts_wait =
        let m = w.smaller (n - 1) (omega arith) in
        record {
          entries = entries_new;
          inside = each (λ c i. Inside (size_job size pieces) size c) p.first_inside p.second_inside (λ i l. w.inside i (omega arith));
          smaller = each (λ c i. half_of c + i ≤ size.length + size.width) (omega (arith, p.first_less)) (omega (arith, p.second_less)) (λ i l. w.smaller i (omega arith));
        }

    -- and its node is taken
    cut_taken : (kerf : ℕ) {node : Node} → preorder (plan_at le kerf size pieces (cell_at xs (n - 1))) ≡ node ∷ (preorder (plan_at le kerf size pieces a) ++ preorder (plan_at le kerf size pieces b))
        → nodes_left le kerf size pieces xs n ≡ node ∷ nodes_left le kerf size pieces new (n + 1)
    cut_taken kerf {node} q =
        let A = preorder (plan_at le kerf size pieces a) in
        let B = preorder (plan_at le kerf size pieces b) in
        let rest = nodes_left le kerf size pieces xs (n - 1) in
        let lower : nodes_left le kerf size pieces new n ≡ B ++ rest = nodes_next le kerf size pieces new n some ∙ ap₂ (λ c r. preorder (plan_at le kerf size pieces c) ++ r) second_there (nodes_same le kerf size pieces new xs (n - 1) below_there) in
        let upper : nodes_left le kerf size pieces new (n + 1) ≡ A ++ (B ++ rest) = nodes_top le kerf size pieces new n ∙ ap₂ (λ c r. preorder (plan_at le kerf size pieces c) ++ r) first_there lower in
        nodes_next le kerf size pieces xs n some ∙ ap (λ ns. ns ++ rest) q ∙ ap (λ ns. node ∷ ns) (append_assoc A B rest ∙ sym upper)

  -- a step, by the cell that the plan of the one on top goes on with and the choice there
  module _ {kerf : ℕ} {cell : Cell} (at : cell ≡ cell_at xs (n - 1)) {s : Settled} (e : SettledAt le kerf size pieces cell s) where
    pub leaf_stepped : ((d : Direction) (x : ℕ) → s.chosen.node ≡ Cut d x → ⊥) → Stepped le kerf size pieces xs xs n (record { node = s.chosen.node; depth = n - 1 })
    leaf_stepped k = record {
      nodes = nodes_next le kerf size pieces xs n some ∙ ap (λ ns. ns ++ nodes_left le kerf size pieces xs (n - 1))
          (ap (λ c. preorder (plan_at le kerf size pieces c)) (sym at) ∙ ap preorder e.same ∙ leaf_nodes le kerf size pieces h s.cell e.inside e.choice k);
      waits = below_wait;
    }

    module _ (thick : KindsAbove kerf (size_job size pieces)) {d : Direction} {x : ℕ} (f : s.chosen.node ≡ Cut d x) where
      pub cut_ready : (kerf < x) × (x < side d (rect_of s.cell.sides)) × (s.chosen.share ≤ s.cell.share)
      cut_ready = cut_position le kerf size pieces h s.cell e.inside e.choice thick f

      -- the parts are less than the cell on top too
      settled_parts : Parts (size_job size pieces) size (cell_at xs (n - 1)) (first_cell s.cell d x s.chosen.share) (second_cell s.cell d x s.chosen.share)
      settled_parts =
          let p = cut_parts le kerf size pieces h s.cell e.inside e.choice thick f in
          let m : half_of s.cell ≤ half_of (cell_at xs (n - 1)) = subst (λ c. half_of s.cell ≤ half_of c) at e.smaller in
          record { first_inside = p.first_inside; second_inside = p.second_inside; first_less = omega (arith, p.first_less, m); second_less = omega (arith, p.second_less, m) }

      pub cut_stepped : {a : Cell} {b : Sides} → a ≡ first_cell s.cell d x s.chosen.share → b ≡ (second_cell s.cell d x s.chosen.share).sides → {middle new : List ℕ}
          → middle ≡ with_cell xs (n - 1) (record { sides = b; share = s.cell.share - s.chosen.share }) → new ≡ with_cell middle n a
          → Stepped le kerf size pieces xs new n (record { node = Cut d (x - kerf); depth = n + 1 })
      cut_stepped {a} {b} p q {middle} {new} u v =
          let first = first_cell s.cell d x s.chosen.share in
          let second = second_cell s.cell d x s.chosen.share in
          let list : new ≡ with_cell (with_cell xs (n - 1) second) n first = v ∙ ap₂ (λ ys c. with_cell ys n c) (u ∙ ap (λ z. with_cell xs (n - 1) (record { sides = z; share = s.cell.share - s.chosen.share })) q) p in
          let stays : left_out kerf (Cut d x) (rect_of s.cell.sides) ≡ false = sym (ap (λ m. left_out kerf m (rect_of s.cell.sides)) f) ∙ e.remains in
          subst (λ ys. Stepped le kerf size pieces xs ys n (record { node = Cut d (x - kerf); depth = n + 1 })) (sym list) (record {
            nodes = cut_taken settled_parts kerf (ap (λ c. preorder (plan_at le kerf size pieces c)) (sym at) ∙ ap preorder e.same ∙ cut_nodes le kerf size pieces h s.cell e.inside e.choice thick f stays);
            waits = parts_wait settled_parts;
          })

-- the cell of the plate waits alone at the start, and all nodes are to come
module _ (le : ℕ → ℕ → Bool) (kerf : ℕ) (size : TableSize) (pieces : List ℕ) (h : Ready le size pieces) where
  plate_inside : Inside (size_job size pieces) size (plate_cell size)
  plate_inside = record { some_length = h.0.plate_length.0; on_length = omega arith; some_width = h.0.plate_width.0; on_width = omega arith; in_capacity = omega arith }

  -- the plan has fewer than 2,080,800 nodes
  pub whole_nodes : node_count (whole_plan le kerf size pieces) < 2080800
  whole_nodes = plan_nodes le kerf size pieces h (plate_cell size) plate_inside

  module _ (xs : List ℕ) (k : length xs ≡ 6120) {new : List ℕ} (p : new ≡ with_cell xs 0 (plate_cell size)) where
    plate_there : cell_at new 0 ≡ plate_cell size
    plate_there = ap (λ ys. cell_at ys 0) p ∙ put_there xs 0 (plate_cell size) (omega arith)

    pub plate_waits : Waiting size pieces new 1
    plate_waits = record {
      entries = ap length p ∙ put_length xs 0 (plate_cell size) ∙ k;
      inside = λ i l. (let z : i ≡ 0 = omega arith in subst (λ i. Inside (size_job size pieces) size (cell_at new i)) (sym z) (subst (λ c. Inside (size_job size pieces) size c) (sym plate_there) plate_inside));
      smaller = λ i l. (let z : i ≡ 0 = omega arith in subst (λ i. half_of (cell_at new i) + i ≤ size.length + size.width) (sym z) (subst (λ c. half_of c + 0 ≤ size.length + size.width) (sym plate_there) (omega arith)));
    }

    pub plan_left : nodes_left le kerf size pieces new 1 ≡ preorder (whole_plan le kerf size pieces)
    plan_left = nodes_next le kerf size pieces new 1 (omega arith) ∙ ap₂ (λ c r. preorder (plan_at le kerf size pieces c) ++ r) plate_there (none_left le kerf size pieces new) ∙ append-nil _

    -- all nodes are to come
    pub count_left : length (nodes_left le kerf size pieces new 1) ≡ node_count (whole_plan le kerf size pieces)
    unfolding node_count
    count_left = ap length plan_left
