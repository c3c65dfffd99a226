-- The plan behind the bound by its choices: the tree below each node that the choice answers, and the number of its nodes.
use Rattle.writer.proofs.Prelude.{◌≡◌, refl, sym, ◌∙◌, ap, subst, Bool, true, false, List, [], ◌∷◌, ◌++◌, ℕ, ◌+◌, ◌-◌, ◌/◌, ◌%◌, ◌≤◌, ◌<◌, mul-le-mul, dec_le, arith, lt-ltb, le-ltb, T, leb, leb→le, le→leb, eqb, Direction, Length, Width, Node, Waste, Turned, Cut, Rect, side, part, Tree, piece, Piece, kind, rect_of, sides_of, preorder, node_count, Choice, as_waste, as_piece, as_cut, cut_remains, or_first, Job, lossless_plan, normal_side, plan_choice, KindsAbove, InTableRange, listed_weight, node_in, piece_way, numbered_piece, laid_tree, array_shares, array_plan, table_solid, Sound, choice_sound, state_division, lossless_tree, array_after, array_recursion, positions_above, TableSize, size_job, Order, by_state_monotone, Cell, Chosen, node_way, numbered_node, Inside, chosen_of, chosen_at, plan_at, left_out, first_of, half_of}
use Rattle.promises.specs.declared.Node.TheVariants as node
use Rattle.writer.proofs.Preorder.{nodes_most, count_sawn, count_laid}

-- what the walk knows of an array: a plain job in range, and an order of states
abbrev pub Ready : (ℕ → ℕ → Bool) → TableSize → List ℕ → Type 0
Ready le size pieces = InTableRange (size_job size pieces) × Order le

-- the node that a number stands for is its piece's
number_nodes : (number : ℕ) → preorder (piece (numbered_piece number)) ≡ numbered_node number ∷ []
unfolding preorder
number_nodes number = go (eqb (number % 2) 0)
  where
    go : (b : Bool) → preorder (piece (piece_way b (number / 2))) ≡ node_way b (number / 2) ∷ []
    go true = refl
    go false = refl

-- a cut whose second part is below 1, by the sides and by the remainder
left_remains : (s x k : ℕ) → leb s (x + k) ≡ false → cut_remains k (s - x) ≡ true
left_remains s x k e = lt-ltb k (s - x) (let h = leb_above s (x + k) e in omega arith)
  where
    leb_above : (a b : ℕ) → leb a b ≡ false → b < a
    leb_above a b e = go (dec_le a b)
      where
        go : Dec (a ≤ b) → b < a
        go (yes l) = absurd (subst T e (le→leb a b l))
        go (no l) = omega arith

left_falls : (s x k : ℕ) → leb s (x + k) ≡ true → cut_remains k (s - x) ≡ false
left_falls s x k e = le-ltb k (s - x) (let h = leb→le s (x + k) (subst T (sym e) tt) in omega arith)

module _ (le : ℕ → ℕ → Bool) (kerf : ℕ) (size : TableSize) (pieces : List ℕ) (r : Rect) (c : ℕ) where
  -- the plain job of the pieces, the plan of a rectangle, and the tree after a choice
  abbrev N : Job
  N = size_job size pieces

  abbrev plan_in : Rect → ℕ → Tree Piece
  plan_in q k = array_plan le kerf (size.length, size.width) size.count pieces q k

  abbrev after_choice : Choice Piece ℕ → Tree Piece
  after_choice u = array_after le kerf (size.length, size.width) size.count pieces r u

  leaf_after : (u : Choice Piece ℕ) → ((d : Direction) (x : ℕ) → (chosen_of pieces u).node ≡ Cut d x → ⊥) → preorder (after_choice u) ≡ (chosen_of pieces u).node ∷ []
  unfolding preorder
  leaf_after as_waste k = refl
  leaf_after (as_piece p) k = number_nodes (node_in pieces (kind p))
  leaf_after (as_cut d x q) k = absurd (k d x refl)

  -- a number's node is no cut
  no_cut : {A : Type 0} (b : Bool) (i : ℕ) (d : Direction) (x : ℕ) → node_way b i ≡ Cut d x → A
  no_cut true i d x e = absurd (let z : ◌≡◌ {A = ℕ} 0 1 = cc in omega arith)
  no_cut false i d x e = absurd (let z : ◌≡◌ {A = ℕ} 0 1 = cc in omega arith)

  -- the tree of a cut: the cut at its position less the kerf, or its first part alone
  abbrev cut_tree : Direction → ℕ → ℕ → Tree Piece
  cut_tree d x share = or_first (cut_remains kerf (side d r - x)) d (x - kerf) (plan_in (part d x r) share) (plan_in (part d (side d r - x) r) (c - share))

  cut_after : (u : Choice Piece ℕ) (d : Direction) (x : ℕ) → Sound N (array_shares le pieces) r.0 r.1 c u → (chosen_of pieces u).node ≡ Cut d x
      → (1 ≤ x) × (x < side d r) × ((chosen_of pieces u).share ≤ c) × T (normal_side N d x) × (after_choice u ≡ cut_tree d x (chosen_of pieces u).share)
  cut_after as_waste d x s e = absurd (let z : ◌≡◌ {A = ℕ} 0 1 = cc in omega arith)
  cut_after (as_piece p) d x s e = no_cut (eqb (node_in pieces (kind p) % 2) 0) (node_in pieces (kind p) / 2) d x e
  cut_after (as_cut f y q) d x s e =
      let a : f ≡ d = cc in
      let b : y ≡ x = cc in
      let k = state_division le (λ p. listed_weight pieces (kind p)) f c q s.2 in
      rw (sym a, sym b) (s.0, s.1, k.0, s.3, ap (λ k. or_first (cut_remains kerf (side f r - y)) f (y - kerf) (plan_in (part f y r) q.0) (plan_in (part f (side f r - y) r) k)) k.1)

-- the cells of a cut's two parts
abbrev pub first_cell : Cell → Direction → ℕ → ℕ → Cell
first_cell cell d x share = record { sides = sides_of (part d x (rect_of cell.sides)); share = share }

abbrev pub second_cell : Cell → Direction → ℕ → ℕ → Cell
second_cell cell d x share = record { sides = sides_of (part d (side d (rect_of cell.sides) - x) (rect_of cell.sides)); share = cell.share - share }

-- both lie on the plate where the cell does, and are less than the whole
pub record Parts (J : Job) (size : TableSize) (cell a b : Cell) : Type 0 where
  pub first_inside : Inside J size a
  pub second_inside : Inside J size b
  pub first_less : half_of a < half_of cell
  pub second_less : half_of b < half_of cell

parts : {J : Job} {size : TableSize} (cell : Cell) → Inside J size cell → (d : Direction) (x share : ℕ) → 1 ≤ x → x < side d (rect_of cell.sides) → share ≤ cell.share
    → Parts J size cell (first_cell cell d x share) (second_cell cell d x share)
parts cell at Length x share p q s = record {
  first_inside = record { some_length = p; on_length = omega (arith, at.on_length); some_width = at.some_width; on_width = at.on_width; in_capacity = omega (arith, at.in_capacity) };
  second_inside = record { some_length = omega arith; on_length = omega (arith, at.on_length); some_width = at.some_width; on_width = at.on_width; in_capacity = omega (arith, at.in_capacity) };
  first_less = omega arith;
  second_less = omega arith;
}
parts cell at Width x share p q s = record {
  first_inside = record { some_length = at.some_length; on_length = at.on_length; some_width = p; on_width = omega (arith, at.on_width); in_capacity = omega (arith, at.in_capacity) };
  second_inside = record { some_length = at.some_length; on_length = at.on_length; some_width = omega arith; on_width = omega (arith, at.on_width); in_capacity = omega (arith, at.in_capacity) };
  first_less = omega arith;
  second_less = omega arith;
}

module _ (le : ℕ → ℕ → Bool) (kerf : ℕ) (size : TableSize) (pieces : List ℕ) (h : Ready le size pieces) (cell : Cell) (at : Inside (size_job size pieces) size cell) where
  -- the plan has fewer than 2,080,800 nodes
  pub plan_nodes : node_count (plan_at le kerf size pieces cell) < 2080800
  plan_nodes =
      let J = size_job size pieces in
      let l = cell.sides.length in
      let w = cell.sides.width in
      let t = lossless_plan J (array_shares le pieces) (l, w) cell.share in
      let x : l ≤ 1020 = omega (arith, at.on_length, h.0.plate_length) in
      let y : w ≤ 1020 = omega (arith, at.on_width, h.0.plate_width) in
      omega (arith, count_sawn kerf (l, w) (laid_tree pieces t), count_laid pieces t, nodes_most J t l w (lossless_tree J (array_shares le pieces) (l, w) cell.share refl) at.some_length at.some_width, mul-le-mul x y)

  -- what the node of a choice says of the plan
  module _ {r : Chosen} (e : r ≡ chosen_at le size pieces cell) where
    abbrev chosen : Choice Piece ℕ
    chosen = plan_choice (size_job size pieces) (array_shares le pieces) cell.sides.length cell.sides.width cell.share

    after : plan_at le kerf size pieces cell ≡ after_choice le kerf size pieces (rect_of cell.sides) cell.share chosen
    after =
        let J = size_job size pieces in
        array_recursion le kerf (size.length, size.width) size.count pieces (by_state_monotone le h.1 _) (table_solid J h.0) (rect_of cell.sides) cell.share (at.on_length, at.on_width)

    -- a node that is no cut is all of the plan
    pub leaf_nodes : ((d : Direction) (x : ℕ) → r.node ≡ Cut d x → ⊥) → preorder (plan_at le kerf size pieces cell) ≡ r.node ∷ []
    leaf_nodes k = ap preorder after ∙ leaf_after le kerf size pieces (rect_of cell.sides) cell.share chosen (λ d x n. k d x (ap (λ u. u.node) e ∙ n)) ∙ ap (λ u. u.node ∷ []) (sym e)

    module _ (thick : KindsAbove kerf (size_job size pieces)) {d : Direction} {x : ℕ} (n : r.node ≡ Cut d x) where
      found_cut : (1 ≤ x) × (x < side d (rect_of cell.sides)) × (r.share ≤ cell.share) × T (normal_side (size_job size pieces) d x)
          × (plan_at le kerf size pieces cell ≡ cut_tree le kerf size pieces (rect_of cell.sides) cell.share d x r.share)
      found_cut =
          let J = size_job size pieces in
          let sound = choice_sound J (array_shares le pieces) cell.sides.length cell.sides.width cell.share in
          let f = cut_after le kerf size pieces (rect_of cell.sides) cell.share chosen d x sound (ap (λ u. u.node) (sym e) ∙ n) in
          rw e (f.0, f.1, f.2, f.3, after ∙ f.4)

      -- its position is above the kerf and below the side
      pub cut_position : (kerf < x) × (x < side d (rect_of cell.sides)) × (r.share ≤ cell.share)
      cut_position = (positions_above (size_job size pieces) d kerf thick x found_cut.0 found_cut.3, found_cut.1, found_cut.2)

      pub cut_parts : Parts (size_job size pieces) size cell (first_cell cell d x r.share) (second_cell cell d x r.share)
      cut_parts = parts cell at d x r.share found_cut.0 found_cut.1 found_cut.2

      -- a cut that is left out: the plan goes on with the first part
      pub cut_falls : left_out kerf (Cut d x) (rect_of cell.sides) ≡ true → plan_at le kerf size pieces cell ≡ plan_at le kerf size pieces (first_cell cell d x r.share)
      cut_falls f = found_cut.4 ∙ ap (λ b. or_first b d (x - kerf) (plan_at le kerf size pieces (first_cell cell d x r.share)) (plan_at le kerf size pieces (second_cell cell d x r.share))) (left_falls (side d (rect_of cell.sides)) x kerf f)

      -- one that remains: it stands at its position less the kerf, before its parts
      pub cut_nodes : left_out kerf (Cut d x) (rect_of cell.sides) ≡ false
          → preorder (plan_at le kerf size pieces cell) ≡ Cut d (x - kerf) ∷ (preorder (plan_at le kerf size pieces (first_cell cell d x r.share)) ++ preorder (plan_at le kerf size pieces (second_cell cell d x r.share)))
      unfolding preorder
      cut_nodes f =
          ap preorder (found_cut.4 ∙ ap (λ b. or_first b d (x - kerf) (plan_at le kerf size pieces (first_cell cell d x r.share)) (plan_at le kerf size pieces (second_cell cell d x r.share))) (left_remains (side d (rect_of cell.sides)) x kerf f))

    -- past a cut that is left out: the same plan from a smaller cell on the plate
    abbrev pub GoesOn : Cell → Type 0
    GoesOn a = (plan_at le kerf size pieces cell ≡ plan_at le kerf size pieces a) × Inside (size_job size pieces) size a × (half_of a < half_of cell)

    pub goes_on : KindsAbove kerf (size_job size pieces) → left_out kerf r.node (rect_of cell.sides) ≡ true → {a : Cell} → a ≡ first_of cell r r.node → GoesOn a
    goes_on thick f g = subst GoesOn (sym g) (go r.node refl f)
      where
        go : (m : Node) → r.node ≡ m → left_out kerf m (rect_of cell.sides) ≡ true → GoesOn (first_of cell r m)
        go (Cut d x) n f = (cut_falls thick n f, (cut_parts thick n).first_inside, (cut_parts thick n).first_less)
        go Waste n f = absurd (subst T (sym f) tt)
        go (node.Piece i) n f = absurd (subst T (sym f) tt)
        go (Turned i) n f = absurd (subst T (sym f) tt)
