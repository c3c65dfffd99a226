-- The walk over a tree's nodes passes and adds the tree, where its demands are kept.
use Rattle.plan.proofs.Prelude.{◌≡◌, ◌∙◌, refl, ap, List, ◌∷◌, ◌++◌, ℕ, ◌+◌, ◌≤◌, ◌<◌, arith, length, get_or, le-leb, eq-eqb, Direction, Length, Width, Node, Waste, Piece, Turned, Cut, Rect, side, part, Tree, waste, piece, cut, total, preorder, kind_of, operand_of, node_count, Job, laid, GuillotineTree, copies_of, lie_kind, count_cut, node_back, pair_of, PieceFits, NodeFits, node_passes, Report, node_of, parts, report_after, proceed, walk}
use Rattle.cutting.specs.Pieces as laid
use Rattle.plan.proofs.Counts.{second, added, added_copies, added_length}
use Rattle.plan.proofs.Preorder.{written, written_cut}

-- the walk goes on after a node that fits
pub node_walks : (J : Job) (k : ℕ) (n : Node) (ns : List (ℕ × ℕ)) (r : Rect) (rs : List Rect) (s : Report) → NodeFits J s.copies r n
    → walk J k (pair_of n ∷ ns) (r ∷ rs) s ≡ walk J (k + 1) ns (parts J.kerf n r ++ rs) (report_after J n r s)
unfolding walk
node_walks J k n ns r rs s h =
    ap (λ v. proceed v (walk J (k + 1) ns (parts J.kerf (node_of (kind_of n) (operand_of n)) r ++ rs) (report_after J (node_of (kind_of n) (operand_of n)) r s))) (node_passes J s.copies r k n h)
    ∙ ap (λ m. walk J (k + 1) ns (parts J.kerf m r ++ rs) (report_after J m r s)) (node_back n)

module _ (J : Job) (few : J.count ≤ 64) where
  -- a report whose copies, with a tree's, keep every demand
  abbrev Room : Tree laid.Piece → Report → Type 0
  Room t s = (length s.copies ≡ 64) × ((i : ℕ) → i < J.count → get_or s.copies i 0 + copies_of i t ≤ J.demand i)

  -- a guillotine tree's cut, whatever its direction
  pub cut_parts : (d : Direction) (x : ℕ) (a b : Tree laid.Piece) (r : Rect) → GuillotineTree J r.0 r.1 (cut d x a b)
      → (1 ≤ x) × (x + J.kerf < side d r) × GuillotineTree J (part d x r).0 (part d x r).1 a × GuillotineTree J (second J d x r).0 (second J d x r).1 b
  cut_parts Length x a b r g = g
  cut_parts Width x a b r g = g

  -- a piece that lies in a rectangle passes where its kind has a copy left
  piece_fits : (p : laid.Piece) (r : Rect) (s : Report) → GuillotineTree J r.0 r.1 (piece p) → Room (piece p) s → PieceFits J s.copies r p
  unfolding total
  piece_fits p r s g h =
      (g.0, simp (le-leb (laid J p).0 r.0 g.1, le-leb (laid J p).1 r.1 g.2), (let e = simp (eq-eqb (laid.kind p) (laid.kind p) refl) at (h.1 (laid.kind p) (lie_kind J p g.0)) in omega (arith, e)))

  pub tree_walks : (t : Tree laid.Piece) (k : ℕ) (ns : List (ℕ × ℕ)) (r : Rect) (rs : List Rect) (s : Report) → GuillotineTree J r.0 r.1 t → Room t s
      → walk J k (written t ++ ns) (r ∷ rs) s ≡ walk J (k + node_count t) ns rs (added J t r s)
  unfolding preorder node_count added total
  tree_walks waste k ns r rs s g h = node_walks J k Waste ns r rs s tt
  tree_walks (piece (laid.upright i)) k ns r rs s g h = node_walks J k (Piece i) ns r rs s (piece_fits (laid.upright i) r s g h)
  tree_walks (piece (laid.turned i)) k ns r rs s g h = node_walks J k (Turned i) ns r rs s (piece_fits (laid.turned i) r s g h)
  tree_walks (cut d x a b) k ns r rs s g h =
      let p = cut_parts d x a b r g in
      let z = report_after J (Cut d x) r s in
      let m = added J a (part d x r) z in
      let l = added_length J a (part d x r) z in
      ap (λ l. walk J k l (r ∷ rs) s) (written_cut d x a b ns)
      ∙ node_walks J k (Cut d x) (written a ++ (written b ++ ns)) r rs s (p.0, p.1)
      ∙ tree_walks a (k + 1) (written b ++ ns) (part d x r) (second J d x r ∷ rs) z p.2 (h.0, λ i c. omega (arith, h.1 i c))
      ∙ tree_walks b (k + 1 + node_count a) ns (second J d x r) rs m p.3
      (l ∙ h.0, λ i c. omega (arith, h.1 i c, added_copies J a (part d x r) z i (omega (arith, h.0, c, few))))
      ∙ ap (λ n. walk J n ns rs (added J b (second J d x r) m)) (let e : k + 1 + node_count a + node_count b ≡ k + node_count (cut d x a b) = omega (arith, count_cut d x a b) in e)
