-- A walk that passes has read the nodes of a guillotine tree that keeps every demand.
use Rattle.plan.proofs.Prelude.{◌≡◌, ◌∙◌, refl, sym, ap, subst, true, List, [], ◌∷◌, ◌++◌, ℕ, zero, suc, ◌+◌, ◌≤◌, ◌<◌, ℕ_discrete, arith, T, length, get_or, set, length-append, length-set, get_or-set_same, get_or-set_other, Direction, Length, Width, Node, Waste, Piece, Turned, Cut, Rect, side, part, Tree, waste, piece, cut, preorder, node_count, fits_in, Job, laid, GuillotineTree, true_fits_in, count_cut, Refusal, pair_of, PieceFits, NodeFits, node_passed, Report, node_of, report_after, proceed, walk, Ok, Err, passed, Checked, Answer, verdict_of}
use Rattle.cutting.specs.Pieces as laid
use Rattle.plan.proofs.Counts.{second, added}
use Rattle.plan.proofs.Preorder.{written, written_cut}
use Rattle.plan.proofs.Trees.{node_walks}

-- what follows from a refusal that passed
pub no_pass : {r : Refusal} {A : Type 0} → Err r ≡ passed → A
no_pass e = absurd (let z : ◌≡◌ {A = ℕ} 0 1 = cc in let w : ⊥ = omega arith in w)

-- a check passed where what follows it did
pub proceed_passed : {A : Type 0} (v : Checked) (a : Answer A) → verdict_of (proceed v a) ≡ passed → (v ≡ passed) × (verdict_of a ≡ passed)
proceed_passed (Ok _) a e = (refl, e)
proceed_passed (Err r) a e = no_pass e

-- and what follows has the value
pub proceed_value : {A : Type 0} (v : Checked) (a : Answer A) {s : A} → proceed v a ≡ Ok s → (v ≡ passed) × (a ≡ Ok s)
proceed_value (Ok _) a e = (refl, e)
proceed_value (Err r) a e = no_pass (ap verdict_of e)

-- a piece that fits is no larger
fits_true : (q r : Rect) → fits_in q r ≡ true → (q.0 ≤ r.0) × (q.1 ≤ r.1)
fits_true q r e = true_fits_in q r (subst T (sym e) tt)

module _ (J : Job) (few : J.count ≤ 64) where
  -- a report whose copies keep every demand
  abbrev pub Kept : Report → Type 0
  Kept s = (length s.copies ≡ 64) × ((i : ℕ) → i < J.count → get_or s.copies i 0 ≤ J.demand i)

  -- the tree at the front of the nodes, and what is left
  pub record Parsed (k : ℕ) (ns : List (ℕ × ℕ)) (r : Rect) (rs : List Rect) (s : Report) : Type 0 where
    pub tree : Tree laid.Piece
    pub left : List (ℕ × ℕ)
    pub nodes : ns ≡ written tree ++ left
    pub on : GuillotineTree J r.0 r.1 tree
    pub goes : walk J k ns (r ∷ rs) s ≡ walk J (k + node_count tree) left rs (added J tree r s)
    pub kept : Kept (added J tree r s)

  -- a piece that fits keeps them
  kept_piece : (i : ℕ) (c : List ℕ) → (length c ≡ 64) × ((j : ℕ) → j < J.count → get_or c j 0 ≤ J.demand j) → i < J.count → get_or c i 0 < J.demand i
      → (length (set c i (get_or c i 0 + 1)) ≡ 64) × ((j : ℕ) → j < J.count → get_or (set c i (get_or c i 0 + 1)) j 0 ≤ J.demand j)
  kept_piece i c h l f = (length-set c i (get_or c i 0 + 1) ∙ h.0, λ j n. go j n (ℕ_discrete j i))
    where
      go : (j : ℕ) → j < J.count → Dec (j ≡ i) → get_or (set c i (get_or c i 0 + 1)) j 0 ≤ J.demand j
      go j n (yes e) = rw (e, get_or-set_same c i (get_or c i 0 + 1) 0 (omega (arith, h.0, few))) (omega arith)
      go j n (no e) = rw (get_or-set_other c i j (get_or c i 0 + 1) 0 e) (h.1 j n)

  -- and lies in its rectangle
  piece_lies : (c : List ℕ) (p : laid.Piece) (r : Rect) → PieceFits J c r p → GuillotineTree J r.0 r.1 (piece p)
  piece_lies c p r f = let z = fits_true (laid J p) r f.1 in (f.0, z.0, z.1)

  join_parts : (d : Direction) (x : ℕ) (a b : Tree laid.Piece) (r : Rect) → (1 ≤ x) × (x + J.kerf < side d r)
      → GuillotineTree J (part d x r).0 (part d x r).1 a → GuillotineTree J (second J d x r).0 (second J d x r).1 b → GuillotineTree J r.0 r.1 (cut d x a b)
  join_parts Length x a b r h g k = (h.0, h.1, g, k)
  join_parts Width x a b r h g k = (h.0, h.1, g, k)

  -- every list of at most m nodes that passes is parsed
  abbrev Parses : ℕ → Type 0
  Parses m = (k : ℕ) (ns : List (ℕ × ℕ)) (r : Rect) (rs : List Rect) (s : Report) → length ns ≤ m → Kept s → verdict_of (walk J k ns (r ∷ rs) s) ≡ passed → Parsed k ns r rs s

  -- after a node that fits
  after_node : (m : ℕ) → Parses m → (k : ℕ) (n : Node) (ns : List (ℕ × ℕ)) (r : Rect) (rs : List Rect) (s : Report) → length ns ≤ m → Kept s → NodeFits J s.copies r n
      → verdict_of (walk J k (pair_of n ∷ ns) (r ∷ rs) s) ≡ passed → Parsed k (pair_of n ∷ ns) r rs s
  unfolding added preorder node_count
  after_node m parse k Waste ns r rs s l h f p = record { tree = waste; left = ns; nodes = refl; on = tt; goes = node_walks J k Waste ns r rs s f; kept = h }
  after_node m parse k (Piece i) ns r rs s l h f p =
      record { tree = piece (laid.upright i); left = ns; nodes = refl; on = piece_lies s.copies (laid.upright i) r f; goes = node_walks J k (Piece i) ns r rs s f; kept = kept_piece i s.copies h f.0.0 f.2 }
  after_node m parse k (Turned i) ns r rs s l h f p =
      record { tree = piece (laid.turned i); left = ns; nodes = refl; on = piece_lies s.copies (laid.turned i) r f; goes = node_walks J k (Turned i) ns r rs s f; kept = kept_piece i s.copies h f.0.0 f.2 }
  after_node m parse k (Cut d x) ns r rs s l h f p =
      let w = node_walks J k (Cut d x) ns r rs s f in
      let z = report_after J (Cut d x) r s in
      let a = parse (k + 1) ns (part d x r) (second J d x r ∷ rs) z l h (ap verdict_of (sym w) ∙ p) in
      let less : length a.left ≤ m = omega (arith, ap length a.nodes, length-append (written a.tree) a.left) in
      let b = parse (k + 1 + node_count a.tree) a.left (second J d x r) rs (added J a.tree (part d x r) z) less a.kept (ap verdict_of (sym (w ∙ a.goes)) ∙ p) in
      record {
        tree = cut d x a.tree b.tree;
        left = b.left;
        nodes = ap (λ l. pair_of (Cut d x) ∷ l) (a.nodes ∙ ap (λ l. written a.tree ++ l) b.nodes) ∙ sym (written_cut d x a.tree b.tree b.left);
        on = join_parts d x a.tree b.tree r f a.on b.on;
        goes = w ∙ a.goes ∙ b.goes ∙ ap (λ n. walk J n b.left rs (added J b.tree (second J d x r) (added J a.tree (part d x r) z)))
            (let e : k + 1 + node_count a.tree + node_count b.tree ≡ k + node_count (cut d x a.tree b.tree) = omega (arith, count_cut d x a.tree b.tree) in e);
        kept = b.kept;
      }

  step : (m : ℕ) → Parses m → Parses (suc m)
  unfolding walk
  step m parse k [] r rs s l h p = no_pass p
  step m parse k (n ∷ ns) r rs s l h p =
      let u = node_passed J s.copies r k n.0 n.1 (proceed_passed _ _ p).0 in
      subst (λ (x : ℕ × ℕ). Parsed k (x ∷ ns) r rs s) (sym u.0)
      (after_node m parse k (node_of n.0 n.1) ns r rs s (omega arith) h u.1 (subst (λ (x : ℕ × ℕ). verdict_of (walk J k (x ∷ ns) (r ∷ rs) s) ≡ passed) u.0 p))

  pub parse : (m : ℕ) → Parses m
  unfolding walk
  parse zero k [] r rs s l h p = no_pass p
  parse zero k (n ∷ ns) r rs s l h p = absurd (omega arith)
  parse (suc m) k ns r rs s l h p = step m (parse m) k ns r rs s l h p
