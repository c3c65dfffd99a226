-- What a tree adds to a report, node by node, is the tree's own profit, copies and areas.
use Rattle.plan.proofs.Prelude.{◌≡◌, ◌∙◌, refl, sym, List, ℕ, ◌+◌, ◌-◌, ◌<◌, ℕ_discrete, arith, length, get_or, set, length-set, get_or-set_same, get_or-set_other, eq-eqb, ne_eqb, Direction, Length, Width, Waste, Piece, Turned, Cut, Rect, side, part, Tree, waste, piece, cut, total, pieces_area, waste_area, trim_area, sawdust_area, Job, profit, copies_of, pieces_area_of, waste_area_of, trim_area_of, sawdust_area_of, waste_area_length, waste_area_width, trim_area_length, trim_area_width, sawdust_area_length, sawdust_area_width, Report, report_after}
use Rattle.cutting.specs.Pieces as laid

-- a cut's second part
abbrev pub second : Job → Direction → ℕ → Rect → Rect
second J d x r = part d (side d r - x - J.kerf) r

-- a report with a tree's nodes more
unfoldable pub added : Job → Tree laid.Piece → Rect → Report → Report
added J waste r s = report_after J Waste r s
added J (piece (laid.upright i)) r s = report_after J (Piece i) r s
added J (piece (laid.turned i)) r s = report_after J (Turned i) r s
added J (cut d x a b) r s = added J b (second J d x r) (added J a (part d x r) (report_after J (Cut d x) r s))

module _ (J : Job) where
  pub added_profit : (t : Tree laid.Piece) (r : Rect) (s : Report) → (added J t r s).profit ≡ s.profit + profit J t
  unfolding added total
  added_profit waste r s = omega arith
  added_profit (piece (laid.upright i)) r s = refl
  added_profit (piece (laid.turned i)) r s = refl
  added_profit (cut d x a b) r s = omega (arith, added_profit b (second J d x r) (added J a (part d x r) (report_after J (Cut d x) r s)), added_profit a (part d x r) (report_after J (Cut d x) r s))

  pub added_pieces : (t : Tree laid.Piece) (r : Rect) (s : Report) → (added J t r s).pieces ≡ s.pieces + pieces_area_of J t
  unfolding added total pieces_area
  added_pieces waste r s = omega arith
  added_pieces (piece (laid.upright i)) r s = refl
  added_pieces (piece (laid.turned i)) r s = refl
  added_pieces (cut d x a b) r s = omega (arith, added_pieces b (second J d x r) (added J a (part d x r) (report_after J (Cut d x) r s)), added_pieces a (part d x r) (report_after J (Cut d x) r s))

  pub added_waste : (t : Tree laid.Piece) (r : Rect) (s : Report) → (added J t r s).waste ≡ s.waste + waste_area_of J r.0 r.1 t
  unfolding added waste_area
  added_waste waste r s = refl
  added_waste (piece (laid.upright i)) r s = omega arith
  added_waste (piece (laid.turned i)) r s = omega arith
  added_waste (cut Length x a b) r s = omega (arith, waste_area_length J r.0 r.1 x a b, added_waste b (r.0 - x - J.kerf, r.1) (added J a (x, r.1) (report_after J (Cut Length x) r s)), added_waste a (x, r.1) (report_after J (Cut Length x) r s))
  added_waste (cut Width x a b) r s = omega (arith, waste_area_width J r.0 r.1 x a b, added_waste b (r.0, r.1 - x - J.kerf) (added J a (r.0, x) (report_after J (Cut Width x) r s)), added_waste a (r.0, x) (report_after J (Cut Width x) r s))

  pub added_trim : (t : Tree laid.Piece) (r : Rect) (s : Report) → (added J t r s).trim ≡ s.trim + trim_area_of J r.0 r.1 t
  unfolding added trim_area
  added_trim waste r s = omega arith
  added_trim (piece (laid.upright i)) r s = refl
  added_trim (piece (laid.turned i)) r s = refl
  added_trim (cut Length x a b) r s = omega (arith, trim_area_length J r.0 r.1 x a b, added_trim b (r.0 - x - J.kerf, r.1) (added J a (x, r.1) (report_after J (Cut Length x) r s)), added_trim a (x, r.1) (report_after J (Cut Length x) r s))
  added_trim (cut Width x a b) r s = omega (arith, trim_area_width J r.0 r.1 x a b, added_trim b (r.0, r.1 - x - J.kerf) (added J a (r.0, x) (report_after J (Cut Width x) r s)), added_trim a (r.0, x) (report_after J (Cut Width x) r s))

  pub added_sawdust : (t : Tree laid.Piece) (r : Rect) (s : Report) → (added J t r s).sawdust ≡ s.sawdust + sawdust_area_of J r.0 r.1 t
  unfolding added sawdust_area
  added_sawdust waste r s = omega arith
  added_sawdust (piece (laid.upright i)) r s = omega arith
  added_sawdust (piece (laid.turned i)) r s = omega arith
  added_sawdust (cut Length x a b) r s = omega (arith, sawdust_area_length J r.0 r.1 x a b, added_sawdust b (r.0 - x - J.kerf, r.1) (added J a (x, r.1) (report_after J (Cut Length x) r s)), added_sawdust a (x, r.1) (report_after J (Cut Length x) r s))
  added_sawdust (cut Width x a b) r s = omega (arith, sawdust_area_width J r.0 r.1 x a b, added_sawdust b (r.0, r.1 - x - J.kerf) (added J a (r.0, x) (report_after J (Cut Width x) r s)), added_sawdust a (r.0, x) (report_after J (Cut Width x) r s))

  pub added_length : (t : Tree laid.Piece) (r : Rect) (s : Report) → length (added J t r s).copies ≡ length s.copies
  unfolding added
  added_length waste r s = refl
  added_length (piece (laid.upright i)) r s = length-set s.copies i (get_or s.copies i 0 + 1)
  added_length (piece (laid.turned i)) r s = length-set s.copies i (get_or s.copies i 0 + 1)
  added_length (cut d x a b) r s = added_length b (second J d x r) (added J a (part d x r) (report_after J (Cut d x) r s)) ∙ added_length a (part d x r) (report_after J (Cut d x) r s)

  -- one copy more of kind j
  one_copy : (c : List ℕ) (j i : ℕ) → i < length c → get_or (set c j (get_or c j 0 + 1)) i 0 ≡ get_or c i 0 + copies_of i (piece (laid.upright j))
  unfolding total
  one_copy c j i h = go (ℕ_discrete i j)
    where
      go : Dec (i ≡ j) → get_or (set c j (get_or c j 0 + 1)) i 0 ≡ get_or c i 0 + copies_of i (piece (laid.upright j))
      go (yes e) = rw e (get_or-set_same c j (get_or c j 0 + 1) 0 (rw e at h) ∙ simp (eq-eqb j j refl))
      go (no e) = get_or-set_other c j i (get_or c j 0 + 1) 0 e ∙ simp (ne_eqb j i (λ z. e (sym z))) (omega arith)

  pub added_copies : (t : Tree laid.Piece) (r : Rect) (s : Report) (i : ℕ) → i < length s.copies → get_or (added J t r s).copies i 0 ≡ get_or s.copies i 0 + copies_of i t
  unfolding added total
  added_copies waste r s i h = omega arith
  added_copies (piece (laid.upright j)) r s i h = one_copy s.copies j i h
  added_copies (piece (laid.turned j)) r s i h = one_copy s.copies j i h
  added_copies (cut d x a b) r s i h =
      omega (arith, added_copies b (second J d x r) (added J a (part d x r) (report_after J (Cut d x) r s)) i (omega (arith, added_length a (part d x r) (report_after J (Cut d x) r s))), added_copies a (part d x r) (report_after J (Cut d x) r s) i h)
