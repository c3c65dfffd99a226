-- The scope's words for trees, figures and areas are those of the general theory: the trees of a job, the recursion and its ceiling, and
-- the four areas. Of the bound itself speaks proofs/Bound.
use Rattle.cutting.proofs.Prelude.{◌≡◌, refl, ◌∙◌, ◌&&◌, ℕ, suc, ◌+◌, ◌-◌, ◌*◌, ◌≤◌, ◌<◌, max, sub-zero, leb, Length, Width, range, only, greatest, Rect, Tree, waste, piece, cut, Shares, Guillotine, leaf, best, step, Piece, kind, fits_in, sized, saw, by_weight, waste_area, trim_area, sawdust_area, Job, laid, GuillotineTree, members, pieces, by_kind, figure_under, figure_of, pieces_area_of, waste_area_of, trim_area_of, sawdust_area_of, SolidKinds}
use Rattle.cutting.proofs.Greatest.{greatest_map}
use Rattle.cutting.proofs.Recursion.{figure_eq}
use Rattle.cutting.proofs.Saws.{saw_cut, cut_saw, saw_proper}
use Rattle.cutting.proofs.Pieces.{fits_in_true, true_fits_in}
use Rattle.cutting.proofs.Areas.{areas}
use Rattle.cutting.proofs.Ceiling.{figure_area}
use Rattle.cutting.proofs.Members.{lie_member, member_lies, member_kind, members_solid}

module _ (J : Job) where
  -- the plain trees are those of the theory, both ways
  pub guillotine_plain : (t : Tree Piece) (r : Rect) → Guillotine (pieces J) (saw J.kerf) r t → GuillotineTree J r.0 r.1 t
  unfolding pieces sized saw
  guillotine_plain waste r g = tt
  guillotine_plain (piece p) r g = let l = true_fits_in (laid J p) r g.1 in (member_lies J p g.0, l.0, l.1)
  guillotine_plain (cut Length x a b) r g =
      let h = cut_saw J.kerf Length r.0 x g.0 in
      (h.0, h.1, guillotine_plain a (x, r.1) g.1, guillotine_plain b (r.0 - x - J.kerf, r.1) g.2)
  guillotine_plain (cut Width x a b) r g =
      let h = cut_saw J.kerf Width r.1 x g.0 in
      (h.0, h.1, guillotine_plain a (r.0, x) g.1, guillotine_plain b (r.0, r.1 - x - J.kerf) g.2)

  pub plain_guillotine : (t : Tree Piece) (r : Rect) → GuillotineTree J r.0 r.1 t → Guillotine (pieces J) (saw J.kerf) r t
  unfolding pieces sized saw
  plain_guillotine waste r g = tt
  plain_guillotine (piece p) r g = (lie_member J p g.0, fits_in_true (laid J p) r (g.1, g.2))
  plain_guillotine (cut Length x a b) r g =
      (saw_cut J.kerf Length r.0 x g.0 g.1, plain_guillotine a (x, r.1) g.2, plain_guillotine b (r.0 - x - J.kerf, r.1) g.3)
  plain_guillotine (cut Width x a b) r g =
      (saw_cut J.kerf Width r.1 x g.0 g.1, plain_guillotine a (r.0, x) g.2, plain_guillotine b (r.0, r.1 - x - J.kerf) g.3)

module _ (J : Job) (weight : ℕ → ℕ) where
  -- the recursion, as the scope has it
  pub figure_recursion : (l w c : ℕ) → figure_of J weight l w c ≡
      max (greatest (λ p. only (fits_in (laid J p) (l, w) && leb (weight (kind p)) c) (J.price (kind p))) (members J))
      (max (greatest (λ x. greatest (λ a. figure_of J weight x w a + figure_of J weight (l - x) w (c - a)) (range 0 (suc c))) (range 1 (l - 1)))
      (greatest (λ x. greatest (λ a. figure_of J weight l x a + figure_of J weight l (w - x) (c - a)) (range 0 (suc c))) (range 1 (w - 1))))
  unfolding figure_of step leaf best pieces sized saw by_weight
  figure_recursion l w c = figure_eq (pieces J) (saw 0) (by_kind weight) (saw_proper 0) (l, w) c ∙ simp (greatest_map, sub-zero)

module _ {S : Type 0} (J : Job) (H : Shares Piece S) (solid : SolidKinds J) (priced : (i : ℕ) → i < J.count → J.price i ≤ 1000000) where
  -- no figure is above the area times the greatest price
  pub figure_ceiling : (l w : ℕ) (s : S) → figure_under J H l w s ≤ l * w * 1000000
  unfolding pieces
  figure_ceiling l w s = figure_area (members J) (λ p. J.price (kind p)) (laid J) (members_solid J solid) 0 H 1000000
      (λ p m. priced (kind p) (member_kind J p m)) (l, w) s

-- the four areas of a tree sum to the rectangle's
pub areas_sum : (J : Job) (t : Tree Piece) (l w : ℕ) → GuillotineTree J l w t
    → pieces_area_of J t + waste_area_of J l w t + trim_area_of J l w t + sawdust_area_of J l w t ≡ l * w
unfolding pieces
areas_sum J t l w g = areas (members J) (λ p. J.price (kind p)) (laid J) J.kerf t (l, w) (plain_guillotine J t (l, w) g)

-- the areas of the waste, of the trim and of the sawdust of a cut are those of its parts, and what the blade itself takes
module _ (J : Job) (l w x : ℕ) (a b : Tree Piece) where
  pub waste_area_length : waste_area_of J l w (cut Length x a b) ≡ waste_area_of J x w a + waste_area_of J (l - x - J.kerf) w b
  unfolding waste_area saw
  waste_area_length = refl

  pub waste_area_width : waste_area_of J l w (cut Width x a b) ≡ waste_area_of J l x a + waste_area_of J l (w - x - J.kerf) b
  unfolding waste_area saw
  waste_area_width = refl

  pub trim_area_length : trim_area_of J l w (cut Length x a b) ≡ trim_area_of J x w a + trim_area_of J (l - x - J.kerf) w b
  unfolding trim_area saw
  trim_area_length = refl

  pub trim_area_width : trim_area_of J l w (cut Width x a b) ≡ trim_area_of J l x a + trim_area_of J l (w - x - J.kerf) b
  unfolding trim_area saw
  trim_area_width = refl

  pub sawdust_area_length : sawdust_area_of J l w (cut Length x a b) ≡ J.kerf * w + (sawdust_area_of J x w a + sawdust_area_of J (l - x - J.kerf) w b)
  unfolding sawdust_area saw
  sawdust_area_length = refl

  pub sawdust_area_width : sawdust_area_of J l w (cut Width x a b) ≡ J.kerf * l + (sawdust_area_of J l x a + sawdust_area_of J l (w - x - J.kerf) b)
  unfolding sawdust_area saw
  sawdust_area_width = refl
