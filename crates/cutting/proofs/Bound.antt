-- What the bound promises of guillotine trees that lose the kerf at each cut, in either form of the capacity: exactness, the copies that a
-- plate holds, the trees that keep every demand, that the bound of the full demands is no less, and the ceiling.
use Rattle.cutting.proofs.Prelude.{◌≡◌, refl, sym, ◌∙◌, ap, ap₂, subst, Bool, true, false, ℕ, ◌+◌, ◌*◌, ◌/◌, ◌≤◌, ◌<◌, min, mul-le-mul, mul-le-mul_right, mul_comm, arith, T, eqb, eqb→eq, most_figure, most_price, sum, only, Rect, Tree, Shares, Guillotine, Within, Monotone, figure, Piece, upright, turned, kind, quarter, wider, ◌⊑◌, fits_in, fits_either, sized, saw, area, Job, laid, turns, MayLie, GuillotineTree, OnPlate, profit, weight_of, copies_of, KeepsDemands, widened, copies_on, plate_copies, counted_of, counted, capacity, at_full_demand, ordered, members, pieces, by_kind, figure_of, bound_of, SolidKinds, InRange, MostAmong, OfWeight, MostWithin, FiguresMost}
use Rattle.cutting.proofs.Tests.{T-or, or_T}
use Rattle.cutting.proofs.Exact.{figure_upper, figure_attained}
use Rattle.cutting.proofs.Saws.{saw_proper}
use Rattle.cutting.proofs.Pieces.{fits_in_true}
use Rattle.cutting.proofs.Weights.{within_weight, weight_within, by_weight_monotone}
use Rattle.cutting.proofs.Demands.{sum_le, keeps_weight}
use Rattle.cutting.proofs.Ceiling.{figure_area, none_fits, copies_room, copies_area}
use Rattle.cutting.proofs.Blade.{blade_figure}
use Rattle.cutting.proofs.Members.{member_lies, member_kind, members_solid, widened_whole, laid_widened, range_solid}
use Rattle.cutting.proofs.Job.{guillotine_plain, plain_guillotine}
use Rattle.cutting.proofs.Laws.{figure_share}

-- trees that lose the kerf at each cut, under any shares
module _ (J : Job) (solid : SolidKinds J) {S : Type 0} (H : Shares Piece S) (mono : Monotone H) where
  -- their figure is the widened job's
  pub kerf_figure : (l w : ℕ) (s : S) → figure (pieces J) (saw J.kerf) H (l, w) s ≡ figure (pieces (widened J)) (saw 0) H (l + J.kerf, w + J.kerf) s
  unfolding pieces members ordered
  kerf_figure l w s = blade_figure (members J) (λ p. J.price (kind p)) (laid J) (laid (widened J)) (members_solid J solid) J.kerf (laid_widened J) H mono (l, w) s

  -- none within a share earns more
  pub share_most : (t : Tree Piece) (l w : ℕ) (s : S) → GuillotineTree J l w t → Within H s t → profit J t ≤ figure (pieces (widened J)) (saw 0) H (l + J.kerf, w + J.kerf) s
  unfolding pieces sized
  share_most t l w s g h = rw (kerf_figure l w s) at (figure_upper (pieces J) (saw J.kerf) H (saw_proper J.kerf) t (l, w) s (plain_guillotine J t (l, w) g) h)

  -- and some such tree earns it
  pub share_earned : (l w : ℕ) (s : S) → (t : Tree Piece) × GuillotineTree J l w t × Within H s t × (profit J t ≡ figure (pieces (widened J)) (saw 0) H (l + J.kerf, w + J.kerf) s)
  unfolding pieces sized
  share_earned l w s =
      let e = figure_attained (pieces J) (saw J.kerf) H (saw_proper J.kerf) (l, w) s in
      (e.0, guillotine_plain J e.0 (l, w) e.1, e.2, e.3 ∙ kerf_figure l w s)

  -- so the figure is the most of any trees that are those within the share
  pub share_figure : (Among : Tree Piece → Type 0) (l w : ℕ) (s : S) → ((t : Tree Piece) → GuillotineTree J l w t → Among t → Within H s t) → ((t : Tree Piece) → GuillotineTree J l w t → Within H s t → Among t)
      → MostAmong J Among l w (figure (pieces (widened J)) (saw 0) H (l + J.kerf, w + J.kerf) s)
  share_figure Among l w s enter leave =
      let e = share_earned l w s in
      (λ t g a. share_most t l w s g (enter t g a), (e.0, (e.1, leave e.0 e.1 e.2, e.3)))

module _ (J : Job) (i : ℕ) where
  -- the plate and the kinds' sizes with the kerf added
  abbrev wide_plate : Rect
  wide_plate = (widened J).plate

  abbrev wide_size : ℕ → Rect
  wide_size j = (widened J).size j

  -- a piece of kind i that lies in no other way than upright has the kind's size
  one_size : turns J i ≡ false → (p : Piece) → MayLie J p → kind p ≡ i → laid J p ≡ J.size i
  one_size e (upright j) h k = ap J.size k
  one_size e (turned j) h k = absurd (subst T (ap (turns J) k ∙ e) h.2)

  -- and in either way the kind's area, the kerf added
  one_area : (p : Piece) → kind p ≡ i → area (wider J.kerf (laid J p)) ≡ area (wide_size i)
  one_area (upright j) k = ap (λ j. area (wide_size j)) k
  one_area (turned j) k = mul_comm ((J.size j).1 + J.kerf) ((J.size j).0 + J.kerf) ∙ ap (λ j. area (wide_size j)) k

  -- a piece that fits the plate fits it upright or turned
  one_way : (p : Piece) → kind p ≡ i → laid J p ⊑ J.plate → T (fits_either (wide_size i) wide_plate)
  one_way (upright j) k h = subst (λ j. T (fits_either (wide_size j) wide_plate)) k
      (T-or (fits_in (wide_size j) wide_plate) (fits_in (quarter (wide_size j)) wide_plate) (fits_in_true (wide_size j) wide_plate (omega arith)))
  one_way (turned j) k h = subst (λ j. T (fits_either (wide_size j) wide_plate)) k
      (or_T (fits_in (wide_size j) wide_plate) (fits_in (quarter (wide_size j)) wide_plate) (fits_in_true (quarter (wide_size j)) wide_plate (omega arith)))

-- no tree on the plate has more copies of a kind than can lie there
module _ (J : Job) (solid : SolidKinds J) (i : ℕ) (known : i < J.count) (t : Tree Piece) (g : OnPlate J t) where
  on_plate : Guillotine (pieces J) (saw J.kerf) J.plate t
  on_plate = plain_guillotine J t J.plate g

  -- where neither way fits, there is none
  absent : (p : Piece) → fits_either ((widened J).size i) (widened J).plate ≡ false → laid J p ⊑ J.plate → (b : Bool) → eqb (kind p) i ≡ b → only b 1 ≡ 0
  absent p e h true k = absurd (subst T e (one_way J i p (eqb→eq (kind p) i (subst T (sym k) tt)) h))
  absent p e h false k = refl

  either : (b : Bool) → fits_either ((widened J).size i) (widened J).plate ≡ b → copies_of i t ≤ only b (area (widened J).plate / area ((widened J).size i))
  unfolding pieces
  either true e = copies_area (members J) (λ p. J.price (kind p)) (laid J) (members_solid J solid) J.kerf kind i (J.size i) (solid i known).0 (solid i known).1
      (λ p m k. one_area J i p k) t J.plate on_plate
  either false e = omega (
    arith,
    none_fits (members J) (λ p. J.price (kind p)) (laid J) (saw J.kerf) (saw_proper J.kerf) (λ p. only (eqb (kind p) i) 1) J.plate
        (λ p m h. absent p e h (eqb (kind p) i) refl) t J.plate (omega arith) on_plate,
  )

  held : (b : Bool) → turns J i ≡ b → copies_of i t ≤ copies_on b (widened J).plate ((widened J).size i)
  unfolding pieces
  held false e = copies_room (members J) (λ p. J.price (kind p)) (laid J) (members_solid J solid) J.kerf kind i (J.size i) (solid i known).0 (solid i known).1
      (λ p m k. one_size J i e p (member_lies J p m) k) t J.plate on_plate
  held true e = either _ refl

  pub copies_plate : copies_of i t ≤ plate_copies J i
  copies_plate = held (turns J i) refl

  -- so one that keeps the demands has no more than the capacity counts
  pub copies_counted : KeepsDemands J t → copies_of i t ≤ counted J i
  copies_counted k = go J.full_demand
    where
      lesser : (a b c : ℕ) → a ≤ b → a ≤ c → a ≤ min b c
      lesser a b c h l = omega arith

      go : (b : Bool) → copies_of i t ≤ counted_of b (J.demand i) (plate_copies J i)
      go true = k i known
      go false = lesser (copies_of i t) (J.demand i) (plate_copies J i) (k i known) copies_plate

module _ (J : Job) (weight : ℕ → ℕ) where
  -- the capacity of the full demands is no less
  pub capacity_less : capacity J weight ≤ capacity (at_full_demand J) weight
  capacity_less = sum_le J.count (λ i. counted J i * weight i) (λ i. J.demand i * weight i) (λ i l. mul-le-mul_right (weight i) (go J.full_demand (J.demand i) (plate_copies J i)))
    where
      go : (b : Bool) (demand held : ℕ) → counted_of b demand held ≤ demand
      go true demand held = omega arith
      go false demand held = omega arith

  -- capacity and bound are the widened job's own
  pub capacity_widened : capacity (widened J) weight ≡ capacity J weight
  capacity_widened = ap (λ K. sum J.count (λ i. counted_of J.full_demand (J.demand i) (copies_on (turns J i) K.plate (K.size i)) * weight i)) (widened_whole (widened J) refl)

  pub bound_widened : bound_of (widened J) weight ≡ bound_of J weight
  bound_widened = ap₂ (λ K q. figure_of K weight K.plate.0 K.plate.1 q) (widened_whole (widened J) refl) capacity_widened

  -- the figures are the same
  same_figure : (l w c : ℕ) → figure_of (widened (at_full_demand J)) weight l w c ≡ figure_of (widened J) weight l w c
  unfolding figure_of pieces members ordered
  same_figure l w c = refl

  -- so the bound of the full demands is no less
  pub bound_less : bound_of J weight ≤ bound_of (at_full_demand J) weight
  bound_less = omega (
    arith,
    figure_share (widened J) weight (widened J).plate.0 (widened J).plate.1 (capacity J weight) (capacity (at_full_demand J) weight) capacity_less,
    same_figure (widened J).plate.0 (widened J).plate.1 (capacity (at_full_demand J) weight),
  )

  module _ (solid : SolidKinds J) where
    -- the widened job's figure is the most that a tree of weight at most the share earns
    pub figure_most : FiguresMost J weight
    unfolding figure_of
    figure_most l w c = share_figure J solid (by_kind weight) (by_weight_monotone _) (OfWeight weight c) l w c (λ t g. weight_within (λ p. weight (kind p)) t c) (λ t g. within_weight (λ p. weight (kind p)) t c)

    -- so the bound is the most that a tree on the plate of weight at most the capacity earns
    pub bound_most : MostWithin J weight (capacity J weight) (bound_of J weight)
    bound_most = figure_most J.plate.0 J.plate.1 (capacity J weight)

    -- a tree on the plate that keeps every demand weighs at most the capacity
    pub demands_weight : (t : Tree Piece) → OnPlate J t → KeepsDemands J t → weight_of weight t ≤ capacity J weight
    unfolding pieces sized
    demands_weight t g k = keeps_weight kind (pieces J) (saw J.kerf) J.count (member_kind J) weight (counted J)
        t J.plate (plain_guillotine J t J.plate g) (λ i l. copies_counted J solid i l t g k)

    -- so it earns at most the bound
    pub bound_holds : (t : Tree Piece) → OnPlate J t → KeepsDemands J t → profit J t ≤ bound_of J weight
    bound_holds t g k = bound_most.0 t g (demands_weight t g k)

  module _ (h : InRange J) where
    -- the figure of the plate: its trees have at most one piece for each unit of the plate's own area
    plate_low : (c : ℕ) → figure_of (widened J) weight (widened J).plate.0 (widened J).plate.1 c ≤ most_figure
    unfolding figure_of pieces
    plate_low c = omega (
      arith,
      kerf_figure J (range_solid J h) (by_kind weight) (by_weight_monotone _) J.plate.0 J.plate.1 c,
      figure_area (members J) (λ p. J.price (kind p)) (laid J) (members_solid J (range_solid J h)) J.kerf (by_kind weight) most_price
          (λ p m. h.prices (kind p) (member_kind J p m)) J.plate c,
      mul-le-mul h.plate_length.1 h.plate_width.1,
    )

    -- so the bound is at most 1,000,000,000,000
    pub bound_ceiling : bound_of J weight ≤ most_figure
    bound_ceiling = plate_low (capacity J weight)
