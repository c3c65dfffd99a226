-- The table in plain words: its cells stand at the normal lengths and widths, each cell has the figure of every rectangle that falls to
-- it, and its loops find the figure from cuts at normal positions up to half of a side.
use Rattle.cutting.proofs.Prelude.{◌≡◌, ◌∙◌, ◌↔◌, ◌&&◌, ℕ, suc, ◌+◌, ◌-◌, ◌/◌, ◌≤◌, ◌<◌, max, arith, T, leb, length, get_or, Direction, Length, Width, range, only, filter, greatest, Rect, side, Saw, Shares, Monotone, leaf, best, step, figure, Piece, kind, ◌⊑◌, fits_in, sized, saw_normal, saw_half, by_weight, Sum, sides, Job, laid, members, pieces, by_kind, figure_under, figure_of, normal_side, normal_positions, normal_floor, KindsAbove, SolidKinds}
use Rattle.cutting.proofs.Greatest.{greatest_map}
use Rattle.cutting.proofs.Weights.{by_weight_monotone, by_weight_symmetric}
use Rattle.cutting.proofs.Reduction.{Sufficient, CutsAt, saw_normal_cuts, saw_figure, floor_figure}
use Rattle.cutting.proofs.Half.{half_figure}
use Rattle.cutting.proofs.Normal.{normal_sum, normal_above, normal_sufficient}
use Rattle.cutting.proofs.Positions.{rising, entry_passes, passes_entry, passing_length, first_zero, floor_at}
use Rattle.cutting.proofs.Members.{members_above, members_solid}

-- the normal lengths and widths of a job suffice for its pieces
pub sides_suffice : (J : Job) → Sufficient (members J) (laid J) J.plate (normal_side J)
sides_suffice J = normal_sufficient (members J) (laid J) J.plate

module _ (J : Job) (d : Direction) where
  -- a number is normal exactly if it is a sum, with repetition, of sides of pieces that fit the plate as they lie
  pub normal_sums : (n : ℕ) → T (normal_side J d n) ↔ Sum (sides (members J) (laid J) J.plate d) n
  normal_sums n = normal_sum (sides (members J) (laid J) J.plate d) n

  -- 0 is a normal position
  pub normal_zero : T (normal_side J d 0)
  normal_zero = ((sides_suffice J).additive d).0

  -- the list of normal positions begins with 0
  pub positions_first : get_or (normal_positions J d) 0 0 ≡ 0
  unfolding normal_positions
  positions_first = first_zero (normal_side J d) normal_zero (suc (side d J.plate))

  -- it rises
  pub positions_rise : (i j : ℕ) → i < j → j < length (normal_positions J d) → get_or (normal_positions J d) i 0 < get_or (normal_positions J d) j 0
  unfolding normal_positions
  positions_rise i j h l = rising (normal_side J d) (suc (side d J.plate)) i j h l

  -- its entries are normal and not above the plate's side
  pub positions_normal : (i : ℕ) → i < length (normal_positions J d)
      → T (normal_side J d (get_or (normal_positions J d) i 0)) × (get_or (normal_positions J d) i 0 ≤ side d J.plate)
  unfolding normal_positions
  positions_normal i l = let e = entry_passes (normal_side J d) (suc (side d J.plate)) i l in (e.0, omega (arith, e.1))

  -- every normal number up to the plate's side is an entry
  pub positions_entry : (x : ℕ) → x ≤ side d J.plate → T (normal_side J d x)
      → (i : ℕ) × (i < length (normal_positions J d)) × (get_or (normal_positions J d) i 0 ≡ x)
  unfolding normal_positions
  positions_entry x h t = passes_entry (normal_side J d) (suc (side d J.plate)) x (omega arith) t

  -- it has an entry, and at most one for each number from 0 to the plate's side
  pub positions_some : 0 < length (normal_positions J d)
  positions_some = let e = positions_entry 0 (omega arith) normal_zero in omega (arith, e.1)

  pub positions_length : length (normal_positions J d) ≤ suc (side d J.plate)
  unfolding normal_positions
  positions_length = passing_length (normal_side J d) (suc (side d J.plate))

  -- where the kinds have both sides above k, so is every normal position above 0
  module _ (k : ℕ) (thick : KindsAbove k J) where
    pub positions_above : (x : ℕ) → 0 < x → T (normal_side J d x) → k < x
    positions_above x = normal_above (members J) (laid J) J.plate k (members_above J k thick) d x

  -- the largest normal position not above x is the last entry not above it
  pub positions_floor : (a x : ℕ) → x ≤ side d J.plate → a < length (normal_positions J d) → get_or (normal_positions J d) a 0 ≤ x
      → (suc a < length (normal_positions J d) → x < get_or (normal_positions J d) (suc a) 0) → normal_floor J d x ≡ get_or (normal_positions J d) a 0
  unfolding normal_positions
  positions_floor a x h l g f = floor_at (normal_side J d) normal_zero (suc (side d J.plate)) a x (omega arith) l g f

module _ {S : Type 0} (J : Job) (H : Shares Piece S) (mono : Monotone H) (h : SolidKinds J) where
  -- a saw at the normal positions gives the same figures on the plate
  pub figure_saw : (C : Saw) → CutsAt (normal_side J) C → (r : Rect) (s : S) → r ⊑ J.plate → figure_under J H r.0 r.1 s ≡ figure (pieces J) C H r s
  unfolding pieces
  figure_saw C cuts r s on = saw_figure (members J) (λ p. J.price (kind p)) (laid J) (members_solid J h) H mono J.plate (normal_side J) (sides_suffice J) C cuts r s on

  -- the figure of a rectangle on the plate is that of the largest normal length and width not above its sides
  pub floor_under : (l w : ℕ) (s : S) → l ≤ J.plate.0 → w ≤ J.plate.1 → figure_under J H l w s ≡ figure_under J H (normal_floor J Length l) (normal_floor J Width w) s
  unfolding pieces
  floor_under l w s on_length on_width = floor_figure (members J) (λ p. J.price (kind p)) (laid J) (members_solid J h) H mono J.plate (normal_side J) (sides_suffice J) (l, w) s (on_length, on_width)

module _ (J : Job) (weight : ℕ → ℕ) (h : SolidKinds J) where
  module _ (l w c : ℕ) (on_length : l ≤ J.plate.0) (on_width : w ≤ J.plate.1) where
    -- cuts at normal positions alone, the remainder counted down to one, give the same figure
    pub figure_normal : figure_of J weight l w c ≡ figure (pieces J) (saw_normal (normal_side J)) (by_kind weight) (l, w) c
    unfolding figure_of
    figure_normal = figure_saw J (by_kind weight) (by_weight_monotone _) h (saw_normal (normal_side J)) (saw_normal_cuts (normal_side J) (sides_suffice J).additive) (l, w) c (on_length, on_width)

    -- the figure of a rectangle on the plate is that of the largest normal length and width not above its sides
    pub figure_floor : figure_of J weight l w c ≡ figure_of J weight (normal_floor J Length l) (normal_floor J Width w) c
    unfolding figure_of
    figure_floor = floor_under J (by_kind weight) (by_weight_monotone _) h l w c on_length on_width

    -- the recursion over cuts at normal positions up to half of a side, the remainder counted down to a normal position
    pub figure_half : figure_of J weight l w c ≡
        max (greatest (λ p. only (fits_in (laid J p) (l, w) && leb (weight (kind p)) c) (J.price (kind p))) (members J))
        (max (greatest (λ x. greatest (λ k. figure_of J weight x w k + figure_of J weight (normal_floor J Length (l - x)) w (c - k)) (range 0 (suc c)))
        (filter (normal_side J Length) (range 1 (l / 2))))
        (greatest (λ x. greatest (λ k. figure_of J weight l x k + figure_of J weight l (normal_floor J Width (w - x)) (c - k)) (range 0 (suc c)))
        (filter (normal_side J Width) (range 1 (w / 2)))))
    unfolding figure_of step leaf best pieces sized saw_half by_weight
    figure_half = half_figure (members J) (λ p. J.price (kind p)) (laid J) (members_solid J h) (by_kind weight) (by_weight_monotone _)
        J.plate (normal_side J) (sides_suffice J) (by_weight_symmetric (λ p. weight (kind p))) (l, w) c (on_length, on_width) ∙ simp greatest_map
