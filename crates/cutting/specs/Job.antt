-- The scope as definitions: a job, its guillotine trees and what they earn, the figure and the bound, the normal positions and the plan
-- behind the bound. The general definitions stand in the other modules; proofs/Job, Table, Bound and Plan have what is proved of these.
-- docs/SCOPE.md: Guillotine trees; Weights and capacity; The bound; Normal positions; The written plan; Pieces that may be turned; Grain; Zero
-- ordered means zero; What the plate can hold; The blade's width; Cuts between the marks.
use Rattle.std.specs.Prelude.{Bool, ◌&&◌, ℕ, ◌+◌, ◌-◌, ◌≤◌, ◌<◌, eqb}
use Rattle.std.proofs.Math.Option.{Option}
use Rattle.promises.specs.declared.Direction.{Direction}
use Rattle.promises.specs.declared.Direction.TheVariants.{Length, Width}
use Rattle.cutting.specs.Limits.{most_side, most_kerf, most_kinds, most_price, most_demand}
use Rattle.cutting.specs.Lists.{range, filter, first, pairs}
use Rattle.cutting.specs.Tree.{Rect, side, Tree, waste, piece, Pieces, Shares}
use Rattle.cutting.specs.Figure.{figure}
use Rattle.cutting.specs.Pieces.{Piece, kind, fits_in, sized}
use Rattle.cutting.specs.Saws.{saw, saw_written}
use Rattle.cutting.specs.Choice.{Choice, as_waste, as_piece, as_cut, or_waste, or_length, or_piece, or_zero, written, cut_remains, or_first, sawn}
use Rattle.cutting.specs.Areas.{pieces_area, waste_area, trim_area, sawdust_area}
pub use Rattle.promises.specs.Figure.{normal_side, normal_floor}
pub use Rattle.promises.specs.Job.{Job, turns, laid, OfJob, MayLie, TreeOf, AnyTree, GuillotineTree, AnyOnPlate, OnPlate, profit, weight_of, copies_of, KeepsDemands, widened, finer, copies_on, plate_copies, counted_of, counted, capacity, at_full_demand}
pub use Rattle.promises.specs.Systems.{by_kind}
unfoldable pub use Rattle.promises.specs.Figure.{ordered, members, normal_positions}

-- a piece may lie where neither side is greater than the rectangle's, and earns its kind's price
unfoldable pub pieces : Job → Pieces Piece
pieces J = sized (members J) (λ p. J.price (kind p)) (laid J)

-- the figure of a rectangle and a share under any shares, for a job cut without loss: a cut at every whole unit
abbrev pub figure_under : {S : Type 0} → Job → Shares Piece S → ℕ → ℕ → S → ℕ
figure_under J H l w s = figure (pieces J) (saw 0) H (l, w) s

-- the figure under shares by the weights of the kinds (figure_recursion of proofs/Job)
unfoldable pub figure_of : Job → (ℕ → ℕ) → ℕ → ℕ → ℕ → ℕ
figure_of J weight l w c = figure_under J (by_kind weight) l w c

-- the bound: the widened job's figure at its plate and the capacity
abbrev pub bound_of : Job → (ℕ → ℕ) → ℕ
bound_of J weight = figure_of (widened J) weight (widened J).plate.0 (widened J).plate.1 (capacity J weight)

-- The plan under any shares H: what follows reads J as a job cut without loss, up to lossless_plan.
module _ {S : Type 0} (J : Job) (H : Shares Piece S) where
  -- whether a piece fits, is admitted by the share, and has the figure as its price
  abbrev pub laid_earns : ℕ → ℕ → S → Piece → Bool
  laid_earns l w s p = (fits_in (laid J p) (l, w) && H.admits s p) && eqb (J.price (kind p)) (figure_under J H l w s)

  -- whether a cut at position u .0, with the shares u .1 for its parts, earns the figure
  abbrev pub pair_earns : Direction → ℕ → ℕ → S → ℕ × (S × S) → Bool
  pair_earns Length l w s u = eqb (figure_under J H u.0 w u.1.0 + figure_under J H (l - u.0) w u.1.1) (figure_under J H l w s)
  pair_earns Width l w s u = eqb (figure_under J H l u.0 u.1.0 + figure_under J H l (w - u.0) u.1.1) (figure_under J H l w s)

  -- the first position and division of the share that earn it: normal positions from 1 to one less than the tabled side, rising, and for
  -- each the divisions in their order, the first part's share rising
  unfoldable pub first_pair : Direction → ℕ → ℕ → S → Option (ℕ × (S × S))
  first_pair d l w s = first (pair_earns d l w s) (pairs (filter (normal_side J d) (range 1 (normal_floor J d (side d (l, w)) - 1))) (H.splits d s))

  -- figure 0 gives waste; otherwise the lowest-numbered kind, upright before turned; otherwise a length cut; failing all, a width cut
  unfoldable pub plan_choice : ℕ → ℕ → S → Choice Piece S
  plan_choice l w s = or_zero (eqb (figure_under J H l w s) 0) (or_piece (first (laid_earns l w s) (members J)) (or_length (first_pair Length l w s) (or_waste (first_pair Width l w s))))

  -- the plan of a job cut without loss, from a rectangle and a share downward
  unfoldable pub lossless_plan : Rect → S → Tree Piece
  lossless_plan r s = written (pieces J) (saw_written (normal_side J)) H r s

module _ {S : Type 0} (J : Job) (H : Shares Piece S) where
  -- the plan from a rectangle of the widened job and a share downward, as the saw cuts it
  unfoldable pub plan_of : ℕ → ℕ → S → Tree Piece
  plan_of l w s = sawn J.kerf (l, w) (lossless_plan (widened J) H (l, w) s)

  -- the plan's tree after a choice of the widened job: a cut stands at its position less the kerf, with the true remainder beyond it, and
  -- where that would be below 1 the plan goes on with the first part's size and share (plan_recursion of proofs/Plan)
  abbrev pub plan_after : ℕ → ℕ → Choice Piece S → Tree Piece
  plan_after l w as_waste = waste
  plan_after l w (as_piece p) = piece p
  plan_after l w (as_cut Length x q) = or_first (cut_remains J.kerf (l - x)) Length (x - J.kerf) (plan_of x w q.0) (plan_of (l - x) w q.1)
  plan_after l w (as_cut Width x q) = or_first (cut_remains J.kerf (w - x)) Width (x - J.kerf) (plan_of l x q.0) (plan_of l (w - x) q.1)

-- the plan of the plate, weights and a capacity
abbrev pub plan_under : Job → (ℕ → ℕ) → ℕ → Tree Piece
plan_under J weight q = plan_of J (by_kind weight) (widened J).plate.0 (widened J).plate.1 q

-- the plan behind the bound itself
abbrev pub bound_plan : Job → (ℕ → ℕ) → Tree Piece
bound_plan J weight = plan_under J weight (capacity J weight)

-- the area of the pieces of a tree
abbrev pub pieces_area_of : Job → Tree Piece → ℕ
pieces_area_of J t = pieces_area (laid J) t

-- the area of the waste nodes of a tree on a rectangle l by w
abbrev pub waste_area_of : Job → ℕ → ℕ → Tree Piece → ℕ
waste_area_of J l w t = waste_area (saw J.kerf) (l, w) t

-- the area of its trim, what its pieces leave of the rectangles that they lie on
abbrev pub trim_area_of : Job → ℕ → ℕ → Tree Piece → ℕ
trim_area_of J l w t = trim_area (laid J) (saw J.kerf) (l, w) t

-- the area of its sawdust
abbrev pub sawdust_area_of : Job → ℕ → ℕ → Tree Piece → ℕ
sawdust_area_of J l w t = sawdust_area J.kerf (l, w) t

-- a job whose kinds have both sides above k
abbrev pub KindsAbove : ℕ → Job → Type 0
KindsAbove k J = (i : ℕ) → i < J.count → (k < (J.size i).0) × (k < (J.size i).1)

-- a job no side of whose kinds is 0
abbrev pub SolidKinds : Job → Type 0
SolidKinds J = KindsAbove 0 J

-- a job whose numbers are in the scope's ranges
pub record InRange (J : Job) : Type 0 where
  pub plate_length : (1 ≤ J.plate.0) × (J.plate.0 ≤ most_side)
  pub plate_width : (1 ≤ J.plate.1) × (J.plate.1 ≤ most_side)
  pub kerfs : J.kerf ≤ most_kerf
  pub kinds : (1 ≤ J.count) × (J.count ≤ most_kinds)
  pub lengths : (i : ℕ) → i < J.count → (1 ≤ (J.size i).0) × ((J.size i).0 ≤ most_side)
  pub widths : (i : ℕ) → i < J.count → (1 ≤ (J.size i).1) × ((J.size i).1 ≤ most_side)
  pub prices : (i : ℕ) → i < J.count → J.price i ≤ most_price
  pub demands : (i : ℕ) → i < J.count → J.demand i ≤ most_demand
