-- What the definitions rule out: facts that are read off one definition each, and that an edit of it breaks. The theory stands in the crates
-- above.
use mathlib.Core.Path.{◌≡◌, refl}
use mathlib.Core.Bool.{true, false}
use mathlib.Core.List.{[], ◌∷◌}
use Prim.Native.Nat.{ℕ, ◌+◌, ◌-◌, ◌*◌, ◌≤◌, ◌<◌}
use lib.Dec.{T}
use Rattle.promises.specs.declared.Direction.{Direction}
use Rattle.promises.specs.declared.Direction.TheVariants.{Length}
use Rattle.promises.specs.declared.Refusal.TheVariants.{SecondCount}
use Rattle.promises.specs.Lists.{range, sum, filter}
use Rattle.promises.specs.Refusals.{first_refusal}
use Rattle.promises.specs.Job.{Piece, turned, kind, times, Tree, piece, cut, Job, turns, laid, MayLie, GuillotineTree, profit, finer}
use Rattle.promises.specs.Figure.{ordered, cut_remains}
use Rattle.promises.specs.Systems.{by_weight, across}
use Rattle.promises.specs.Block.{two_checks}
use Rattle.std.proofs.Common.{Err}

-- a piece is no wider than its rectangle
pub piece_fits : (J : Job) (l w : ℕ) (p : Piece) → GuillotineTree J l w (piece p) → (laid J p).1 ≤ w
piece_fits J l w p t = t.2

-- a cut leaves something on both sides
pub cut_inside : (J : Job) (l w x : ℕ) (a b : Tree Piece) → GuillotineTree J l w (cut Length x a b) → (1 ≤ x) × (x + J.kerf < l)
cut_inside J l w x a b t = (t.0, t.1)

-- the kerf is lost at a cut
pub kerf_lost : (J : Job) (l w x : ℕ) (a b : Tree Piece) → GuillotineTree J l w (cut Length x a b) → GuillotineTree J (l - x - J.kerf) w b
kerf_lost J l w x a b t = t.3

-- a piece is turned only where its kind may be turned
pub turned_by_choice : (J : Job) (i : ℕ) → MayLie J (turned i) → T (turns J i)
turned_by_choice J i t = t.2

-- upright or turned, a piece is a copy of its kind
pub turned_counts : (i : ℕ) → kind (turned i) ≡ i
turned_counts i = refl

-- in a finer unit pieces keep their sizes
pub finer_sizes : (m : ℕ) (J : Job) (i : ℕ) → (finer m J).size i ≡ times m (J.size i)
finer_sizes m J i = refl

-- and trees what they earn
pub finer_profit : (m : ℕ) (J : Job) (t : Tree Piece) → profit (finer m J) t ≡ profit J t
finer_profit m J t = refl

-- a job of two kinds, of which the second is ordered, 255 times
abbrev pub two_kinds : Job
two_kinds = record { plate = (9, 9); kerf = 0; turning = false; full_demand = true; count = 2; size = λ i. (1, 1); price = λ i. 1; demand = λ i. i * 255; grain = λ i. false }

-- a kind of which none is ordered is not cut
pub cancelled_left_out : ordered two_kinds ≡ 1 ∷ []
unfolding ordered filter range
cancelled_left_out = refl

-- a share is divided, and not given twice
pub share_divided : (d : Direction) → (by_weight {P = ℕ} (λ p. p)).splits d 1 ≡ (0, 1) ∷ (1, 0) ∷ []
unfolding by_weight range
share_divided d = refl

-- nor is the second of two
pub second_divided : (a b c d : ℕ) → across ((a, b), (c, d)) ≡ ((a, c), (b, d))
second_divided a b c d = refl

-- a cut with nothing beyond it does not remain
pub nothing_beyond : cut_remains 3 3 ≡ false
nothing_beyond = refl

-- 24 comes before 9
pub second_count_first : first_refusal (two_checks two_kinds (255 ∷ 255 ∷ []) []) ≡ Err SecondCount
unfolding first_refusal sum
second_count_first = refl
