-- Whole orders: plans on several plates that hold one, and the plates that it needs; and the bound by multipliers of the lowered job.
-- docs/SCOPE.md: Whole orders; Multipliers.
use Rattle.std.specs.Prelude.{◌≡◌, true, false, not, List, [], ◌∷◌, ℕ, ◌+◌, ◌-◌, ◌*◌, ◌/◌, ◌≤◌, ◌<◌, ltb, eqb, length, get_or, Ok, Err}
use Rattle.std.proofs.Math.Option.{none}
use Rattle.promises.specs.Prelude.{Choices, PlatesReport, LagrangianReport}
use Rattle.promises.specs.declared.Refusal.TheVariants.{MultiplierCount, Multiplier}
use Rattle.promises.specs.Lists.{sum, only}
use Rattle.promises.specs.Refusals.{Check, next, first_refusal, each_kind, most_multiplier, passed, Checked, Answer}
use Rattle.promises.specs.Job.{Rect, Piece, Tree, Job, copies_of, plated, at_full_demand, capacity}
use Rattle.promises.specs.Systems.{one_weight, bound_of, PlateHolds}
use Rattle.promises.specs.Block.{block_job, weight_in}
use Rattle.promises.specs.Call.{Answers, Memory, storage_checks, Fills}
use Rattle.promises.specs.Calls.{accepts, Accepted, bound_values, bound_report, BoundPromises}
use Rattle.promises.specs.True.{NoneBetter, Relaxes, SameKinds}
use Rattle.promises.specs.Rack.{AnyOnPlates, AnyOnFinerPlates, rack_profit}
use Rattle.promises.specs.declared.BoundReport.{BoundReport}

-- what holds of all plans on n plates, of any kinds of the job, cut at whole units, and at multiples of one m-th of a unit for every whole m of at least 1
pub record OfPlans (J : Job) (n : ℕ) (plate : ℕ → Rect) (Of : (ℕ → Tree Piece) → Type 0) : Type 0 where
  pub whole : (tree : ℕ → Tree Piece) → AnyOnPlates J n plate tree → Of tree
  pub finer : (m : ℕ) → 1 ≤ m → (tree : ℕ → Tree Piece) → AnyOnFinerPlates J m n plate tree → Of tree

-- demand times an amount of each kind, summed over the kinds: the order's worth at the prices
abbrev pub worth_at : Job → (ℕ → ℕ) → ℕ
worth_at J amount = sum J.count (λ i. J.demand i * amount i)

abbrev pub order_worth : Job → ℕ
order_worth J = worth_at J J.price

-- n plans hold the whole order: each kind has as many copies in all of them together as its demand; and so together with k others
abbrev pub HoldsOrder : Job → ℕ → (ℕ → Tree Piece) → Type 0
HoldsOrder J n tree = (i : ℕ) → i < J.count → sum n (λ p. copies_of i (tree p)) ≡ J.demand i

abbrev pub HoldsBeside : Job → ℕ → (ℕ → Tree Piece) → ℕ → (ℕ → Tree Piece) → Type 0
HoldsBeside J n tree k others = (i : ℕ) → i < J.count → sum n (λ p. copies_of i (tree p)) + sum k (λ p. copies_of i (others p)) ≡ J.demand i

-- n of the job's plates cannot hold the whole order together with any other trees, on plates of any size, that earn at most `other` in all
abbrev pub NotHeldBeside : Job → (n other : ℕ) → Type 0
NotHeldBeside J n other = OfPlans J n (λ p. J.plate) (λ tree. (k : ℕ) (others : ℕ → Tree Piece) → rack_profit J k others ≤ other → HoldsBeside J n tree k others → ⊥)

-- fewer than n of the job's plates cannot, nor at any true sizes that the job stands for
pub record NoFewer (M : Job) (n other : ℕ) : Type 0 where
  pub own : (m : ℕ) → m < n → NotHeldBeside M m other
  pub modelled : (J : Job) → SameKinds J M → Relaxes J M → (m : ℕ) → m < n → NotHeldBeside J m other

-- several types of plate: each type below k has a plate and a cost, and no tree of its plate that keeps the demands earns more than that.
-- Plates that cost less in all than the order is worth do not hold it
abbrev pub CheaperNotHeld : Job → Type 0
CheaperNotHeld J = (k : ℕ) (rect : ℕ → Rect) (cost : ℕ → ℕ) → ((r : ℕ) → r < k → NoneBetter (plated J (rect r)) none (cost r)) → (n : ℕ) (type : ℕ → ℕ) → ((p : ℕ) → p < n → type p < k)
    → sum n (λ p. cost (type p)) < order_worth J → OfPlans J n (λ p. rect (type p)) (λ tree. HoldsOrder J n tree → ⊥)

-- the plates needed for what is left, c, where no plate earns more than b: c over b, rounded up; where b is 0 and c is not, 2^64 - 1
abbrev pub plates_for : ℕ → ℕ → ℕ
plates_for b c = elim (eqb b 0) [ true ↦ only (ltb 0 c) 18446744073709551615 | false ↦ (c + (b - 1)) / b ]

-- n is the least number with n times b at least c, and 2^64 - 1 where b is 0 and c is not
pub record Fewest (b c n : ℕ) : Type 0 where
  pub enough : 1 ≤ b → c ≤ n * b
  pub least : (m : ℕ) → m < n → m * b < c
  pub none : c ≡ 0 → n ≡ 0
  pub never : b ≡ 0 → 1 ≤ c → n ≡ 18446744073709551615

-- an answer: the plates needed, the bound and the order's worth
abbrev pub plates_values : PlatesReport → List ℕ
plates_values b = b.plates ∷ b.bound ∷ b.worth ∷ []

-- The plates that a whole order needs, beside other plates that earn at most `other`: the checks, the bound and the memory are the bound call's.
pub record NeededPromises (s : List ℕ) (choices : Choices) (ws : List ℕ) (other : ℕ) (old new : Memory) (r : Answer PlatesReport) : Type 0 where
  pub bound : Answer BoundReport
  pub bounds : BoundPromises s choices ws old new bound
  pub answers : (let J = block_job s choices in let b = bound_of J (weight_in ws) in
      Answers plates_values (next (accepts s choices ws) (first_refusal (storage_checks J (one_weight (weight_in ws) J) old)))
      (record { plates = plates_for b (order_worth J - other); bound = b; worth = order_worth J }) r)
  pub fewest : (let J = block_job s choices in let b = bound_of J (weight_in ws) in Fewest b (order_worth J - other) (plates_for b (order_worth J - other)))
  pub no_fewer : Accepted s choices ws → (let J = block_job s choices in NoFewer J (plates_for (bound_of J (weight_in ws)) (order_worth J - other)) other)
  pub types : CheaperNotHeld (block_job s choices)

-- the multiplier of each kind, from the list of multipliers
abbrev pub multiplier_in : List ℕ → ℕ → ℕ
multiplier_in ms i = get_or ms i 0

-- the lowered job: each price less its multiplier, 0 where that is more
abbrev pub lowered : (ℕ → ℕ) → Job → Job
lowered multiplier J = record { plate = J.plate; kerf = J.kerf; turning = J.turning; full_demand = J.full_demand; count = J.count; size = J.size; price = λ i. J.price i - multiplier i; demand = J.demand; grain = J.grain }

abbrev pub lowered_job : List ℕ → Choices → List ℕ → Job
lowered_job s choices ms = lowered (multiplier_in ms) (block_job s choices)

-- checks 37 and 38, of n kinds
abbrev pub multiplier_checks : ℕ → List ℕ → List Check
multiplier_checks n ms = (not (eqb (length ms) n), MultiplierCount) ∷ each_kind (λ i. (ltb most_multiplier (multiplier_in ms i), Multiplier i) ∷ []) 0 n

-- the verdict before the storage's: 1 to 9, 27 and 35, then 37, 38; accepted where none refuses
abbrev pub multiplied_verdict : List ℕ → Choices → List ℕ → List ℕ → Checked
multiplied_verdict s choices ws ms = next (accepts s choices ws) (first_refusal (multiplier_checks (block_job s choices).count ms))

abbrev pub AllAccepted : List ℕ → Choices → List ℕ → List ℕ → Type 0
AllAccepted s choices ws ms = multiplied_verdict s choices ws ms ≡ passed

-- the Lagrangian bound: the lowered job's bound plus the sum, over the kinds, of demand times multiplier
abbrev pub lagrangian_of : List ℕ → Choices → List ℕ → List ℕ → ℕ
lagrangian_of s choices ws ms = bound_of (lowered_job s choices ms) (weight_in ws) + worth_at (block_job s choices) (multiplier_in ms)

-- an answer: the Lagrangian bound; the lowered job's bound; Q, p and r
abbrev pub lagrangian_values : LagrangianReport → List ℕ
lagrangian_values b = b.lagrangian ∷ bound_values b.lowered

-- the bound call's answer as this call's: the bound with nothing beside it
abbrev pub as_lagrangian : Answer BoundReport → Answer LagrangianReport
as_lagrangian (Ok b) = Ok (record { lagrangian = b.bound; lowered = b })
as_lagrangian (Err r) = Err r

-- The bound by multipliers: 1 to 9, 27 and 35, 37, 38, 19, 20; lists and table are the lowered job's. No tree that keeps every demand earns more,
-- cut at whole units or finer, and at any true sizes that the job stands for. With all multipliers 0 it is the bound call.
pub record LagrangianPromises (s : List ℕ) (choices : Choices) (ws ms : List ℕ) (old new : Memory) (r : Answer LagrangianReport) : Type 0 where
  pub answers : (let L = lowered_job s choices ms in let Y = one_weight (weight_in ws) L in
      Answers lagrangian_values (next (multiplied_verdict s choices ws ms) (first_refusal (storage_checks L Y old)))
      (record { lagrangian = lagrangian_of s choices ws ms; lowered = bound_report L Y (capacity L (weight_in ws)) }) r)
  pub fills : Fills (AllAccepted s choices ws ms) (multiplied_verdict s choices ws ms) (lowered_job s choices ms) (one_weight (weight_in ws)) old new
  pub held : AllAccepted s choices ws ms → (let L = lowered_job s choices ms in PlateHolds L × (capacity L (weight_in ws) ≤ capacity (at_full_demand L) (weight_in ws)))
  pub demands : AllAccepted s choices ws ms → NoneBetter (block_job s choices) none (lagrangian_of s choices ws ms)
  pub modelled : AllAccepted s choices ws ms → (J : Job) → Relaxes J (block_job s choices) → NoneBetter J none (lagrangian_of s choices ws ms)
  pub alone : length ms ≡ (block_job s choices).count → ((i : ℕ) → multiplier_in ms i ≡ 0) → (b : Answer BoundReport) × BoundPromises s choices ws old new b × (r ≡ as_lagrangian b)
