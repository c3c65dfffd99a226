-- What the base promises, in three parts. The clauses `answers`, `outcome` and `memory` of the calls tie each answer, its number
-- and values, and lent memory to their definitions; here stands what these definitions mean, over all checks, all memory and all
-- guillotine trees, of any size and whoever drew them. proofs/Refusals proves part 1, proofs/Promises the others.
-- docs/SCOPE.md: The certificate; The table of refusals; Lent memory.
use Rattle.std.specs.Prelude.{◌≡◌, true, false, ℕ, ◌+◌, ◌<◌, Ok, Err}
use mathlib.Core.List.{List, ◌∷◌, ◌++◌, Memᴰ}
use Rattle.promises.specs.declared.Direction.TheVariants.{Length, Width}
use Rattle.cutting.specs.Lists.{over}
use Rattle.cutting.specs.Tree.{Tree, IdleFree}
use Rattle.cutting.specs.Pieces.{Piece}
use Rattle.cutting.specs.Job.{Job, profit, bound_of, normal_positions, bound_plan, by_kind}
use Rattle.cutting.specs.Promises.{NoneBetter, EarnsWithin, PlanFollows}
use Rattle.refusal.specs.Refusals.{Answer, Check, Checked, passed, number_of, next, first_refusal}
use Rattle.promises.specs.declared.Refusal.{Refusal}
use Rattle.promises.specs.declared.Choices.{Choices}
use Rattle.job.specs.Weights.{block_job, weight_in, Accepted}
use Rattle.plan.specs.Plan.{walk_answer, plan_answer}
use Rattle.plan.specs.Trees.{PlanOf, ChecksPlan}
use Rattle.plan.specs.Calls.{JobPasses}
use Rattle.bound.specs.Bound.{Memory, Leaves, wide_job, block_capacity, memory_checks, bound_answer, BoundSaid, BlockHolds}
use Rattle.certificate.specs.Certificate.{plan_verdict, certificate_of, certificate_outcome, certificate_said}
use Rattle.promises.specs.declared.Certificate.{Certificate}
use Rattle.promises.specs.declared.Certificate.TheVariants.{Best, Gap}

-- no condition of a list of checks holds
abbrev pub NoneHolds : List Check → Type 0
NoneHolds cs = (c : Check) → Memᴰ c cs → c.0 ≡ false

-- part 1, refusals: checks pass where no condition holds, and else the first that holds gives the refusal
abbrev pub FirstDecides : Type 0
FirstDecides = (cs : List Check) → (first_refusal cs ≡ passed → NoneHolds cs)
    × ((r : Refusal) → first_refusal cs ≡ Err r → (before : List Check) × (after : List Check) × (cs ≡ before ++ ((true, r) ∷ after)) × NoneHolds before)

-- part 1, lent memory: a refusal of any number but 20 changes nothing; on 20 the lists are filled; on every refusal the table is as it
-- was. Of a call, J is its job with the kerf added to every side
abbrev pub MemoryKept : Type 0
MemoryKept = (before : Checked) (J : Job) (weight : ℕ → ℕ) (q : ℕ) (old new : Memory) → Leaves before J weight q old new
    → (r : Refusal) → next before (first_refusal (memory_checks J q old)) ≡ Err r
    → ((number_of r ≡ 20 → ⊥) → new ≡ old)
    × (before ≡ passed → number_of r ≡ 20 → (new.lengths ≡ over (normal_positions J Length) old.lengths) × (new.widths ≡ over (normal_positions J Width) old.widths))
    × (new.table ≡ old.table)

-- for a good job block a plan passes exactly when its arrays are those of a guillotine tree on the plate that keeps every demand and has at
-- most 4,095 nodes and no idle cut; what it then reports is that tree's own; a tree with idle cuts is refused for the first of them
abbrev pub PlanJudged : List ℕ → Choices → List ℕ → List ℕ → Type 0
PlanJudged s choices kinds operands = JobPasses s choices
    → ChecksPlan Unit (block_job s choices) kinds operands (walk_answer (block_job s choices) kinds operands) (plan_answer (block_job s choices) kinds operands)

-- part 2, the plan: every plan is judged so
abbrev pub PlansJudged : Type 0
PlansJudged = (s : List ℕ) (choices : Choices) (kinds operands : List ℕ) → PlanJudged s choices kinds operands

-- part 2, the bound: whatever memory is lent, an answered bound is exact at the answered capacity
abbrev pub BoundsHold : Type 0
BoundsHold = (s : List ℕ) (choices : Choices) (ws : List ℕ) (m : Memory) → BoundSaid s choices ws (bound_answer s choices ws m)

-- part 2, the written plan: for every accepted job and weights the plan behind the bound follows the order of choice, and is a
-- guillotine tree on the plate that weighs at most the capacity, earns the bound and has no idle cut
abbrev pub PlansEarn : Type 0
PlansEarn = (s : List ℕ) (choices : Choices) (ws : List ℕ) → Accepted s choices ws
    → PlanFollows (block_job s choices) (by_kind (weight_in ws))
    × EarnsWithin (block_job s choices) (weight_in ws) (block_capacity s choices ws) (bound_of (block_job s choices) (weight_in ws)) (bound_plan (block_job s choices) (weight_in ws))
    × IdleFree (bound_plan (block_job s choices) (weight_in ws))

-- the arrays are those of a guillotine tree on the plate that keeps every demand and has no idle cut, and it earns n
abbrev pub Earns : Job → List ℕ → List ℕ → ℕ → Type 0
Earns J kinds operands n = (t : Tree Piece) × PlanOf J t kinds operands × (profit J t ≡ n)

-- what "best" says of a plan's profit, a bound, and the trees that the plan is compared with: the plan earns the profit named, which is
-- the bound, and none of those trees earns more
abbrev pub BestAmong : (ℕ → Type 0) → (ℕ → Type 0) → ℕ → Answer Certificate → Type 0
BestAmong Earned None bound r = (n : ℕ) → r ≡ Ok (Best n) → Earned n × (n ≡ bound) × None n

-- what a gap says: the plan earns the profit named, the gap is positive, profit and gap sum to the bound, and none of those trees earns
-- more than that
abbrev pub GapAmong : (ℕ → Type 0) → (ℕ → Type 0) → ℕ → Answer Certificate → Type 0
GapAmong Earned None bound r = (n gap : ℕ) → r ≡ Ok (Gap n gap) → Earned n × (0 < gap) × (n + gap ≡ bound) × None (n + gap)

-- what certify's "best" says: the plan's arrays are those of a tree that keeps every demand and earns the profit named, which is the
-- bound, and no tree that keeps every demand, cut at whole units or finer, earns more
abbrev pub BestSaid : Job → (ℕ → ℕ) → List ℕ → List ℕ → Answer Certificate → Type 0
BestSaid J weight kinds operands r = BestAmong (Earns J kinds operands) (NoneBetter J) (bound_of J weight) r

-- and its gap, of the same plan and the same trees
abbrev pub GapSaid : Job → (ℕ → ℕ) → List ℕ → List ℕ → Answer Certificate → Type 0
GapSaid J weight kinds operands r = GapAmong (Earns J kinds operands) (NoneBetter J) (bound_of J weight) r

-- what certify promises of its answer and of the memory that it is lent: both are the definitions', number and values too; the plan is
-- judged by its tree; "best" and a gap say what they say of every tree
pub record CertifyPromises (s : List ℕ) (choices : Choices) (ws kinds operands : List ℕ) (old new : Memory) (r : Answer Certificate) : Type 0 where
  pub answers : r ≡ certificate_of s choices ws kinds operands old
  pub outcome : certificate_outcome r ≡ certificate_said s choices ws kinds operands old
  pub memory : Leaves (plan_verdict s choices ws kinds operands) (wide_job s choices) (weight_in ws) (block_capacity s choices ws) old new
  pub judged : PlanJudged s choices kinds operands
  pub best : BestSaid (block_job s choices) (weight_in ws) kinds operands r
  pub gap : GapSaid (block_job s choices) (weight_in ws) kinds operands r

-- part 3, best: a plan is called best exactly when its profit is the bound, and is then best, whoever drew it; a gap holds
abbrev pub CertificatesHold : Type 0
CertificatesHold = (s : List ℕ) (choices : Choices) (ws kinds operands : List ℕ) (m : Memory)
    → BestSaid (block_job s choices) (weight_in ws) kinds operands (certificate_of s choices ws kinds operands m)
    × GapSaid (block_job s choices) (weight_in ws) kinds operands (certificate_of s choices ws kinds operands m)

-- part 3, exactness: for every accepted job and weights, storage apart, the bound is the most that a tree within the capacity earns,
-- one earns it, and no tree that keeps every demand, cut at whole units or finer, earns more
abbrev pub BoundExact : Type 0
BoundExact = (s : List ℕ) (choices : Choices) (ws : List ℕ) → Accepted s choices ws → BlockHolds s choices ws
