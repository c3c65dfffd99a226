-- The check of a rack: 28, the job's checks beside its plate's, 2 of each plate, 10 and 11 over all nodes, then plan after plan by its own
-- checks and 29, and 18 after the last.
-- docs/SCOPE.md: A rack of plates.
use Rattle.std.specs.Prelude.{◌||◌, not, List, [], ◌∷◌, ◌++◌, ℕ, zero, suc, ◌+◌, ◌-◌, ltb, eqb, length, take, drop, get_or, set, replicate, Ok, Err}
use Rattle.cutting.specs.Limits.{most_kinds}
use Rattle.cutting.specs.Tree.{Rect}
use Rattle.cutting.specs.Job.{Job}
use Rattle.refusal.specs.Refusals.{Answer, Check, Outcome, answer_by, by_check, first_refusal, outcome_of, refused_as}
use Rattle.promises.specs.declared.Refusal.TheVariants.{RackSize, RackSide, RackDemand}
use Rattle.promises.specs.declared.Choices.{Choices}
use Rattle.job.specs.Block.{outside, sides_outside, each_kind}
use Rattle.job.specs.Weights.{block_job}
use Rattle.idle.specs.Idle.{idle_checks}
use Rattle.plan.specs.declared.TreeWalk.{TreeWalk}
use Rattle.plan.specs.Plan.{nodes_in, empty_report, proceed, tree_walk, left_check, plan_checks}
use Rattle.orders.specs.Racks.{plated}
pub use Rattle.promises.specs.Refusals.{most_plates}
unfoldable pub use Rattle.promises.specs.Block.{order_checks}

-- plate i of a rack, from the arrays of its sides
abbrev pub plate_at : List ℕ → List ℕ → ℕ → Rect
plate_at lengths widths i = (get_or lengths i 0, get_or widths i 0)

-- 28: not 1 to 16 plates, or not as many lengths as widths
abbrev pub rack_size_check : List ℕ → List ℕ → Check
rack_size_check lengths widths = (not (eqb (length lengths) (length widths)) || outside 1 most_plates (length lengths), RackSize)

-- 2, of plate i
abbrev pub plate_check : (ℕ → Rect) → ℕ → List Check
plate_check plate i = (sides_outside (plate i).0 (plate i).1, RackSide i) ∷ []

-- 2, of each of n plates in the rack's order
abbrev pub plate_checks : (ℕ → Rect) → ℕ → List Check
plate_checks plate n = each_kind (plate_check plate) 0 n

-- the checks before any plan's
unfoldable pub rack_checks : List ℕ → Choices → List ℕ → List ℕ → List ℕ → List ℕ → List Check
rack_checks s choices lengths widths kinds operands =
    rack_size_check lengths widths ∷ (order_checks s choices ++ (plate_checks (plate_at lengths widths) (length lengths) ++ plan_checks kinds operands))

-- what follows an answer's value, and else its refusal
abbrev pub and_then : {A B : Type 0} → Answer A → (A → Answer B) → Answer B
and_then (Ok a) f = f a
and_then (Err r) f = Err r

-- the walk over a plan from node k on, on the job's plate: 12 to 17 and 36
abbrev pub walked_at : Job → List ℕ → List ℕ → ℕ → Answer TreeWalk
walked_at J kinds operands k = tree_walk J k (drop k (nodes_in kinds operands)) (J.plate ∷ []) empty_report

-- 26, of the nodes from k up to the end of their plan
abbrev pub idle_at : List ℕ → ℕ → ℕ → List Check
idle_at kinds k past = idle_checks k (take (past - k) (drop k kinds))

-- what a plan answers by its own checks: 12 to 17 and 36, then 26 at its end
unfoldable pub own_answer : Job → List ℕ → List ℕ → ℕ → Answer TreeWalk
own_answer J kinds operands k = and_then (walked_at J kinds operands k) (λ t. answer_by (first_refusal (idle_at kinds k t.past)) t)

-- 29, of plate i and kind j: with the plan's own copies its total over the rack passes its demand
abbrev pub total_check : (ℕ → ℕ) → ℕ → List ℕ → List ℕ → ℕ → List Check
total_check demand i totals own j = (ltb (demand j) (get_or totals j 0 + get_or own j 0), RackDemand i) ∷ []

-- 29, of every kind
abbrev pub total_checks : Job → ℕ → List ℕ → List ℕ → List Check
total_checks J i totals own = each_kind (total_check J.demand i totals own) 0 J.count

-- the totals of the first n kinds with a plan's own copies
unfoldable pub with_own : List ℕ → List ℕ → ℕ → List ℕ
with_own totals own zero = totals
with_own totals own (suc n) = set (with_own totals own n) n (get_or totals n 0 + get_or own n 0)

-- the plans of m plates from plate i and node k on, after the totals and profits of the plates before: each by its own checks, then 29; after
-- the last 18. The rack answers the profits of its plates in their order, 0 past the last
unfoldable pub rack_walk : Job → (ℕ → Rect) → List ℕ → List ℕ → ℕ → ℕ → ℕ → List ℕ → List ℕ → Answer (List ℕ)
rack_walk J plate kinds operands i zero k totals profits = answer_by (first_refusal (left_check (length kinds) k ∷ [])) profits
rack_walk J plate kinds operands i (suc m) k totals profits =
    and_then (own_answer (plated J (plate i)) kinds operands k)
    (λ t. proceed (first_refusal (total_checks J i totals t.report.copies)) (rack_walk J plate kinds operands (i + 1) m t.past (with_own totals t.report.copies J.count) (set profits i t.report.profit)))

-- the plans of a job's rack, from its first plate and node on
unfoldable pub plans_answer : Job → (ℕ → Rect) → ℕ → List ℕ → List ℕ → Answer (List ℕ)
plans_answer J plate n kinds operands = rack_walk J plate kinds operands 0 n 0 (replicate most_kinds 0) (replicate most_plates 0)

-- what a rack answers for a job block
abbrev pub rack_answer : List ℕ → Choices → List ℕ → List ℕ → List ℕ → List ℕ → Answer (List ℕ)
rack_answer s choices lengths widths kinds operands =
    proceed (first_refusal (rack_checks s choices lengths widths kinds operands)) (plans_answer (block_job s choices) (plate_at lengths widths) (length lengths) kinds operands)

-- an answer's number and values: the profits
abbrev pub rack_outcome : Answer (List ℕ) → Outcome
rack_outcome a = outcome_of (λ profits. profits) a

-- the number and values that a rack answers for a job block
abbrev pub rack_said : List ℕ → Choices → List ℕ → List ℕ → List ℕ → List ℕ → Outcome
rack_said s choices lengths widths kinds operands =
    by_check (first_refusal (rack_checks s choices lengths widths kinds operands)) (rack_outcome (plans_answer (block_job s choices) (plate_at lengths widths) (length lengths) kinds operands)) refused_as
