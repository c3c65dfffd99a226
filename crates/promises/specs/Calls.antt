-- The public calls on one plate, each an instance: its answer's values, its checks in order, its report, and what it promises besides. The
-- calls `.._full_demand` and `read_old_job` are the same at `with_full_demand choices` and `with_old_block choices`.
-- docs/SCOPE.md: What contracts say; The table of refusals.
use Rattle.std.specs.Prelude.{◌≡◌, Bool, true, false, List, [], ◌∷◌, ◌++◌, ℕ, ◌+◌, ◌-◌, ◌≤◌, eqb, length, Ok, Err}
use Rattle.std.proofs.Math.Option.{Option, none, some}
use Rattle.promises.specs.Prelude.{Length, Width, Choices, JobRecord, Report, BoundReport, TwoReport, WriteReport, ExactReport, Certificate}
use Rattle.promises.specs.declared.Certificate.TheVariants.{Best, Gap}
use Rattle.promises.specs.Lists.{only}
use Rattle.promises.specs.Refusals.{Check, by_check, next, first_refusal, outcome_by, outcome_of, passed, Checked, Answer}
use Rattle.promises.specs.Job.{Job, profit, copies_of, widened, at_full_demand, capacity, stages}
use Rattle.promises.specs.Plan.{tree_in, tree_report, kinds_of, operands_of, node_count, neat_of, stage_checks, PlanOf}
use Rattle.promises.specs.Systems.{System, one_weight, two_weights, remaining_copies, within_stages, bound_in, bound_of, bound_plan, optimum, optimum_plan, state_count, PlateHolds, BlockRecursion, CopiesByDigits, position_count}
use Rattle.promises.specs.Block.{job_checks, block_checks, weight_checks, two_checks, state_check, limit_check, record_of, block_job, weight_in, plan_kinds, plan_operands, KerfNoneRead}
use Rattle.promises.specs.Check.{walk_verdict, plan_verdict, Judges}
use Rattle.promises.specs.Call.{Answers, Memory, Arrays, storage_checks, nodes_check, ArraysLeft, Leaves, Fills, Writes, Certifies}
use Rattle.promises.specs.declared.StagedReport.{StagedReport}

-- The values of the reports, in the order of the C words.
-- a job that was read: the plate's sides, the number of kinds, the kerf, the choices of turning and of full demand (1 or 0), then the
-- lengths, widths, prices, demands and grain bytes of 64 kinds
abbrev pub job_values : JobRecord → List ℕ
job_values j = j.length ∷ j.width ∷ j.count ∷ j.kerf ∷ only j.turning 1 ∷ only j.full_demand 1 ∷ (j.lengths ++ j.widths ++ j.prices ++ j.demands ++ j.grains)

-- a plan's report: profit, the areas of pieces, waste nodes and trim, the copies of each kind, and the sawdust's area
abbrev pub plan_values : Report → List ℕ
plan_values r = r.profit ∷ r.pieces ∷ r.waste ∷ r.trim ∷ (r.copies ++ (r.sawdust ∷ []))

-- the same and the stages
abbrev pub staged_values : StagedReport → List ℕ
staged_values s = plan_values s.report ++ (s.stages ∷ [])

-- a bound: the bound, Q, p and r
abbrev pub bound_values : BoundReport → List ℕ
bound_values b = b.bound ∷ b.capacity ∷ b.length_count ∷ b.columns ∷ []

-- a bound of two weights: the bound, both capacities, p and r
abbrev pub two_values : TwoReport → List ℕ
two_values b = b.bound ∷ b.first_capacity ∷ b.second_capacity ∷ b.length_count ∷ b.columns ∷ []

-- a written plan: the bound, Q, p, r and the node count
abbrev pub write_values : WriteReport → List ℕ
write_values b = b.bound ∷ b.capacity ∷ b.length_count ∷ b.columns ∷ b.nodes ∷ []

-- a neat plan: the node count
abbrev pub neat_values : ℕ → List ℕ
neat_values n = n ∷ []

-- an optimum: the optimum, the number of states, p, r and the node count
abbrev pub exact_values : ExactReport → List ℕ
exact_values b = b.optimum ∷ b.states ∷ b.length_count ∷ b.columns ∷ b.nodes ∷ []

-- a certificate of a profit and a bound: best exactly when they are equal, otherwise the gap, bound minus profit; its values are the gap, the
-- bound and the profit
abbrev pub compared : Bool → ℕ × ℕ → Certificate
compared true s = Best s.0
compared false s = Gap s.0 (s.1 - s.0)

abbrev pub certificate_values : Certificate → List ℕ
certificate_values (Best profit) = 0 ∷ profit ∷ profit ∷ []
certificate_values (Gap profit gap) = gap ∷ (profit + gap) ∷ profit ∷ []

-- The checks that stand before a plan's or the storage's.
-- of a job block, 1 to 7, 27 and 35, and within a limit 22
abbrev pub limit_checks : Option ℕ → List Check
limit_checks none = []
limit_checks (some n) = limit_check n ∷ []

abbrev pub reads : Option ℕ → List ℕ → Choices → Checked
reads limit s choices = next (first_refusal (job_checks s choices)) (first_refusal (limit_checks limit))

-- of a job block and weights, 1 to 9, 27 and 35; they are accepted where none refuses
abbrev pub accepts : List ℕ → Choices → List ℕ → Checked
accepts s choices ws = first_refusal (job_checks s choices ++ weight_checks (block_job s choices) ws)

abbrev pub Accepted : List ℕ → Choices → List ℕ → Type 0
Accepted s choices ws = accepts s choices ws ≡ passed

-- Reading a job: 1 to 7, 27 and 35. Kerf 0 in the new block is read as the old block.
abbrev pub ReadPromises : List ℕ → Choices → Answer JobRecord → Type 0
ReadPromises s choices r = Answers job_values (first_refusal (job_checks s choices)) (record_of s choices) r × KerfNoneRead s choices

-- What the check of a plan's arrays means for trees, after the checks before it.
abbrev pub Checks : Checked → Job → Option ℕ → List ℕ → List ℕ → Type 0
Checks before J limit kinds operands = Judges (before ≡ passed) J limit kinds operands
    (next before (next (walk_verdict J kinds operands) (first_refusal (stage_checks limit (tree_in kinds operands))))) (next before (plan_verdict J limit kinds operands))

-- Checking a plan: 1 to 7, 27 and 35, 10 to 18, 36, 26. The report is that of the tree.
abbrev pub PlanPromises : Checked → Job → List ℕ → List ℕ → Answer Report → Type 0
PlanPromises before J kinds operands r = Answers plan_values (next before (plan_verdict J none kinds operands)) (tree_report J (tree_in kinds operands)) r × Checks before J none kinds operands

abbrev pub CheckPromises : List ℕ → Choices → (kinds operands : List ℕ) → Answer Report → Type 0
CheckPromises s choices kinds operands r = PlanPromises (reads none s choices) (block_job s choices) kinds operands r

-- Checking a plan block: 10 of its bytes before 10 of its arrays.
abbrev pub BlockPromises : List ℕ → Choices → (plan : List ℕ) → Answer Report → Type 0
BlockPromises s choices plan r = PlanPromises (next (reads none s choices) (first_refusal (block_checks plan))) (block_job s choices) (plan_kinds plan) (plan_operands plan) r

-- The staged check: 1 to 7, 27 and 35, 22, 10 to 18, 36, 26, 23. It reports the stages too.
abbrev pub StagedCheckPromises : List ℕ → Choices → (limit : ℕ) → (kinds operands : List ℕ) → Answer StagedReport → Type 0
StagedCheckPromises s choices limit kinds operands r =
    Answers staged_values (next (reads (some limit) s choices) (plan_verdict (block_job s choices) (some limit) kinds operands)) (record { report = tree_report (block_job s choices) (tree_in kinds operands); stages = stages (tree_in kinds operands) }) r
    × Checks (reads (some limit) s choices) (block_job s choices) (some limit) kinds operands

-- The neat plan of a tree t that a passed plan's arrays draw: it passes the check too, earns the same, has the same copies of every kind, no
-- more nodes and no more stages, and neatening it again gives the same plan
pub record NeatPlan (J : Job) (kinds operands : List ℕ) : Type 0 where
  pub passes : (let t = neat_of J (tree_in kinds operands) in PlanOf J t (kinds_of t) (operands_of t) × (plan_verdict J none (kinds_of t) (operands_of t) ≡ passed))
  pub earns : profit J (neat_of J (tree_in kinds operands)) ≡ profit J (tree_in kinds operands)
  pub copies : (i : ℕ) → copies_of i (neat_of J (tree_in kinds operands)) ≡ copies_of i (tree_in kinds operands)
  pub no_more_nodes : node_count (neat_of J (tree_in kinds operands)) ≤ node_count (tree_in kinds operands)
  pub no_more_stages : stages (neat_of J (tree_in kinds operands)) ≤ stages (tree_in kinds operands)
  pub again : (let t = neat_of J (tree_in kinds operands) in (neat_of J t ≡ t) × (neat_of J (tree_in (kinds_of t) (operands_of t)) ≡ t))

-- Neatening a plan: 1 to 7, 27 and 35, 10 to 18, 36, 26, 21 of the output arrays, which then hold the neat plan.
pub record NeatPromises (s : List ℕ) (choices : Choices) (kinds operands : List ℕ) (old new : Arrays) (r : Answer ℕ) : Type 0 where
  pub answers : (let t = neat_of (block_job s choices) (tree_in kinds operands) in
      Answers neat_values (next (next (reads none s choices) (plan_verdict (block_job s choices) none kinds operands)) (first_refusal (nodes_check t old ∷ []))) (node_count t) r)
  pub arrays : (let t = neat_of (block_job s choices) (tree_in kinds operands) in
      ArraysLeft (next (next (reads none s choices) (plan_verdict (block_job s choices) none kinds operands)) (first_refusal (nodes_check t old ∷ []))) t old new)
  pub judged : Checks (reads none s choices) (block_job s choices) none kinds operands
  pub plan : next (reads none s choices) (plan_verdict (block_job s choices) none kinds operands) ≡ passed → NeatPlan (block_job s choices) kinds operands

-- What a bound call reports of a job and a system with a capacity: the bound, Q, p and r.
abbrev pub bound_report : {S : Type 0} → Job → System S → ℕ → BoundReport
bound_report J Y q = record { bound = bound_in J Y; capacity = q; length_count = position_count (widened J) Length; columns = position_count (widened J) Width }

-- The bound: 1 to 9, 27 and 35, 19, 20. Of an accepted job no tree on the plate has more copies of a kind than the capacity counts as what the
-- plate holds, and the capacity of the full demands is no less. Kerf 0 in a new block is read as the old block, and answered so.
pub record BoundPromises (s : List ℕ) (choices : Choices) (ws : List ℕ) (old new : Memory) (r : Answer BoundReport) : Type 0 where
  pub answers : (let J = block_job s choices in let Y = one_weight (weight_in ws) J in
      Answers bound_values (next (accepts s choices ws) (first_refusal (storage_checks J Y old))) (bound_report J Y (capacity J (weight_in ws))) r)
  pub fills : Fills (Accepted s choices ws) (accepts s choices ws) (block_job s choices) (one_weight (weight_in ws)) old new
  pub held : Accepted s choices ws → PlateHolds (block_job s choices) × (capacity (block_job s choices) (weight_in ws) ≤ capacity (at_full_demand (block_job s choices)) (weight_in ws))
  pub kerf_none : KerfNoneRead s choices

-- Writing the plan behind the bound: 1 to 9, 27 and 35, 19, 20, 21.
pub record WritePromises (s : List ℕ) (choices : Choices) (ws : List ℕ) (old new : Memory) (plan written : Arrays) (r : Answer WriteReport) : Type 0 where
  pub answers : (let J = block_job s choices in let Y = one_weight (weight_in ws) J in let t = bound_plan J (weight_in ws) in
      Answers write_values (next (next (accepts s choices ws) (first_refusal (storage_checks J Y old))) (first_refusal (nodes_check t plan ∷ [])))
      (record { bound = bound_in J Y; capacity = capacity J (weight_in ws); length_count = position_count (widened J) Length; columns = position_count (widened J) Width; nodes = node_count t }) r)
  pub fills : Fills (Accepted s choices ws) (accepts s choices ws) (block_job s choices) (one_weight (weight_in ws)) old new
  pub writes : (let J = block_job s choices in let t = bound_plan J (weight_in ws) in
      Writes (Accepted s choices ws) (next (next (accepts s choices ws) (first_refusal (storage_checks J (one_weight (weight_in ws) J) old))) (first_refusal (nodes_check t plan ∷ []))) J (one_weight (weight_in ws)) t plan written)

-- the verdict of a certificate: its block's and weights', the limit's, the plan's, the storage's
abbrev pub certify_verdict : {S : Type 0} → Option ℕ → (Job → System S) → List ℕ → Choices → List ℕ → Arrays → Memory → Checked
certify_verdict limit Y s choices ws plan old =
    next (next (next (accepts s choices ws) (first_refusal (limit_checks limit))) (plan_verdict (block_job s choices) limit plan.0 plan.1)) (first_refusal (storage_checks (block_job s choices) (Y (block_job s choices)) old))

-- A certificate, with a limit or without: 1 to 9, 27 and 35, 22, 10 to 18, 36, 26, 23, 19, 20; the plan is judged as its check judges it.
pub record CertifyPromises {S : Type 0} (limit : Option ℕ) (Y : Job → System S) (s : List ℕ) (choices : Choices) (ws : List ℕ) (plan : Arrays) (old new : Memory) (r : Answer Certificate) : Type 0 where
  pub answers : (let J = block_job s choices in let p = profit J (tree_in plan.0 plan.1) in let b = bound_in J (Y J) in
      Answers certificate_values (certify_verdict limit Y s choices ws plan old) (compared (eqb p b) (p, b)) r)
  pub words : (let J = block_job s choices in let p = profit J (tree_in plan.0 plan.1) in let b = bound_in J (Y J) in
      outcome_of certificate_values r ≡ outcome_by (certify_verdict limit Y s choices ws plan old) ((b - p) ∷ b ∷ p ∷ []))
  pub fills : (let J = block_job s choices in Fills (Accepted s choices ws) (next (next (accepts s choices ws) (first_refusal (limit_checks limit))) (plan_verdict J limit plan.0 plan.1)) J Y old new)
  pub judged : Checks (reads limit s choices) (block_job s choices) limit plan.0 plan.1
  pub certifies : Certifies (block_job s choices) (Y (block_job s choices)) plan r

-- The staged bound: 1 to 9, 27 and 35, 22, 19, 20. The figures follow the recursion by blocks; a higher limit gives no less, and the bound without
-- a limit is no less.
pub record StagedPromises (s : List ℕ) (choices : Choices) (ws : List ℕ) (n : ℕ) (old new : Memory) (r : Answer BoundReport) : Type 0 where
  pub answers : (let J = block_job s choices in let Y = within_stages (weight_in ws) n J in
      Answers bound_values (next (next (accepts s choices ws) (first_refusal (limit_check n ∷ []))) (first_refusal (storage_checks J Y old))) (bound_report J Y (capacity J (weight_in ws))) r)
  pub fills : Fills (Accepted s choices ws) (next (accepts s choices ws) (first_refusal (limit_check n ∷ []))) (block_job s choices) (within_stages (weight_in ws) n) old new
  pub blocks : BlockRecursion (widened (block_job s choices)) (weight_in ws)
  pub more : Accepted s choices ws → (k : ℕ) → n ≤ k → bound_in (block_job s choices) (within_stages (weight_in ws) n (block_job s choices)) ≤ bound_in (block_job s choices) (within_stages (weight_in ws) k (block_job s choices))
  pub less : Accepted s choices ws → bound_in (block_job s choices) (within_stages (weight_in ws) n (block_job s choices)) ≤ bound_of (block_job s choices) (weight_in ws)

-- The bound of two weights: 1 to 8, 27 and 35, 24, 9, 25, 19, 20. Where the second weights are as many as the first and all 0, answer and memory
-- are those of the bound of the first, with a second capacity of 0.
abbrev pub accepts_two : List ℕ → Choices → (first second : List ℕ) → Checked
accepts_two s choices first second = first_refusal (job_checks s choices ++ two_checks (block_job s choices) first second)

pub record TwoPromises (s : List ℕ) (choices : Choices) (first second : List ℕ) (old new : Memory) (r : Answer TwoReport) : Type 0 where
  pub answers : (let J = block_job s choices in let Y = two_weights (weight_in first) (weight_in second) J in
      Answers two_values (next (accepts_two s choices first second) (first_refusal (storage_checks J Y old)))
      (record { bound = bound_in J Y; first_capacity = capacity J (weight_in first); second_capacity = capacity J (weight_in second); length_count = position_count (widened J) Length; columns = position_count (widened J) Width }) r)
  pub fills : Fills (accepts_two s choices first second ≡ passed) (accepts_two s choices first second) (block_job s choices) (two_weights (weight_in first) (weight_in second)) old new
  pub one : length second ≡ length first → ((i : ℕ) → weight_in second i ≡ 0) → (let J = block_job s choices in let Y = one_weight (weight_in first) J in
      (r ≡ by_check (next (accepts s choices first) (first_refusal (storage_checks J Y old)))
      (Ok (record { bound = bound_in J Y; first_capacity = capacity J (weight_in first); second_capacity = 0; length_count = position_count (widened J) Length; columns = position_count (widened J) Width })) Err)
      × Leaves (accepts s choices first) J Y old new)

-- The exact answer: 1 to 7, 27 and 35, 30, 19, 20, 21. Of a short order the plan passes the check, every bound of one weight or of two, in either
-- form of the capacity, lies at or above the optimum, and the order of states is that of the remaining copies.
abbrev pub short : List ℕ → Choices → Checked
short s choices = first_refusal (job_checks s choices ++ (state_check (block_job s choices) ∷ []))

pub record ExactPromises (s : List ℕ) (choices : Choices) (old new : Memory) (plan written : Arrays) (r : Answer ExactReport) : Type 0 where
  pub answers : (let J = block_job s choices in let t = optimum_plan J in
      Answers exact_values (next (next (short s choices) (first_refusal (storage_checks J (remaining_copies J) old))) (first_refusal (nodes_check t plan ∷ [])))
      (record { optimum = optimum J; states = state_count J; length_count = position_count (widened J) Length; columns = position_count (widened J) Width; nodes = node_count t }) r)
  pub fills : Fills (short s choices ≡ passed) (short s choices) (block_job s choices) remaining_copies old new
  pub writes : (let J = block_job s choices in let t = optimum_plan J in
      Writes (short s choices ≡ passed) (next (next (short s choices) (first_refusal (storage_checks J (remaining_copies J) old))) (first_refusal (nodes_check t plan ∷ []))) J remaining_copies t plan written)
  pub passes : (b : ExactReport) → r ≡ Ok b → (let J = block_job s choices in let t = optimum_plan J in
      PlanOf J t (kinds_of t) (operands_of t) × (plan_verdict J none (kinds_of t) (operands_of t) ≡ passed))
  pub bounds : short s choices ≡ passed → (weight : ℕ → ℕ) → (optimum (block_job s choices) ≤ bound_of (block_job s choices) weight) × (optimum (block_job s choices) ≤ bound_of (at_full_demand (block_job s choices)) weight)
  pub two_bounds : short s choices ≡ passed → (first second : ℕ → ℕ) → (optimum (block_job s choices) ≤ bound_in (block_job s choices) (two_weights first second (block_job s choices)))
      × (optimum (block_job s choices) ≤ bound_in (at_full_demand (block_job s choices)) (two_weights first second (at_full_demand (block_job s choices))))
  pub digits : short s choices ≡ passed → CopiesByDigits (block_job s choices)
