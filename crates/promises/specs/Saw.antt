-- The saw's calls: the block read without its prices, the check of a plan without profit, and the part of a plan's arrays that belongs to a node.
-- docs/SCOPE.md: Saw and office.
use Rattle.std.specs.Borrow.{Bor}
use Rattle.std.specs.Prelude.{◌≡◌, Bool, true, false, List, [], ◌∷◌, ◌++◌, ℕ, ◌+◌, ◌-◌, ◌*◌, ltb, length, take, drop, get_or, Err}
use Rattle.std.proofs.Math.Option.{none}
use Rattle.promises.specs.Prelude.{Choices, Report, SawReport, Part}
use Rattle.promises.specs.declared.Refusal.TheVariants.{Price}
use Rattle.promises.specs.Refusals.{by_check, next, first_refusal, Outcome, outcome_by, verdict_of, passed, Checked, Answer}
use Rattle.promises.specs.Job.{Piece, Tree, waste, piece, cut}
use Rattle.promises.specs.Plan.{node_count, tree_in, tree_report}
use Rattle.promises.specs.Block.{job_checks, saw_checks, saw_record, saw_job, block_job, OnlyPrices, PricesFree}
use Rattle.promises.specs.Check.{plan_verdict}
use Rattle.promises.specs.Call.{Answers, Arrays}
use Rattle.promises.specs.Calls.{job_values, Checks}
use Rattle.promises.specs.declared.JobRecord.{JobRecord}

-- what holds of a block and of every block that differs from it only in prices
abbrev pub AtAnyPrices : Choices → List ℕ → (List ℕ → Type 0) → Type 0
AtAnyPrices choices s Of = Of s × ((z : List ℕ) → OnlyPrices choices s z → Of z)

-- a verdict's number is not 6
abbrev pub NeverSix : Checked → Type 0
NeverSix v = (outcome_by v []).0 ≡ 6 → ⊥

-- The saw's reading of a block, without 6: every price is 0, and prices change nothing, whatever they are.
pub record SawReadPromises (s : List ℕ) (choices : Choices) (r : Answer JobRecord) : Type 0 where
  pub answers : AtAnyPrices choices s (λ z. Answers job_values (first_refusal (saw_checks z choices)) (saw_record z choices) r)
  pub unpriced : NeverSix (verdict_of r)
  pub free : verdict_of r ≡ passed → PricesFree choices s

-- a report without its profit; its values: the areas of pieces, waste nodes and trim, the copies of each kind, and the sawdust's area
abbrev pub without_profit : Report → SawReport
without_profit r = record { copies = r.copies; pieces = r.pieces; waste = r.waste; trim = r.trim; sawdust = r.sawdust }

abbrev pub saw_values : SawReport → List ℕ
saw_values r = r.pieces ∷ r.waste ∷ r.trim ∷ (r.copies ++ (r.sawdust ∷ []))

-- the verdict of the saw on a plan: the block's without 6, then 10 to 18, 36 and 26
abbrev pub saw_verdict : List ℕ → Choices → Arrays → Checked
saw_verdict s choices plan = next (first_refusal (saw_checks s choices)) (plan_verdict (saw_job s choices) none plan.0 plan.1)

-- The saw's check: the plan is judged by its tree; prices change nothing, and its number is never 6; unless the office gives 6, verdict and report are those of the plan
-- check without the profit
pub record SawPromises (s : List ℕ) (choices : Choices) (plan : Arrays) (r : Answer SawReport) : Type 0 where
  pub answers : AtAnyPrices choices s (λ z. Answers saw_values (saw_verdict z choices plan) (without_profit (tree_report (saw_job z choices) (tree_in plan.0 plan.1))) r)
  pub judged : Checks (first_refusal (saw_checks s choices)) (saw_job s choices) none plan.0 plan.1
  pub unpriced : NeverSix (verdict_of r)
  pub office : (let v = next (first_refusal (job_checks s choices)) (plan_verdict (block_job s choices) none plan.0 plan.1) in
      ((i : ℕ) → v ≡ Err (Price i) → ⊥) → Answers saw_values v (without_profit (tree_report (block_job s choices) (tree_in plan.0 plan.1))) r)

-- a tree and the trees below it, in preorder
unfoldable pub subtrees : Tree Piece → List (Tree Piece)
subtrees waste = waste ∷ []
subtrees (piece p) = piece p ∷ []
subtrees (cut d x a b) = cut d x a b ∷ (subtrees a ++ subtrees b)

-- the part of a node in an array of n entries: from the node's own entry on, as many as its tree has nodes
abbrev pub part_if : Bool → Tree Piece → ℕ → ℕ → Part
part_if true t n node = record { first = node; past = node + node_count (get_or (subtrees t) node waste) }
part_if false t n node = record { first = n; past = n }

-- by the verdict on the plan: empty, at the array's end, where the plan does not pass or the node is past it
abbrev pub node_part : List ℕ → Choices → Arrays → ℕ → ℕ → Part
node_part s choices plan n node = by_check (saw_verdict s choices plan) (part_if (ltb node n) (tree_in plan.0 plan.1) n node) (λ x. record { first = n; past = n })

-- its number and values: 0, the first entry and the number of entries
abbrev pub part_outcome : Part → Outcome
part_outcome p = (0, p.first ∷ (p.past - p.first) ∷ [])

-- A node's part in one of a plan's arrays, which a tree has as f: whatever the prices it is the definition's, and for a plan that passes its entries
-- are those of the tree at the node
pub record PartPromises (f : Tree Piece → List ℕ) (s : List ℕ) (choices : Choices) (plan : Arrays) (array : List ℕ) (node : ℕ) (p : Part) : Type 0 where
  pub answers : AtAnyPrices choices s (λ z. p ≡ node_part z choices plan (length array) node)
  pub judged : Checks (first_refusal (saw_checks s choices)) (saw_job s choices) none plan.0 plan.1
  pub entries : saw_verdict s choices plan ≡ passed → ltb node (length array) ≡ true → take (p.past - p.first) (drop p.first array) ≡ f (get_or (subtrees (tree_in plan.0 plan.1)) node waste)

-- The part itself is handed back as a slice of the caller's array, whose entries have so many bytes: its entries are those, and lie where those do.
pub record HandsBack (bytes : ℕ) (f : Tree Piece → List ℕ) (s : List ℕ) (choices : Choices) (plan : Arrays) (node : ℕ) (array r : Bor (List ℕ)) : Type 0 where
  pub part : Part
  pub promises : PartPromises f s choices plan array.now node part
  pub entries : r.now ≡ take (part.past - part.first) (drop part.first array.now)
  pub lies : r.ref_ptr ≡ (array.ref_ptr.0, part.first * bytes + array.ref_ptr.1)
