-- A plan's check in the scope's words: the walk over the nodes in preorder, then the idle cuts, and what the whole plan answers.
-- docs/SCOPE.md: Plans; The report.
use Rattle.std.specs.Prelude.{List, [], ◌∷◌, ◌++◌, ℕ, ◌+◌, Ok, Err}
use Rattle.promises.specs.declared.Node.{Node}
use Rattle.cutting.specs.Tree.{Rect}
use Rattle.cutting.specs.Job.{Job}
use Rattle.promises.specs.declared.Refusal.TheVariants.{NodeMissing, NodeLeft}
use Rattle.refusal.specs.Refusals.{Answer, Checked, by_check, answer_by, verdict_of, next, first_refusal}
use Rattle.node.specs.declared.Tally.{Tally}
use Rattle.node.specs.Nodes.{tallied, copied}
pub use Rattle.node.specs.Nodes.{node_of, node_checks, parts}
use Rattle.idle.specs.Idle.{idle_checks}
use Rattle.promises.specs.declared.Report.{Report}
use Rattle.plan.specs.declared.TreeWalk.{TreeWalk}
pub use Rattle.promises.specs.Check.{left_check, plan_checks}
pub use Rattle.promises.specs.Plan.{empty_report, nodes_in}

-- the sums of a report
abbrev pub sums_of : Report → Tally
sums_of s = record { profit = s.profit; pieces = s.pieces; waste = s.waste; trim = s.trim; sawdust = s.sawdust }

-- the report of sums and of the copies of each kind
abbrev pub plan_report : Tally → List ℕ → Report
plan_report t copies = record { profit = t.profit; copies = copies; pieces = t.pieces; waste = t.waste; trim = t.trim; sawdust = t.sawdust }

-- a report with one node more
abbrev pub report_after : Job → Node → Rect → Report → Report
report_after J n r s = plan_report (tallied J n r (sums_of s)) (copied n s.copies)

-- a check, and where it passes what follows
abbrev pub proceed : {A : Type 0} → Checked → Answer A → Answer A
proceed v a = by_check v a Err

-- the walk from node k on, over the nodes left and the rectangles still to be filled, the next one first: 17 gives the node count, for
-- all k nodes are read, and 18 the first node left over
unfoldable pub walk : Job → ℕ → List (ℕ × ℕ) → List Rect → Report → Answer Report
walk J k [] [] s = Ok s
walk J k (n ∷ ns) [] s = Err (NodeLeft k)
walk J k [] (r ∷ rs) s = Err (NodeMissing k)
walk J k (n ∷ ns) (r ∷ rs) s =
    proceed (first_refusal (node_checks J s.copies r k n.0 n.1))
    (walk J (k + 1) ns (parts J.kerf (node_of n.0 n.1) r ++ rs) (report_after J (node_of n.0 n.1) r s))

-- a tree walked to its end, before node k
abbrev pub tree_passed : ℕ → Report → Answer TreeWalk
tree_passed k s = Ok (record { report = s; past = k })

-- the walk over one tree from node k on, the same but for its end: it passes where its last rectangle is filled, whatever nodes follow
unfoldable pub tree_walk : Job → ℕ → List (ℕ × ℕ) → List Rect → Report → Answer TreeWalk
tree_walk J k [] [] s = tree_passed k s
tree_walk J k (n ∷ ns) [] s = tree_passed k s
tree_walk J k [] (r ∷ rs) s = Err (NodeMissing k)
tree_walk J k (n ∷ ns) (r ∷ rs) s =
    proceed (first_refusal (node_checks J s.copies r k n.0 n.1))
    (tree_walk J (k + 1) ns (parts J.kerf (node_of n.0 n.1) r ++ rs) (report_after J (node_of n.0 n.1) r s))

-- the walk over a plan's only tree, of n nodes, as that of the plan (walk_ends of proofs/Ends)
abbrev pub only_tree : ℕ → Answer TreeWalk → Answer Report
only_tree n (Ok t) = answer_by (first_refusal (left_check n t.past ∷ [])) t.report
only_tree n (Err r) = Err r

-- what 10 to 18 and 36 answer for a plan's arrays: checks 10 and 11, then the walk from the plate
unfoldable pub walk_answer : Job → List ℕ → List ℕ → Answer Report
walk_answer J kinds operands = proceed (first_refusal (plan_checks kinds operands)) (walk J 0 (nodes_in kinds operands) (J.plate ∷ []) empty_report)

-- what a plan's arrays answer: 10 to 18 and 36, then 26
unfoldable pub plan_answer : Job → List ℕ → List ℕ → Answer Report
plan_answer J kinds operands = proceed (next (verdict_of (walk_answer J kinds operands)) (first_refusal (idle_checks 0 kinds))) (walk_answer J kinds operands)
