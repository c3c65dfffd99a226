-- What the proofs of this crate take from libraries and from other crates, named once.
pub use Prim.Native.Nat.{◌≤◌, ℕ}
pub use lib.ListN.{drop, length, length-append, take}
pub use lib.Seq.{length-take-le, take-append_seam}
pub use mathlib.Core.Bool.{Bool, false, true}
pub use mathlib.Core.List.{List, [], append-nil}
pub use mathlib.Core.Path.{◌∙◌, ◌≡◌, ap, ap₂, refl, subst, sym}
pub use native.Mathlib.Omega.{arith}
pub use Rattle.bound.specs.Bound.{Memory}
pub use Rattle.cutting.specs.Job.{Job}
pub use Rattle.cutting.specs.Lists.{over}
pub use Rattle.cutting.specs.Pieces.{Piece}
pub use Rattle.cutting.specs.Preorder.{kinds_of, operands_of}
pub use Rattle.cutting.specs.Tree.{Tree}
pub use Rattle.job.proofs.Weights.{accepted_both}
pub use Rattle.job.specs.Weights.{block_job}
pub use Rattle.plan.proofs.Drawn.{drawn_is, trees_tree}
pub use Rattle.plan.proofs.Preorder.{arrays_written, kinds_length, operands_length, written}
pub use Rattle.plan.specs.Calls.{JobPasses}
pub use Rattle.plan.specs.Trees.{ChecksPlan, PlanOf, first_tree, tree_in, trees_in}
pub use Rattle.promises.specs.declared.Choices.{Choices}
pub use Rattle.promises.specs.declared.Refusal.{Refusal}
pub use Rattle.promises.specs.declared.WriteReport.{WriteReport}
pub use Rattle.writer.proofs.Call.{written_accepted, written_fits}
pub use Rattle.writer.specs.Write.{WritePromises, block_plan, write_answer}
pub use Rattle.printer.specs.Printer.{DemandsKept, JudgesPlan, SaysOf}
pub use Rattle.printer.specs.declared.Judged.{Judged}
pub use Rattle.std.proofs.Common.{Ok, Err}
pub use Rattle.promises.specs.Refusals.{Answer, verdict_of}
pub use Rattle.std.specs.Result.{is_ok}
pub use Rattle.promises.specs.declared.Report.{Report}
