-- What the proofs of this crate take from libraries and from other crates, named once.
pub use Prim.Native.Nat.{◌<◌, ◌≤◌, ℕ}
pub use borrow.Author.Rules.{rules}
pub use borrow.Author.Tests.{eq-eqb, le-ltb, lt-ltb, ltb-false, ltb-true, ne_eqb}
pub use lib.Dec.{eqb, ltb}
pub use lib.ListN.{length, take}
pub use mathlib.Core.Bool.{Bool, false, not, true}
pub use mathlib.Core.List.{List, [], ◌∷◌}
pub use mathlib.Core.Option.{Option}
pub use mathlib.Core.Path.{◌∙◌, ◌≡◌, ap, ap₂, refl, subst, sym}
pub use native.Mathlib.Omega.{arith}
pub use Rattle.answer_words.specs.Words.{GapWithin, Gives}
pub use Rattle.job.proofs.Checks.{passed_both}
pub use Rattle.planner.proofs.Racks.{before_is, walked_checks}
pub use Rattle.planner.proofs.Saws.{part_told}
pub use Rattle.promises.specs.Block.{block_job}
pub use Rattle.promises.specs.C.{InC, RackSlices, Words, choices_of, words}
pub use Rattle.promises.specs.Call.{Arrays, Memory, storage_checks}
pub use Rattle.promises.specs.Calls.{CertifyPromises, accepts, certify_verdict, limit_checks}
pub use Rattle.promises.specs.Check.{plan_verdict}
pub use Rattle.promises.specs.Job.{Job}
pub use Rattle.promises.specs.Plan.{kind_of, operand_of}
unfoldable pub use Rattle.promises.specs.Plan.{kinds_of, operands_of}
pub use Rattle.promises.specs.Rack.{PlatesPromises, Rack, rack_verdict, rack_walked}
pub use Rattle.promises.specs.Refusals.{Outcome, by_check, next, Checked, Answer, passed, answer_by, verdict_of, outcome_of}
unfoldable pub use Rattle.promises.specs.Refusals.{first_refusal}
pub use Rattle.promises.specs.Saw.{PartPromises}
pub use Rattle.promises.specs.Systems.{System}
pub use Rattle.promises.specs.declared.Certificate.{Certificate}
pub use Rattle.promises.specs.declared.Choices.{Choices}
pub use Rattle.promises.specs.declared.Part.{Part}
pub use Rattle.promises.specs.declared.Refusal.TheVariants.{RackSize}
pub use Rattle.rack.proofs.Before.{before_passed, size_passed}
pub use Rattle.saw.proofs.Parts.{listed_length, own_entries}
pub use Rattle.saw.specs.Parts.{part_by}
pub use Rattle.saw.specs.Saw.{saw_answer}
pub use Rattle.planner_c.specs.Early.{number_of, started, started_by}
pub use Rattle.planner_c.specs.declared.choices.Stop.{Stop}
pub use Rattle.std.proofs.Common.{Ok, Err}
pub use Rattle.std.specs.Result.{result_unwrap_or}
pub use Rattle.refusal.proofs.Results.{value_answered, verdict_is}
