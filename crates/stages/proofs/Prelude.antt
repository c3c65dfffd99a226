-- What the proofs of this crate take from libraries and from other crates, named once.
pub use Prim.Native.Nat.{◌+◌, ◌-◌, ◌<◌, ◌≤◌, max, suc, ℕ}
pub use borrow.Author.Tests.{eqb-false, eqb-true, le-leb, le-ltb, leb-false, leb-true, lt-leb, lt-ltb, ltb-false, ltb-true}
pub use lib.Dec.{eqb, leb, ltb}
pub use lib.ListN.{drop, drop_of_length-le, get_or, length, length-append, length-map}
pub use lib.Seq.{drop_at, drop-cons, drop-drop}
pub use mathlib.Core.Bool.{Bool, ◌||◌, false, true}
pub use mathlib.Core.List.{List, [], ◌++◌, ◌∷◌, append_assoc, append-nil, map, map-append, map-map}
pub use mathlib.Core.Path.{◌∙◌, ◌≡◌, ap, ap₂, refl, subst, sym}
pub use native.Mathlib.Numerals.{add-one}
pub use native.Mathlib.Omega.{arith}
pub use Rattle.cutting.proofs.Preorder.{count_cut, kinds_cut}
pub use Rattle.cutting.proofs.Stages.{change_other, change_same, root_stages}
pub use Rattle.cutting.specs.Limits.{most_limit}
pub use Rattle.cutting.specs.Preorder.{kind_of}
unfoldable pub use Rattle.cutting.specs.Preorder.{kinds_of, node_count, preorder}
pub use Rattle.cutting.specs.Shares.{change, other}
unfoldable pub use Rattle.cutting.specs.Shares.{root, stages, stages_below}
pub use Rattle.cutting.specs.Staged.{path_stages}
unfoldable pub use Rattle.cutting.specs.Staged.{changes}
pub use Rattle.cutting.specs.Tree.{Tree, cut, piece, waste}
pub use Rattle.job.proofs.Checks.{append_passed, cons_passed, first_append, next_passed, passed_append, passed_least}
pub use Rattle.job.specs.Block.{outside}
pub use Rattle.promises.specs.declared.Direction.{Direction}
pub use Rattle.promises.specs.declared.Direction.TheVariants.{Length, Width}
pub use Rattle.promises.specs.declared.Node.TheVariants.{Cut}
pub use Rattle.promises.specs.declared.Refusal.{Refusal}
pub use Rattle.promises.specs.declared.Refusal.TheVariants.{ManyStages, StageLimit}
pub use Rattle.refusal.specs.Refusals.{Answer, Checked, answer_by, next, passed, refuse_when}
unfoldable pub use Rattle.refusal.specs.Refusals.{first_refusal}
pub use Rattle.stages.specs.Stages.{limit_check, path_checks}
unfoldable pub use Rattle.stages.specs.Stages.{above_checks, node_paths}
pub use Rattle.stages.specs.Walks.{Along, Reached, Resumed, StagesOf, Stands, Waiting, NamesNode, Walked, Walking, cut_kind, ended_as, nodes_left, pass, staged_as, walk_checks}
unfoldable pub use Rattle.stages.specs.Walks.{checks_all, count_all, kinds_all, most_below, stage_checks}
pub use Rattle.stages.specs.declared.Reach.{Reach}
pub use Rattle.stages.specs.declared.Step.{Step}
pub use Rattle.stages.specs.declared.Step.TheVariants.{Change, End}
pub use Rattle.stages.specs.declared.Walk.{Walk}
pub use Rattle.std.proofs.Common.{Ok, Err}
pub use Rattle.std.specs.Result.{ForErr, ForOk}
