-- What the proofs of this crate take from libraries and from other crates, named once.
pub use Prim.Native.Nat.{◌%◌, ◌*◌, ◌+◌, ◌-◌, ◌/◌, ◌<◌, ◌≤◌, max, min, suc, zero, ℕ}
pub use borrow.Author.Rules.{rules}
pub use borrow.Author.Tests.{le-leb, lt-leb, ltb-false, ltb-true}
pub use lib.Dec.{T, T_not, eqb, eqb_refl, eqb→eq, leb, leb→le, le→leb, ltb, ltb→lt, lt→ltb}
pub use lib.ListN.{drop, get_or, length, length-append, length-drop, take}
pub use lib.Seq.{get_or-drop, get_or-take, length-take-le, sets, sets-eq}
pub use mathlib.Core.Bool.{Bool, ◌&&◌, ◌||◌, false, not, true}
pub use mathlib.Core.List.Memᴰ.{append_cases as List·Memᴰ·append-cases, append_left as Memᴰ·append-left, append_right as Memᴰ·append-right, cases_cons as List·Memᴰ·cases-cons, cast as Memᴰ·cast, head as List·Memᴰ·head, not-nil as List·Memᴰ·not-nil, tail as List·Memᴰ·tail}
pub use mathlib.Core.List.{List, Memᴰ as List-as-Memᴰ, [], ◌++◌, ◌∷◌, append_assoc, map}
pub use mathlib.Core.Logic.{◌↔◌, ◌≢◌, ◌⊎◌, inl, inr, ⊎_elim}
pub use mathlib.Core.Option.{Option, none, some}
pub use mathlib.Core.Path.{◌∙◌, ◌≡◌, ap, ap₂, refl, subst, sym}
pub use native.Mathlib.Decide.{dec_le, dec_lt, ℕ_discrete}
pub use native.Mathlib.Nat.{add_comm, add-sub_cancel, div-mul-le_self, le-div_iff_mul-le, le-max_left, le-max_right, le_of_mul-le-mul_left, max-le, mul_comm, mul-le-mul, mul-le-mul_left, mul-le-mul_right, mul-one, mul-zero, one-mul, sub-zero, zero-add}
pub use native.Mathlib.Omega.{arith}
pub use Rattle.promises.specs.declared.Direction.{Direction}
pub use Rattle.promises.specs.declared.Direction.TheVariants.{Length, Width}
pub use Rattle.promises.specs.declared.Node.{Node}
pub use Rattle.promises.specs.declared.Node.TheVariants.{Cut}
pub use Rattle.cutting.specs.Areas.{area}
unfoldable pub use Rattle.cutting.specs.Areas.{pieces_area, sawdust_area, trim_area, waste_area}
unfoldable pub use Rattle.cutting.specs.Chains.{chains_fit, copies_more, fitting_ways, least, lowest, one_more}
pub use Rattle.cutting.specs.Choice.{Choice, as_cut, as_piece, as_waste, cut_earns, cut_remains, follow, or_first, or_length, or_piece, or_waste, or_zero, piece_earns}
unfoldable pub use Rattle.cutting.specs.Choice.{choice, first_cut, plan_within, sawn, written}
pub use Rattle.cutting.specs.Figure.{half_perimeter}
unfoldable pub use Rattle.cutting.specs.Figure.{after, best, figure, leaf, step}
pub use Rattle.cutting.specs.Job.{AnyOnPlate, AnyTree, GuillotineTree, InRange, Job, KeepsDemands, KindsAbove, MayLie, OfJob, OnPlate, SolidKinds, at_full_demand, bound_of, bound_plan, by_kind, capacity, copies_of, copies_on, counted, counted_of, figure_under, finer, laid, laid_earns, normal_floor, normal_side, pair_earns, pieces_area_of, plan_after, plate_copies, profit, sawdust_area_of, trim_area_of, turns, waste_area_of, weight_of, widened}
unfoldable pub use Rattle.cutting.specs.Job.{figure_of, first_pair, lossless_plan, members, normal_positions, ordered, pieces, plan_choice, plan_of}
pub use Rattle.cutting.specs.Limits.{most_figure, most_price, most_wide_side}
pub use Rattle.cutting.specs.Listed.{InTableRange, Listing, PieceArray, array_plan, array_shares, laid_tree, listed_weight, member_at, node_in, node_number, numbered_piece, pieces_job, plain, price_in, size_in}
pub use Rattle.cutting.specs.Lists.{keep, only, over}
unfoldable pub use Rattle.cutting.specs.Lists.{any, each, filter, first, greatest, pairs, range, sum}
pub use Rattle.cutting.specs.Neat.{joined, neat_of, remaining, used_of}
unfoldable pub use Rattle.cutting.specs.Neat.{neat, used}
pub use Rattle.cutting.specs.Normal.{Sum, empty, more, normal}
unfoldable pub use Rattle.cutting.specs.Normal.{normal?, sides, summed}
pub use Rattle.cutting.specs.Pieces.{Piece, Solid, ◌⊑◌, fits_either, fits_in, kind, quarter, times, turned, upright, ways, wider}
unfoldable pub use Rattle.cutting.specs.Pieces.{sized}
pub use Rattle.cutting.specs.Preorder.{kind_of}
unfoldable pub use Rattle.cutting.specs.Preorder.{kinds_of, node_count, preorder}
pub use Rattle.cutting.specs.Promises.{FiguresMost, FinerAmong, FloorFigures, MostAmong, MostWithin, NoneAbove, NoneBetter, NoneFiner, NoneHeavier, NormalSums, OfWeight, PlanFollows, PlateHolds, Recursion}
pub use Rattle.cutting.specs.Relaxation.{ChainFits, ChainsFit, ChainsFitIn, Every, Lies, Modelled, Relaxes, SameKinds, copies_in, extent, room, taken}
unfoldable pub use Rattle.cutting.specs.Relaxation.{sum_over}
unfoldable pub use Rattle.cutting.specs.Saws.{floor, saw, saw_half, saw_normal, saw_written}
pub use Rattle.cutting.specs.Shares.{across, change, other, staged_splits}
unfoldable pub use Rattle.cutting.specs.Shares.{by_state, by_weight, exact, free, paired, root, staged, stages, stages_below, state}
pub use Rattle.cutting.specs.Staged.{MostStaged, NoneStaged, NoneStagedBetter, NoneStagedFiner, OfBlock, OfStages, StagedFiguresMost, StagedFloors, StagedRecursion, WithinStages, cuts_between, no_cut, path_stages, staged_bound, staged_under}
unfoldable pub use Rattle.cutting.specs.Staged.{along, block, changes, paths}
pub use Rattle.cutting.specs.Tree.{Guillotine, IdleFree, Keeps, Monotone, Pieces, Proper, Rect, Saw, Shares, Symmetric, Tree, Within, beyond, copies, cut, earns, part, piece, piece_count, side, waste}
unfoldable pub use Rattle.cutting.specs.Tree.{total}
pub use Rattle.cutting.specs.Two.{MostTwo, OfWeights, TwoFiguresMost, TwoFloors, TwoRecursion, by_two, two_bound, two_under}
unfoldable pub use Rattle.cutting.specs.Two.{figure_two}
