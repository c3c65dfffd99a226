-- What the proofs of this crate take from libraries and from other crates, named once.
pub use Prim.Native.Nat.{◌*◌, ◌+◌, ◌-◌, ◌<◌, ◌≤◌, suc, zero, ℕ}
pub use borrow.Author.Tests.{eq-eqb, ne_eqb}
pub use lib.Dec.{eqb}
pub use lib.ListN.{drop, get_or, length, length-drop, length-map, take}
pub use lib.Seq.{ext_get_or, get_or-drop, take_all}
pub use mathlib.Core.Bool.{Bool, ◌&&◌, false, true}
pub use mathlib.Core.List.{List, [], ◌++◌, ◌∷◌, map, map-append, map-map}
pub use mathlib.Core.Option.{Option as Maybe, none, some}
pub use Rattle.std.specs.Prelude.{Option, None, Some}
pub use mathlib.Core.Path.{◌∙◌, ◌≡◌, ap, ap₂, refl, sym}
pub use native.Mathlib.Nat.{mul-le-mul, mul-le-mul_right}
pub use native.Mathlib.Numerals.{add-one}
pub use native.Mathlib.Omega.{arith}
pub use Rattle.cutting.proofs.Floor.{floor_le}
pub use Rattle.cutting.proofs.Job.{figure_ceiling}
pub use Rattle.cutting.proofs.Listed.{plain_first}
pub use Rattle.cutting.proofs.Lists.{first_cong, first_filter, first_map, mem_pairs, mem_range, pairs_filter, range_entry, range_length, through}
pub use Rattle.cutting.proofs.Members.{member_kind, members_count, table_solid}
pub use Rattle.cutting.proofs.Positions.{between_entry, between_length, get_or_mem}
pub use Rattle.cutting.proofs.Table.{floor_under, normal_zero, positions_floor, positions_length, positions_normal, positions_rise}
pub use Rattle.cutting.specs.Choice.{or_length, or_piece, or_waste, or_zero}
pub use Rattle.cutting.specs.Job.{Job, figure_under, laid_earns, members, normal_floor, normal_side, pair_earns}
unfoldable pub use Rattle.cutting.specs.Job.{first_pair, normal_positions, plan_choice}
pub use Rattle.cutting.specs.Limits.{most_kinds, most_wide_figure}
pub use Rattle.cutting.specs.Listed.{InTableRange, PieceArray, array_shares, member_at, node_number, price_in, size_in}
pub use Rattle.cutting.specs.Lists.{filter}
unfoldable pub use Rattle.cutting.specs.Lists.{first, pairs, range}
pub use Rattle.cutting.specs.Pieces.{Piece, kind, upright}
pub use Rattle.cutting.specs.Tree.{Rect, Shares, part, side}
pub use Rattle.promises.specs.declared.Direction.{Direction}
pub use Rattle.promises.specs.declared.Direction.TheVariants.{Length, Width}
pub use Rattle.promises.specs.declared.Node.{Node}
pub use Rattle.promises.specs.declared.Node.TheVariants.{Cut, Waste}
pub use Rattle.states.specs.States.{under}
pub use Rattle.table.proofs.Shares.{by_state_monotone}
pub use Rattle.table.specs.Clauses.{Listed, Mapped, size_job}
unfoldable pub use Rattle.table.specs.States.{by_state, figure_at}
pub use Rattle.table.specs.Table.{position, position_count, word, words_needed}
pub use Rattle.table.specs.declared.TableSize.{TableSize}
pub use Rattle.choice.specs.Choice.{ChoiceInput, Inside, Tabled, chosen_at, chosen_of}
pub use Rattle.choice.specs.Search.{Numbered, Row, Searchable, cut_chosen, cut_found, length_search, or_length_cut, or_width_cut, pair_test, piece_found, piece_test, width_search}
unfoldable pub use Rattle.choice.specs.Search.{first_index}
pub use Rattle.choice.specs.declared.Cell.{Cell}
pub use Rattle.choice.specs.declared.Chosen.{Chosen}
pub use Rattle.choice.specs.declared.CutSearch.{CutSearch}
pub use Rattle.choice.specs.declared.Place.{Place}
