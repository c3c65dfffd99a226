use Rattle.choice.proofs.Search.{rows_left, row_left}
use Rattle.choice.proofs.Prelude.{pair_test, first_index, under, ◌+◌, ◌≡◌}
use Rattle.std.proofs.Common.{None}
use Rattle.choice.proofs.find_cut.Given as goal

abbrev pub invariant-search : goal.invariant-search
invariant-search l = (l.found ≡ None) × (first_index (under l.blocks l.d) l.positions l.floors l.table l.cut ≡ rows_left (pair_test (under l.blocks l.d) l.positions l.floors l.table l.cut) l.cut.last (l.cut.share + 1) l.i)

abbrev pub invariant-loop-k : goal.invariant-loop-k
invariant-loop-k l = (l.found ≡ None) × (first_index (under l.blocks l.d) l.positions l.floors l.table l.cut ≡ row_left (pair_test (under l.blocks l.d) l.positions l.floors l.table l.cut) l.cut.last (l.cut.share + 1) l.i l.k)
