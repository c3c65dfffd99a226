-- No more bytes are read than there is room for, and each turn reads one at least.
use Rattle.std.proofs.Common.{◌-◌, ◌≤◌}
use Rattle.printer.proofs.read_full.Given as goal

abbrev pub invariant-loop-n : goal.invariant-loop-n
invariant-loop-n g l = l.n ≤ 711

abbrev pub decreases-loop-n : goal.decreases-loop-n
decreases-loop-n g l = 711 - l.n
