-- `row_fill::push_cell` meets its contract.
use Rattle.row_fill.proofs.Prelude.{arith}
use Rattle.row_fill.proofs.Raising.{cell_flat, cell_rises}
use Rattle.row_fill.proofs.push_cell.Goals as goal

pub returns-then-v-before : goal.returns-then-v-before
returns-then-v-before c = let a = c.args in cell_flat a.x a.least a.side a.before _ (omega arith) (omega arith)

pub returns : goal.returns
returns c = let a = c.args in cell_rises a.x a.least a.side a.before _ _ (omega arith) (rw c.min.ensures at c.push.ensures)
