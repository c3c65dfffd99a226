-- `state_joins::cuts::cut_at` meets its contract: both parts lie before the cell.
use Rattle.state_joins.proofs.Joining.{second_entry, cut_part}
use Rattle.state_joins.proofs.cuts.cut_at.Goals as goal

pub returns-then-entry-left : goal.returns-then-entry-left
returns-then-entry-left c = let given = c.requires in
    (cut_part _ _ _ _ _ _ _ _ _ _ _ _ _ _ (second_entry given _ _ _ c.entry.ensures.0 c.entry-2.ensures.0 c.entry-rest.ensures.0).0 c.join.ensures.0, c.join.ensures.1)
