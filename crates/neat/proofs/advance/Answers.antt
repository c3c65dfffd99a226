-- `neat::advance` meets its contract: the step's used size is put on top.
use Rattle.neat.proofs.Scan.{advances}
use Rattle.neat.proofs.advance.Goals as goal

pub returns : goal.returns
returns c = let p = c.requires in advances _ _ _ _ _ _ _ p.3 p.2 c.scan_node-s.ensures
