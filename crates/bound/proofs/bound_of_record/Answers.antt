-- `bound::bound_of_record` meets its contract: the record's pieces are listed, and their bound is the record's.
use Rattle.bound.proofs.Prelude.{refl, weight_in}
use Rattle.bound.proofs.Calls.{record_boundable, record_bounded}
use Rattle.bound.proofs.bound_of_record.Goals as goal

pub bound_of_pieces-requires : goal.bound_of_pieces-requires
bound_of_pieces-requires c = record_boundable c.args.job (weight_in c.args.weights.now) c.args.q c.plate_of.ensures c.list_pieces-count.ensures c.requires.in_range c.requires.most refl

pub returns : goal.returns
returns c = let a = c.args in
    (_, record_bounded a.job (weight_in a.weights.now) a.q c.plate_of.ensures c.list_pieces-count.ensures c.bound_of_pieces.ensures)
