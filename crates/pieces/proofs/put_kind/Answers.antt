-- `pieces::put_kind` meets its contract.
use Rattle.pieces.proofs.Prelude.{true, false, arith, upright, ways}
use Rattle.pieces.proofs.Growing.{listed_as, listed_more, listed_twice, when_ordered, when_cancelled}
use Rattle.pieces.proofs.put_kind.Goals as goal

pub returns-then-demand-eq0 : goal.returns-then-demand-eq0
returns-then-demand-eq0 c J weight ps i w e = let start = c.args in
    listed_as (when_cancelled (ways start.turns) ps i start.demand c.if-demand-eq0.true) w

pub returns-then-turns : goal.returns-then-turns
returns-then-turns c J weight ps i w e = let more = listed_twice J weight ps i c.args.n c.args.pieces.now _ _ c.args.piece _ (omega (arith, c.requires.0)) w e c.put_piece.ensures c.turned.ensures c.put_piece-then-turns.ensures in
    rw c.if-turns.true (listed_as (when_ordered (ways true) ps i c.args.demand (omega (arith, c.if-demand-eq0.false))) more)

pub returns : goal.returns
returns c J weight ps i w e = let more = listed_more J weight ps (upright i) c.args.n c.args.pieces.now _ c.args.piece (omega (arith, c.requires.0)) w e c.put_piece.ensures in
    rw c.if-turns.false (listed_as (when_ordered (ways false) ps i c.args.demand (omega (arith, c.if-demand-eq0.false))) more)
