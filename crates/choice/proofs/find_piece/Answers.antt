-- `choice::find_piece` meets its contract.
use Rattle.std.proofs.Common.{rules}
use Rattle.choice.proofs.Search.{left_fails, left_passes, left_end}
use Rattle.choice.proofs.Prelude.{piece_found, Some, ◌∙◌, sym, ap}
use Rattle.choice.proofs.find_piece.Goals as goal

pub returns-then-earns : goal.returns-then-earns
returns-then-earns c = let turn = c.loop-j in
    let a = c.args in
    ap Some c.numbered_node.ensures
    ∙ sym (ap (piece_found a.pieces.now) (turn.invariant.1 ∙ left_passes _ _ turn.j (search rules) (sym c.piece_earns-earns.ensures ∙ c.if-earns.true)))

pub loop-j-preserved : goal.loop-j-preserved
loop-j-preserved c = let turn = c.loop-j in
    (turn.invariant.0, turn.invariant.1 ∙ left_fails _ _ _ (search rules) (sym c.piece_earns-earns.ensures ∙ c.if-earns.false))

pub returns : goal.returns
returns c = sym (ap (piece_found _) (c.loop-j.invariant.1 ∙ left_end _ _ _ (search rules)))
