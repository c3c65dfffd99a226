-- `node::check_node` meets its contract: a kind past the last is refused, and else the node decides.
use Rattle.node.proofs.Prelude.{◌∙◌, refl, sym, ap, ltb, rect_of, job_from, refuse_when, NodeKind}
use Rattle.job.proofs.Checks.{check_stops, passed_least}
use Rattle.node.proofs.Nodes.{waste_kind}
use Rattle.node.proofs.Placed.{refused, placed_as}
use Rattle.node.proofs.check_node.Goals as goal

pub returns-in_err-refuse_if : goal.returns-in_err-refuse_if
returns-in_err-refuse_if c l w full = let a = c.args in
    let J = job_from l w a.rules.kerf a.rules.turning full a.rules.count a.kind_lengths.now a.kind_widths.now a.prices.now a.demands.now a.grains.now in
    refused J a.node.at (rect_of a.room) a.t a.copies.now a.node.kind a.node.operand _
    (sym (check_stops _ _ _ (c.refuse_if.ensures ∙ ap (λ m. refuse_when (ltb m a.node.kind) (NodeKind a.node.at)) c.last_kind.ensures) c.in_err-refuse_if.was) ∙ c.in_err-refuse_if.was) c.from_residual.ensures.1

pub returns-in-Waste : goal.returns-in-Waste
returns-in-Waste c l w full = let a = c.args in
    let J = job_from l w a.rules.kerf a.rules.turning full a.rules.count a.kind_lengths.now a.kind_widths.now a.prices.now a.demands.now a.grains.now in
    placed_as {J = J} (waste_kind a.node.kind a.node.operand (sym c.decode.ensures ∙ c.in-Waste.is)) (c.place_waste.ensures J a.copies.now)

pub returns-in-Piece : goal.returns-in-Piece
returns-in-Piece c l w full = let a = c.args in
    c.place_piece.ensures l w a.rules.kerf a.rules.turning full a.node.kind a.node.operand
    (passed_least _ _ _ (c.refuse_if.ensures ∙ ap (λ m. refuse_when (ltb m a.node.kind) (NodeKind a.node.at)) c.last_kind.ensures) c.in_ok-refuse_if.was) (sym c.decode.ensures ∙ c.in-Piece.is)

pub returns-in-Turned : goal.returns-in-Turned
returns-in-Turned c l w full = let a = c.args in
    c.place_piece-in-Turned.ensures l w a.rules.kerf a.rules.turning full a.node.kind a.node.operand
    (passed_least _ _ _ (c.refuse_if.ensures ∙ ap (λ m. refuse_when (ltb m a.node.kind) (NodeKind a.node.at)) c.last_kind.ensures) c.in_ok-refuse_if.was) (sym c.decode.ensures ∙ c.in-Turned.is)

pub returns-in-Cut : goal.returns-in-Cut
returns-in-Cut c l w full = let a = c.args in
    let J = job_from l w a.rules.kerf a.rules.turning full a.rules.count a.kind_lengths.now a.kind_widths.now a.prices.now a.demands.now a.grains.now in
    c.place_cut.ensures J a.copies.now a.node.kind a.node.operand refl
    (passed_least _ _ _ (c.refuse_if.ensures ∙ ap (λ m. refuse_when (ltb m a.node.kind) (NodeKind a.node.at)) c.last_kind.ensures) c.in_ok-refuse_if.was) (sym c.decode.ensures ∙ c.in-Cut.is)
