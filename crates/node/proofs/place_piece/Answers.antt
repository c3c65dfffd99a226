-- `node::place_piece` meets its contract: the checks run 13, 36, 15, 16; then the piece is counted.
use Rattle.node.proofs.Prelude.{◌∙◌, refl, ap, not, rect_of, fits_in, job_from, refuse_when, AgainstGrain, Misfit, with_piece}
use Rattle.refusal.proofs.Results.{before_refuses, before_passes}
use Rattle.node.proofs.Nodes.{piece_verdict}
use Rattle.node.proofs.Placed.{refused, piece_placed}
use Rattle.node.proofs.place_piece.Goals as goal

pub returns-in_err-refuse_if : goal.returns-in_err-refuse_if
returns-in_err-refuse_if c l w kerf turning full kind operand h e = let a = c.args in
    let J = job_from l w kerf turning full a.count a.kind_lengths.now a.kind_widths.now a.prices.now a.demands.now a.grains.now in
    refused J a.node.at (rect_of a.room) a.t a.copies.now kind operand _
    (piece_verdict J a.copies.now (rect_of a.room) a.node.at kind operand h a.node.turned a.node.number e c.refuse_if.ensures refl refl refl ∙ before_refuses _ _ c.in_err-refuse_if.was) c.from_residual.ensures.1

pub returns-in_err-refuse_if-2 : goal.returns-in_err-refuse_if-2
returns-in_err-refuse_if-2 c l w kerf turning full kind operand h e = let a = c.args in
    let J = job_from l w kerf turning full a.count a.kind_lengths.now a.kind_widths.now a.prices.now a.demands.now a.grains.now in
    refused J a.node.at (rect_of a.room) a.t a.copies.now kind operand _
    (piece_verdict J a.copies.now (rect_of a.room) a.node.at kind operand h a.node.turned a.node.number e c.refuse_if.ensures (c.refuse_if-2.ensures ∙ ap (λ b. refuse_when b (AgainstGrain a.node.at)) c.against_grain.ensures) refl refl
    ∙ before_passes _ _ c.in_ok-refuse_if.was ∙ before_refuses _ _ c.in_err-refuse_if-2.was) c.from_residual-in_err-refuse_if-2.ensures.1

pub returns-in_err-refuse_if-3 : goal.returns-in_err-refuse_if-3
returns-in_err-refuse_if-3 c l w kerf turning full kind operand h e = let a = c.args in
    let J = job_from l w kerf turning full a.count a.kind_lengths.now a.kind_widths.now a.prices.now a.demands.now a.grains.now in
    refused J a.node.at (rect_of a.room) a.t a.copies.now kind operand _
    (piece_verdict J a.copies.now (rect_of a.room) a.node.at kind operand h a.node.turned a.node.number e c.refuse_if.ensures (c.refuse_if-2.ensures ∙ ap (λ b. refuse_when b (AgainstGrain a.node.at)) c.against_grain.ensures)
    (c.refuse_if-3.ensures ∙ ap (λ b. refuse_when (not b) (Misfit a.node.at)) (c.fits.ensures ∙ ap (λ s. fits_in (rect_of s) (rect_of a.room)) c.lay-piece.ensures)) refl
    ∙ before_passes _ _ c.in_ok-refuse_if.was ∙ before_passes _ _ c.in_ok-refuse_if-2.was ∙ before_refuses _ _ c.in_err-refuse_if-3.was) c.from_residual-in_err-refuse_if-3.ensures.1

pub returns-in_err-refuse_if-4 : goal.returns-in_err-refuse_if-4
returns-in_err-refuse_if-4 c l w kerf turning full kind operand h e = let a = c.args in
    let J = job_from l w kerf turning full a.count a.kind_lengths.now a.kind_widths.now a.prices.now a.demands.now a.grains.now in
    refused J a.node.at (rect_of a.room) a.t a.copies.now kind operand _
    (piece_verdict J a.copies.now (rect_of a.room) a.node.at kind operand h a.node.turned a.node.number e c.refuse_if.ensures (c.refuse_if-2.ensures ∙ ap (λ b. refuse_when b (AgainstGrain a.node.at)) c.against_grain.ensures)
    (c.refuse_if-3.ensures ∙ ap (λ b. refuse_when (not b) (Misfit a.node.at)) (c.fits.ensures ∙ ap (λ s. fits_in (rect_of s) (rect_of a.room)) c.lay-piece.ensures)) c.refuse_if-4.ensures
    ∙ before_passes _ _ c.in_ok-refuse_if.was ∙ before_passes _ _ c.in_ok-refuse_if-2.was ∙ before_passes _ _ c.in_ok-refuse_if-3.was ∙ c.in_err-refuse_if-4.was) c.from_residual-in_err-refuse_if-4.ensures.1

pub returns : goal.returns
returns c l w kerf turning full kind operand h e = let a = c.args in
    let J = job_from l w kerf turning full a.count a.kind_lengths.now a.kind_widths.now a.prices.now a.demands.now a.grains.now in
    let lay = c.lay-piece.ensures in
    piece_placed J a.node.at (rect_of a.room) a.t a.copies.now kind operand h a.node.turned a.node.number e
    (piece_verdict J a.copies.now (rect_of a.room) a.node.at kind operand h a.node.turned a.node.number e c.refuse_if.ensures (c.refuse_if-2.ensures ∙ ap (λ b. refuse_when b (AgainstGrain a.node.at)) c.against_grain.ensures)
    (c.refuse_if-3.ensures ∙ ap (λ b. refuse_when (not b) (Misfit a.node.at)) (c.fits.ensures ∙ ap (λ s. fits_in (rect_of s) (rect_of a.room)) lay)) c.refuse_if-4.ensures
    ∙ before_passes _ _ c.in_ok-refuse_if.was ∙ before_passes _ _ c.in_ok-refuse_if-2.was ∙ before_passes _ _ c.in_ok-refuse_if-3.was ∙ c.in_ok-refuse_if-4.was)
    (c.add_piece.ensures.0 ∙ ap (λ s. with_piece (J.price a.node.number) (rect_of s) (rect_of a.room) a.t) lay) c.add_piece.ensures.1 refl
