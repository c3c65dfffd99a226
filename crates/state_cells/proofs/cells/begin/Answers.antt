-- `state_cells::cells::begin` meets its contract: the words from state `flat` on are all the same.
use Rattle.state_cells.proofs.Prelude.{arith, sym, ◌∙◌, ap₂, max}
use Rattle.state_cells.proofs.Listing.{run_held, run_level}
use Rattle.state_cells.proofs.cells.begin.Goals as goal

pub returns-then-flat-words : goal.returns-then-flat-words
returns-then-flat-words c = let given = c.requires in
    let run = c.start.ensures in
    let first = c.figure.ensures.0 ∙ run_held _ _ _ _ _ c.args.first c.args.flat (omega (arith, given.first_before)) run in
    let second = c.figure-then-flat-words.ensures.0 ∙ run_held _ _ _ _ _ c.args.second c.args.flat (omega (arith, given.second_before)) run in
    run_level _ _ _ _ _ _ _ _ given.most (λ s h l. ap₂ max (given.first_level s h l) (given.second_level s h l) ∙ sym (c.greater-v.ensures ∙ ap₂ max first second)) run c.set_run.ensures
