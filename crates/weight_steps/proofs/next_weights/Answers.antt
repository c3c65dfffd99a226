-- `weight_steps::next_weights` meets its contract: the table's entry is the round's factor.
use Rattle.weight_steps.proofs.Prelude.{◌∙◌, ap₂, ◌*◌, ltb, get_or, entries, distance, root_below, scale, stepped}
use Rattle.weight_steps.proofs.Rules.{step_rules}
use Rattle.weight_steps.proofs.next_weights.Goals as goal

pub returns : goal.returns
returns c = let s = c.sum_squares-q.ensures.0 in
    let t = c.max-top.ensures ∙ ap₂ (λ f s. scale f c.args.gap s) (step_rules.tabled c.args.round c.requires.1) s in
    c.adjust_all.ensures ∙ ap₂ (λ t s. entries (λ i. stepped (ltb (get_or c.args.demands.now i 0) (get_or c.args.copies.now i 0)) (get_or c.args.weights.now i 0)
    (root_below 255 (distance (get_or c.args.copies.now i 0) (get_or c.args.demands.now i 0) * t) (16 * s))) c.args.n) t s
