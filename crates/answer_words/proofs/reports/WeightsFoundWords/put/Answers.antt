-- `put` of this report meets its contract.
use Rattle.answer_words.proofs.Prelude.{◌∙◌, ap, [], ◌∷◌, sets, drop, arith}
use Rattle.answer_words.proofs.Stored.{behind_over}
use Rattle.answer_words.proofs.reports.WeightsFoundWords.put.Goals as goal

pub returns : goal.returns
returns c =
    let r = c.args.self.now in
    let front = r.bound ∷ r.rounds ∷ [] in
    let n = c.put_weights.ensures.1 in
    behind_over front r.weights c.args.answer.now _ (omega (arith, n, c.requires)) (c.put_weights.ensures.0 ∙ ap (λ xs. sets xs 2 r.weights) (c.put_words.ensures ∙ ap (λ k. r.bound ∷ k ∷ drop 2 c.args.answer.now) c.from.ensures))
