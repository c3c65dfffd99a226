-- `put` of this report meets its contract.
use Rattle.answer_words.proofs.Prelude.{◌∙◌, ap, [], ◌∷◌, ◌++◌, set, sets, arith}
use Rattle.answer_words.proofs.Stored.{behind_over, over_more}
use Rattle.answer_words.proofs.reports.SawReportWords.put.Goals as goal

pub returns : goal.returns
returns c =
    let r = c.args.self.now in
    let front = r.pieces ∷ r.waste ∷ r.trim ∷ [] in
    let n = c.put_copies.ensures.1 in
    let e = behind_over front r.copies c.args.answer.now _ (omega (arith, n, c.requires)) (c.put_copies.ensures.0 ∙ ap (λ xs. sets xs 3 r.copies) c.put_words.ensures) in
    ap (λ xs. set xs 67 r.sawdust) e ∙ over_more (front ++ r.copies) c.args.answer.now 67 r.sawdust (omega (arith, n)) (omega (arith, c.requires))
