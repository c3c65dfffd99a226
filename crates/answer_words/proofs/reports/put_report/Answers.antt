-- `put_report` meets its contract.
use Rattle.answer_words.proofs.Prelude.{◌∙◌, ap, [], ◌∷◌, ◌++◌, length-append, set, sets, arith}
use Rattle.answer_words.proofs.Stored.{behind_over, over_more}
use Rattle.answer_words.proofs.reports.put_report.Goals as goal

pub returns : goal.returns
returns c =
    let r = c.args.r.now in
    let front = r.profit ∷ r.pieces ∷ r.waste ∷ r.trim ∷ [] in
    let n = c.put_copies.ensures.1 in
    let e = behind_over front r.copies c.args.answer.now _ (omega (arith, n, c.requires)) (c.put_copies.ensures.0 ∙ ap (λ xs. sets xs 4 r.copies) c.put_words.ensures) in (
      ap (λ xs. set xs 68 r.sawdust) e ∙ over_more (front ++ r.copies) c.args.answer.now 68 r.sawdust (omega (arith, n)) (omega (arith, c.requires)),
      omega (arith, n, length-append r.copies (r.sawdust ∷ [])),
    )
