-- `answer_words::reports::put_copies` meets its contract: after i turns the first i copies stand from that word on.
use Rattle.answer_words.proofs.Prelude.{◌≡◌, ◌∙◌, ap, arith, length, length-set, paste, rules}
use Rattle.answer_words.proofs.Stored.{pasted, pasted_more}
use Rattle.answer_words.proofs.reports.put_copies.Goals as goal

pub loop-i-preserved : goal.loop-i-preserved
loop-i-preserved c = let a = c.args in
    let l = c.loop-i in
    let n : length a.copies.now ≡ 64 = search rules in
    (length-set l.answer _ _ ∙ l.invariant.0, pasted_more a.answer.now a.copies.now l.answer a.at l.i l.invariant.1 (search rules) (omega (arith, c.requires)) (omega (arith, n)))

pub returns : goal.returns
returns c = let a = c.args in
    let l = c.loop-i in
    let n : length a.copies.now ≡ 64 = search rules in
    let e : l.i ≡ 64 = omega arith in
    (l.invariant.1 ∙ ap (λ k. paste a.answer.now a.at a.copies.now k) e ∙ pasted a.answer.now a.copies.now a.at 64 n c.requires, n)
