use Rattle.answer_words.proofs.Prelude.{◌≡◌, length, paste}
use Rattle.answer_words.proofs.reports.put_copies.Given as goal

abbrev pub invariant-loop-i : goal.invariant-loop-i
invariant-loop-i l = (length l.answer ≡ length l.initial.answer) × (l.answer ≡ paste l.initial.answer l.at l.copies l.i)
