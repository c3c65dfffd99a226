-- What the staged bound of pieces answers, and what lent memory then holds, from the storage as it was laid out.
use Rattle.staged_bound.proofs.Prelude.{◌≡◌, refl, sym, ◌∙◌, ap, List, ℕ, ◌+◌, ◌*◌, arith, length, Job, Refusal, staged_words, StagedBy, cell_words, storage_verdict, LaidOut, refused_laid, ready_laid, lent, BoundReport, staged_report, Staged, Ok, Err, Checked, Answer, Layout}
use Rattle.refusal.proofs.Results.{refused_answer, given_answer}
use Rattle.std.specs.Result.{IsErrAnd}

-- the words of a cell in all blocks
abbrev pub blocks_cell : ℕ → ℕ → ℕ
blocks_cell n q = (2 * n + 1) * (q + 1)

-- the words of the cells are those of all blocks
pub all_words : (J : Job) (n q : ℕ) → cell_words J (blocks_cell n q) ≡ staged_words J q n
all_words J n q = omega arith

-- so the verdict is that of the call's checks
same_verdict : (J : Job) (n q room : ℕ) (lengths widths : List ℕ) {v : Checked} → storage_verdict J (cell_words J (blocks_cell n q)) room lengths widths ≡ v → storage_verdict J (staged_words J q n) room lengths widths ≡ v
same_verdict J n q room lengths widths e = ap (λ k. storage_verdict J k room lengths widths) (sym (all_words J n q)) ∙ e

module _ (J : Job) (weight : ℕ → ℕ) (n q : ℕ) {lengths widths table floors new_lengths new_widths new_floors : List ℕ} {a : Answer Layout}
    (laid : LaidOut J q (blocks_cell n q) (length table) lengths widths floors new_lengths new_widths new_floors a) where
  -- the storage is refused: so is the bound, and the table is untouched
  pub refused : {x : Refusal} {r : Answer BoundReport} → a ≡ Err x → IsErrAnd r (λ y. y ≡ x) → Staged J weight n q (lent lengths widths table) (lent new_lengths new_widths table) r
  refused e p =
      let v = same_verdict J n q (length table) lengths widths (refused_laid laid e) in
      record { answer = refused_answer _ _ _ v p; memory = record { lengths = laid.lengths_left; widths = laid.widths_left; table = rw v refl } }

  -- there is room: the report and the figures
  pub reported : {l : Layout} {new_table : List ℕ} {b : BoundReport} → a ≡ Ok l → b ≡ staged_report J weight n q → StagedBy J weight n q table new_table
      → Staged J weight n q (lent lengths widths table) (lent new_lengths new_widths new_table) (Ok b)
  reported e b f =
      let v = same_verdict J n q (length table) lengths widths (ready_laid laid e).passed in
      record { answer = given_answer _ _ v (ap Ok b); memory = record { lengths = laid.lengths_left; widths = laid.widths_left; table = rw v f } }
