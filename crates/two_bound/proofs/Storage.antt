-- What the bound of pieces at two capacities answers, and what lent memory then holds, from the storage as it was laid out.
use Rattle.two_bound.proofs.Prelude.{◌≡◌, refl, sym, ◌∙◌, ap, List, ℕ, arith, length, Job, Refusal, pair_count, two_words, TwoBy, cell_words, storage_verdict, LaidOut, refused_laid, ready_laid, lent, two_report, Paired, TwoReport, Ok, Err, Checked, Answer, Layout}
use Rattle.refusal.proofs.Results.{refused_answer, given_answer}
use Rattle.std.specs.Result.{IsErrAnd}

-- a report of the five figures
pub report_is : {b b' q q' s s' p p' r r' : ℕ} → b ≡ b' → q ≡ q' → s ≡ s' → p ≡ p' → r ≡ r'
    → ◌≡◌ {A = TwoReport} (record { bound = b; first_capacity = q; second_capacity = s; length_count = p; columns = r })
    (record { bound = b'; first_capacity = q'; second_capacity = s'; length_count = p'; columns = r' })
report_is a b c d e = cc

-- the words of the cells are those of all pairs
pub pair_words : (J : Job) (q q' : ℕ) → cell_words J (pair_count q q') ≡ two_words J q q'
pair_words J q q' = omega arith

-- so the verdict is that of the call's checks
same_verdict : (J : Job) (q q' room : ℕ) (lengths widths : List ℕ) {v : Checked} → storage_verdict J (cell_words J (pair_count q q')) room lengths widths ≡ v → storage_verdict J (two_words J q q') room lengths widths ≡ v
same_verdict J q q' room lengths widths e = ap (λ n. storage_verdict J n room lengths widths) (sym (pair_words J q q')) ∙ e

module _ (J : Job) (F : ℕ → ℕ → ℕ → ℕ → ℕ) (q q' : ℕ) {lengths widths table floors new_lengths new_widths new_floors : List ℕ} {a : Answer Layout}
    (laid : LaidOut J q (pair_count q q') (length table) lengths widths floors new_lengths new_widths new_floors a) where
  -- the storage is refused: so is the bound, and the table is untouched
  pub refused : {x : Refusal} {r : Answer TwoReport} → a ≡ Err x → IsErrAnd r (λ y. y ≡ x) → Paired J F q q' (lent lengths widths table) (lent new_lengths new_widths table) r
  refused e p =
      let v = same_verdict J q q' (length table) lengths widths (refused_laid laid e) in
      record { answer = refused_answer _ _ _ v p; memory = record { lengths = laid.lengths_left; widths = laid.widths_left; table = rw v refl } }

  -- there is room: the report and the figures
  pub reported : {l : Layout} {new_table : List ℕ} {b : TwoReport} → a ≡ Ok l → b ≡ two_report J F q q' → TwoBy J F q q' table new_table
      → Paired J F q q' (lent lengths widths table) (lent new_lengths new_widths new_table) (Ok b)
  reported e b f =
      let v = same_verdict J q q' (length table) lengths widths (ready_laid laid e).passed in
      record { answer = given_answer _ _ v (ap Ok b); memory = record { lengths = laid.lengths_left; widths = laid.widths_left; table = rw v f } }
