-- What the bound of pieces answers, and what lent memory then holds, from the storage as it was laid out.
use Rattle.bound.proofs.Prelude.{◌≡◌, refl, sym, ◌∙◌, ap, List, ℕ, ◌+◌, length, Job, Refusal, FilledBy, LaidOut, refused_laid, ready_laid, lent, bound_report, BoundReport, Bounded, Ok, Err, Answer, Layout}
use Rattle.refusal.proofs.Results.{handed, refused_answer, given_answer}
use Rattle.std.specs.Result.{IsErrAnd}

-- a report of the four figures
pub report_is : {b b' q q' p p' r r' : ℕ} → b ≡ b' → q ≡ q' → p ≡ p' → r ≡ r'
    → ◌≡◌ {A = BoundReport} (record { bound = b; capacity = q; length_count = p; columns = r }) (record { bound = b'; capacity = q'; length_count = p'; columns = r' })
report_is a b c d = cc

-- a refusal is no report
pub unreported : {A : Type 0} {r : Refusal} {b : BoundReport} → Err r ≡ Ok b → A
unreported e = cc

module _ (J : Job) (weight : ℕ → ℕ) (q : ℕ) {lengths widths table floors new_lengths new_widths new_floors : List ℕ} {a : Answer Layout}
    (laid : LaidOut J q (q + 1) (length table) lengths widths floors new_lengths new_widths new_floors a) where
  -- the storage is refused: so is the bound, and the table is untouched
  pub refused : {x : Refusal} {r : Answer BoundReport} → a ≡ Err x → IsErrAnd r (λ y. y ≡ x) → Bounded J weight q (lent lengths widths table) (lent new_lengths new_widths table) new_floors r
  refused {r = r} e p =
      let v = refused_laid laid e in
      record {
        answer = refused_answer _ _ _ v p;
        memory = record { lengths = laid.lengths_left; widths = laid.widths_left; table = rw v refl };
        mapped = λ b f. unreported (sym (handed r p) ∙ f);
      }

  -- there is room: the report and the figures
  pub reported : {l : Layout} {new_table : List ℕ} {b : BoundReport} → a ≡ Ok l → b ≡ bound_report J weight q → FilledBy J weight q table new_table
      → Bounded J weight q (lent lengths widths table) (lent new_lengths new_widths new_table) new_floors (Ok b)
  reported e b f =
      let k = ready_laid laid e in
      record {
        answer = given_answer _ _ k.passed (ap Ok b);
        memory = record { lengths = laid.lengths_left; widths = laid.widths_left; table = rw k.passed f };
        mapped = λ b e. k.mapped;
      }
