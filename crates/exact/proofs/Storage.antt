-- What the figures of pieces answer, and what lent memory then holds, from the storage as it was laid out; and the word from which the
-- optimum is read.
use Rattle.exact.proofs.Prelude.{◌≡◌, refl, sym, ◌∙◌, ap, ap₂, Bool, List, ℕ, ◌+◌, ◌-◌, arith, length, get_or, Length, Width, Job, InTableRange, table_solid, positions_some, floor_under, Refusal, position_count, words_needed, Kept, by_state, Order, figure_at, by_state_monotone, LaidOut, refused_laid, ready_laid, BoundReport, lent, unreported, last_position, word_last, StateFigures, state_report, Filled, Ok, Err, Answer}
use Rattle.storage.specs.declared.Layout.{Layout}
use Rattle.refusal.proofs.Results.{handed, refused_answer, given_answer}
use Rattle.std.specs.Result.{IsErrAnd}

module _ (J : Job) (F : ℕ → ℕ → ℕ → ℕ) (q : ℕ) {lengths widths table floors new_lengths new_widths new_floors : List ℕ} {a : Answer Layout}
    (laid : LaidOut J q (q + 1) (length table) lengths widths floors new_lengths new_widths new_floors a) where
  -- the storage is refused, and the table is untouched
  pub refused : {x : Refusal} {r : Answer BoundReport} → a ≡ Err x → IsErrAnd r (λ y. y ≡ x) → Filled J F q (lent lengths widths table) (lent new_lengths new_widths table) new_floors r
  refused {r = r} e p =
      let v = refused_laid laid e in
      record {
        answer = refused_answer _ _ _ v p;
        memory = record { lengths = laid.lengths_left; widths = laid.widths_left; table = rw v refl };
        mapped = λ b f. unreported (sym (handed r p) ∙ f);
      }

  -- there is room: the report and the figures
  pub reported : {l : Layout} {new_table : List ℕ} {b : BoundReport} → a ≡ Ok l → b ≡ state_report J F q → StateFigures J F q new_table × Kept (words_needed J q) table new_table
      → Filled J F q (lent lengths widths table) (lent new_lengths new_widths new_table) new_floors (Ok b)
  reported e b f =
      let k = ready_laid laid e in
      record {
        answer = given_answer _ _ k.passed (ap Ok b);
        memory = record { lengths = laid.lengths_left; widths = laid.widths_left; table = rw k.passed f };
        mapped = λ b e. k.mapped;
      }

-- the word before the end holds the figure of the plate at the last state
pub states_last : (J : Job) (le : ℕ → ℕ → Bool) (order : Order le) (own : ℕ → ℕ) → InTableRange J → (q : ℕ) (xs : List ℕ) → StateFigures J (figure_at J le own) q xs
    → get_or xs (words_needed J q - 1) 0 ≡ figure_at J le own J.plate.0 J.plate.1 q
unfolding figure_at
states_last J le order own h q xs f =
    let p = position_count J Length in
    let r = position_count J Width in
    let a = positions_some J Length in
    let b = positions_some J Width in
    rw (← word_last p r q a b)
    (f (p - 1) (r - 1) q (omega arith) (omega arith) (omega arith)
    ∙ ap₂ (λ l w. figure_at J le own l w q) (last_position J Length) (last_position J Width)
    ∙ sym (floor_under J (by_state le _) (by_state_monotone le order _) (table_solid J h) J.plate.0 J.plate.1 q (omega arith) (omega arith)))
