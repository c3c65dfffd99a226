-- What writing profits changes, the profit of each plate written and nothing else; and that a refusal, which changes no record, and a pass keep
-- all that is promised.
use Rattle.rack.proofs.Prelude.{◌≡◌, refl, sym, ◌∙◌, ap, subst, Bool, true, false, ◌||◌, not, or-true, List, [], ℕ, zero, suc, ◌≤◌, ◌<◌, ℕ_discrete, arith, ltb, eqb, length, get_or, set, length-set, length-map, get_or-set_same, get_or-set_other, refuse_when, verdict_of, outcome_by, Refusal, RackSize, Choices, block_job, Plate, proceed, no_pass, plate_at, rack_size_check, rack_checks, plans_answer, check_stops, RackOf, RackChecks, blank, with_profit, paid, lengths_of, widths_of, records_answer, settled, RackPromises, IsErrAnd, handed, Ok, Err, passed, Checked, Answer}
use Rattle.rack.proofs.Own.{same_value}
use Rattle.rack.proofs.Calls.{plates_met}

module _ (rack : List Plate) (profits : List ℕ) where
  pub paid_length : (n : ℕ) → length (paid rack profits n) ≡ length rack
  unfolding paid
  paid_length zero = refl
  paid_length (suc n) = length-set (paid rack profits n) n (with_profit (get_or (paid rack profits n) n blank) (get_or profits n 0)) ∙ paid_length n

  -- where none is written, no record is changed
  pub paid_none : paid rack profits 0 ≡ rack
  unfolding paid
  paid_none = refl

  -- one more
  pub paid_more : (n : ℕ) → set (paid rack profits n) n (with_profit (get_or (paid rack profits n) n blank) (get_or profits n 0)) ≡ paid rack profits (suc n)
  unfolding paid
  paid_more n = refl

  -- a plate past those written
  paid_past : (n i : ℕ) → n ≤ i → get_or (paid rack profits n) i blank ≡ get_or rack i blank
  unfolding paid
  paid_past zero i h = refl
  paid_past (suc n) i h = get_or-set_other (paid rack profits n) n i (with_profit (get_or (paid rack profits n) n blank) (get_or profits n 0)) blank (λ e. omega arith) ∙ paid_past n i (omega arith)

  -- a plate that is written has its profit, and its own sides
  paid_at : (n i : ℕ) → i < n → n ≤ length rack → get_or (paid rack profits n) i blank ≡ with_profit (get_or rack i blank) (get_or profits i 0)
  unfolding paid
  paid_at zero i h l = absurd (omega arith)
  paid_at (suc n) i h l = go (ℕ_discrete i n) (λ (k : i < n). paid_at n i k (omega arith))
    where
      go : Dec (i ≡ n) → (i < n → get_or (paid rack profits n) i blank ≡ with_profit (get_or rack i blank) (get_or profits i 0)) → get_or (paid rack profits (suc n)) i blank ≡ with_profit (get_or rack i blank) (get_or profits i 0)
      go (yes e) ih = rw e (get_or-set_same (paid rack profits n) n (with_profit (get_or (paid rack profits n) n blank) (get_or profits n 0)) blank (omega (arith, paid_length n)) ∙ ap (λ p. with_profit p (get_or profits n 0)) (paid_past n n (omega arith)))
      go (no e) ih = get_or-set_other (paid rack profits n) n i (with_profit (get_or (paid rack profits n) n blank) (get_or profits n 0)) blank e ∙ ih (omega arith)

-- the last of three tests
last_true : (a b : Bool) {c : Bool} → c ≡ true → (a || (b || c)) ≡ true
last_true a b e = ap (λ t. a || (b || t)) e ∙ ap (λ t. a || t) (or-true b) ∙ or-true a

module _ (s : List ℕ) (choices : Choices) (rack : List Plate) (kinds operands : List ℕ) where
  abbrev answer : Answer (List ℕ)
  answer = records_answer s choices rack kinds operands

  abbrev checks : RackChecks s choices (lengths_of rack) (widths_of rack) kinds operands answer
  checks = (plates_met s choices (lengths_of rack) (widths_of rack) kinds operands refl).checks

  -- a refused rack
  pub rack_refused : {x : Refusal} (v : Checked) → answer ≡ Err x → IsErrAnd v (λ y. y ≡ x) → RackPromises s choices rack rack kinds operands v
  rack_refused {x} v e h =
      let w : v ≡ verdict_of answer = handed v h ∙ sym (ap verdict_of e) in
      record {
        answers = w;
        outcome = ap (λ v. outcome_by v []) w;
        memory = sym (ap (settled rack) e);
        unchanged = λ y p. refl;
        size = refl;
        written = λ profits p. no_pass (ap verdict_of (sym e ∙ p));
        trees = λ p. no_pass (sym (handed v h) ∙ p);
        checks = checks;
      }

  -- a rack that passes, whose profits are written
  pub rack_met : {profits : List ℕ} {after : List Plate} → answer ≡ Ok profits → after ≡ paid rack profits (length rack) → RackPromises s choices rack after kinds operands passed
  rack_met {profits} {after} e m =
      let w : passed ≡ verdict_of answer = sym (ap verdict_of e) in
      let at : (q : ℕ) → q < length rack → get_or after q blank ≡ with_profit (get_or rack q blank) (get_or profits q 0) = λ q l. ap (λ l. get_or l q blank) m ∙ paid_at rack profits (length rack) q l (omega arith) in
      let n : length (lengths_of rack) ≡ length rack = length-map rack (λ q. q.length) in
      record {
        answers = w;
        outcome = ap (λ v. outcome_by v []) w;
        memory = m ∙ sym (ap (settled rack) e);
        unchanged = λ x p. no_pass (sym p);
        size = ap length m ∙ paid_length rack profits (length rack);
        written = λ given p. (let same : profits ≡ given = same_value (sym e ∙ p) in subst (λ ns. (q : ℕ) → q < length rack → get_or after q blank ≡ with_profit (get_or rack q blank) (get_or ns q 0)) same at);
        trees = λ p. (let t = checks.trees profits e in
            (t.0, subst (λ m. RackOf (block_job s choices) m (plate_at (lengths_of rack) (widths_of rack)) t.0 kinds operands) n t.1, λ q l. ap (λ (z : Plate). z.profit) (at q l) ∙ t.2 q (omega (arith, n, l))));
        checks = checks;
      }

-- a rack of more than 16 plates is refused by 28
pub many_refused : (s : List ℕ) (choices : Choices) (rack : List Plate) (kinds operands : List ℕ) {v : Checked} {x : Refusal} → v ≡ refuse_when (ltb 16 (length rack)) RackSize → v ≡ Err x → records_answer s choices rack kinds operands ≡ Err x
unfolding rack_checks
many_refused s choices rack kinds operands {v} {x} e p = go (ltb 16 (length rack)) refl (sym e ∙ p)
  where
    go : (b : Bool) → ltb 16 (length rack) ≡ b → refuse_when b RackSize ≡ Err x → records_answer s choices rack kinds operands ≡ Err x
    go true f q =
        let b : ltb 16 (length (lengths_of rack)) ≡ true = ap (ltb 16) (length-map rack (λ p. p.length)) ∙ f in
        let c : (rack_size_check (lengths_of rack) (widths_of rack)).0 ≡ true = last_true (not (eqb (length (lengths_of rack)) (length (widths_of rack)))) (ltb (length (lengths_of rack)) 1) b in
        ap (λ v. proceed v (plans_answer (block_job s choices) (plate_at (lengths_of rack) (widths_of rack)) (length (lengths_of rack)) kinds operands))
        (sym (check_stops (rack_size_check (lengths_of rack) (widths_of rack)).0 RackSize _ (sym (ap (λ t. refuse_when t RackSize) c)) refl) ∙ q)
    go false f q = no_pass (sym q)
