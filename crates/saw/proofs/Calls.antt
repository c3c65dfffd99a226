-- What is known of a block that the saw reads, and that an answer which equals its definition meets the whole contract.
use Rattle.saw.proofs.Prelude.{◌≡◌, refl, sym, ◌∙◌, ap, subst, List, ℕ, arith, ltb-false, InRange, Refusal, first_refusal, Choices, JobRecord, plate_length_at, plate_width_at, count_at, sizes_end, demand_at, header_checks, entries, record_of, job_outcome, job_of, HoldsBlock, cons_passed, entries_past, header_passed, header_holds, block_passed, pair_passed, range_by, value_answered, refusal_answered, verdict_is, told, by_check, refused_as, verdict_of, job_values, ◌+◌, proceed, walk_answer, plan_answer, ChecksPlan, plans_checked, checked_after, demand_checks, saw_checks, SawPasses, saw_record, saw_job, saw_read, saw_read_said, without_profit, saw_of, saw_answer, saw_outcome, saw_said, NeverSix, SawChecks, AtAnyPrices, PricesFree, BesideOffice, Ok, Err, passed, Checked, Answer, Report, SawReport}
use Rattle.saw.proofs.Prices.{same_read, same_answer, prices_free}
use Rattle.saw.proofs.Six.{read_never, saw_never}
use Rattle.saw.proofs.Office.{beside}
use Rattle.saw.proofs.Sawn.{sawn_verdict, sawn_value}

module _ (s : List ℕ) (choices : Choices) where
  -- a block that passed has the bytes of its kinds
  pub saw_holds : SawPasses s choices → HoldsBlock choices s
  unfolding saw_checks
  saw_holds p = header_holds choices s (count_at s) refl (block_passed header_checks demand_checks s choices p).0

  -- and its job, every price 0, is in the scope's ranges
  pub saw_range : SawPasses s choices → InRange (saw_job s choices)
  unfolding saw_checks record_of
  saw_range p =
      let end = sizes_end choices.old_block in
      let h = header_passed choices s (block_passed header_checks demand_checks s choices p).0 in
      range_by header_checks demand_checks s choices p h.1 (plate_length_at s) (plate_width_at s) h.0 (λ i l. ltb-false 255 (demand_at end s i) (cons_passed _ _ _ (pair_passed header_checks demand_checks s choices p i l)).0) (entries (λ i. 0) 0) (λ i l. (let e = entries_past (λ i. 0) 0 i (omega arith) in omega (arith, e)))

  -- and so is the job that was read
  pub read_range : {a : Answer JobRecord} {j : JobRecord} → a ≡ saw_read s choices → a ≡ Ok j → InRange (job_of j)
  read_range e p =
      let r = value_answered (first_refusal (saw_checks s choices)) (saw_record s choices) (sym e ∙ p) in
      subst (λ (j : JobRecord). InRange (job_of j)) (sym r.1) (saw_range r.0)

  -- every clause of the reader
  abbrev pub Reads : Answer JobRecord → Type 0
  Reads r = (r ≡ saw_read s choices) × ((job_outcome r ≡ saw_read_said s choices) × (AtAnyPrices choices s (λ z. r ≡ saw_read z choices) × ((verdict_of r ≡ passed → PricesFree choices s) × NeverSix (verdict_of r))))

  pub read_met : {r : Answer JobRecord} → r ≡ saw_read s choices → Reads r
  read_met e =
      let v = first_refusal (saw_checks s choices) in
      let w = ap verdict_of e ∙ verdict_is v (saw_record s choices) in
      (e, ((told job_values v (saw_record s choices) e).1, (λ z o. e ∙ same_read choices s z o, (λ p. prices_free choices s (saw_holds (sym w ∙ p)).0.3, subst NeverSix (sym w) (read_never s choices)))))

  module _ (kinds operands : List ℕ) where
    -- a block that is read: the check of its nodes is the answer
    module _ {a : Answer JobRecord} (e : a ≡ saw_read s choices) where
      pub read_on : {b : Answer Report} {j : JobRecord} → a ≡ Ok j → b ≡ plan_answer (job_of j) kinds operands → saw_of b ≡ saw_answer s choices kinds operands
      read_on p f =
          let r = value_answered (first_refusal (saw_checks s choices)) (saw_record s choices) (sym e ∙ p) in
          ap (λ b. saw_of b) (f ∙ ap (λ (j : JobRecord). plan_answer (job_of j) kinds operands) r.1) ∙ sym (ap (λ v. saw_of (proceed v (plan_answer (saw_job s choices) kinds operands))) r.0)

      -- and one that is refused
      pub read_stops : {x : Refusal} {r : Answer SawReport} → a ≡ Err x → r ≡ Err x → r ≡ saw_answer s choices kinds operands
      read_stops p h = h ∙ sym (ap (λ v. saw_of (proceed v (plan_answer (saw_job s choices) kinds operands))) (refusal_answered (first_refusal (saw_checks s choices)) (saw_record s choices) (sym e ∙ p)))

    abbrev Before-idle : Answer Report
    Before-idle = proceed (first_refusal (saw_checks s choices)) (walk_answer (saw_job s choices) kinds operands)

    -- the plan check's theorem, of the report without its profit
    checked : (a : Answer Report) → ChecksPlan (SawPasses s choices) (saw_job s choices) kinds operands Before-idle a → NeverSix (verdict_of (saw_of a)) → SawChecks s choices kinds operands (saw_of a)
    checked a c six = record {
      passes = λ b t h. sawn_verdict a ∙ c.passes b t h;
      before = λ p. c.before (sym (sawn_verdict a) ∙ p);
      tree = λ r p. (let v = sawn_value a p in let t = c.tree v.0 v.1 in
          (t.0, t.1, record { own = v.2 ∙ ap (λ r. without_profit r) t.2.own; areas = ap (λ (r : SawReport). r.pieces + r.waste + r.trim + r.sawdust) v.2 ∙ t.2.areas }));
      idle = λ b t d. sawn_verdict a ∙ c.idle b t d;
      old_table = λ f. ap (λ b. saw_of b) (c.old_table f);
      never_six = six;
    }

    -- the number and values of an answer that follows a check
    said_after : (v : Checked) (a : Answer Report) → saw_outcome (saw_of (proceed v a)) ≡ by_check v (saw_outcome (saw_of a)) refused_as
    said_after (Ok _) a = refl
    said_after (Err r) a = refl

    -- every clause of the saw's check
    abbrev pub Met : Answer SawReport → Type 0
    Met r = (r ≡ saw_answer s choices kinds operands) × ((saw_outcome r ≡ saw_said s choices kinds operands) × (SawChecks s choices kinds operands r
        × (AtAnyPrices choices s (λ z. r ≡ saw_answer z choices kinds operands) × BesideOffice s choices kinds operands r)))

    pub check_met : {r : Answer SawReport} → r ≡ saw_answer s choices kinds operands → Met r
    check_met e =
        let c = checked_after (first_refusal (saw_checks s choices)) (λ p. plans_checked (saw_job s choices) (saw_range p).kinds.1 kinds operands) (λ a. (a, tt)) (λ v b. v) in (
          e,
          (
            ap (λ a. saw_outcome a) e ∙ said_after (first_refusal (saw_checks s choices)) (plan_answer (saw_job s choices) kinds operands),
            (
              subst (λ (a : Answer SawReport). SawChecks s choices kinds operands a) (sym e) (checked _ c (saw_never s choices kinds operands)),
              (λ z o. e ∙ same_answer choices s z o kinds operands, beside s choices kinds operands e),
            ),
          ),
        )
