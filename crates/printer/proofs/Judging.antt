-- What is said of the written plan follows from what the writing call promises and from the check of the plan's demands: the arrays that were
-- written draw the plan and no other tree.
use Rattle.printer.proofs.Prelude.{◌≡◌, refl, sym, ◌∙◌, ap, ap₂, subst, Bool, List, [], append-nil, ℕ, ◌≤◌, arith, length, take, drop, length-append, take-append_seam, over, Tree, Piece, kinds_of, operands_of, Job, Refusal, Choices, block_job, accepted_both, trees_in, first_tree, tree_in, PlanOf, JobPasses, written, arrays_written, kinds_length, operands_length, trees_tree, drawn_is, Memory, WriteReport, block_plan, write_answer, WritePromises, written_fits, written_accepted, Judged, DemandsKept, SaysOf, JudgesPlan, Ok, Err, Answer}

-- a tree's arrays draw the tree
draws : (t : Tree Piece) → tree_in (kinds_of t) (operands_of t) ≡ t
draws t = ap first_tree (ap trees_in (arrays_written t ∙ sym (append-nil (written t))) ∙ trees_tree t [])

-- so a plan of a tree's arrays is of that tree
same_plan : {J : Job} {u t : Tree Piece} → PlanOf J u (kinds_of t) (operands_of t) → PlanOf J t (kinds_of t) (operands_of t)
same_plan {J} {u} {t} p = subst (λ v. PlanOf J v (kinds_of t) (operands_of t)) (drawn_is J (kinds_of t) (operands_of t) u p.drawn ∙ draws t) p

-- the first entries of a list that was written over
front : (xs old : List ℕ) {new : List ℕ} {n : ℕ} → new ≡ over xs old → n ≡ length xs → take n new ≡ xs
front xs old e h = ap₂ take h e ∙ take-append_seam xs (drop (length xs) old)

room : (xs old : List ℕ) {new : List ℕ} {n : ℕ} → new ≡ over xs old → n ≡ length xs → n ≤ length new
room xs old e h = omega (arith, h, ap length e, length-append xs (drop (length xs) old))

-- what holds of a judged plan holds of the one that the same judgement names
named : (P : Judged → Type 0) (p q : Judged) → ◌≡◌ {A = Answer Judged} (Ok p) (Ok q) → P p → P q
named P p q e h =
    let same : p ≡ q = cc in
    subst P same h

module _ (s : List ℕ) (choices : Choices) (ws : List ℕ) (m : Memory) (kinds operands : List ℕ) {after : Memory} {new_kinds new_operands : List ℕ} {a : Answer WriteReport} (w : WritePromises s choices ws m after kinds operands new_kinds new_operands a) where
  -- the arrays hold the nodes that were written
  pub nodes_there : {b : WriteReport} → a ≡ Ok b → (b.nodes ≤ length new_kinds) × (b.nodes ≤ length new_operands)
  nodes_there {b} e =
      let t = block_plan s choices ws in
      let p = w.plan b e in
      (room (kinds_of t) kinds p.kinds_hold (p.counted ∙ sym (kinds_length t)), room (operands_of t) operands p.operands_hold (p.counted ∙ sym (operands_length t)))

  -- a plan that was written
  pub says_plan : {b : WriteReport} {best : Bool} → a ≡ Ok b → DemandsKept (JobPasses s choices) (block_job s choices) (take b.nodes new_kinds) (take b.nodes new_operands) best
      → JudgesPlan s choices ws m kinds operands new_kinds new_operands (Ok (record { report = b; profit = b.bound; best = best }))
  says_plan {b} {best} e d =
      let t = block_plan s choices ws in
      let p = w.plan b e in
      let k = front (kinds_of t) kinds p.kinds_hold (p.counted ∙ sym (kinds_length t)) in
      let o = front (operands_of t) operands p.operands_hold (p.counted ∙ sym (operands_length t)) in
      let h = written_fits s choices ws m kinds operands w.answers e in
      let good = (accepted_both s choices ws (written_accepted s choices ws m kinds operands w.answers e)).0 in
      let kept : DemandsKept (JobPasses s choices) (block_job s choices) (kinds_of t) (operands_of t) best =
      subst (λ ks. DemandsKept (JobPasses s choices) (block_job s choices) ks (operands_of t) best) k (subst (λ os. DemandsKept (JobPasses s choices) (block_job s choices) (take b.nodes new_kinds) os best) o d) in
      let says : SaysOf (block_job s choices) t new_kinds new_operands (record { report = b; profit = b.bound; best = best }) = record {
        nodes = (p.counted, omega (arith, h.0, p.counted));
        kinds_are = k;
        operands_are = o;
        profit_is = sym p.earns.2;
        kept = λ z. (same_plan (kept.tree z).1).drawn.demands;
        keeps = λ z. kept.complete good t (record { drawn = record { on_plate = p.earns.0; demands = z; nodes = omega (arith, h.0, p.counted); kinds_are = refl; operands_are = refl }; idle_free = p.idle_free });
        none_better = λ z. ((w.bound b e).demands, (w.bound b e).finer);
      } in
      record {
        written = λ q z. named (λ q. (write_answer s choices ws m kinds operands ≡ Ok q.report) × SaysOf (block_job s choices) t new_kinds new_operands q) (record { report = b; profit = b.bound; best = best }) q z (sym w.answers ∙ e, says);
        refused = λ x z. absurd (let z : ◌≡◌ {A = ℕ} 0 1 = cc in omega arith);
      }

  -- a refusal
  pub says_refused : {x : Refusal} → a ≡ Err x → JudgesPlan s choices ws m kinds operands new_kinds new_operands (Err x)
  says_refused e = record {
    written = λ q z. absurd (let z : ◌≡◌ {A = ℕ} 0 1 = cc in omega arith);
    refused = λ y z. sym w.answers ∙ e ∙ ap Err cc;
  }
