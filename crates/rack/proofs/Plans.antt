-- The loop over the plates: where it stands before plate i, and what that plate's plan makes of the answer.
use Rattle.rack.proofs.Prelude.{◌≡◌, ◌∙◌, refl, sym, ap, List, [], ◌∷◌, ℕ, suc, ◌+◌, ◌-◌, ◌≤◌, ◌<◌, arith, length, set, replicate, length-set, length-replicate, Rect, Job, first_refusal, Refusal, TreeWalk, left_check, plated, and_then, answer_by, proceed, own_answer, total_checks, with_own, rack_walk, plans_answer, Ok, Err, passed, Checked, Answer}
use Rattle.rack.proofs.Own.{own_inside, own_passed}

-- before plate i, at node k: the plates before gave the totals and the profits
pub record Racking (J : Job) (plate : ℕ → Rect) (n : ℕ) (kinds operands totals profits : List ℕ) (k i : ℕ) : Type 0 where
  pub inside : i ≤ n
  pub nodes : k ≤ length kinds
  pub size : length profits ≡ 16
  pub walks : plans_answer J plate n kinds operands ≡ rack_walk J plate kinds operands i (n - i) k totals profits

pub begins : (J : Job) (plate : ℕ → Rect) (n : ℕ) (kinds operands : List ℕ) → Racking J plate n kinds operands (replicate 64 0) (replicate 16 0) 0 0
unfolding plans_answer
begins J plate n kinds operands =
    let e : n ≡ n - 0 = omega arith in
    record { inside = omega arith; nodes = omega arith; size = length-replicate {A = ℕ} 16 0; walks = ap (λ m. rack_walk J plate kinds operands 0 m 0 (replicate 64 0) (replicate 16 0)) e }

module _ {J : Job} {plate : ℕ → Rect} {n : ℕ} {kinds operands totals profits : List ℕ} {k i : ℕ} (given : Racking J plate n kinds operands totals profits k i) where
  abbrev answer : Answer (List ℕ)
  answer = plans_answer J plate n kinds operands

  -- after the last plate 18 decides
  pub ends : n ≤ i → answer ≡ answer_by (first_refusal (left_check (length kinds) k ∷ [])) profits
  unfolding rack_walk
  ends h =
      let e : n - i ≡ 0 = omega arith in
      given.walks ∙ ap (λ m. rack_walk J plate kinds operands i m k totals profits) e

  module _ (more : i < n) {a : Answer TreeWalk} (own : a ≡ own_answer (plated J (plate i)) kinds operands k) where
    -- what follows the plan's own checks, and what follows 29
    abbrev then : TreeWalk → Answer (List ℕ)
    then t = rack_walk J plate kinds operands (i + 1) (n - (i + 1)) t.past (with_own totals t.report.copies J.count) (set profits i t.report.profit)

    abbrev after : TreeWalk → Answer (List ℕ)
    after t = proceed (first_refusal (total_checks J i totals t.report.copies)) (then t)

    opened : answer ≡ and_then a after
    unfolding rack_walk
    opened =
        let e : n - i ≡ suc (n - (i + 1)) = omega arith in
        given.walks ∙ ap (λ m. rack_walk J plate kinds operands i m k totals profits) e ∙ ap (λ a. and_then a after) (sym own)

    -- its own checks refuse it
    pub own_refused : {r : Refusal} → a ≡ Err r → answer ≡ Err r
    own_refused p = opened ∙ ap (λ a. and_then a after) p

    module _ {t : TreeWalk} (walked : a ≡ Ok t) {v : Checked} (total : v ≡ first_refusal (total_checks J i totals t.report.copies)) where
      decided : answer ≡ proceed v (then t)
      decided = opened ∙ ap (λ a. and_then a after) walked ∙ ap (λ v. proceed v (then t)) (sym total)

      -- 29 refuses it
      pub total_refused : {r : Refusal} → v ≡ Err r → answer ≡ Err r
      total_refused p = decided ∙ ap (λ v. proceed v (then t)) p

      -- it passes, and the next plate follows
      pub goes_on : length kinds ≡ length operands → v ≡ passed → {totals' : List ℕ} → totals' ≡ with_own totals t.report.copies J.count
          → Racking J plate n kinds operands totals' (set profits i t.report.profit) t.past (i + 1)
      goes_on same p e =
          let q = own_passed (plated J (plate i)) kinds operands k (sym own ∙ walked) in
          record {
            inside = omega arith;
            nodes = (own_inside (plated J (plate i)) kinds operands k refl q.0 same given.nodes).1;
            size = length-set profits i t.report.profit ∙ given.size;
            walks = decided ∙ ap (λ v. proceed v (then t)) p ∙ ap (λ u. rack_walk J plate kinds operands (i + 1) (n - (i + 1)) t.past u (set profits i t.report.profit)) (sym e);
          }
