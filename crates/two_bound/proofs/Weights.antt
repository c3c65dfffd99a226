-- What the checks of two lists of weights decide: 8, 24, 9, 25, or none.
use Rattle.two_bound.proofs.Prelude.{◌≡◌, refl, sym, ◌∙◌, ap, ap₂, Bool, true, false, not, ◌||◌, List, [], ◌∷◌, ℕ, ◌≤◌, ltb-false, eqb-true, not-false, ltb, eqb, length, Job, capacity, first_refusal, refuse_when, Refusal, weight_in, weights_answer, check_last, check_passes, check_stops, passed_false, cons_passed, weights_passed, pair_count, or_false, two_checks, Ok, Err, passed, Checked, Answer}
use Rattle.promises.specs.declared.Refusal.TheVariants as refusal
use Rattle.promises.specs.Refusals.{verdict_of}
use Rattle.refusal.proofs.Results.{verdict_is, value_answered}

-- weights as many as the kinds: the check of their capacity decides, and one that refuses refuses with another
heavy : (J : Job) (ws : List ℕ) (r : Refusal) {a : Checked} {w : Answer ℕ} {v : Checked} → a ≡ refuse_when (not (eqb (length ws) J.count)) r → a ≡ passed → w ≡ weights_answer J ws → verdict_of w ≡ v
    → refuse_when (ltb 4095 (capacity J (weight_in ws))) refusal.Capacity ≡ v
heavy J ws r e p f g =
    let k = passed_false _ r (sym e ∙ p) in
    check_last _ _ refl ∙ check_passes _ _ _ refl (ap (λ t. refuse_when t refusal.WeightCount) k) ∙ sym (verdict_is _ (capacity J (weight_in ws))) ∙ ap verdict_of (sym f) ∙ g

either_heavy : (a b : Bool) (r : Refusal) {x : Refusal} → refuse_when a r ≡ Err x → refuse_when (a || b) r ≡ Err x
either_heavy true b r e = e
either_heavy false b r e = cc

other_heavy : (a b : Bool) (r : Refusal) → refuse_when a r ≡ passed → refuse_when (a || b) r ≡ refuse_when b r
other_heavy true b r e = cc
other_heavy false b r e = refl

module _ (J : Job) (first second : List ℕ) where
  -- the verdict of both lists
  abbrev verdict : Checked
  verdict = first_refusal (two_checks J first second)

  -- whether either capacity is above the most, and whether there are too many pairs
  abbrev above : Bool
  above = ltb 4095 (capacity J (weight_in first)) || ltb 4095 (capacity J (weight_in second))

  abbrev many : Bool
  many = ltb 65536 (pair_count (capacity J (weight_in first)) (capacity J (weight_in second)))

  -- 8 decides
  pub first_refused : {a : Checked} {x : Refusal} → a ≡ refuse_when (not (eqb (length first) J.count)) refusal.WeightCount → a ≡ Err x → verdict ≡ Err x
  first_refused e p = sym (check_stops _ _ _ e p) ∙ p

  module _ {a : Checked} (a_is : a ≡ refuse_when (not (eqb (length first) J.count)) refusal.WeightCount) (a_passed : a ≡ passed) where
    -- 24 decides
    pub second_refused : {b : Checked} {x : Refusal} → b ≡ refuse_when (not (eqb (length second) J.count)) refusal.SecondCount → b ≡ Err x → verdict ≡ Err x
    second_refused e p = sym (check_passes _ _ _ a_is a_passed) ∙ sym (check_stops _ _ _ e p) ∙ p

    module _ {b : Checked} (b_is : b ≡ refuse_when (not (eqb (length second) J.count)) refusal.SecondCount) (b_passed : b ≡ passed) where
      -- the checks of the capacities decide
      capacities : first_refusal ((above, refusal.Capacity) ∷ (many, refusal.CapacityProduct) ∷ []) ≡ verdict
      capacities = check_passes _ _ _ b_is b_passed ∙ check_passes _ _ _ a_is a_passed

      module _ {w : Answer ℕ} (w_is : w ≡ weights_answer J first) where
        -- 9 of the first decides
        pub first_heavy : {x : Refusal} → w ≡ Err x → verdict ≡ Err x
        first_heavy p =
            let h = either_heavy _ (ltb 4095 (capacity J (weight_in second))) _ (heavy J first refusal.WeightCount a_is a_passed w_is (ap verdict_of p)) in
            sym capacities ∙ sym (check_stops _ _ _ refl h) ∙ h

        module _ {q : ℕ} (w_given : w ≡ Ok q) {u : Answer ℕ} (u_is : u ≡ weights_answer J second) where
          -- the check of the second decides about both
          second_capacity : refuse_when above refusal.Capacity ≡ verdict_of u
          second_capacity = other_heavy _ _ _ (heavy J first refusal.WeightCount a_is a_passed w_is (ap verdict_of w_given)) ∙ heavy J second refusal.SecondCount b_is b_passed u_is refl

          -- 9 of the second decides
          pub second_heavy : {x : Refusal} → u ≡ Err x → verdict ≡ Err x
          second_heavy p = let h = second_capacity ∙ ap verdict_of p in sym capacities ∙ sym (check_stops _ _ _ refl h) ∙ h

          module _ {s : ℕ} (u_given : u ≡ Ok s) where
            -- both capacities
            pub both_weighed : ((q ≡ capacity J (weight_in first)) × (s ≡ capacity J (weight_in second))) × ((q ≤ 4095) × (s ≤ 4095))
            both_weighed =
                let k = value_answered _ _ (sym w_is ∙ w_given) in
                let l = value_answered _ _ (sym u_is ∙ u_given) in
                ((k.1, l.1), (rw k.1 (weights_passed J first k.0).1, rw l.1 (weights_passed J second l.0).1))

            -- 25 decides
            pub product_decides : {c : Checked} → c ≡ refuse_when (ltb 65536 (pair_count q s)) refusal.CapacityProduct → verdict ≡ c
            product_decides e =
                let k = both_weighed.0 in
                sym capacities ∙ sym (check_passes _ _ _ refl (second_capacity ∙ ap verdict_of u_given))
                ∙ sym (check_last _ _ (e ∙ ap₂ (λ q s. refuse_when (ltb 65536 (pair_count q s)) refusal.CapacityProduct) k.0 k.1))

-- weights that passed: as many as kinds, and capacities of at most 4,095 and not too many pairs
pub record Weighs (J : Job) (first second : List ℕ) : Type 0 where
  pub first_all : length first ≡ J.count
  pub second_all : length second ≡ J.count
  pub few : capacity J (weight_in first) ≤ 4095
  pub pairs : pair_count (capacity J (weight_in first)) (capacity J (weight_in second)) ≤ 65536

pub both_passed : (J : Job) (first second : List ℕ) → first_refusal (two_checks J first second) ≡ passed → Weighs J first second
both_passed J first second p =
    let a = cons_passed _ _ _ p in
    let b = cons_passed _ _ _ a.1 in
    let c = cons_passed _ _ _ b.1 in
    let d = cons_passed _ _ _ c.1 in
    record {
      first_all = eqb-true (length first) J.count (not-false (eqb (length first) J.count) a.0);
      second_all = eqb-true (length second) J.count (not-false (eqb (length second) J.count) b.0);
      few = ltb-false 4095 (capacity J (weight_in first)) (or_false (ltb 4095 (capacity J (weight_in first))) (ltb 4095 (capacity J (weight_in second))) c.0).0;
      pairs = ltb-false 65536 (pair_count (capacity J (weight_in first)) (capacity J (weight_in second))) d.0;
    }
