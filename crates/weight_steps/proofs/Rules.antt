-- The steps have the scope's rules: the halving of the factor over the table, the step as a whole root.
use Rattle.weight_steps.proofs.Prelude.{◌≡◌, refl, sym, ◌∙◌, ap, not, ℕ, suc, ◌+◌, ◌*◌, ◌/◌, ◌^◌, ◌<◌, min, add-div_right, div-div-eq-div-mul, pow-suc, div-eq_of_lt, arith, eqb-true, not-false, eqb, get_or, range, any, most_rounds, factor, factors, WholeRoot, scale, weight_step, StepRules}
use Rattle.weight_steps.proofs.Sums.{none_passes}
use Rattle.weight_steps.proofs.Roots.{root_whole, root_exists}

-- the factor is 2 in the first three rounds
factor_first : (k : ℕ) → k < 3 → factor k ≡ 32
factor_first k h = ap (λ n. 32 / 2 ^ n) (div-eq_of_lt h)

-- and is halved after every third round
factor_halved : (k : ℕ) → factor (k + 3) ≡ factor k / 2
factor_halved k = ap (λ n. 32 / 2 ^ n) (add-div_right k {k = 3} (omega arith) ∙ (let e : k / 3 + 1 ≡ suc (k / 3) = omega arith in e)) ∙ ap (λ n. 32 / n) (pow-suc 2 (k / 3)) ∙ sym (div-div-eq-div-mul 32 (2 ^ (k / 3)) 2)

-- each entry of the table is its round's factor
pub factor_tabled : (k : ℕ) → k < 18 → get_or factors k 0 ≡ factor k
unfolding any range
factor_tabled k h = eqb-true (get_or factors k 0) (factor k) (not-false _ (none_passes (λ k. not (eqb (get_or factors k 0) (factor k))) 18 k refl h))

-- so each entry of the table is half of the entry three before it
table_halved : (k : ℕ) → k + 3 < most_rounds → get_or factors (k + 3) 0 ≡ get_or factors k 0 / 2
table_halved k h = factor_tabled (k + 3) (omega arith) ∙ factor_halved k ∙ sym (ap (λ n. n / 2) (factor_tabled k (omega arith)))

-- the step is the whole part of the square root of d · s, and 255 where that is above
step_whole : (f gap squares d x : ℕ) → WholeRoot (d * scale f gap squares) (16 * squares) x → weight_step f gap squares d ≡ min 255 x
step_whole f gap squares d x h = root_whole 255 (d * scale f gap squares) (16 * squares) x h

-- the rules of the steps
pub step_rules : StepRules
step_rules = record {
  first = factor_first;
  halved = factor_halved;
  tabled = factor_tabled;
  table_halved = table_halved;
  whole = step_whole;
  exists = λ f gap squares d h. root_exists (d * scale f gap squares) (16 * squares) (omega arith);
}
