-- The sum of demand times amount, as a loop over the kinds makes it.
use Rattle.orders.proofs.Prelude.{◌≡◌, refl, ◌∙◌, ap, ap₂, List, ℕ, suc, ◌+◌, ◌*◌, ◌≤◌, ◌<◌, mul-le-mul, arith, get_or, most_demand, most_price, sum, sum_le, most_worth, amount_in}
use Rattle.std.specs.Prelude.{◌^◌}
use Rattle.orders.specs.Orders.{Summable}
use Rattle.orders.proofs.Orders.{sum_same}

-- the term of a kind
abbrev term : List ℕ → List ℕ → ℕ → ℕ
term demands amounts i = get_or demands i 0 * amount_in amounts i

-- where the loop stands before kind i
pub record Summing (demands amounts : List ℕ) (i total : ℕ) : Type 0 where
  pub is : total ≡ sum i (term demands amounts)
  pub low : total ≤ 2 ^ 48 * i

module _ (demands amounts : List ℕ) where
  -- it begins
  pub summing_begins : Summing demands amounts 0 0
  unfolding sum
  summing_begins = record { is = refl; low = omega arith }

  -- one kind more
  pub summing_goes : (i total v : ℕ) → Summing demands amounts i total → (v ≡ term demands amounts i) × (v < 2 ^ 48) → Summing demands amounts (i + 1) (total + v)
  unfolding sum
  summing_goes i total v w e =
      let s : suc i ≡ i + 1 = omega arith in
      record { is = ap₂ ◌+◌ w.is e.0 ∙ ap (λ n. sum n (term demands amounts)) s; low = omega (arith, w.low, e.1) }

-- and no order is worth more
sum_low : (count : ℕ) (demands amounts : List ℕ) → Summable count demands amounts → sum count (term demands amounts) ≤ most_worth
sum_low count demands amounts s = omega (
  arith,
  s.few,
  sum_le count (term demands amounts) (λ i. most_demand * most_price) (λ i l. mul-le-mul (s.demands_low i l) (s.amounts_low i l)),
  sum_same count (most_demand * most_price),
)

-- all kinds are summed
pub summing_ends : (count total : ℕ) (demands amounts : List ℕ) → Summable count demands amounts → Summing demands amounts count total → (total ≡ sum count (term demands amounts)) × (total ≤ most_worth)
summing_ends count total demands amounts s w = (w.is, omega (arith, w.is, sum_low count demands amounts s))
