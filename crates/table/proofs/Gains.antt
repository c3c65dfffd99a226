-- The greater of two numbers without a comparison.
use Rattle.table.proofs.Prelude.{◌≡◌, ◌∙◌, ap, ℕ, ◌+◌, ◌-◌, ◌*◌, ◌/◌, ◌%◌, ◌≤◌, ◌<◌, max, add-mul-mod_self_left, mod-eq_of_lt, div-eq_of_lt-le, dec_le, arith}

-- by how much a number, given lifted by 2^63, is above another: their difference above 2^63, where it has the top bit
pub gain_is : (a lifted : ℕ) → a < 9223372036854775808 → 9223372036854775808 ≤ lifted → lifted < 18446744073709551616
    → (lifted - a) % 9223372036854775808 * ((lifted - a) / 9223372036854775808) ≡ max a (lifted - 9223372036854775808) - a
gain_is a lifted h l m = go (dec_le (a + 9223372036854775808) lifted)
  where
    go : Dec (a + 9223372036854775808 ≤ lifted) → (lifted - a) % 9223372036854775808 * ((lifted - a) / 9223372036854775808) ≡ max a (lifted - 9223372036854775808) - a
    go (yes n) =
        let g = lifted - 9223372036854775808 - a in
        let p : (lifted - a) / 9223372036854775808 ≡ 1 = div-eq_of_lt-le {k = 1} 9223372036854775808 {m = lifted - a} (omega arith) (omega arith) in
        let q : lifted - a ≡ g + 9223372036854775808 * 1 = omega arith in
        let s : (lifted - a) % 9223372036854775808 ≡ g = ap (λ n. n % 9223372036854775808) q ∙ add-mul-mod_self_left g 9223372036854775808 1 ∙ mod-eq_of_lt {n = g} {m = 9223372036854775808} (omega arith) in
        rw (s, p) (omega arith)
    go (no n) =
        let p : (lifted - a) / 9223372036854775808 ≡ 0 = div-eq_of_lt-le {k = 0} 9223372036854775808 {m = lifted - a} (omega arith) (omega arith) in
        rw p (omega arith)
