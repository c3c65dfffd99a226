-- Sums of sides, side after side: what the scan of the sides at one position finds.
use Rattle.std.specs.Bool.{MatchBool}
use Rattle.std.specs.List.{HoldsAt, AllWithin}
use Rattle.positions.proofs.Prelude.{◌≡◌, refl, sym, ◌∙◌, ap, subst, Bool, true, false, List, List-as-Memᴰ, ℕ, ◌-◌, ◌≤◌, ◌<◌, arith, T, length, get_or, Sum, empty, more, normal?, normal_sum, get_or_mem, mem_get_or, entry, Positive, Marked}

is_true : (b : Bool) → T b → b ≡ true
is_true true t = refl
is_true false t = absurd t

is_false : (b : Bool) → (T b → ⊥) → b ≡ false
is_false true n = absurd (n tt)
is_false false n = refl

-- 0 is a sum
pub sum_zero : (zs : List ℕ) → normal? zs 0 ≡ true
sum_zero zs = is_true (normal? zs 0) ((normal_sum zs 0).1 empty)

-- a side leads to x from a marked position, or it does not
abbrev pub Leads : List Bool → ℕ → ℕ → Type 0
Leads marks x s = (s ≤ x) × (get_or marks (x - s) false ≡ true)

abbrev pub Misses : List Bool → ℕ → ℕ → Type 0
Misses marks x s = s ≤ x → get_or marks (x - s) false ≡ true → ⊥

module _ (zs : List ℕ) (x : ℕ) (marks : List Bool) (positive : Positive (entry zs) (length zs)) (marked : Marked zs x marks) where
  -- a side leads to x from a marked position
  sum_found : (i : ℕ) → i < length zs → Leads marks x (get_or zs i 0) → normal? zs x ≡ true
  sum_found i l (g, e) =
      let s = get_or zs i 0 in
      let m : List-as-Memᴰ s zs = get_or_mem zs i 0 l in
      let t : T (normal? zs (x - s)) = subst T (sym (sym (marked (x - s) (omega (arith, positive i l, g))) ∙ e)) tt in
      is_true (normal? zs x) ((normal_sum zs x).1 (more {m = x} s m ((normal_sum zs (x - s)).0 t) (omega (arith, g))))

  -- no side does
  sum_missing : 1 ≤ x → ((i : ℕ) → i < length zs → Misses marks x (get_or zs i 0)) → normal? zs x ≡ false
  sum_missing p leads = is_false (normal? zs x) (λ t. go ((normal_sum zs x).0 t) refl)
    where
      go : {k : ℕ} → Sum zs k → k ≡ x → ⊥
      go empty e = omega arith
      go (more {n = k} a m s f) e =
          let i = mem_get_or zs a 0 m in
          let v : get_or zs i.0 0 ≡ a = i.2 in
          let z : x - get_or zs i.0 0 ≡ k = omega arith in
          leads i.0 i.1 (omega arith) (marked (x - get_or zs i.0 0) (omega (arith, positive i.0 i.1)) ∙ ap (normal? zs) z ∙ is_true (normal? zs k) ((normal_sum zs k).1 s))

  -- what the scan finds
  pub scanned : (b : Bool) → MatchBool b ((k : ℕ) × (k < length zs) × HoldsAt (Leads marks x) zs k) (AllWithin (Misses marks x) zs 0 (length zs)) → 1 ≤ x → b ≡ normal? zs x
  scanned true (k, l, h) p = sym (sum_found k l (h 0))
  scanned false h p = sym (sum_missing p (λ i l. h i 0 (omega arith) l))
