-- What a certificate says of the checks, the profit and the bound behind it, for any bound and any trees that a plan is compared with.
use Rattle.certificate.proofs.Prelude.{◌≡◌, refl, sym, ◌∙◌, ap, ap₂, subst, Bool, true, false, [], ◌∷◌, ℕ, ◌+◌, ◌-◌, ◌≤◌, arith, eqb, eqb-true, eqb-false, outcome_by, compared, certificate_values, compared_values, certificate_outcome, BestAmong, GapAmong, Ok, Err, passed, Checked, answer_by, value_answered}
use Rattle.promises.specs.Calls as calls
use Rattle.promises.specs.declared.Certificate.TheVariants as certificate

-- best: the profit is the bound
best_equal : (profit bound n : ℕ) → certificate.Best n ≡ compared profit bound → (profit ≡ n) × (bound ≡ n)
best_equal profit bound n e = go (eqb profit bound) refl e
  where
    go : (b : Bool) → eqb profit bound ≡ b → certificate.Best n ≡ calls.compared b (profit, bound) → (profit ≡ n) × (bound ≡ n)
    go true t e = let p : profit ≡ n = cc in (p, sym (eqb-true profit bound t) ∙ p)
    go false t e = (cc, cc)

-- gap: the bound less the profit, which is another number
pub gap_differs : (profit bound n g : ℕ) → certificate.Gap n g ≡ compared profit bound → (profit ≡ n) × (bound - profit ≡ g) × (profit ≡ bound → ⊥)
gap_differs profit bound n g e = go (eqb profit bound) refl e
  where
    go : (b : Bool) → eqb profit bound ≡ b → certificate.Gap n g ≡ calls.compared b (profit, bound) → (profit ≡ n) × (bound - profit ≡ g) × (profit ≡ bound → ⊥)
    go true t e = let z : ◌≡◌ {A = ℕ} 0 1 = cc in absurd (omega arith)
    go false t e = (cc, cc, eqb-false profit bound t)

-- a comparison's values: the bound less the profit, the bound and the profit
compared_said : (p b : ℕ) → p ≤ b → certificate_values (compared p b) ≡ compared_values p b
compared_said p b h = go (eqb p b) refl
  where
    go : (x : Bool) → eqb p b ≡ x → certificate_values (calls.compared x (p, b)) ≡ compared_values p b
    go true e = let f = eqb-true p b e in ap₂ (λ x y. x ∷ y ∷ p ∷ []) (omega (arith, f)) f
    go false e = let f : p + (b - p) ≡ b = omega arith in ap (λ y. (b - p) ∷ y ∷ p ∷ []) f

-- an answer's number and values, where the checks' verdict decides
pub certificate_says : (v : Checked) (p b : ℕ) → (v ≡ passed → p ≤ b) → certificate_outcome (answer_by v (compared p b)) ≡ outcome_by v (compared_values p b)
certificate_says (Ok _) p b h = ap (λ xs. (0, xs)) (compared_said p b (h refl))
certificate_says (Err r) p b h = refl

-- where the checks pass, a plan earns its profit, at most a bound that no tree passes
module _ (Earned None : ℕ → Type 0) (v : Checked) (profit bound : ℕ) (holds : v ≡ passed → Earned profit × (profit ≤ bound) × None bound) where
  -- then "best" holds
  pub best_among : BestAmong Earned None bound (answer_by v (compared profit bound))
  best_among n e =
      let a = value_answered v (compared profit bound) e in
      let f = best_equal profit bound n a.1 in
      let p = holds a.0 in
      (subst Earned f.0 p.0, sym f.1, subst None f.1 p.2)

  -- and so does a gap
  pub gap_among : GapAmong Earned None bound (answer_by v (compared profit bound))
  gap_among n gap e =
      let a = value_answered v (compared profit bound) e in
      let f = gap_differs profit bound n gap a.1 in
      let p = holds a.0 in
      let sum : n + gap ≡ bound = omega (arith, f.0, f.1, p.1) in
      (subst Earned f.0 p.0, omega (arith, f.1, p.1, f.2), sum, subst None (sym sum) p.2)
