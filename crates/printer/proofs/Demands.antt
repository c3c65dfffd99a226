-- What the verdict of a plan's check says about the demands.
use Rattle.printer.proofs.Prelude.{◌≡◌, refl, sym, ap, subst, true, false, List, ℕ, Job, Refusal, ChecksPlan, DemandsKept, Ok, Err, Answer, Report, verdict_of, is_ok}

module _ {JobPassed : Type 0} {J : Job} {ks os : List ℕ} {old a : Answer Report} where
  -- a plan that passed keeps every demand
  pub kept : {s : Report} → ChecksPlan JobPassed J ks os old a → a ≡ Ok s → DemandsKept JobPassed J ks os true
  kept {s} w p = record { passed = λ h. w.before (ap verdict_of p); tree = λ h. (let t = w.tree s p in (t.0, t.1)); complete = λ b t h. refl }

  -- a plan that is refused is of no tree that keeps every demand, or its job is refused
  pub exceeded : {r : Refusal} → ChecksPlan JobPassed J ks os old a → a ≡ Err r → DemandsKept JobPassed J ks os false
  exceeded w p = record { passed = λ h. cc; tree = λ h. cc; complete = λ b t h. cc (w.passes b t h, ap verdict_of p) }

  -- so of the answer: it is a value
  pub judged : ChecksPlan JobPassed J ks os old a → DemandsKept JobPassed J ks os (is_ok a)
  judged w = go a refl
    where
      go : (b : Answer Report) → a ≡ b → DemandsKept JobPassed J ks os (is_ok a)
      go (Ok s) e = subst (λ t. DemandsKept JobPassed J ks os t) (sym (ap is_ok e)) (kept w e)
      go (Err r) e = subst (λ t. DemandsKept JobPassed J ks os t) (sym (ap is_ok e)) (exceeded w e)
