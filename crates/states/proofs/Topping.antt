-- Which states can be flagged: one step after another, a raise, a flag set; and the number that all of them lie below.
use Rattle.states.proofs.Prelude.{◌≡◌, ap, ◌⊎◌, inl, inr, Bool, List, ℕ, ◌+◌, ◌<◌, max, ℕ_discrete, arith, get_or, set, get_or-set_other, note_in, Lift, Raised, Flagged, Topped}
use Rattle.states.proofs.Noted.{note_plain}

module _ (at words : ℕ) where
  pub topped_then : (a b c : ℕ) (xs ys zs : List ℕ) → Topped at words a b xs ys → Topped at words b c ys zs → Topped at words a c xs zs
  topped_then a b c xs ys zs p q = record {
    more = omega (arith, p.more, q.more);
    most = λ h. q.most (p.most h);
    flags = λ t h f. go t h (q.flags t h f);
  }
    where
      go : (t : ℕ) → t < words → Flagged ys at t ⊎ (t < c) → Flagged xs at t ⊎ (t < c)
      go t h (inr l) = inr l
      go t h (inl f) = back (p.flags t h f)
        where
          back : Flagged xs at t ⊎ (t < b) → Flagged xs at t ⊎ (t < c)
          back (inl g) = inl g
          back (inr l) = inr (omega (arith, q.more))

  -- only state t can be flagged anew
  one_flag : (top high t : ℕ) (old new : List ℕ) → high ≡ max top (t + 1) → t < words → ((s : ℕ) → s < words → (s ≡ t → ⊥) → Flagged new at s → Flagged old at s) → Topped at words top high old new
  one_flag top high t old new e h f = record { more = omega arith; most = λ l. omega arith; flags = λ s l g. go s l g (ℕ_discrete s t) }
    where
      go : (s : ℕ) → s < words → Flagged new at s → Dec (s ≡ t) → Flagged old at s ⊎ (s < high)
      go s l g (yes z) = inr (omega arith)
      go s l g (no z) = inl (f s l z g)

  -- a state is raised
  pub topped_raised : (le : ℕ → ℕ → Bool) (top high t v : ℕ) (old new : List ℕ) → high ≡ max top (t + 1) → t < words → v < 2199023255552 → Raised le at words t v old new → Topped at words top high old new
  topped_raised le top high t v old new e h l w = one_flag top high t old new e h (λ s m z f. go s f (w.lifts s m z))
    where
      go : (s : ℕ) → Flagged new at s → Lift le t v s (get_or old (at + s) 0) (get_or new (at + s) 0) → Flagged old at s
      go s f (inl k) = omega (arith, ap note_in k.0)
      go s f (inr k) = absurd (omega (arith, ap note_in k.0, note_plain v l))

  -- a state is flagged
  pub topped_set : (top high t w : ℕ) (xs : List ℕ) → high ≡ max top (t + 1) → t < words → Topped at words top high xs (set xs (at + t) w)
  topped_set top high t w xs e h = one_flag top high t xs (set xs (at + t) w) e h (λ s m z f. omega (arith, ap note_in (get_or-set_other xs (at + t) (at + s) w 0 (λ y. z (omega arith)))))
