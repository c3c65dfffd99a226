-- A cell that is made grows: nothing taken, one raise, and one after the other. A raise keeps the figures rising with the states, and the
-- flags cover them: a state that was overwritten is covered by the one that was raised.
use Rattle.states.proofs.Prelude.{◌≡◌, refl, sym, ◌∙◌, ap, subst, ◌⊎◌, inl, inr, Bool, true, List, ℕ, ◌+◌, ◌-◌, ◌≤◌, ◌<◌, ℕ_discrete, arith, T, le→leb, length, get_or, Outside, below, Order, Covers, figure_in, note_in, held, under, Digits, Rises, Growing, Lift, Raised, Flagged, Low, Grown, Taken}
use Rattle.states.proofs.Digits.{below_last, digits_order}
use Rattle.states.proofs.Noted.{figure_plain, figure_flagged, note_flagged}

pub outside_chain : (at end : ℕ) (old mid new : List ℕ) → Outside at end old mid → Outside at end mid new → Outside at end old new
outside_chain at end old mid new p q = record { before = λ i h. q.before i h ∙ p.before i h; after = λ i h. q.after i h ∙ p.after i h }

pub outside_same : (at end : ℕ) (xs : List ℕ) → Outside at end xs xs
outside_same at end xs = record { before = λ i h. refl; after = λ i h. refl }

-- the order of one digit is that of numbers
pub under_zero : (blocks : List ℕ) (d : ℕ) → d ≡ 0 → (t s : ℕ) → t ≤ s → T (under blocks d t s)
unfolding below
under_zero blocks d e t s h = rw e (le→leb t s h)

-- the order of a list of numbers of states
pub order_of : (blocks : List ℕ) (d words : ℕ) → Digits blocks d words → Order (under blocks d)
order_of blocks d words given = digits_order (λ i. get_or blocks i 0) d given.digits

-- every state is below the last one
pub last_state : (blocks : List ℕ) (d words : ℕ) → Digits blocks d words → (s : ℕ) → s < words → T (under blocks d s (words - 1))
last_state blocks d words given s h = rw given.states (below_last (λ i. get_or blocks i 0) d s given.digits (omega (arith, given.states)))

module _ (le : ℕ → ℕ → Bool) (at words : ℕ) where
  pub grown_none : (xs : List ℕ) → Grown le at words xs xs
  grown_none xs = record { more = λ s h. omega arith; rises = λ r. r; covers = λ g r c. c; rest = outside_same at (at + words) xs }

  pub grown_then : (old mid new : List ℕ) → Grown le at words old mid → Grown le at words mid new → Grown le at words old new
  grown_then old mid new p q = record {
    more = λ s h. omega (arith, p.more s h, q.more s h);
    rises = λ r. q.rises (p.rises r);
    covers = λ g r c. q.covers g (p.rises r) (p.covers g r c);
    rest = outside_chain at (at + words) old mid new p.rest q.rest;
  }

  module _ (order : Order le) (t v : ℕ) (old new : List ℕ) (ht : t < words) (hv : v < 2199023255552) (less : held old at t < v) (w : Raised le at words t v old new) where
    -- a word stays as it was, or its figure becomes v
    abbrev Case : ℕ → Type 0
    Case s = ((get_or new (at + s) 0 ≡ get_or old (at + s) 0) × (T (le t s) → v ≤ held old at s)) ⊎ ((held new at s ≡ v) × T (le t s) × (held old at s < v))

    case : (s : ℕ) → s < words → Case s
    case s h = go (ℕ_discrete s t)
      where
        other : Lift le t v s (get_or old (at + s) 0) (get_or new (at + s) 0) → Case s
        other (inl k) = inl k
        other (inr k) = inr (ap figure_in k.0 ∙ figure_plain v hv, k.1, k.2)

        go : Dec (s ≡ t) → Case s
        go (yes e) = inr (ap (λ s. held new at s) e ∙ (ap figure_in w.own ∙ figure_flagged v hv), rw e (order.same t), omega (arith, ap (λ s. held old at s) e))
        go (no e) = other (w.lifts s h e)

    own : held new at t ≡ v
    own = ap figure_in w.own ∙ figure_flagged v hv

    flagged : Flagged new at t
    flagged = omega (arith, ap note_in w.own, note_flagged v hv)

    more : (s : ℕ) → s < words → held old at s ≤ held new at s
    more s h = go (case s h)
      where
        go : Case s → held old at s ≤ held new at s
        go (inl k) = omega (arith, ap figure_in k.0)
        go (inr k) = omega (arith, k.0, k.2)

    rises : Rises le words (held old at) → Rises le words (held new at)
    rises r u s h l = go (case u (omega (arith, order.less u s l))) (case s h)
      where
        go : Case u → Case s → held new at u ≤ held new at s
        go (inl a) (inl b) = omega (arith, ap figure_in a.0, ap figure_in b.0, r u s h l)
        go (inl a) (inr b) = omega (arith, ap figure_in a.0, b.0, b.2, r u s h l)
        go (inr a) (inl b) = omega (arith, a.0, ap figure_in b.0, b.1 (order.chain t u s a.1 l))
        go (inr a) (inr b) = omega (arith, a.0, b.0)

    covers : (g : ℕ → ℕ) → Covers le words (Flagged old at) (held old at) g → Covers le words (Flagged new at) (held new at) g
    covers g c s h = go (case s h) (c s h)
      where
        kept : (get_or new (at + s) 0 ≡ get_or old (at + s) 0) × (T (le t s) → v ≤ held old at s) → (u : ℕ) → u < words → T (le u s) → Flagged old at u → held old at s ≤ held old at u → Case u
            → (held new at s ≤ g s) ⊎ ((u : ℕ) × (u < words) × T (le u s) × Flagged new at u × (held new at s ≤ held new at u))
        kept k u l b f m (inl a) = inr (u, l, b, omega (arith, ap note_in a.0), omega (arith, ap figure_in k.0, ap figure_in a.0))
        kept k u l b f m (inr a) = absurd (omega (arith, k.1 (order.chain t u s a.1 b), a.2))

        go : Case s → (held old at s ≤ g s) ⊎ ((u : ℕ) × (u < words) × T (le u s) × Flagged old at u × (held old at s ≤ held old at u))
            → (held new at s ≤ g s) ⊎ ((u : ℕ) × (u < words) × T (le u s) × Flagged new at u × (held new at s ≤ held new at u))
        go (inl k) (inl m) = inl (omega (arith, ap figure_in k.0))
        go (inl k) (inr m) = kept k m.0 m.1 m.2 m.3 m.4 (case m.0 m.1)
        go (inr k) m = inr (t, ht, k.1, flagged, omega (arith, k.0, own))

    pub raised_grown : Grown le at words old new
    raised_grown = record { more = more; rises = rises; covers = λ g r c. covers g c; rest = w.rest }

    pub raised_own : v ≤ held new at t
    raised_own = omega (arith, own)

    pub raised_low : (f : ℕ → ℕ) → Rises le words f → v ≤ f t → Low f at words old → Low f at words new
    raised_low f r l low s h = go (case s h)
      where
        go : Case s → held new at s ≤ f s
        go (inl k) = omega (arith, ap figure_in k.0, low s h)
        go (inr k) = omega (arith, k.0, r t s h k.1)

  -- the state is raised
  pub taken_raised : (t u v : ℕ) (old new : List ℕ) → Order le → t + u < words → v < 2199023255552 → held old at (t + u) < v → T (le t (t + u)) → Raised le at words (t + u) v old new → Taken le at words t u v old new
  taken_raised t u v old new order h l less b w = record {
    grown = raised_grown order (t + u) v old new h l less w;
    taken = λ _ _. raised_own order (t + u) v old new h l less w;
    low = λ f r m low. raised_low order (t + u) v old new h l less w f r (m h b) low;
  }

-- a test that came out true
pub test_true : (r b : Bool) → r ≡ b → r ≡ true → T b
test_true r b e f = subst T (sym (sym e ∙ f)) tt

-- a cell that has grown goes on growing
pub growing_kept : {blocks : List ℕ} {d words at : ℕ} {old new : List ℕ} → Growing blocks d words at old → length new ≡ length old → Grown (under blocks d) at words old new → Growing blocks d words at new
growing_kept g e w = record { digits = g.digits; room = omega (arith, g.room); rises = w.rises g.rises }
