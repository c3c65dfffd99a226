-- The pieces of exactly a cell's size: what a loop over the kinds has taken, one kind more, and a kind of another size.
use Rattle.state_cells.proofs.Prelude.{◌≡◌, Bool, List, ℕ, ◌+◌, ◌≤◌, ◌<◌, ℕ_discrete, arith, T, Job, held, Taken, grown_then, Placed}

module _ (le : ℕ → ℕ → Bool) (at words : ℕ) (J : Job) (own : ℕ → ℕ) (l w : ℕ) where
  -- a kind of another size is passed over
  pub placed_other : (i : ℕ) (old new : List ℕ) → ((J.size i).0 ≡ l → (J.size i).1 ≡ w → ⊥) → Placed le J own i l w at words old new → Placed le J own (i + 1) l w at words old new
  placed_other i old new h p = record {
    grown = p.grown;
    taken = λ j k a b c. go j k a b c (ℕ_discrete j i);
    low = λ f r s low. p.low f r (λ j k. s j (omega arith)) low;
  }
    where
      go : (j : ℕ) → j < i + 1 → (J.size j).0 ≡ l → (J.size j).1 ≡ w → own j < words → Dec (j ≡ i) → J.price j ≤ held new at (own j)
      go j k a b c (yes e) = absurd (h (rw e at a) (rw e at b))
      go j k a b c (no e) = p.taken j (omega arith) a b c

  pub placed_more : (i t v : ℕ) (old mid new : List ℕ) → ((s : ℕ) → T (le s s)) → (J.size i).0 ≡ l → (J.size i).1 ≡ w → t ≡ own i → v ≡ J.price i
      → Placed le J own i l w at words old mid → Taken le at words t 0 v mid new → Placed le J own (i + 1) l w at words old new
  placed_more i t v old mid new refl_le a b state price p q = record {
    grown = grown_then le at words old mid new p.grown q.grown;
    taken = λ j k x y c. go j k x y c (ℕ_discrete j i);
    low = λ f r s low. q.low f r (λ h u. rw (here, price) (s i (omega arith) a b (omega arith))) (p.low f r (λ j k. s j (omega arith)) low);
  }
    where
      here : t + 0 ≡ own i
      here = omega arith

      go : (j : ℕ) → j < i + 1 → (J.size j).0 ≡ l → (J.size j).1 ≡ w → own j < words → Dec (j ≡ i) → J.price j ≤ held new at (own j)
      go j k x y c (no e) = omega (arith, p.taken j (omega arith) x y c, q.grown.more (own j) c)
      go j k x y c (yes e) =
          let c' : own i < words = rw e at c in
          rw e (rw (here, price) at (q.taken (omega arith) (rw (here, state) (refl_le (own i)))))
