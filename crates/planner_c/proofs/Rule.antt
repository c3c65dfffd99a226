-- The rule of every exported function: stopped, it changes nothing; called, it has an answer with the promise of the proved call, its number
-- and its words.
use Rattle.planner_c.proofs.Prelude.{◌≡◌, refl, sym, ◌∙◌, ap, ap₂, subst, Bool, true, false, List, ℕ, ◌≤◌, ◌<◌, arith, ltb, length, ltb-false, ltb-true, lt-ltb, le-ltb, Choices, Outcome, choices_of, Words, words, InC, Gives, Ok, Err, started_by, started, number_of, Stop}
use Rattle.planner_c.specs.declared.choices.Stop.TheVariants.{Short, Unknown}

module _ (n word : ℕ) (old : List ℕ) where
  -- the call as its two tests find it
  abbrev begun : Bool → Bool → Type 0
  begun short unknown = started n (length old) word ≡ started_by short unknown (choices_of word)

  by_short : length old < n → started n (length old) word ≡ Err Short
  by_short l = ap (λ b. started_by b (ltb 15 word) (choices_of word)) (lt-ltb (length old) n l)

  by_unknown : n ≤ length old → 15 < word → started n (length old) word ≡ Err Unknown
  by_unknown l u = ap₂ (λ a b. started_by a b (choices_of word)) (le-ltb (length old) n l) (lt-ltb 15 word u)

  by_both : n ≤ length old → word ≤ 15 → started n (length old) word ≡ Ok (choices_of word)
  by_both l u = ap₂ (λ a b. started_by a b (choices_of word)) (le-ltb (length old) n l) (le-ltb 15 word u)

  -- a call that is stopped
  pub halted : {A L : Type 0} {said : A → Outcome} {m : L} {Promise : Choices → A → Type 0} {number : ℕ} (s : Stop) → started n (length old) word ≡ Err s → number ≡ number_of s → InC n said (words word old old number) m m Promise
  halted s e f = record {
    short = λ l. (let g : ◌≡◌ {A = Stop} s Short = cc (e, by_short l) in f ∙ ap number_of g, refl, refl);
    unknown = λ l u. (let g : ◌≡◌ {A = Stop} s Unknown = cc (e, by_unknown l u) in f ∙ ap number_of g, refl, refl);
    answered = λ l u. cc (e, by_both l u);
  }

  -- a call that goes on has its words
  pub enough : {c : Choices} → started n (length old) word ≡ Ok c → n ≤ length old
  enough e = go (ltb (length old) n) refl e
    where
      go : (short : Bool) → ltb (length old) n ≡ short → {c : Choices} → started_by short (ltb 15 word) (choices_of word) ≡ Ok c → n ≤ length old
      go true s e = cc
      go false s e = ltb-false (length old) n s

  -- and its promise, number and words
  pub met : {A L : Type 0} {said : A → Outcome} {m m' : L} {Promise : Choices → A → Type 0} {number : ℕ} {new : List ℕ} {c : Choices} → started n (length old) word ≡ Ok c → (r : A) → Promise c r → Gives (said r) number old new
      → InC n said (words word old new number) m m' Promise
  met {Promise = Promise} e r p g = record {
    short = λ l. cc (e, by_short l);
    unknown = λ l u. cc (e, by_unknown l u);
    answered = λ l u. (let f : ◌≡◌ {A = Choices} _ (choices_of word) = cc (e, by_both l u) in (r, subst (λ c. Promise c r) f p, g.0, g.1));
  }

-- a call with another promise that the first gives
pub mapped : {A L : Type 0} {k : ℕ} {said : A → Outcome} {w : Words} {m n : L} {P Q : Choices → A → Type 0} → ((r : A) → P (choices_of w.choices) r → Q (choices_of w.choices) r) → InC k said w m n P → InC k said w m n Q
mapped f c = record { short = c.short; unknown = c.unknown; answered = λ l u. (let a = c.answered l u in (a.0, f a.0 a.1, a.2, a.3)) }
