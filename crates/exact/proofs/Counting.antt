-- The product of the demands, kind after kind.
use Rattle.exact.proofs.Prelude.{Bool, true, false, Checked, Answer, Ok, Err, Refusal, DemandProduct, refuse_when, first_refusal, state_check, state_count, ltb, lt-ltb, le-ltb, ltb-true, [], ◌∷◌, sym, ◌≡◌, refl, ◌∙◌, ap, List, ℕ, suc, ◌+◌, ◌-◌, ◌*◌, ◌≤◌, ◌<◌, mul-le-mul, ℕ_discrete, arith, length, get_or, set, get_or-set_same, get_or-set_other, Job, states, Multiplied, StatesCounted}
use Rattle.exact.proofs.States.{states_rise}
use Rattle.std.specs.Result.{IsErrAnd}
use Rattle.refusal.proofs.Results.{handed, refused_answer, given_answer}
use Rattle.job.proofs.Checks.{check_last}

-- one kind more
pub product_more : (f : ℕ → ℕ) (i : ℕ) {n k : ℕ} → n ≡ states f i → k ≡ f i → n * (k + 1) ≡ states f (suc i)
unfolding states
product_more f i e g = rw (e, g) refl

-- a product up to 4,096 times a demand plus 1
pub product_small : (n k : ℕ) → n ≤ 4096 → k ≤ 255 → n * (k + 1) ≤ 1048576
product_small n k h g = let l : k + 1 ≤ 256 = omega arith in mul-le-mul h l

-- a check that refuses: its condition holds
refused_true : (t : Bool) {r x : Refusal} → refuse_when t r ≡ Err x → (t ≡ true) × (x ≡ r)
refused_true true p = (refl, cc)
refused_true false p = (cc, cc)

-- a refusal is no value
unanswered : {A : Type 0} {x : Refusal} {q : ℕ} → Err x ≡ Ok q → A
unanswered e = cc

module _ (J : Job) where
  -- the verdict of the number of states
  by_count : first_refusal (state_check J ∷ []) ≡ refuse_when (ltb 4096 (state_count J)) DemandProduct
  by_count = sym (check_last _ _ refl)

  pub multiplied_none : (blocks : List ℕ) → Multiplied J 0 blocks
  multiplied_none blocks i h = absurd (omega arith)

  pub multiplied_more : (i v : ℕ) (blocks : List ℕ) → Multiplied J i blocks → i < length blocks → v ≡ states J.demand (suc i) → Multiplied J (i + 1) (set blocks i v)
  multiplied_more i v blocks m room e j h = go (ℕ_discrete j i)
    where
      go : Dec (j ≡ i) → get_or (set blocks i v) j 0 ≡ states J.demand (suc j)
      go (yes z) = rw z (get_or-set_same blocks i v 0 room ∙ e)
      go (no z) = get_or-set_other blocks i j v 0 z ∙ m j (omega arith)

  -- the product passed 4,096: so does the number of states
  pub counted_many : (i : ℕ) {n : ℕ} {blocks : List ℕ} {a : Checked} {x : Refusal} {r : Answer ℕ} → n ≡ states J.demand (suc i) → i < J.count → a ≡ refuse_when (ltb 4096 n) DemandProduct → a ≡ Err x → IsErrAnd r (λ y. y ≡ x) → StatesCounted J blocks r
  counted_many i {n} e l v f p =
      let t = refused_true (ltb 4096 n) (sym v ∙ f) in
      let k : suc i + (J.count - suc i) ≡ J.count = omega arith in
      let many : 4096 < state_count J = omega (arith, ltb-true 4096 n t.0, states_rise J.demand (suc i) (J.count - suc i), ap (states J.demand) k) in
      record {
        answer = refused_answer _ _ _ (by_count ∙ ap (λ b. refuse_when b DemandProduct) (lt-ltb 4096 (state_count J) many) ∙ ap Err (sym t.1)) p;
        listed = λ q f. unanswered (sym (handed _ p) ∙ f);
      }

  -- all kinds are counted
  pub counted_few : {n : ℕ} {blocks : List ℕ} → n ≡ states J.demand J.count → n ≤ 4096 → length blocks ≡ 64 → Multiplied J J.count blocks → StatesCounted J blocks (Ok (n - 1))
  counted_few e h l m = record {
    answer = given_answer _ _ (by_count ∙ ap (λ b. refuse_when b DemandProduct) (le-ltb 4096 (state_count J) (omega (arith, e)))) (ap (λ n. Ok (n - 1)) e);
    listed = λ q f. (m, l);
  }
