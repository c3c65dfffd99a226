-- Where no kind keeps its grain, the job is one whose pieces may all be turned or none, as the choice of turning says; where each keeps it,
-- one whose pieces may not.
use Rattle.cutting.proofs.Prelude.{◌≡◌, ap, Bool, true, false, ◌&&◌, not, ℕ, each, ways, Job, turns, widened, copies_on, plate_copies, ordered, members}

-- kinds that may be turned alike, all where b holds and else none
module _ (J : Job) (b : Bool) (alike : (i : ℕ) → turns J i ≡ b) where
  pub alike_members : members J ≡ each (ways b) (ordered J)
  unfolding members
  alike_members = λ k. each (λ i. ways (alike i k) i) (ordered J)

  pub alike_copies : (i : ℕ) → plate_copies J i ≡ copies_on b (widened J).plate ((widened J).size i)
  alike_copies i = ap (λ b. copies_on b (widened J).plate ((widened J).size i)) (alike i)

module _ (J : Job) where
  pub loose_turns : ((i : ℕ) → J.grain i ≡ false) → (i : ℕ) → turns J i ≡ J.turning
  loose_turns h i = ap (λ g. not g && J.turning) (h i)

  pub kept_turns : ((i : ℕ) → J.grain i ≡ true) → (i : ℕ) → turns J i ≡ false
  kept_turns h i = ap (λ g. not g && J.turning) (h i)
