-- The plan behind a bound: following the order of choice gives the tree that the writer writes.
use Rattle.planner.proofs.Prelude.{◌≡◌, refl, sym, ◌∙◌, ap, ap₂, Bool, true, false, ◌&&◌, Option, none, some, List, [], ◌∷◌, List-as-Memᴰ, List·Memᴰ·head, List·Memᴰ·tail, ℕ, zero, suc, ◌+◌, ◌-◌, ◌≤◌, ◌<◌, arith, eqb, Direction, Length, Width, range, filter, first, pairs, side, Tree, Shares, Piece, kind, fits_in, Choice, as_waste, as_piece, as_cut, or_waste, or_length, or_piece, or_zero, or_first, cut_remains, Job, laid, widened, members, normal_side, normal_floor, mem_range, mem_filter, mem_pairs, floor_le, first_pair, plan_choice, choice_tree, plan_deep, plan_of, PlanFollows}
use Rattle.cutting.specs.Job as old
use Rattle.cutting.specs.Promises as old_trees
use Rattle.planner.proofs.Figures.{figure_is}

-- the choice reads the same figures
module _ {S : Type 0} (N : Job) (H : Shares Piece S) (l w : ℕ) (s : S) where
  pair_is : (d : Direction) → first_pair N H d l w s ≡ old.first_pair N H d l w s
  unfolding first_pair old.first_pair
  pair_is Length = λ i. first (λ u. eqb (figure_is N H u.0 w u.1.0 i + figure_is N H (l - u.0) w u.1.1 i) (figure_is N H l w s i)) (pairs (filter (normal_side N Length) (range 1 (normal_floor N Length l - 1))) (H.splits Length s))
  pair_is Width = λ i. first (λ u. eqb (figure_is N H l u.0 u.1.0 i + figure_is N H l (w - u.0) u.1.1 i) (figure_is N H l w s i)) (pairs (filter (normal_side N Width) (range 1 (normal_floor N Width w - 1))) (H.splits Width s))

  choice_is : plan_choice N H l w s ≡ old.plan_choice N H l w s
  unfolding plan_choice old.plan_choice
  choice_is = λ i. or_zero (eqb (figure_is N H l w s i) 0)
      (or_piece (first (λ p. (fits_in (laid N p) (l, w) && H.admits s p) && eqb (N.price (kind p)) (figure_is N H l w s i)) (members N)) (or_length (pair_is Length i) (or_waste (pair_is Width i))))

-- what holds of a member that is found
abbrev Of : {A : Type 0} → (A → Type 0) → Option A → Type 0
Of P none = Unit {0}
Of P (some x) = P x

of_by : {A : Type 0} (P : A → Type 0) (b : Bool) (x : A) (o : Option A) → P x → Of P o → Of P (elim b [ true ↦ some x | false ↦ o ])
of_by P true x o h k = h
of_by P false x o h k = k

first_of : {A : Type 0} (f : A → Bool) (P : A → Type 0) (xs : List A) → ((x : A) → List-as-Memᴰ x xs → P x) → Of P (first f xs)
unfolding first
first_of f P [] h = tt
first_of f P (x ∷ xs) h = of_by P (f x) x (first f xs) (h x (List·Memᴰ·head refl)) (first_of f P xs (λ y m. h y (List·Memᴰ·tail m)))

-- a choice that cuts cuts inside the rectangle
abbrev Inside : {S : Type 0} → ℕ → ℕ → Choice Piece S → Type 0
Inside l w as_waste = Unit {0}
Inside l w (as_piece p) = Unit {0}
Inside l w (as_cut Length x q) = (1 ≤ x) × (x < l)
Inside l w (as_cut Width x q) = (1 ≤ x) × (x < w)

module _ {S : Type 0} (l w : ℕ) where
  inside_by : (b : Bool) (p : Option Piece) (x y : Option (ℕ × (S × S))) → Of (λ u. (1 ≤ u.0) × (u.0 < l)) x → Of (λ u. (1 ≤ u.0) × (u.0 < w)) y
      → Inside l w (or_zero b (or_piece p (or_length x (or_waste y))))
  inside_by true p x y h k = tt
  inside_by false (some p) x y h k = tt
  inside_by false none (some u) y h k = h
  inside_by false none none (some u) h k = k
  inside_by false none none none h k = tt

module _ {S : Type 0} (N : Job) (H : Shares Piece S) (l w : ℕ) (s : S) where
  pair_inside : (d : Direction) → Of (λ u. (1 ≤ u.0) × (u.0 < side d (l, w))) (old.first_pair N H d l w s)
  unfolding old.first_pair
  pair_inside d = first_of (old.pair_earns N H d l w s) (λ u. (1 ≤ u.0) × (u.0 < side d (l, w))) _ (λ u m.
      (let a = mem_pairs u (filter (normal_side N d) (range 1 (normal_floor N d (side d (l, w)) - 1))) (H.splits d s) m in
      let b = mem_range 1 (normal_floor N d (side d (l, w)) - 1) u.0 (mem_filter (normal_side N d) (range 1 (normal_floor N d (side d (l, w)) - 1)) a.0).0 in
      (b.0, omega (arith, b.0, b.1, floor_le (normal_side N d) (side d (l, w))))))

  choice_inside : Inside l w (old.plan_choice N H l w s)
  unfolding old.plan_choice
  choice_inside = inside_by l w (eqb (old.figure_under N H l w s) 0) (first (old.laid_earns N H l w s) (members N)) (old.first_pair N H Length l w s) (old.first_pair N H Width l w s) (pair_inside Length) (pair_inside Width)

module _ {S : Type 0} (J : Job) (H : Shares Piece S) (follows : old_trees.PlanFollows J H) where
  -- the tree after a choice, where the plans of smaller parts are the writer's
  tree_is : (F : ℕ → ℕ → S → Tree Piece) (l w : ℕ) → l ≤ (widened J).plate.0 → w ≤ (widened J).plate.1
      → ((a b : ℕ) (s : S) → a + b < l + w → a ≤ (widened J).plate.0 → b ≤ (widened J).plate.1 → F a b s ≡ old.plan_of J H a b s)
      → (c : Choice Piece S) → Inside l w c → choice_tree J F l w c ≡ old.plan_after J H l w c
  tree_is F l w hl hw h as_waste k = refl
  tree_is F l w hl hw h (as_piece p) k = refl
  tree_is F l w hl hw h (as_cut Length x q) k = ap₂ (λ a b. or_first (cut_remains J.kerf (l - x)) Length (x - J.kerf) a b) (h x w q.0 (omega (arith, k)) (omega (arith, k)) hw) (h (l - x) w q.1 (omega (arith, k)) (omega (arith, k)) hw)
  tree_is F l w hl hw h (as_cut Width x q) k = ap₂ (λ a b. or_first (cut_remains J.kerf (w - x)) Width (x - J.kerf) a b) (h l x q.0 (omega (arith, k)) hl (omega (arith, k))) (h l (w - x) q.1 (omega (arith, k)) hl (omega (arith, k)))

  deep_is : (n l w : ℕ) (s : S) → l + w < n → l ≤ (widened J).plate.0 → w ≤ (widened J).plate.1 → plan_deep J H n l w s ≡ old.plan_of J H l w s
  unfolding plan_deep
  deep_is zero l w s h hl hw = absurd (omega arith)
  deep_is (suc n) l w s h hl hw = ap (choice_tree J (plan_deep J H n) l w) (choice_is (widened J) H l w s)
      ∙ (tree_is (plan_deep J H n) l w hl hw (λ a b u k ha hb. deep_is n a b u (omega arith) ha hb) (old.plan_choice (widened J) H l w s) (choice_inside (widened J) H l w s) ∙ sym (follows l w s hl hw))

  pub plan_is : (l w : ℕ) (s : S) → l ≤ (widened J).plate.0 → w ≤ (widened J).plate.1 → plan_of J H l w s ≡ old.plan_of J H l w s
  unfolding plan_of
  plan_is l w s hl hw = deep_is (suc (l + w)) l w s (omega arith) hl hw

  pub plan_follows : PlanFollows J H
  plan_follows l w s hl hw = plan_is l w s hl hw ∙ (follows l w s hl hw ∙ sym (ap (choice_tree J (plan_of J H) l w) (choice_is (widened J) H l w s)
      ∙ tree_is (plan_of J H) l w hl hw (λ a b u k ha hb. plan_is a b u ha hb) (old.plan_choice (widened J) H l w s) (choice_inside (widened J) H l w s)))
