-- The plan of an array of pieces, as the saw cuts it: its recursion, and that it is the plan of the job whose widened pieces the array
-- holds, since both make the same choices.
use Rattle.cutting.proofs.Prelude.{◌≡◌, refl, sym, ◌∙◌, ap, ap₂, Bool, List, map, ℕ, zero, suc, ◌+◌, ◌-◌, ◌*◌, ◌/◌, ◌%◌, ◌≤◌, ◌<◌, arith, leb, le→leb, Direction, Length, Width, Rect, side, part, Tree, waste, piece, cut, Shares, Monotone, range, filter, half_perimeter, by_weight, by_state, Piece, upright, turned, kind, ◌⊑◌, Choice, as_waste, as_piece, as_cut, cut_remains, or_first, sawn, Job, widened, lossless_plan, plan_of, plan_choice, SolidKinds, size_in, price_in, listed_weight, node_in, node_number, member_at, pieces_job, PieceArray, numbered_piece, laid_tree, array_shares, array_plan}
use Rattle.cutting.proofs.Lists.{mem_range, filter_all}
use Rattle.cutting.proofs.Enlarge.{part_within}
use Rattle.cutting.proofs.Members.{member_kind, widened_solid}
use Rattle.cutting.proofs.Plan.{lossless_after, lossless_recursion}
use Rattle.cutting.proofs.Sound.{Sound, choice_sound}
use Rattle.cutting.proofs.Listed.{renamed, state_choice, listed_above}

-- a piece is known by the number of its node
number_piece : (p : Piece) → numbered_piece (node_number p) ≡ p
number_piece (upright i) =
    let m : 2 * i % 2 ≡ 0 = omega arith in
    let d : 2 * i / 2 ≡ i = omega arith in
    rw (m, d) refl
number_piece (turned i) =
    let m : (2 * i + 1) % 2 ≡ 1 = omega arith in
    let d : (2 * i + 1) / 2 ≡ i = omega arith in
    rw (m, d) refl

-- the plan of an array after a choice: a cut at its position less k, or the first part's plan where the second part would be below 1
module _ (le : ℕ → ℕ → Bool) (k : ℕ) (plate : Rect) (n : ℕ) (pieces : List ℕ) where
  abbrev pub array_after : Rect → Choice Piece ℕ → Tree Piece
  array_after r as_waste = waste
  array_after r (as_piece p) = piece (numbered_piece (node_in pieces (kind p)))
  array_after r (as_cut d x q) =
      or_first (cut_remains k (side d r - x)) d (x - k) (array_plan le k plate n pieces (part d x r) q.0) (array_plan le k plate n pieces (part d (side d r - x) r) q.1)

  laid_after : (r : Rect) (u : Choice Piece ℕ) → sawn k r (laid_tree pieces (lossless_after (pieces_job plate n pieces) (array_shares le pieces) r u)) ≡ array_after r u
  unfolding sawn
  laid_after r as_waste = refl
  laid_after r (as_piece p) = refl
  laid_after r (as_cut d x q) = refl

  -- the plan of an array, from the choice at a rectangle and a share downward
  pub array_recursion : Monotone (array_shares le pieces) → SolidKinds (pieces_job plate n pieces) → (r : Rect) (c : ℕ) → r ⊑ plate
      → array_plan le k plate n pieces r c ≡ array_after r (plan_choice (pieces_job plate n pieces) (array_shares le pieces) r.0 r.1 c)
  array_recursion mono solid r c on = ap (λ t. sawn k r (laid_tree pieces t)) (lossless_recursion (pieces_job plate n pieces) (array_shares le pieces) mono solid r c on)
      ∙ laid_after r (plan_choice (pieces_job plate n pieces) (array_shares le pieces) r.0 r.1 c)

-- a part with less on the side that is cut has a smaller half perimeter
less_part : (d : Direction) (x : ℕ) (r : Rect) → x < side d r → half_perimeter (part d x r) < half_perimeter r
less_part Length x r h = omega arith
less_part Width x r h = omega arith

module _ (le : ℕ → ℕ → Bool) (mono : (own : Piece → ℕ) → Monotone (by_state le own)) (J : Job) (own : ℕ → ℕ) (n : ℕ) (pieces : List ℕ) (array : PieceArray J own n pieces) (solid : SolidKinds J) where
  -- the plain job of the pieces
  abbrev N : Job
  N = pieces_job J.plate n pieces

  -- the shares of the job
  abbrev kinds : Shares Piece ℕ
  kinds = by_state le (λ p. own (kind p))

  -- the plans without loss of a rectangle and a state are the same
  abbrev Same : Rect → ℕ → Type 0
  Same r c = laid_tree pieces (lossless_plan N (array_shares le pieces) r c) ≡ lossless_plan J kinds r c

  -- after a choice they are, if those of the parts are
  after_same : (r : Rect) (c : ℕ) → ((q : Rect) (k : ℕ) → half_perimeter q < half_perimeter r → q ⊑ r → Same q k) → (u : Choice Piece ℕ) → Sound N (array_shares le pieces) r.0 r.1 c u
      → laid_tree pieces (lossless_after N (array_shares le pieces) r u) ≡ lossless_after J kinds r (renamed (λ p. member_at J (kind p)) u)
  after_same r c less as_waste s = refl
  after_same r c less (as_piece p) s = ap piece (ap numbered_piece (array.nodes (kind p) (member_kind N p s)) ∙ number_piece (member_at J (kind p)))
  after_same r c less (as_cut d x q) s = ap₂ (λ a b. cut d x a b) (part_same x q.0 (omega (arith, s.1))) (part_same (side d r - x) q.1 (omega (arith, s.0, s.1)))
    where
      part_same : (y k : ℕ) → y < side d r → Same (part d y r) k
      part_same y k h = less (part d y r) k (less_part d y r h) (part_within d y r r (omega arith) (omega arith))

  by_half : (m : ℕ) (r : Rect) (c : ℕ) → half_perimeter r < m → r ⊑ J.plate → Same r c
  by_half zero r c k on = absurd (omega arith)
  by_half (suc m) r c k on =
      ap (laid_tree pieces) (lossless_recursion N (array_shares le pieces) (mono _) (listed_above J own n (size_in pieces) (price_in pieces) (listed_weight pieces) array.listing 0 solid) r c on)
      ∙ after_same r c (λ q e less a. by_half m q e (omega arith) (omega arith)) (plan_choice N (array_shares le pieces) r.0 r.1 c) (choice_sound N (array_shares le pieces) r.0 r.1 c)
      ∙ sym (lossless_recursion J kinds (mono _) solid r c on
      ∙ ap (lossless_after J kinds r) (state_choice J own n (size_in pieces) (price_in pieces) (listed_weight pieces) array.listing le r.0 r.1 c))

  -- on the plate
  lossless_same : (r : Rect) (c : ℕ) → r ⊑ J.plate → Same r c
  lossless_same r c on = by_half (suc (half_perimeter r)) r c (omega arith) on

-- the plan of the array of a widened job's pieces is the job's own plan
pub laid_plan : (le : ℕ → ℕ → Bool) → ((own : Piece → ℕ) → Monotone (by_state le own)) → (J : Job) (own : ℕ → ℕ) (n : ℕ) (pieces : List ℕ) → PieceArray (widened J) own n pieces → SolidKinds J
    → (l w c : ℕ) → l ≤ (widened J).plate.0 → w ≤ (widened J).plate.1 → array_plan le J.kerf (widened J).plate n pieces (l, w) c ≡ plan_of J (by_state le (λ p. own (kind p))) l w c
unfolding plan_of
laid_plan le mono J own n pieces array solid l w c on_length on_width = ap (sawn J.kerf (l, w)) (lossless_same le mono (widened J) own n pieces array (widened_solid J solid) (l, w) c (on_length, on_width))

-- plain numbers are divided as by weight
pub plain_states : {P : Type 0} (weight : P → ℕ) → by_state leb weight ≡ by_weight weight
unfolding by_state by_weight
plain_states weight = λ i. record { admits = λ s p. leb (weight p) s; splits = λ d s. map (λ t. (t, s - t)) (all s i) }
  where
    all : (s : ℕ) → filter (λ t. leb t s) (range 0 (suc s)) ≡ range 0 (suc s)
    all s = filter_all (λ t. leb t s) (range 0 (suc s)) (λ t m. le→leb t s (omega (arith, mem_range 0 (suc s) t m)))
