-- A limit of stages in plain words: the blocks' equations, normal positions, the bound's exactness within limit and capacity, the listed
-- pieces, and the stages of a tree as the most of a path. The blocks are the figures of the theory's stage limit (proofs/Stages).
use Rattle.cutting.proofs.Prelude.{◌≡◌, refl, sym, ◌∙◌, ap, ap₂, ⊎_elim, List, [], ◌∷◌, ◌++◌, map, ℕ, zero, suc, ◌+◌, ◌-◌, ◌/◌, ◌≤◌, ◌<◌, max, sub-zero, arith, Direction, Length, Width, most_figure, range, filter, greatest, Rect, side, Tree, waste, piece, cut, Monotone, leaf, best, figure, Piece, kind, sized, saw, saw_half, by_weight, other, change, staged, stages, stages_below, root, Job, laid, OnPlate, profit, weight_of, widened, capacity, members, pieces, by_kind, bound_of, normal_side, normal_floor, SolidKinds, InRange, plain, Listing, paths, changes, path_stages, no_cut, cuts_between, along, block, staged_under, staged_bound, WithinStages, NoneStaged, MostStaged, StagedRecursion, StagedFloors, OfBlock, StagedFiguresMost}
use Rattle.cutting.proofs.Lists.{mem_range}
use Rattle.cutting.proofs.Greatest.{max_is, greatest_map, greatest_cong, greatest_zero, greatest_append}
use Rattle.cutting.proofs.Saws.{saw_proper}
use Rattle.cutting.proofs.Weights.{within_weight, weight_within, by_weight_monotone, by_weight_symmetric}
use Rattle.cutting.proofs.Reduction.{floor_figure}
use Rattle.cutting.proofs.Members.{members_solid, range_solid}
use Rattle.cutting.proofs.AnyKinds.{ordered_on}
use Rattle.cutting.proofs.Stages as theory
use Rattle.cutting.proofs.Recursion.{figure_same}
use Rattle.cutting.proofs.Table.{sides_suffice}
use Rattle.cutting.proofs.Bound.{share_figure, demands_weight, bound_most, bound_ceiling}
use Rattle.cutting.proofs.Listed.{greatest_listed}

-- cuts read smaller sides alone
cuts_cong : (d : Direction) (F G : ℕ → ℕ → ℕ → ℕ) (l w c : ℕ) → ((l' w' a : ℕ) → side d (l', w') < side d (l, w) → F l' w' a ≡ G l' w' a)
    → cuts_between d F l w c ≡ cuts_between d G l w c
cuts_cong Length F G l w c h = greatest_cong _ _ (range 1 (l - 1)) (λ x m.
    (let k = mem_range 1 (l - 1) x m in greatest_cong _ _ (range 0 (suc c)) (λ a i. ap₂ ◌+◌ (h x w a (omega arith)) (h (l - x) w (c - a) (omega arith)))))
cuts_cong Width F G l w c h = greatest_cong _ _ (range 1 (w - 1)) (λ x m.
    (let k = mem_range 1 (w - 1) x m in greatest_cong _ _ (range 0 (suc c)) (λ a i. ap₂ ◌+◌ (h l x a (omega arith)) (h l (w - x) (c - a) (omega arith)))))

-- a side of 0 has no cut
cuts_none : (d : Direction) (F : ℕ → ℕ → ℕ → ℕ) (l w c : ℕ) → side d (l, w) ≤ 0 → cuts_between d F l w c ≡ 0
cuts_none Length F l w c h = greatest_zero _ (range 1 (l - 1)) (λ x m. (let k = mem_range 1 (l - 1) x m in absurd (omega arith)))
cuts_none Width F l w c h = greatest_zero _ (range 1 (w - 1)) (λ x m. (let k = mem_range 1 (w - 1) x m in absurd (omega arith)))

-- the stages of a path below a cut
abbrev below_cut : Direction → List Direction → ℕ
below_cut d [] = 0
below_cut d (e ∷ p) = change d e + path_stages (e ∷ p)

path_more : (d : Direction) (p : List Direction) → path_stages (d ∷ p) ≡ max 1 (below_cut d p)
unfolding changes
path_more d [] = refl
path_more d (e ∷ p) = omega arith

greatest_more : (k : ℕ) (f : List Direction → ℕ) (p : List Direction) (ps : List (List Direction))
    → greatest (λ p. k + max 1 (f p)) (p ∷ ps) ≡ k + max 1 (greatest f (p ∷ ps))
unfolding greatest
greatest_more k f p [] = omega arith
greatest_more k f p (q ∷ ps) = ap (max (k + max 1 (f p))) (greatest_more k f q ps) ∙ joined k (f p) (greatest f (q ∷ ps))
  where
    joined : (k a b : ℕ) → max (k + max 1 a) (k + max 1 b) ≡ k + max 1 (max a b)
    joined k a b = omega arith

-- the stages of a tree are the most of a path
module _ {P : Type 0} where
  -- a tree has a path
  paths_some : (t : Tree P) → (p : List Direction) × (ps : List (List Direction)) × (paths t ≡ p ∷ ps)
  unfolding paths
  paths_some waste = ([], [], refl)
  paths_some (piece p) = ([], [], refl)
  paths_some (cut d x a b) = let e = paths_some a in (d ∷ e.0, map (λ p. d ∷ p) (e.1 ++ paths b), ap (λ ps. map (λ p. d ∷ p) (ps ++ paths b)) e.2)

  -- the most of the paths through a cut
  through_cut : (k : ℕ) (d : Direction) (a b : Tree P) → greatest (λ p. k + path_stages (d ∷ p)) (paths a ++ paths b) ≡ k + max 1 (max (greatest (below_cut d) (paths a)) (greatest (below_cut d) (paths b)))
  through_cut k d a b =
      let e = paths_some a in
      greatest_cong _ _ (paths a ++ paths b) (λ p m. ap (λ n. k + n) (path_more d p))
      ∙ (rw e.2 (greatest_more k (below_cut d) e.0 (e.1 ++ paths b)) ∙ ap (λ n. k + max 1 n) (greatest_append (below_cut d) (paths a) (paths b)))

  below_paths : (t : Tree P) (d : Direction) → stages_below d t ≡ greatest (below_cut d) (paths t)
  unfolding stages_below paths greatest
  below_paths waste d = refl
  below_paths (piece p) d = refl
  below_paths (cut e x a b) d = ap (λ n. change d e + max 1 n) (ap₂ max (below_paths a e) (below_paths b e))
      ∙ sym (greatest_map (below_cut d) (λ p. e ∷ p) (paths a ++ paths b) ∙ through_cut (change d e) e a b)

  pub stages_paths : (t : Tree P) → stages t ≡ greatest path_stages (paths t)
  unfolding stages paths greatest
  stages_paths waste = refl
  stages_paths (piece p) = refl
  stages_paths (cut e x a b) = ap₂ (λ m n. max 1 (max m n)) (below_paths a e) (below_paths b e)
      ∙ (none ∙ sym (greatest_map path_stages (λ p. e ∷ p) (paths a ++ paths b) ∙ (greatest_cong _ _ (paths a ++ paths b) (λ p m. from (path_stages (e ∷ p))) ∙ through_cut 0 e a b)))
    where
      from : (n : ℕ) → n ≡ 0 + n
      from n = omega arith

      none : max 1 (max (greatest (below_cut e) (paths a)) (greatest (below_cut e) (paths b))) ≡ 0 + max 1 (max (greatest (below_cut e) (paths a)) (greatest (below_cut e) (paths b)))
      none = omega arith

module _ (J : Job) (weight : ℕ → ℕ) where
  -- the theory's figure of a block
  abbrev F : Direction → ℕ → ℕ → ℕ → ℕ → ℕ
  F d k l w c = figure (pieces J) (saw 0) (staged (by_kind weight)) (l, w) (d, k, c)

  none : (d : Direction) (l w c : ℕ) → F d 0 l w c ≡ no_cut J weight l w c
  unfolding leaf pieces sized by_weight
  none d l w c = theory.staged_none (pieces J) (saw 0) (by_kind weight) (saw_proper 0) d (l, w) c

  -- the cuts of one direction in plain words
  best_plain : (d : Direction) (k l w c : ℕ) → best (saw 0) (by_kind weight) (λ q u. F d k q.0 q.1 u) d (l, w) c ≡ cuts_between d (F d k) l w c
  unfolding best saw by_weight
  best_plain Length k l w c = simp (greatest_map, sub-zero)
  best_plain Width k l w c = simp (greatest_map, sub-zero)

  theory_eq : (d : Direction) (k l w c : ℕ) → F d (suc k) l w c ≡ max (F (other d) k l w c) (cuts_between d (F d (suc k)) l w c)
  theory_eq d k l w c = theory.staged_eq (pieces J) (saw 0) (by_kind weight) (saw_proper 0) d k (l, w) c ∙ ap (max (F (other d) k l w c)) (best_plain d (suc k) l w c)

  -- cuts as deep as the side are all
  along_all : (d : Direction) (k : ℕ) (P : ℕ → ℕ → ℕ → ℕ) → ((l w c : ℕ) → P l w c ≡ F (other d) k l w c) → (n l w c : ℕ) → side d (l, w) ≤ n → along d P n l w c ≡ F d (suc k) l w c
  unfolding along
  along_all d k P h zero l w c g = omega (arith, h l w c, theory_eq d k l w c, cuts_none d (F d (suc k)) l w c g)
  along_all d k P h (suc n) l w c g =
      ap₂ max (h l w c) (cuts_cong d (along d P n) (F d (suc k)) l w c (λ l' w' a i. along_all d k P h n l' w' a (omega arith))) ∙ sym (theory_eq d k l w c)

  -- the blocks are the theory's figures
  pub block_figure : (k : ℕ) (d : Direction) (l w c : ℕ) → block J weight k d l w c ≡ figure (pieces J) (saw 0) (staged (by_kind weight)) (l, w) (d, k, c)
  unfolding block
  block_figure zero d l w c = sym (none d l w c)
  block_figure (suc k) d l w c = along_all d k (block J weight k (other d)) (block_figure k (other d)) (side d (l, w)) l w c (omega arith)

  -- a block without a stage has no cut
  pub block_none : (d : Direction) (l w c : ℕ) → block J weight 0 d l w c ≡ no_cut J weight l w c
  unfolding block
  block_none d l w c = refl

  -- a block is the greatest of the other direction's with one stage fewer and of cuts between figures of its own
  pub block_eq : (k : ℕ) (d : Direction) (l w c : ℕ) → block J weight (suc k) d l w c ≡ max (block J weight k (other d) l w c) (cuts_between d (block J weight (suc k) d) l w c)
  block_eq k d l w c = block_figure (suc k) d l w c
      ∙ (theory_eq d k l w c ∙ ap₂ max (sym (block_figure k (other d) l w c)) (cuts_cong d (F d (suc k)) (block J weight (suc k) d) l w c (λ l' w' a i. sym (block_figure (suc k) d l' w' a))))

  pub block_recursion : StagedRecursion J weight
  block_recursion = record { none = block_none; more = block_eq }

  monotone : Monotone (staged (by_kind weight))
  monotone = theory.staged_monotone (by_kind weight) (by_weight_monotone _)

  -- normal positions serve every block
  module _ (solid : SolidKinds J) where
    -- a rectangle on the plate has the figure of the largest normal length and width not above its sides
    pub block_floor : StagedFloors J weight
    unfolding pieces
    block_floor k d l w c on_length on_width = block_figure k d l w c
        ∙ (floor_figure (members J) (λ p. J.price (kind p)) (laid J) (members_solid J solid) (staged (by_kind weight)) monotone J.plate (normal_side J) (sides_suffice J) (l, w) (d, k, c) (on_length, on_width)
        ∙ sym (block_figure k d _ _ c))

    module _ (l w c : ℕ) (on_length : l ≤ J.plate.0) (on_width : w ≤ J.plate.1) where
      half_best : (k : ℕ) (d : Direction) → F d (suc k) l w c ≡ max (F (other d) k l w c) (best (saw_half (normal_side J)) (by_kind weight) (λ q u. F d (suc k) q.0 q.1 u) d (l, w) c)
      unfolding pieces
      half_best k d = theory.staged_half (members J) (λ p. J.price (kind p)) (laid J) (members_solid J solid) (by_kind weight) (by_weight_monotone _) (by_weight_symmetric _)
          J.plate (normal_side J) (sides_suffice J) d k (l, w) c (on_length, on_width)

      -- and cuts at normal positions up to half of the side are enough, the remainder counted down to a normal position
      pub block_half_length : (k : ℕ) → block J weight (suc k) Length l w c ≡ max (block J weight k Width l w c)
          (greatest (λ x. greatest (λ a. block J weight (suc k) Length x w a + block J weight (suc k) Length (normal_floor J Length (l - x)) w (c - a)) (range 0 (suc c)))
          (filter (normal_side J Length) (range 1 (l / 2))))
      unfolding best saw_half by_weight
      block_half_length k = simp block_figure (half_best k Length ∙ simp greatest_map)

      pub block_half_width : (k : ℕ) → block J weight (suc k) Width l w c ≡ max (block J weight k Length l w c)
          (greatest (λ x. greatest (λ a. block J weight (suc k) Width l x a + block J weight (suc k) Width l (normal_floor J Width (w - x)) (c - a)) (range 0 (suc c)))
          (filter (normal_side J Width) (range 1 (w / 2))))
      unfolding best saw_half by_weight
      block_half_width k = simp block_figure (half_best k Width ∙ simp greatest_map)

-- every figure of a block is the most that a tree of the block earns
pub block_most : (J : Job) → SolidKinds J → (weight : ℕ → ℕ) → StagedFiguresMost J weight
block_most J solid weight k d l w c = rw (block_figure (widened J) weight k d (l + J.kerf) (w + J.kerf) c)
    (share_figure J solid (staged (by_kind weight)) (monotone J weight) (OfBlock weight k d c) l w (d, k, c)
    (λ t g a. theory.within_staged (by_kind weight) t d k c a.0 (weight_within (λ p. weight (kind p)) t c a.1))
    (λ t g a. (let v = theory.staged_within (by_kind weight) t d k c a in (v.0, within_weight (λ p. weight (kind p)) t c v.1))))

-- trees that lose the kerf at each cut, within a limit and a capacity
module _ (J : Job) (solid : SolidKinds J) (weight : ℕ → ℕ) (c : ℕ) where
  -- the figure of a limit's block at the plate
  abbrev first : ℕ → Direction → ℕ
  first n d = block (widened J) weight n d (widened J).plate.0 (widened J).plate.1 c

  one_way : (n : ℕ) (d : Direction) → first n d ≤ staged_under J weight n c
  one_way n Length = omega arith
  one_way n Width = omega arith

  -- none on the plate earns more than the staged bound
  pub staged_under_most : (n : ℕ) (t : Tree Piece) → OnPlate J t → weight_of weight t ≤ c → stages t ≤ n → profit J t ≤ staged_under J weight n c
  staged_under_most n t g w h = omega (arith, (block_most J solid weight n (root t) J.plate.0 J.plate.1 c).0 t g (omega (arith, theory.root_stages t), w), one_way n (root t))

  -- and some such tree earns it
  pub staged_under_earned : (n : ℕ) → (t : Tree Piece) × WithinStages J n t × (weight_of weight t ≤ c) × (profit J t ≡ staged_under J weight n c)
  staged_under_earned n = ⊎_elim (held Length) (held Width) (max_is (first n Length) (first n Width))
    where
      held : (d : Direction) → max (first n Length) (first n Width) ≡ first n d → (t : Tree Piece) × WithinStages J n t × (weight_of weight t ≤ c) × (profit J t ≡ staged_under J weight n c)
      held d e =
          let f = (block_most J solid weight n d J.plate.0 J.plate.1 c).1 in
          (f.0, (f.1.0, omega (arith, f.1.1.0, theory.stages_below_ge f.0 d)), f.1.1.1, f.1.2 ∙ sym e)

  -- a higher limit gives no less
  pub staged_more : (n m : ℕ) → n ≤ m → staged_under J weight n c ≤ staged_under J weight m c
  staged_more n m h = let e = staged_under_earned n in omega (arith, e.3, staged_under_most m e.0 e.1.0 e.2 (omega (arith, e.1.1)))

module _ (J : Job) (solid : SolidKinds J) (weight : ℕ → ℕ) (n : ℕ) where
  -- the staged bound is the most that a tree within limit and capacity earns
  pub staged_most : MostStaged J weight n (capacity J weight) (staged_bound J weight n)
  staged_most = (λ t g w. staged_under_most J solid weight (capacity J weight) n t g.0 w g.1, staged_under_earned J solid weight (capacity J weight) n)

  -- no tree within the limit that keeps every demand earns more
  pub staged_holds : NoneStaged J n (staged_bound J weight n)
  staged_holds t g s k = let o = ordered_on J t g k in staged_under_most J solid weight (capacity J weight) n t o (demands_weight J weight solid t o k) s

  -- no limit gives the most
  pub staged_less : staged_bound J weight n ≤ bound_of J weight
  staged_less = let e = staged_under_earned J solid weight (capacity J weight) n in omega (arith, e.3, (bound_most J weight solid).0 e.0 e.1.0 e.2)

-- so the staged bound is at most 1,000,000,000,000
pub staged_ceiling : (J : Job) (weight : ℕ → ℕ) (n : ℕ) → InRange J → staged_bound J weight n ≤ most_figure
staged_ceiling J weight n h = omega (arith, staged_less J (range_solid J h) weight n, bound_ceiling J weight h)

-- the numbers that stand for a job's pieces have the same blocks
module _ (J : Job) (weight : ℕ → ℕ) (n : ℕ) (size : ℕ → Rect) (price heavy : ℕ → ℕ) (given : Listing J weight n size price heavy) where
  pub listed_block : (k : ℕ) (d : Direction) (l w c : ℕ) → block (plain J.plate n size price) heavy k d l w c ≡ block J weight k d l w c
  unfolding leaf pieces sized by_weight staged
  listed_block k d l w c = block_figure (plain J.plate n size price) heavy k d l w c
      ∙ (figure_same (pieces (plain J.plate n size price)) (pieces J) (saw 0) (staged (by_kind heavy)) (staged (by_kind weight))
      (λ r s. greatest_listed J weight n size price heavy given _ _ (λ j h. rw (given.sizes j h, given.prices j h, given.weights j h) refl)) (λ e s. refl) (l, w) (d, k, c)
      ∙ sym (block_figure J weight k d l w c))
