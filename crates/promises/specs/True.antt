-- True sizes: the sizes block and its checks, the true job, chains and when a job is a model of another, and the two calls: the check of a model
-- and the true plan.
-- docs/SCOPE.md: True sizes; The true plan.
use Rattle.std.specs.Prelude.{◌≡◌, Bool, ◌||◌, not, ◌↔◌, List, [], ◌∷◌, ℕ, ◌+◌, ◌*◌, ◌≤◌, ◌<◌, T, ltb, eqb, length, get_or}
use Rattle.std.proofs.Math.Option.{Option, none}
use mathlib.Core.List.{Memᴰ as List-as-Memᴰ}
use Rattle.promises.specs.Prelude.{Direction, Length, Width, Choices}
use Rattle.promises.specs.declared.Refusal.TheVariants.{SizesLength, TrueSize, NoModel, TrueMisfit}
use Rattle.promises.specs.Lists.{only, entries}
use Rattle.promises.specs.Refusals.{Check, next, first_refusal, outside, each_kind, most_true_side, most_true_kerf, passed, Checked, Answer}
use Rattle.promises.specs.Job.{Rect, side, Piece, kind, Tree, Job, laid, turns, MayLie, OnPlate, profit, copies_of, KeepsDemands, stages, WithinLimit}
use Rattle.promises.specs.Plan.{node_count, tree_in, used, neat_of}
use Rattle.promises.specs.Systems.{NoneAbove, NoneFiner}
use Rattle.promises.specs.Block.{u32_at, job_checks, block_job}
use Rattle.promises.specs.Check.{plan_verdict}
use Rattle.promises.specs.Call.{Answers, Arrays, nodes_check, ArraysLeft}
use Rattle.promises.specs.Calls.{Checks}
use Rattle.promises.specs.declared.TrueReport.{TrueReport}

-- one of two true sides lies outside 1 to 100,000,000
abbrev pub true_sides_outside : ℕ → ℕ → Bool
true_sides_outside l w = outside 1 most_true_side l || outside 1 most_true_side w

-- a sizes block has the plate's length and width and the kerf, of four bytes each, and then a length and a width for each kind; its checks for n
-- kinds: 31, then 32, at 0 of the plate and the kerf and at i + 1 of kind i
unfoldable pub sizes_checks : ℕ → List ℕ → List Check
sizes_checks n z = (not (eqb (length z) (12 + 8 * n)), SizesLength)
    ∷ (true_sides_outside (u32_at z 0) (u32_at z 4) || ltb most_true_kerf (u32_at z 8), TrueSize 0)
    ∷ each_kind (λ i. (true_sides_outside (u32_at z (12 + 8 * i)) (u32_at z (16 + 8 * i)), TrueSize (i + 1)) ∷ []) 0 n

-- the true job of a model M and a sizes block: its sizes, and the model's kinds otherwise
abbrev pub true_job : Job → List ℕ → Job
true_job M z = record {
  plate = (u32_at z 0, u32_at z 4);
  kerf = u32_at z 8;
  turning = M.turning;
  full_demand = M.full_demand;
  count = M.count;
  size = λ i. (get_or (entries (λ i. u32_at z (12 + 8 * i)) M.count) i 0, get_or (entries (λ i. u32_at z (16 + 8 * i)) M.count) i 0);
  price = M.price;
  demand = M.demand;
  grain = M.grain;
}

-- the true job of the two blocks, and the verdict on them: 1 to 7, 27 and 35, then 31 and 32
abbrev pub block_true_job : List ℕ → Choices → List ℕ → Job
block_true_job s choices z = true_job (block_job s choices) z

abbrev pub true_verdict : List ℕ → Choices → List ℕ → Checked
true_verdict s choices z = next (first_refusal (job_checks s choices)) (first_refusal (sizes_checks (block_job s choices).count z))

-- Chains: pieces that lie side by side in one direction.
-- the sum of f over a list
unfoldable pub sum_over : {A : Type 0} → (A → ℕ) → List A → ℕ
sum_over f [] = 0
sum_over f (x ∷ xs) = f x + sum_over f xs

-- neither side of a rectangle is greater than another's
abbrev pub FitsIn : Rect → Rect → Type 0
FitsIn q r = (q.0 ≤ r.0) × (q.1 ≤ r.1)

-- a piece that may lie, and fits the plate as it lies
abbrev pub Lies : Job → Piece → Type 0
Lies J p = MayLie J p × FitsIn (laid J p) J.plate

-- no kind has more copies in a chain, upright and turned, than its demand
abbrev pub ChainKeeps : Job → List Piece → Type 0
ChainKeeps J ps = (i : ℕ) → i < J.count → sum_over (λ p. only (eqb (kind p) i) 1) ps ≤ J.demand i

-- a chain fits the plate: its sides in direction d, with the kerf after each, are not more than the plate's with the kerf after it
abbrev pub ChainFits : Job → Direction → List Piece → Type 0
ChainFits J d ps = sum_over (λ p. side d (laid J p) + J.kerf) ps ≤ side d J.plate + J.kerf

-- every chain of pieces that lie in J that fits J's plate in direction d fits M's there
abbrev pub ChainsFitIn : Job → Job → Direction → Type 0
ChainsFitIn J M d = (ps : List Piece) → ((p : Piece) → List-as-Memᴰ p ps → Lies J p) → ChainKeeps J ps → ChainFits J d ps → ChainFits M d ps

-- and so in both directions
abbrev pub ChainsFit : Job → Job → Type 0
ChainsFit J M = (d : Direction) → ChainsFitIn J M d

-- M is a model of J: its kinds are J's, ordered at least as often and priced at least as high; what lies in J may lie in M; and the chains
-- that fit J's plate fit M's
pub record Relaxes (J M : Job) : Type 0 where
  pub counts : M.count ≡ J.count
  pub prices : (i : ℕ) → i < J.count → J.price i ≤ M.price i
  pub demands : (i : ℕ) → i < J.count → J.demand i ≤ M.demand i
  pub lies : (p : Piece) → Lies J p → MayLie M p
  pub chains : ChainsFit J M

-- the same kinds but for their sizes: as many, as often ordered, at the same prices, and turned alike
pub record SameKinds (J M : Job) : Type 0 where
  pub counts : M.count ≡ J.count
  pub turns : (i : ℕ) → i < J.count → turns M i ≡ turns J i
  pub prices : (i : ℕ) → i < J.count → M.price i ≡ J.price i
  pub demands : (i : ℕ) → i < J.count → M.demand i ≡ J.demand i

-- no tree on the plate within the limit that keeps every demand earns more than n, cut at whole units or finer
abbrev pub NoneBetter : Job → Option ℕ → ℕ → Type 0
NoneBetter J limit n = NoneAbove J limit n × NoneFiner J limit n

-- M stands for J: what no tree of M within the demands exceeds, no tree of J exceeds, cut at whole units of J or finer; and so within any limit
-- on stages
abbrev pub StandsFor : Job → Job → Type 0
StandsFor M J = (limit : Option ℕ) (n : ℕ) → NoneAbove M limit n → NoneBetter J limit n

-- The check of a model: the two blocks', then 33, along the length and then along the width. The test of a direction passes exactly where the
-- chains there fit; so the call passes exactly where they fit in both, and then the model stands for the true job.
pub record ModelPromises (s : List ℕ) (choices : Choices) (z : List ℕ) (r : Checked) : Type 0 where
  pub fits : Direction → Bool
  pub directions : (d : Direction) → T (fits d) ↔ ChainsFitIn (block_true_job s choices z) (block_job s choices) d
  pub answers : r ≡ next (true_verdict s choices z) (first_refusal ((not (fits Length), NoModel 0) ∷ (not (fits Width), NoModel 1) ∷ []))
  pub exactly : true_verdict s choices z ≡ passed → (r ≡ passed) ↔ ChainsFit (block_true_job s choices z) (block_job s choices)
  pub stands : r ≡ passed → StandsFor (block_job s choices) (block_true_job s choices z)

-- the used size of a job's tree
abbrev pub used_of : Job → Tree Piece → Rect
used_of J t = used J.kerf (laid J) t

-- the true plan of a tree t of a model M, by the sizes of its true job J: where its used size is within the plate, a guillotine tree on it that
-- loses the true kerf at each cut; it keeps the demands, earns the same, has the same copies of every kind, no more nodes and no more stages.
-- Where besides the model stands for the true sizes and none of its trees earns more than the plan, none at the true sizes earns more than the
-- true plan
pub record TruePlan (M J : Job) (t : Tree Piece) : Type 0 where
  pub on_plate : FitsIn (used_of J t) J.plate → OnPlate J (neat_of J t)
  pub used : used_of J (neat_of J t) ≡ used_of J t
  pub keeps : KeepsDemands J (neat_of J t)
  pub earns : profit J (neat_of J t) ≡ profit M t
  pub copies : (i : ℕ) → copies_of i (neat_of J t) ≡ copies_of i t
  pub no_more_nodes : node_count (neat_of J t) ≤ node_count t
  pub no_more_stages : stages (neat_of J t) ≤ stages t
  pub best : ChainsFit J M → FitsIn (used_of J t) J.plate → (limit : Option ℕ) → WithinLimit limit t → NoneAbove M limit (profit M t)
      → OnPlate J (neat_of J t) × WithinLimit limit (neat_of J t) × KeepsDemands J (neat_of J t) × NoneBetter J limit (profit J (neat_of J t))

-- an answer: the node count, the used length and the used width
abbrev pub true_values : TrueReport → List ℕ
true_values t = t.nodes ∷ t.length ∷ t.width ∷ []

-- the verdict of the true plan: the two blocks', the model's on the plan, then 34, the used size is more than the plate, along the length and
-- then along the width, and 21
abbrev pub true_plan_verdict : List ℕ → Choices → List ℕ → (plan old : Arrays) → Checked
true_plan_verdict s choices z plan old =
    let J = block_true_job s choices z in
    let t = tree_in plan.0 plan.1 in
    next (true_verdict s choices z) (next (plan_verdict (block_job s choices) none plan.0 plan.1)
    (first_refusal ((ltb J.plate.0 (used_of J t).0, TrueMisfit 0) ∷ (ltb J.plate.1 (used_of J t).1, TrueMisfit 1) ∷ nodes_check (neat_of J t) old ∷ [])))

-- The true plan of a model's plan: the output arrays then hold it; a refused call changes neither. The model's plan is judged as its check judges it.
pub record TruePromises (s : List ℕ) (choices : Choices) (z : List ℕ) (plan old new : Arrays) (r : Answer TrueReport) : Type 0 where
  pub answers : (let J = block_true_job s choices z in let t = tree_in plan.0 plan.1 in
      Answers true_values (true_plan_verdict s choices z plan old) (record { nodes = node_count (neat_of J t); length = (used_of J t).0; width = (used_of J t).1 }) r)
  pub arrays : ArraysLeft (true_plan_verdict s choices z plan old) (neat_of (block_true_job s choices z) (tree_in plan.0 plan.1)) old new
  pub judged : Checks (true_verdict s choices z) (block_job s choices) none plan.0 plan.1
  pub fits : true_plan_verdict s choices z plan old ≡ passed → FitsIn (used_of (block_true_job s choices z) (tree_in plan.0 plan.1)) (block_true_job s choices z).plate
  pub holds : next (true_verdict s choices z) (plan_verdict (block_job s choices) none plan.0 plan.1) ≡ passed → TruePlan (block_job s choices) (block_true_job s choices z) (tree_in plan.0 plan.1)
