-- What the check of a rack promises: the trees of a rack that passes, and what no set of plans can earn.
-- docs/SCOPE.md: A rack of plates.
use Rattle.std.specs.Prelude.{◌≡◌, ◌↔◌, List, ◌++◌, ℕ, suc, ◌≤◌, ◌<◌, length, get_or, Err}
use Rattle.std.specs.Result.{ForOk}
use Rattle.cutting.specs.Lists.{sum}
use Rattle.cutting.specs.Tree.{Rect, Tree, IdleFree}
use Rattle.cutting.specs.Pieces.{Piece}
use Rattle.cutting.specs.Preorder.{node_count, kinds_of, operands_of}
use Rattle.cutting.specs.Job.{Job, profit, copies_of, KeepsDemands}
use Rattle.cutting.specs.Promises.{NoneAbove, NoneFiner}
use Rattle.refusal.specs.Refusals.{Answer, passed, verdict_of, first_refusal}
use Rattle.promises.specs.declared.Refusal.TheVariants.{IdleCut, RackDemand}
use Rattle.promises.specs.declared.Choices.{Choices}
use Rattle.job.specs.Block.{plate_length_at, plate_width_at}
use Rattle.job.specs.Weights.{block_job}
use Rattle.idle.specs.Idle.{tree_checks}
use Rattle.orders.specs.Racks.{plated, OnPlates, SharesDemands, NoneTogether, NoneTogetherFiner, rack_bound, chained}
use Rattle.rack.specs.Check.{plate_at, order_checks, rack_checks, rack_answer, rack_outcome, rack_said}
pub use Rattle.promises.specs.Block.{OnlyPlate}

-- no check of a job block beside its plate's refuses it
abbrev pub OrderPasses : List ℕ → Choices → Type 0
OrderPasses s choices = first_refusal (order_checks s choices) ≡ passed

-- no check before any plan's refuses the rack
abbrev pub BeforePasses : List ℕ → Choices → List ℕ → List ℕ → List ℕ → List ℕ → Type 0
BeforePasses s choices lengths widths kinds operands = first_refusal (rack_checks s choices lengths widths kinds operands) ≡ passed

-- n plans of a rack: each a guillotine tree on its plate that keeps every demand and has no idle cut; together they share the demands; the
-- arrays are their preorders, one after another
pub record RackOf (J : Job) (n : ℕ) (plate : ℕ → Rect) (tree : ℕ → Tree Piece) (kinds operands : List ℕ) : Type 0 where
  pub on_plates : OnPlates J n plate tree
  pub keeps : (p : ℕ) → p < n → KeepsDemands J (tree p)
  pub shares : SharesDemands J n tree
  pub idle_free : (p : ℕ) → p < n → IdleFree (tree p)
  pub kinds_are : kinds ≡ chained n (λ p. kinds_of (tree p))
  pub operands_are : operands ≡ chained n (λ p. operands_of (tree p))

-- the first i + 1 plans of a rack, of which the first i pass: each is a guillotine tree on its plate that keeps every demand; the first i have
-- no idle cut and share the demands; the arrays begin with the preorders of all of them, one after another
pub record RackUpTo (J : Job) (i : ℕ) (plate : ℕ → Rect) (tree : ℕ → Tree Piece) (kinds operands : List ℕ) : Type 0 where
  pub on_plates : OnPlates J (suc i) plate tree
  pub keeps : (p : ℕ) → p < suc i → KeepsDemands J (tree p)
  pub shares : SharesDemands J i tree
  pub idle_free : (p : ℕ) → p < i → IdleFree (tree p)
  pub kinds_begin : (more : List ℕ) × (kinds ≡ chained (suc i) (λ p. kinds_of (tree p)) ++ more)
  pub operands_begin : (more : List ℕ) × (operands ≡ chained (suc i) (λ p. operands_of (tree p)) ++ more)

-- 26 at node k of a rack of n plates: the next plan after some that pass has its first idle cut in preorder there, nodes numbered throughout
abbrev pub IdleAt : Job → ℕ → (ℕ → Rect) → List ℕ → List ℕ → ℕ → Type 0
IdleAt J n plate kinds operands k = (tree : ℕ → Tree Piece) × (i : ℕ) × (i < n) × RackUpTo J i plate tree kinds operands
    × (first_refusal (tree_checks (sum i (λ p. node_count (tree p))) (tree i)) ≡ Err (IdleCut k))

-- 29 at plate i of a rack of n plates: the plans before it pass, its own has no idle cut, and with it some kind's copies pass the demand
abbrev pub OverAt : Job → ℕ → (ℕ → Rect) → List ℕ → List ℕ → ℕ → Type 0
OverAt J n plate kinds operands i = (tree : ℕ → Tree Piece) × (i < n) × RackUpTo J i plate tree kinds operands × IdleFree (tree i)
    × ((j : ℕ) × (j < J.count) × (J.demand j < sum (suc i) (λ p. copies_of j (tree p))))

-- what the check promises of a rack. Where no check before any plan's refuses, it passes exactly for the plans of
-- trees; it then has the profits of those trees. It gives 26 and 29 exactly where those checks pass and trees, one a plate, have
-- the idle cut or pass the demand. The job's own plate is not read, and a block with
-- another plate in its place is the job on that plate. Whatever bounds the trees of each plate that keep the demands (a bound of one weight, of
-- two, an optimum): no set of plans on the plates that share the demands earns more than the sum of these, cut at whole units or finer; so of the
-- plates' bounds, each under weights of its own, which bound the plans that passed too
pub record RackChecks (s : List ℕ) (choices : Choices) (lengths widths kinds operands : List ℕ) (r : Answer (List ℕ)) : Type 0 where
  pub passes : BeforePasses s choices lengths widths kinds operands → (tree : ℕ → Tree Piece) → RackOf (block_job s choices) (length lengths) (plate_at lengths widths) tree kinds operands → verdict_of r ≡ passed
  pub before : verdict_of r ≡ passed → BeforePasses s choices lengths widths kinds operands
  pub trees : ForOk r (λ profits. (tree : ℕ → Tree Piece) × RackOf (block_job s choices) (length lengths) (plate_at lengths widths) tree kinds operands × ((p : ℕ) → p < length lengths → get_or profits p 0 ≡ profit (block_job s choices) (tree p)))
  pub idle : (k : ℕ) → (verdict_of r ≡ Err (IdleCut k)) ↔ (BeforePasses s choices lengths widths kinds operands × IdleAt (block_job s choices) (length lengths) (plate_at lengths widths) kinds operands k)
  pub shared : (i : ℕ) → (verdict_of r ≡ Err (RackDemand i)) ↔ (BeforePasses s choices lengths widths kinds operands × OverAt (block_job s choices) (length lengths) (plate_at lengths widths) kinds operands i)
  pub unread : (z : List ℕ) → OnlyPlate s z → r ≡ rack_answer z choices lengths widths kinds operands
  pub other_plate : (z : List ℕ) → OnlyPlate s z → block_job z choices ≡ plated (block_job s choices) (plate_length_at z, plate_width_at z)
  pub any : (b : ℕ → ℕ) → ((p : ℕ) → p < length lengths → NoneAbove (plated (block_job s choices) (plate_at lengths widths p)) (b p)) → NoneTogether (block_job s choices) (length lengths) (plate_at lengths widths) (sum (length lengths) b)
  pub any_finer : (b : ℕ → ℕ) → ((p : ℕ) → p < length lengths → NoneFiner (plated (block_job s choices) (plate_at lengths widths p)) (b p)) → NoneTogetherFiner (block_job s choices) (length lengths) (plate_at lengths widths) (sum (length lengths) b)
  pub bounds : OrderPasses s choices → (weight : ℕ → ℕ → ℕ) → NoneTogether (block_job s choices) (length lengths) (plate_at lengths widths) (rack_bound (block_job s choices) (length lengths) (plate_at lengths widths) weight)
  pub finer : OrderPasses s choices → (weight : ℕ → ℕ → ℕ) → NoneTogetherFiner (block_job s choices) (length lengths) (plate_at lengths widths) (rack_bound (block_job s choices) (length lengths) (plate_at lengths widths) weight)
  pub earned : ForOk r (λ profits. (weight : ℕ → ℕ → ℕ) → sum (length lengths) (λ p. get_or profits p 0) ≤ rack_bound (block_job s choices) (length lengths) (plate_at lengths widths) weight)

-- the promises of the check on the arrays of the plates' sides: answer, number and values are the definitions', and it checks the rack
pub record PlatesPromises (s : List ℕ) (choices : Choices) (lengths widths kinds operands : List ℕ) (r : Answer (List ℕ)) : Type 0 where
  pub answers : r ≡ rack_answer s choices lengths widths kinds operands
  pub outcome : rack_outcome r ≡ rack_said s choices lengths widths kinds operands
  pub checks : RackChecks s choices lengths widths kinds operands r
