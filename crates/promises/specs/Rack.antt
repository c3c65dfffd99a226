-- A rack of plates for one order: the plans stand one after another in two arrays and share the demands. The check, what it writes into the
-- records, and what no set of plans can earn.
-- docs/SCOPE.md: A rack of plates.
use Rattle.std.specs.Prelude.{◌≡◌, ◌||◌, not, ◌↔◌, List, [], ◌∷◌, ◌++◌, ℕ, zero, suc, ◌+◌, ◌-◌, ◌≤◌, ◌<◌, ltb, eqb, length, take, drop, get_or, set, replicate, Err}
use Rattle.std.proofs.Math.Option.{none}
use Rattle.std.specs.Result.{result_unwrap_or}
use mathlib.Core.List.{map}
use Rattle.promises.specs.Prelude.{Choices, Plate}
use Rattle.promises.specs.declared.Refusal.TheVariants.{RackSize, RackSide, RackDemand, IdleCut}
use Rattle.promises.specs.Lists.{sum}
use Rattle.promises.specs.Refusals.{Check, by_check, next, first_refusal, outside, each_kind, most_plates, verdict_of, passed, Checked, Answer}
use Rattle.promises.specs.Job.{Rect, Piece, Tree, Job, AnyOnPlate, OnPlate, profit, copies_of, KeepsDemands, finer, plated}
use Rattle.promises.specs.Plan.{kinds_of, operands_of, node_count, nodes_in, trees_in, first_tree, IdleFree, tree_checks}
use Rattle.promises.specs.Systems.{NoneAbove, NoneFiner, bound_of}
use Rattle.promises.specs.Block.{u16_at, sides_outside, order_checks, block_job, OnlyPlate}
use Rattle.promises.specs.Check.{walked, left_check, plan_checks}
use Rattle.promises.specs.Call.{Answers}

-- what a rack is checked on: the sides of its plates, and the arrays of its plans
pub record Rack : Type 0 where
  pub lengths : List ℕ
  pub widths : List ℕ
  pub kinds : List ℕ
  pub operands : List ℕ

-- the number of its plates, and plate i
abbrev pub plates : Rack → ℕ
plates k = length k.lengths

abbrev pub plate_at : Rack → ℕ → Rect
plate_at k i = (get_or k.lengths i 0, get_or k.widths i 0)

-- the checks before any plan's: 28, not 1 to 16 plates or not as many of each side; the order's; 2 of each plate; 10 and 11 over all nodes
unfoldable pub rack_checks : List ℕ → Choices → Rack → List Check
rack_checks s choices k =
    (not (eqb (plates k) (length k.widths)) || outside 1 most_plates (plates k), RackSize)
    ∷ (order_checks s choices ++ (each_kind (λ i. (sides_outside (plate_at k i).0 (plate_at k i).1, RackSide i) ∷ []) 0 (plates k) ++ plan_checks k.kinds k.operands))

-- 29, of plate i: with the plan's own copies a kind's total over the rack passes its demand
abbrev pub total_checks : Job → ℕ → (ℕ → ℕ) → Tree Piece → List Check
total_checks J i totals t = each_kind (λ j. (ltb (J.demand j) (totals j + copies_of j t), RackDemand i) ∷ []) 0 J.count

-- the plans of m plates from plate i and node n on, after the copies and profits of the plates before: each by 12 to 17 and 36 on its plate, then 26
-- of its tree and 29; after the last 18
unfoldable pub rack_walk : Job → Rack → ℕ → ℕ → ℕ → (ℕ → ℕ) → List ℕ → Checked × List ℕ
rack_walk J k i zero n totals profits = (first_refusal (left_check (length k.kinds) n ∷ []), profits)
rack_walk J k i (suc m) n totals profits =
    let nodes = drop n (nodes_in k.kinds k.operands) in
    let w = walked (plated J (plate_at k i)) n nodes in
    let t = first_tree (trees_in (take (w.1 - n) nodes)) in
    by_check (next w.0 (next (first_refusal (tree_checks n t)) (first_refusal (total_checks J i totals t))))
    (rack_walk J k (i + 1) m w.1 (λ j. totals j + copies_of j t) (set profits i (profit J t)))
    (λ x. (Err x, profits))

-- the verdict on a rack for a job block, and the profits of its plates in their order, 0 past the last
abbrev pub rack_walked : List ℕ → Choices → Rack → Checked × List ℕ
rack_walked s choices k = rack_walk (block_job s choices) k 0 (plates k) 0 (λ j. 0) (replicate most_plates 0)

abbrev pub rack_verdict : List ℕ → Choices → Rack → Checked
rack_verdict s choices k = next (first_refusal (rack_checks s choices k)) (rack_walked s choices k).0

-- n lists, one after another
unfoldable pub chained : {A : Type 0} → ℕ → (ℕ → List A) → List A
chained zero f = []
chained (suc n) f = f 0 ++ chained n (λ p. f (suc p))

-- n plans share the demands: no kind has more copies in all of them together than its demand
abbrev pub SharesDemands : Job → ℕ → (ℕ → Tree Piece) → Type 0
SharesDemands J n tree = (i : ℕ) → i < J.count → sum n (λ p. copies_of i (tree p)) ≤ J.demand i

-- the first n plans of a rack, of which the first i pass: each is a guillotine tree on its plate that keeps every demand; the first i have no
-- idle cut and share the demands; the arrays are the preorders of all of them, one after another, and then `more`
pub record PlansOf (J : Job) (k : Rack) (i n : ℕ) (tree : ℕ → Tree Piece) (more : List ℕ × List ℕ) : Type 0 where
  pub on_plates : (p : ℕ) → p < n → OnPlate (plated J (plate_at k p)) (tree p)
  pub keeps : (p : ℕ) → p < n → KeepsDemands J (tree p)
  pub shares : SharesDemands J i tree
  pub idle_free : (p : ℕ) → p < i → IdleFree (tree p)
  pub kinds_are : k.kinds ≡ chained n (λ p. kinds_of (tree p)) ++ more.0
  pub operands_are : k.operands ≡ chained n (λ p. operands_of (tree p)) ++ more.1

-- the plans of a rack: all pass, and no node is left over
abbrev pub RackOf : Job → Rack → (ℕ → Tree Piece) → Type 0
RackOf J k tree = PlansOf J k (plates k) (plates k) tree ([], [])

-- 26 at node n: the next plan after some that pass has its first idle cut in preorder there, nodes numbered throughout
abbrev pub IdleAt : Job → Rack → ℕ → Type 0
IdleAt J k n = (tree : ℕ → Tree Piece) × (i : ℕ) × (more : List ℕ × List ℕ) × (i < plates k) × PlansOf J k i (suc i) tree more
    × (first_refusal (tree_checks (sum i (λ p. node_count (tree p))) (tree i)) ≡ Err (IdleCut n))

-- 29 at plate i: the plans before it pass, its own has no idle cut, and with it some kind's copies pass the demand
abbrev pub OverAt : Job → Rack → ℕ → Type 0
OverAt J k i = (tree : ℕ → Tree Piece) × (more : List ℕ × List ℕ) × (i < plates k) × PlansOf J k i (suc i) tree more × IdleFree (tree i)
    × ((j : ℕ) × (j < J.count) × (J.demand j < sum (suc i) (λ p. copies_of j (tree p))))

-- each of n plans is a guillotine tree of any kinds of the job on its plate
abbrev pub AnyOnPlates : Job → ℕ → (ℕ → Rect) → (ℕ → Tree Piece) → Type 0
AnyOnPlates J n plate tree = (p : ℕ) → p < n → AnyOnPlate (plated J (plate p)) (tree p)

-- each is such a tree cut at multiples of one m-th of a unit
abbrev pub AnyOnFinerPlates : Job → ℕ → ℕ → (ℕ → Rect) → (ℕ → Tree Piece) → Type 0
AnyOnFinerPlates J m n plate tree = (p : ℕ) → p < n → AnyOnPlate (finer m (plated J (plate p))) (tree p)

-- what n plans earn together
abbrev pub rack_profit : Job → ℕ → (ℕ → Tree Piece) → ℕ
rack_profit J n tree = sum n (λ p. profit J (tree p))

-- no n plans on the plates, of any kinds of the job, that share the demands earn more than b
abbrev pub NoneTogether : Job → ℕ → (ℕ → Rect) → ℕ → Type 0
NoneTogether J n plate b = (tree : ℕ → Tree Piece) → AnyOnPlates J n plate tree → SharesDemands J n tree → rack_profit J n tree ≤ b

-- the same of plans cut at multiples of one m-th of a unit, for every whole m of at least 1
abbrev pub NoneTogetherFiner : Job → ℕ → (ℕ → Rect) → ℕ → Type 0
NoneTogetherFiner J n plate b = (m : ℕ) → 1 ≤ m → (tree : ℕ → Tree Piece) → AnyOnFinerPlates J m n plate tree → SharesDemands J n tree → rack_profit J n tree ≤ b

-- the sum of the bounds of n plates, each under weights of its own
abbrev pub rack_bound : Job → ℕ → (ℕ → Rect) → (ℕ → ℕ → ℕ) → ℕ
rack_bound J n plate weight = sum n (λ p. bound_of (plated J (plate p)) (weight p))

-- what a verdict v on a rack with these profits means: where no check before any plan's refuses, it passes exactly for the plans of trees, whose
-- profits it then has; it gives 26 and 29 exactly where trees, one a plate, have the idle cut or pass the demand. The job's own plate is not
-- read, and a block with another plate in its place is the job on that plate. Whatever bounds the trees of each plate that keep the demands: no
-- set of plans on the plates that share the demands earns more than the sum of these, cut at whole units or finer; so of the plates' bounds,
-- each under weights of its own, which bound the plans that passed too
pub record RackChecks (s : List ℕ) (choices : Choices) (k : Rack) (v : Checked) (profits : List ℕ) : Type 0 where
  pub passes : first_refusal (rack_checks s choices k) ≡ passed → (tree : ℕ → Tree Piece) → RackOf (block_job s choices) k tree → v ≡ passed
  pub before : v ≡ passed → first_refusal (rack_checks s choices k) ≡ passed
  pub trees : v ≡ passed → (tree : ℕ → Tree Piece) × RackOf (block_job s choices) k tree × ((p : ℕ) → p < plates k → get_or profits p 0 ≡ profit (block_job s choices) (tree p))
  pub idle : (n : ℕ) → (v ≡ Err (IdleCut n)) ↔ ((first_refusal (rack_checks s choices k) ≡ passed) × IdleAt (block_job s choices) k n)
  pub shared : (i : ℕ) → (v ≡ Err (RackDemand i)) ↔ ((first_refusal (rack_checks s choices k) ≡ passed) × OverAt (block_job s choices) k i)
  pub unread : (z : List ℕ) → OnlyPlate s z → (v ≡ rack_verdict z choices k) × (v ≡ passed → (rack_walked z choices k).1 ≡ profits)
  pub other_plate : (z : List ℕ) → OnlyPlate s z → block_job z choices ≡ plated (block_job s choices) (u16_at z 0, u16_at z 2)
  pub any : (b : ℕ → ℕ) → ((p : ℕ) → p < plates k → NoneAbove (plated (block_job s choices) (plate_at k p)) none (b p)) → NoneTogether (block_job s choices) (plates k) (plate_at k) (sum (plates k) b)
  pub any_finer : (b : ℕ → ℕ) → ((p : ℕ) → p < plates k → NoneFiner (plated (block_job s choices) (plate_at k p)) none (b p)) → NoneTogetherFiner (block_job s choices) (plates k) (plate_at k) (sum (plates k) b)
  pub bounds : first_refusal (order_checks s choices) ≡ passed → (weight : ℕ → ℕ → ℕ) → NoneTogether (block_job s choices) (plates k) (plate_at k) (rack_bound (block_job s choices) (plates k) (plate_at k) weight)
  pub finer : first_refusal (order_checks s choices) ≡ passed → (weight : ℕ → ℕ → ℕ) → NoneTogetherFiner (block_job s choices) (plates k) (plate_at k) (rack_bound (block_job s choices) (plates k) (plate_at k) weight)
  pub earned : v ≡ passed → (weight : ℕ → ℕ → ℕ) → sum (plates k) (λ p. get_or profits p 0) ≤ rack_bound (block_job s choices) (plates k) (plate_at k) weight

-- The check on arrays of the plates' sides: 28, 1, 3, 27, 4 to 7, 35, 2, 10, 11, of each plan 12 to 17, 36, 26, 29, then 18. Its values are the profits.
abbrev pub profits_values : List ℕ → List ℕ
profits_values p = p

abbrev pub PlatesPromises : List ℕ → Choices → Rack → Answer (List ℕ) → Type 0
PlatesPromises s choices k r = Answers profits_values (rack_verdict s choices k) (rack_walked s choices k).1 r × RackChecks s choices k (verdict_of r) (result_unwrap_or r [])

-- the records with the profits given, in their order
abbrev pub paid : List Plate → List ℕ → List Plate
paid [] ns = []
paid (p ∷ ps) ns = record { length = p.length; width = p.width; profit = get_or ns 0 0 } ∷ paid ps (drop 1 ns)

-- the rack of some records and plans
abbrev pub rack_of : List Plate → List ℕ → List ℕ → Rack
rack_of ps kinds operands = record { lengths = map (λ p. p.length) ps; widths = map (λ p. p.width) ps; kinds = kinds; operands = operands }

-- The check of a rack of records: it answers the verdict alone; a pass writes the profits and nothing else, and a refusal changes no record.
pub record RackPromises (s : List ℕ) (choices : Choices) (old new : List Plate) (kinds operands : List ℕ) (v : Checked) : Type 0 where
  pub answers : v ≡ rack_verdict s choices (rack_of old kinds operands)
  pub records : new ≡ by_check v (paid old (rack_walked s choices (rack_of old kinds operands)).1) (λ x. old)
  pub checks : RackChecks s choices (rack_of old kinds operands) v (rack_walked s choices (rack_of old kinds operands)).1
