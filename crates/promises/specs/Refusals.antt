-- The table of refusals: the limits of the scope, the number and the place of each case, and the rule that the first condition that holds
-- decides. A check's verdict is `passed` or the first refusal of its checks.
-- docs/SCOPE.md: The table of refusals.
use Rattle.std.specs.Prelude.{Bool, true, false, ◌||◌, List, [], ◌∷◌, ◌++◌, ℕ, zero, suc, ◌*◌, ltb, Ok, Err, Result}
use Rattle.promises.specs.Prelude.{Refusal}
use Rattle.promises.specs.declared.Refusal.TheVariants.{ShortHeader, PlateSide, RackSide, KindCount, BlockLength, KindSide, Price, Demand, WeightCount, Capacity, PlanLength, NodeCount, NodeKind, PieceNumber, Operand, Misfit, Excess, NodeMissing, NodeLeft, ListShort, TableShort, PlanLong, StageLimit, ManyStages, SecondCount, CapacityProduct, IdleCut, Kerf, RackSize, RackDemand, DemandProduct, SizesLength, TrueSize, NoModel, TrueMisfit, Grain, AgainstGrain, MultiplierCount, Multiplier}

-- The greatest side of a plate or a piece, kerf, number of kinds, price, demand, weight, capacity; the most pairs of shares up to two
-- capacities, states of the remaining copies, nodes of a plan, stages, plates of a rack, rounds; the greatest true side, true kerf and
-- multiplier; and what no figure is above: the greatest plate times the greatest price
abbrev pub most_side : ℕ
most_side = 1000

abbrev pub most_kerf : ℕ
most_kerf = 20

abbrev pub most_kinds : ℕ
most_kinds = 64

abbrev pub most_price : ℕ
most_price = 1000000

abbrev pub most_demand : ℕ
most_demand = 255

abbrev pub most_weight : ℕ
most_weight = 255

abbrev pub most_capacity : ℕ
most_capacity = 4095

abbrev pub most_pairs : ℕ
most_pairs = 65536

abbrev pub most_states : ℕ
most_states = 4096

abbrev pub most_nodes : ℕ
most_nodes = 4095

abbrev pub most_limit : ℕ
most_limit = 8

abbrev pub most_plates : ℕ
most_plates = 16

abbrev pub most_rounds : ℕ
most_rounds = 18

abbrev pub most_true_side : ℕ
most_true_side = 100000000

abbrev pub most_true_kerf : ℕ
most_true_kerf = 1000000

abbrev pub most_multiplier : ℕ
most_multiplier = 1000000

abbrev pub most_figure : ℕ
most_figure = most_side * most_side * most_price

-- the table: the number of each refusal, and its place: a kind, a node, a plate, a direction, a count of words or nodes, or 0
abbrev pub line_of : Refusal → ℕ × ℕ
line_of ShortHeader = (1, 0)
line_of PlateSide = (2, 0)
line_of (RackSide k) = (2, k)
line_of KindCount = (3, 0)
line_of BlockLength = (4, 0)
line_of (KindSide k) = (5, k)
line_of (Price k) = (6, k)
line_of (Demand k) = (7, k)
line_of WeightCount = (8, 0)
line_of Capacity = (9, 0)
line_of PlanLength = (10, 0)
line_of NodeCount = (11, 0)
line_of (NodeKind k) = (12, k)
line_of (PieceNumber k) = (13, k)
line_of (Operand k) = (14, k)
line_of (Misfit k) = (15, k)
line_of (Excess k) = (16, k)
line_of (NodeMissing k) = (17, k)
line_of (NodeLeft k) = (18, k)
line_of ListShort = (19, 0)
line_of (TableShort n) = (20, n)
line_of (PlanLong n) = (21, n)
line_of StageLimit = (22, 0)
line_of (ManyStages k) = (23, k)
line_of SecondCount = (24, 0)
line_of CapacityProduct = (25, 0)
line_of (IdleCut k) = (26, k)
line_of Kerf = (27, 0)
line_of RackSize = (28, 0)
line_of (RackDemand k) = (29, k)
line_of DemandProduct = (30, 0)
line_of SizesLength = (31, 0)
line_of (TrueSize k) = (32, k)
line_of (NoModel k) = (33, k)
line_of (TrueMisfit k) = (34, k)
line_of (Grain k) = (35, k)
line_of (AgainstGrain k) = (36, k)
line_of MultiplierCount = (37, 0)
line_of (Multiplier k) = (38, k)

-- an answer: a value, or the refusal; a check's has no value
abbrev pub Answer : Type 0 → Type 0
Answer A = Result A Refusal

abbrev pub Checked : Type 0
Checked = Answer Unit

abbrev pub passed : Checked
passed = Ok tt

-- one check: whether its condition holds, and the refusal that it then draws
abbrev pub Check : Type 0
Check = Bool × Refusal

-- refused where the condition holds
abbrev pub refuse_when : Bool → Refusal → Checked
refuse_when true r = Err r
refuse_when false r = passed

-- what follows where a check passes, and else what its refusal gives
abbrev pub by_check {ℓ} : {A : Type ℓ} → Checked → A → (Refusal → A) → A
by_check (Ok _) a refused = a
by_check (Err r) a refused = refused r

-- a check, and where it passes what follows
abbrev pub next : Checked → Checked → Checked
next a b = by_check a b Err

-- the value where the checks pass, and else the refusal
abbrev pub answer_by : {A : Type 0} → Checked → A → Answer A
answer_by v a = by_check v (Ok a) Err

-- whether an answer has a value, as a check's verdict
abbrev pub verdict_of : {A : Type 0} → Answer A → Checked
verdict_of (Ok a) = passed
verdict_of (Err r) = Err r

-- checks run down the list; the first condition that holds decides
unfoldable pub first_refusal : List Check → Checked
first_refusal [] = passed
first_refusal (c ∷ cs) = next (refuse_when c.0 c.1) (first_refusal cs)

-- x lies outside lo to hi
abbrev pub outside : ℕ → ℕ → ℕ → Bool
outside lo hi x = ltb x lo || ltb hi x

-- the checks of the kinds, or plates, from i on, n of them, one after another
unfoldable pub each_kind : (ℕ → List Check) → ℕ → ℕ → List Check
each_kind f i zero = []
each_kind f i (suc n) = f i ++ each_kind f (suc i) n

-- an answer in the table's terms: its number, 0 where nothing is refused, and its values, for a refusal its place
abbrev pub Outcome : Type 0
Outcome = ℕ × List ℕ

-- a refusal's number and place
abbrev pub refused_as : Refusal → Outcome
refused_as r = ((line_of r).0, (line_of r).1 ∷ [])

-- the values where the checks pass, and else the refusal
abbrev pub outcome_by : Checked → List ℕ → Outcome
outcome_by v values = by_check v (0, values) refused_as

-- an answer's number and values
abbrev pub outcome_of : {A : Type 0} → (A → List ℕ) → Answer A → Outcome
outcome_of values (Ok a) = (0, values a)
outcome_of values (Err r) = refused_as r
