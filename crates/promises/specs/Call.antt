-- What every call promises: its answer is the first refusal of its checks or its report, with the table's number and values; lent memory is
-- left by one rule, for every system of shares; and what the bound behind an answer is.
-- docs/SCOPE.md: The table of refusals; Lent memory; The certificate; The written plan.
use Rattle.std.specs.Prelude.{◌≡◌, ◌||◌, List, [], ◌∷◌, ℕ, ◌+◌, ◌<◌, ltb, length, Ok}
use Rattle.promises.specs.Prelude.{Length, Width, Certificate}
use Rattle.promises.specs.declared.Refusal.TheVariants.{ListShort, TableShort, PlanLong}
use Rattle.promises.specs.declared.Certificate.TheVariants.{Best, Gap}
use Rattle.promises.specs.Lists.{over}
use Rattle.promises.specs.Refusals.{Check, by_check, next, first_refusal, outcome_by, most_nodes, Answer, answer_by, outcome_of, Checked}
use Rattle.promises.specs.Job.{Piece, Tree, Job, widened}
use Rattle.promises.specs.Plan.{kinds_of, operands_of, node_count, IdleFree}
use Rattle.promises.specs.Figure.{normal_positions}
use Rattle.promises.specs.Systems.{System, NoneAbove, NoneFiner, EarnsAmong, bound_in, Holds, FiguresMost, Recursion, Floors, NormalSums, PlanFollows, table_words, Figures, Kept}
use Rattle.promises.specs.Check.{Earns}

-- an answer is the report where the checks pass, and else the first refusal; its number and values are the table's
pub record Answers {A : Type 0} (values : A → List ℕ) (v : Checked) (report : A) (r : Answer A) : Type 0 where
  pub answer : r ≡ answer_by v report
  pub said : outcome_of values r ≡ outcome_by v (values report)

-- the memory that a call lends: two lists and a table
pub record Memory : Type 0 where
  pub lengths : List ℕ
  pub widths : List ℕ
  pub table : List ℕ

abbrev pub lent : List ℕ → List ℕ → List ℕ → Memory
lent lengths widths table = record { lengths = lengths; widths = widths; table = table }

-- two plan arrays, kinds and operands
abbrev pub Arrays : Type 0
Arrays = List ℕ × List ℕ

-- check 19: a list shorter than the widened plate's length, or width, and one word more
abbrev pub list_check : Job → Memory → Check
list_check J m = (ltb (length m.lengths) ((widened J).plate.0 + 1) || ltb (length m.widths) ((widened J).plate.1 + 1), ListShort)

-- the storage checks: 19, and 20, a table shorter than the words needed, with these
abbrev pub storage_checks : {S : Type 0} → Job → System S → Memory → List Check
storage_checks J Y m = list_check J m ∷ (ltb (length m.table) (table_words (widened J) Y), TableShort (table_words (widened J) Y)) ∷ []

-- check 21: the plan needs above 4,095 nodes, or more than an array holds, with the nodes needed
abbrev pub nodes_check : Tree Piece → Arrays → Check
nodes_check t a = ((ltb most_nodes (node_count t) || ltb (length a.0) (node_count t)) || ltb (length a.1) (node_count t), PlanLong (node_count t))

-- an array after a call: the entries over its old contents where the checks pass, and else as it was
abbrev pub list_after : Checked → List ℕ → List ℕ → List ℕ
list_after v xs old = by_check v (over xs old) (λ r. old)

-- the plan arrays after a call
abbrev pub ArraysLeft : Checked → Tree Piece → Arrays → Arrays → Type 0
ArraysLeft v t old new = (new.0 ≡ list_after v (kinds_of t) old.0) × (new.1 ≡ list_after v (operands_of t) old.1)

-- what a call leaves in lent memory, where `before` is the verdict of the checks before the storage's: from 20 on the lists hold the normal
-- positions, and where the storage suffices the table holds the figures; later words, and all on other refusals, are as they were
pub record Leaves {S : Type 0} (before : Checked) (J : Job) (Y : System S) (old new : Memory) : Type 0 where
  pub lengths : new.lengths ≡ list_after (next before (first_refusal (list_check J old ∷ []))) (normal_positions (widened J) Length) old.lengths
  pub widths : new.widths ≡ list_after (next before (first_refusal (list_check J old ∷ []))) (normal_positions (widened J) Width) old.widths
  pub table : by_check (next before (first_refusal (storage_checks J Y old))) (Figures (widened J) Y new.table × Kept (table_words (widened J) Y) old.table new.table) (λ r. new.table ≡ old.table)

-- what a call that fills a table promises: what it leaves there; with the kerf added to every side the figures follow the recursion and the
-- normal positions are the sums. Where job and weights are accepted, whatever storage is lent: their bound holds, every figure is the most
-- that a tree within its share earns there, and a tabled figure is that of every rectangle whose largest normal sides it has
pub record Fills {S : Type 0} (Accepted : Type 0) (before : Checked) (J : Job) (Y : Job → System S) (old new : Memory) : Type 0 where
  pub memory : Leaves before J (Y J) old new
  pub normal : NormalSums (widened J)
  pub recursion : Recursion (widened J) (Y J).shares
  pub holds : Accepted → Holds J Y (bound_in J (Y J))
  pub figures : Accepted → FiguresMost J (Y J)
  pub floors : Accepted → Floors (widened J) (Y J).shares

-- what a call that writes the plan t behind a bound promises: the arrays hold it over their old contents where all checks pass. Where job and
-- weights are accepted, whatever storage is lent: it follows the order of choice, earns the bound within the full share and has no idle cut
pub record Writes {S : Type 0} (Accepted : Type 0) (v : Checked) (J : Job) (Y : Job → System S) (t : Tree Piece) (old new : Arrays) : Type 0 where
  pub arrays : ArraysLeft v t old new
  pub follows : Accepted → PlanFollows J (Y J).shares
  pub earns : Accepted → EarnsAmong J (Y J).Full J.plate.0 J.plate.1 (bound_in J (Y J)) t
  pub idle_free : Accepted → IdleFree t

-- what a certificate says of a plan's arrays and of all trees within the limit that keep every demand, cut at whole units or finer. "Best": the
-- plan is that of a tree that earns the profit named, which is the bound, and none of them earns more. A gap: the plan earns the profit named,
-- the gap is positive, profit and gap sum to the bound, and none of them earns more than that
pub record Certifies {S : Type 0} (J : Job) (Y : System S) (plan : Arrays) (r : Answer Certificate) : Type 0 where
  pub best : (n : ℕ) → r ≡ Ok (Best n) → Earns J Y.limit plan.0 plan.1 n × (n ≡ bound_in J Y) × NoneAbove J Y.limit n × NoneFiner J Y.limit n
  pub gap : (n gap : ℕ) → r ≡ Ok (Gap n gap) → Earns J Y.limit plan.0 plan.1 n × (0 < gap) × (n + gap ≡ bound_in J Y) × NoneAbove J Y.limit (n + gap) × NoneFiner J Y.limit (n + gap)
