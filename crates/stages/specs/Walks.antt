-- What only inner contracts cite: the answer for the kinds of a tree, check 23 as the walks over a plan's kinds count it, and how they end.
use Rattle.std.specs.Prelude.{◌≡◌, Bool, true, false, List, [], ◌∷◌, ◌++◌, ℕ, ◌+◌, ◌-◌, ◌≤◌, ◌<◌, max, leb, length, drop, get_or, Ok, Err}
use Rattle.std.specs.Result.{ForOk, ForErr}
use Rattle.promises.specs.declared.Direction.{Direction}
use Rattle.promises.specs.declared.Direction.TheVariants.{Length, Width}
use Rattle.cutting.specs.Tree.{Tree, waste, piece, cut}
use Rattle.cutting.specs.Pieces as laid
use Rattle.cutting.specs.Shares.{other, change, root, stages_below, stages}
use Rattle.cutting.specs.Preorder.{node_count, kinds_of}
use Rattle.promises.specs.declared.Refusal.{Refusal}
use Rattle.promises.specs.declared.Refusal.TheVariants.{ManyStages}
use Rattle.refusal.specs.Refusals.{Answer, Check, Checked, answer_by, first_refusal}
use Rattle.stages.specs.Stages.{path_checks}
use Rattle.stages.specs.declared.Walk.{Walk}
use Rattle.stages.specs.declared.Reach.{Reach}
use Rattle.stages.specs.declared.Step.{Step}
use Rattle.stages.specs.declared.Step.TheVariants.{Change, End}

-- the answer for a tree: its stages, or the first cut that passes the limit
abbrev pub staged_as : ℕ → Tree laid.Piece → Answer ℕ
staged_as k t = answer_by (first_refusal (path_checks k t)) (stages t)

-- the answer for the kinds of a tree
abbrev pub StagesOf : List ℕ → ℕ → Answer ℕ → Type 0
StagesOf ks k r = (t : Tree laid.Piece) → ks ≡ kinds_of t → r ≡ staged_as k t

-- check 23 of a tree's cuts in preorder, its own node numbered n, below cuts in direction d with k stages left: a cut passes the limit
-- where no stage is left for it
unfoldable pub stage_checks : Direction → ℕ → ℕ → Tree laid.Piece → List Check
stage_checks d k n waste = []
stage_checks d k n (piece p) = []
stage_checks d k n (cut e x a b) = (leb k (change d e), ManyStages n) ∷ (stage_checks e (k - change d e) (n + 1) a ++ stage_checks e (k - change d e) (n + 1 + node_count a) b)

-- check 23 of a whole plan, so counted: its first cut begins the first stage
abbrev pub walk_checks : ℕ → Tree laid.Piece → List Check
walk_checks k t = stage_checks (root t) k 0 t

-- the kinds of several trees, one after another
unfoldable pub kinds_all : List (Tree laid.Piece) → List ℕ
kinds_all [] = []
kinds_all (t ∷ ts) = kinds_of t ++ kinds_all ts

-- the number of their nodes
unfoldable pub count_all : List (Tree laid.Piece) → ℕ
count_all [] = 0
count_all (t ∷ ts) = node_count t + count_all ts

-- the most stages that they need below cuts in direction d
unfoldable pub most_below : Direction → List (Tree laid.Piece) → ℕ
most_below d [] = 0
most_below d (t ∷ ts) = max (stages_below d t) (most_below d ts)

-- check 23 of each, nodes numbered on
unfoldable pub checks_all : Direction → ℕ → ℕ → List (Tree laid.Piece) → List Check
checks_all d k n [] = []
checks_all d k n (t ∷ ts) = stage_checks d k n t ++ checks_all d k (n + node_count t) ts

-- how a walk ends: past its trees with the stages that they need, or at the cut that passes the limit
abbrev pub ended_as : Checked → ℕ → ℕ → Answer Walk
ended_as v n s = answer_by v (record { next = n; stages = s })

-- a refusal of check 23, which names a node
abbrev pub NamesNode : Refusal → Type 0
NamesNode r = (n : ℕ) × (r ≡ ManyStages n)

-- the walk of the two parts of a cut from node `at` on, if they are there; and where it ends and what refuses it in any case
pub record Walked (d : Direction) (ks : List ℕ) (at left : ℕ) (r : Answer Walk) : Type 0 where
  pub trees : (a b : Tree laid.Piece) (rest : List ℕ) → drop at ks ≡ kinds_all (a ∷ b ∷ []) ++ rest
      → r ≡ ended_as (first_refusal (checks_all d left at (a ∷ b ∷ []))) (at + count_all (a ∷ b ∷ [])) (most_below d (a ∷ b ∷ []))
  pub inside : ForOk r (λ w. (at ≤ w.next) × (w.next ≤ length ks) × (w.stages ≤ left))
  pub named : ForErr r NamesNode

-- the kind of a cut
abbrev pub cut_kind : Direction → ℕ
cut_kind Length = 2
cut_kind Width = 3

-- one node passed: a cut that keeps the direction leaves one tree more, a waste or piece one fewer
abbrev pub pass : Bool → Reach → Reach
pass true s = record { next = s.next + 1; waiting = s.waiting + 1; most = max s.most 1 }
pass false s = record { next = s.next + 1; waiting = s.waiting - 1; most = s.most }

-- of the trees `ts` from node `at` on those that wait at node n, after the most stages met so far
pub record Waiting (d : Direction) (ks : List ℕ) (left at n waiting most : ℕ) (ts : List (Tree laid.Piece)) (rest : List ℕ) : Type 0 where
  pub us : List (Tree laid.Piece)
  pub number : length us ≡ waiting
  pub kinds : drop n ks ≡ kinds_all us ++ rest
  pub nodes : at + count_all ts ≡ n + count_all us
  pub checks : first_refusal (checks_all d left at ts) ≡ first_refusal (checks_all d left n us)
  pub stages : most_below d ts ≡ max most (most_below d us)

-- a walk of two trees so far
pub record Walking (d : Direction) (ks : List ℕ) (left at n waiting most : ℕ) : Type 0 where
  pub from : at ≤ n
  pub to : n ≤ length ks
  pub few : waiting ≤ n - at + 2
  pub low : most ≤ left
  pub trees : (a b : Tree laid.Piece) (rest : List ℕ) → drop at ks ≡ kinds_all (a ∷ b ∷ []) ++ rest → Waiting d ks left at n waiting most (a ∷ b ∷ []) rest

-- a walk that has come so far
abbrev pub Reached : Direction → List ℕ → ℕ → ℕ → Reach → Type 0
Reached d ks left at s = Walking d ks left at s.next s.waiting s.most

-- it stands before a cut that changes the direction, and a stage is left for that
pub record Changing (d : Direction) (ks : List ℕ) (left : ℕ) (s : Reach) : Type 0 where
  pub some : 0 < s.waiting
  pub few : s.waiting ≤ s.next + 2
  pub inside : s.next < length ks
  pub turned : get_or ks s.next 0 ≡ cut_kind (other d)
  pub room : 2 ≤ left

-- where a walk of the trees from node `at` on stands, or that it is refused
abbrev pub Stands : Direction → List ℕ → ℕ → ℕ → Answer Step → Type 0
Stands d ks left at (Ok (Change s)) = Reached d ks left at s × Changing d ks left s
Stands d ks left at (Ok (End w)) = Walked d ks at left (Ok w)
Stands d ks left at (Err r) = Walked d ks at left (Err r)

-- the nodes that it has yet to read, none at its end
abbrev pub nodes_left : List ℕ → Step → ℕ
nodes_left ks (Change s) = length ks - s.next
nodes_left ks (End w) = 0

-- a walk went on
pub record Along (d : Direction) (ks : List ℕ) (left : ℕ) (s : Reach) (r : Answer Step) : Type 0 where
  pub stands : (at : ℕ) → Reached d ks left at s → Stands d ks left at r
  pub fewer : ForOk r (λ step. nodes_left ks step ≤ length ks - s.next)

-- a walk went on past a cut that changed the direction
pub record Resumed (d : Direction) (ks : List ℕ) (left : ℕ) (s : Reach) (r : Answer Step) : Type 0 where
  pub stands : (at : ℕ) → Reached d ks left at s → Changing d ks left s → Stands d ks left at r
  pub fewer : ForOk r (λ step. nodes_left ks step < length ks - s.next)
