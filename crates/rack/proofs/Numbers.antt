-- Which refusals are given: the checks before any plan's, the walk over a plan's nodes and 18 give neither 26 nor 29, and a tree's idle cuts
-- nothing but 26.
use Rattle.rack.proofs.Prelude.{◌≡◌, refl, sym, subst, Bool, true, false, List, [], ◌∷◌, ◌++◌, ℕ, zero, suc, ◌+◌, arith, Rect, Tree, waste, piece, cut, Piece, node_count, Job, Check, number_of, refuse_when, verdict_of, next, first_refusal, Refusal, Choices, each_kind, grain_checks, first_append, tree_checks, Report, TreeWalk, node_of, node_checks, parts, report_after, proceed, tree_walk, left_check, no_pass, order_checks, rack_checks, Ok, Err, passed, Checked, Answer}

-- equal verdicts refuse the same
pub same_refusal : {a b : Refusal} → ◌≡◌ {A = Checked} (Err a) (Err b) → a ≡ b
same_refusal e = cc

-- a verdict whose refusal, if it has one, is such that P holds
abbrev Gives : (Refusal → Type 0) → Checked → Type 0
Gives P v = (x : Refusal) → v ≡ Err x → P x

module _ (P : Refusal → Type 0) where
  given_passed : Gives P passed
  given_passed x e = no_pass (sym e)

  given_refused : (r : Refusal) → P r → Gives P (Err r)
  given_refused r n x e = subst P (same_refusal e) n

  given_when : (t : Bool) (r : Refusal) → P r → Gives P (refuse_when t r)
  given_when true r n = given_refused r n
  given_when false r n = given_passed

  given_next : (a b : Checked) → Gives P a → Gives P b → Gives P (next a b)
  given_next (Ok _) b f g = g
  given_next (Err r) b f g = f

  given_none : Gives P (first_refusal [])
  unfolding first_refusal
  given_none = given_passed

  -- one check more, two lists, and the checks of each kind
  given_cons : (t : Bool) (r : Refusal) (cs : List Check) → P r → Gives P (first_refusal cs) → Gives P (first_refusal ((t, r) ∷ cs))
  unfolding first_refusal
  given_cons t r cs n g = given_next (refuse_when t r) (first_refusal cs) (given_when t r n) g

  given_append : (xs ys : List Check) → Gives P (first_refusal xs) → Gives P (first_refusal ys) → Gives P (first_refusal (xs ++ ys))
  given_append xs ys f g = subst (Gives P) (sym (first_append xs ys)) (given_next (first_refusal xs) (first_refusal ys) f g)

  given_each : (f : ℕ → List Check) (i n : ℕ) → ((j : ℕ) → Gives P (first_refusal (f j))) → Gives P (first_refusal (each_kind f i n))
  unfolding each_kind
  given_each f i zero h = given_none
  given_each f i (suc n) h = given_append (f i) (each_kind f (suc i) n) (h i) (given_each f (suc i) n h)

  given_one : (t : Bool) (r : Refusal) → P r → Gives P (first_refusal ((t, r) ∷ []))
  given_one t r n = given_cons t r [] n given_none

  -- a check, and a walk that goes on where it passes
  given_tree : (v : Checked) (a : Answer TreeWalk) → Gives P v → Gives P (verdict_of a) → Gives P (verdict_of (proceed v a))
  given_tree (Ok _) a f g = g
  given_tree (Err r) a f g = f

-- neither 26 nor 29
abbrev pub Neither : Refusal → Type 0
Neither x = (number_of x ≡ 26 → ⊥) × (number_of x ≡ 29 → ⊥)

-- a check that gives neither
abbrev GivesNeither : Checked → Type 0
GivesNeither v = Gives Neither v

-- 35
grains_give : (b : Bool) (h : ℕ) (s : List ℕ) → GivesNeither (first_refusal (grain_checks b h s))
grains_give true h s = given_each Neither _ _ _ (λ j. given_one Neither _ _ (λ e. omega arith, λ e. omega arith))
grains_give false h s = given_none Neither

-- the checks before any plan's
pub before_gives : (s : List ℕ) (choices : Choices) (lengths widths kinds operands : List ℕ) → GivesNeither (first_refusal (rack_checks s choices lengths widths kinds operands))
unfolding rack_checks order_checks
before_gives s choices lengths widths kinds operands =
    given_cons Neither _ _ _ (λ e. omega arith, λ e. omega arith)
    (given_append Neither _ _
    (given_append Neither _ _
    (given_cons Neither _ _ _ (λ e. omega arith, λ e. omega arith) (given_cons Neither _ _ _ (λ e. omega arith, λ e. omega arith) (given_cons Neither _ _ _ (λ e. omega arith, λ e. omega arith) (given_one Neither _ _ (λ e. omega arith, λ e. omega arith)))))
    (given_append Neither _ _ (given_each Neither _ _ _ (λ j. given_one Neither _ _ (λ e. omega arith, λ e. omega arith)))
    (given_append Neither _ _ (given_each Neither _ _ _ (λ j. given_cons Neither _ _ _ (λ e. omega arith, λ e. omega arith) (given_one Neither _ _ (λ e. omega arith, λ e. omega arith))))
    (grains_give choices.grain _ s))))
    (given_append Neither _ _ (given_each Neither _ _ _ (λ j. given_one Neither _ _ (λ e. omega arith, λ e. omega arith)))
    (given_cons Neither _ _ _ (λ e. omega arith, λ e. omega arith) (given_one Neither _ _ (λ e. omega arith, λ e. omega arith)))))

-- 18
pub left_gives : (n k : ℕ) → GivesNeither (first_refusal (left_check n k ∷ []))
left_gives n k = given_one Neither _ _ (λ e. omega arith, λ e. omega arith)

-- the walk over one tree: 12 to 17 and 36
pub walk_gives : (J : Job) (k : ℕ) (ns : List (ℕ × ℕ)) (rs : List Rect) (s : Report) → GivesNeither (verdict_of (tree_walk J k ns rs s))
unfolding tree_walk
walk_gives J k [] [] s = given_passed Neither
walk_gives J k (n ∷ ns) [] s = given_passed Neither
walk_gives J k [] (r ∷ rs) s = given_refused Neither _ (λ e. omega arith, λ e. omega arith)
walk_gives J k (n ∷ ns) (r ∷ rs) s = given_tree Neither (first_refusal (node_checks J s.copies r k n.0 n.1))
    (tree_walk J (k + 1) ns (parts J.kerf (node_of n.0 n.1) r ++ rs) (report_after J (node_of n.0 n.1) r s))
    (given_cons Neither _ _ _ (λ e. omega arith, λ e. omega arith) (given_cons Neither _ _ _ (λ e. omega arith, λ e. omega arith) (given_cons Neither _ _ _ (λ e. omega arith, λ e. omega arith)
    (given_cons Neither _ _ _ (λ e. omega arith, λ e. omega arith) (given_cons Neither _ _ _ (λ e. omega arith, λ e. omega arith) (given_one Neither _ _ (λ e. omega arith, λ e. omega arith)))))))
    (walk_gives J (k + 1) ns _ _)

-- the idle cuts of a tree
pub tree_gives : (t : Tree Piece) (k : ℕ) (x : Refusal) → first_refusal (tree_checks k t) ≡ Err x → number_of x ≡ 26
unfolding tree_checks
tree_gives waste k = given_one (λ x. number_of x ≡ 26) _ _ refl
tree_gives (piece p) k = given_one (λ x. number_of x ≡ 26) _ _ refl
tree_gives (cut d x a b) k = given_cons (λ x. number_of x ≡ 26) _ _ _ refl
    (given_append (λ x. number_of x ≡ 26) (tree_checks (k + 1) a) (tree_checks (k + 1 + node_count a) b) (tree_gives a (k + 1)) (tree_gives b (k + 1 + node_count a)))
