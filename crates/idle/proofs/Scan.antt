-- The steps of the scan: what it knows after the last node, at one node more in front, and at the first.
use Rattle.idle.proofs.Prelude.{◌≡◌, refl, sym, ◌∙◌, ap, List, [], ◌∷◌, ℕ, ◌+◌, ◌-◌, ◌≤◌, ◌<◌, add-one, arith, length, drop, get_or, length-drop, drop-length, drop-cons, Node, Waste, Piece, Turned, Cut, next, refuse_when, first_refusal, IdleCut, node_of, pieceless_from, pieceless, is_idle, idle_checks, Ok, Err, passed, Checked}
use Rattle.std.specs.Result.{result_and}

from_most : (n : Node) (after most : ℕ) → after ≤ most → pieceless_from n after ≤ most + 1
from_most Waste after most h = omega arith
from_most (Piece i) after most h = omega arith
from_most (Turned i) after most h = omega arith
from_most (Cut d x) after most h = omega arith

-- a check and then another, as `and` has them
and_next : (a b : Checked) → result_and a b ≡ next a b
and_next (Ok _) b = refl
and_next (Err r) b = refl

-- no more trees than nodes
pieceless_most : (ks : List ℕ) → pieceless ks ≤ length ks
unfolding pieceless
pieceless_most [] = omega arith
pieceless_most (k ∷ ks) = let h = from_most (node_of k 0) (pieceless ks) (length ks) (pieceless_most ks) in omega (arith, h)

-- what the scan knows before it reads entry k - 1, the first of which is node `first`: the verdict of the entries from k on, and the trees
-- that they begin
pub record Scanned (first : ℕ) (kinds : List ℕ) (verdict : Checked) (trees k : ℕ) : Type 0 where
  pub inside : k ≤ length kinds
  pub decided : verdict ≡ first_refusal (idle_checks (first + k) (drop k kinds))
  pub counted : trees ≡ pieceless (drop k kinds)

pub begins : (first : ℕ) (kinds : List ℕ) → Scanned first kinds passed 0 (length kinds)
unfolding idle_checks pieceless first_refusal
begins first kinds = record { inside = omega arith; decided = rw drop-length refl; counted = rw drop-length refl }

module _ {first : ℕ} {kinds : List ℕ} {verdict : Checked} {trees k : ℕ} (s : Scanned first kinds verdict trees k) where
  -- no more trees than nodes of the plan
  pub few : trees ≤ length kinds
  few = let m = pieceless_most (drop k kinds) in let l = length-drop k kinds in omega (arith, s.counted, m, l)

  -- at the first node all have been read
  pub ends : k ≤ 0 → verdict ≡ first_refusal (idle_checks first kinds)
  ends h = let e : k ≡ 0 = omega arith in let z : first + 0 ≡ first = omega arith in
      s.decided ∙ ap (λ n. first_refusal (idle_checks (first + n) (drop n kinds))) e ∙ ap (λ n. first_refusal (idle_checks n kinds)) z

  -- one node more
  module _ (some : 0 < k) {n : Node} (read : n ≡ node_of (get_or kinds (k - 1) 0) 0) where
    here : drop (k - 1) kinds ≡ get_or kinds (k - 1) 0 ∷ drop k kinds
    here = let e : k - 1 + 1 ≡ k = omega arith in let l : k - 1 < length kinds = omega (arith, s.inside) in
        drop-cons kinds (k - 1) 0 l ∙ ap (λ m. get_or kinds (k - 1) 0 ∷ drop m kinds) (sym (add-one (k - 1)) ∙ e)

    pub goes_on : {v c : Checked} {m : ℕ} → v ≡ result_and c verdict → c ≡ refuse_when (is_idle n trees) (IdleCut (first + (k - 1))) → m ≡ pieceless_from n trees → Scanned first kinds v m (k - 1)
    unfolding idle_checks pieceless first_refusal
    goes_on {v} {c} {m} a d t = let e : first + (k - 1) + 1 ≡ first + k = omega arith in
        record {
          inside = omega (arith, s.inside);
          decided = a ∙ and_next c verdict ∙ ap (λ x. next x verdict) d ∙ (λ i. next (refuse_when (is_idle (read i) (s.counted i)) (IdleCut (first + (k - 1)))) ((s.decided ∙ ap (λ j. first_refusal (idle_checks j (drop k kinds))) (sym e)) i)) ∙ sym (ap (λ l. first_refusal (idle_checks (first + (k - 1)) l)) here);
          counted = t ∙ (λ i. pieceless_from (read i) (s.counted i)) ∙ sym (ap pieceless here);
        }
