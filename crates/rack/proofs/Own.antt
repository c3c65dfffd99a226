-- A plan's own checks, answer by answer: the walk over its tree comes first, then 26 over the tree's nodes, which lie inside the arrays.
use Rattle.rack.proofs.Prelude.{◌≡◌, ◌∙◌, refl, sym, ap, List, ℕ, ◌≤◌, arith, length, drop, length-drop, Job, first_refusal, Refusal, TreeWalk, nodes_in, nodes_length, no_pass, tree_ends, and_then, answer_by, verdict_of, value_answered, walked_at, idle_at, own_answer, Ok, Err, passed, Answer}

-- equal values are equal, and so are equal refusals
pub same_value : {A : Type 0} {a b : A} → ◌≡◌ {A = Answer A} (Ok a) (Ok b) → a ≡ b
same_value e = cc

-- a value came from that of the answer before it
pub value_then : {A B : Type 0} (a : Answer A) (f : A → Answer B) {b : B} → and_then a f ≡ Ok b → (t : A) × (a ≡ Ok t) × (f t ≡ Ok b)
value_then (Ok t) f e = (t, refl, e)
value_then (Err r) f e = no_pass (ap verdict_of e)

module _ (J : Job) (kinds operands : List ℕ) (k : ℕ) where
  -- what follows the walk
  abbrev then : TreeWalk → Answer TreeWalk
  then t = answer_by (first_refusal (idle_at kinds k t.past)) t

  module _ {a : Answer TreeWalk} (e : a ≡ walked_at J kinds operands k) where
    -- the walk is refused
    pub own_stops : {r : Refusal} → a ≡ Err r → own_answer J kinds operands k ≡ Err r
    unfolding own_answer
    own_stops p = ap (λ a. and_then a then) (sym e ∙ p)

    module _ {t : TreeWalk} (p : a ≡ Ok t) where
      -- it passes, and 26 decides
      pub own_decides : own_answer J kinds operands k ≡ answer_by (first_refusal (idle_at kinds k t.past)) t
      unfolding own_answer
      own_decides = ap (λ a. and_then a then) (sym e ∙ p)

      -- a plan that was walked to its end lies inside the arrays
      pub own_inside : length kinds ≡ length operands → k ≤ length kinds → (k ≤ t.past) × (t.past ≤ length kinds)
      own_inside same inside =
          let w = tree_ends J k (drop k (nodes_in kinds operands)) _ _ (sym e ∙ p) in
          let n = length-drop k (nodes_in kinds operands) in
          let m = nodes_length kinds operands same in
          (omega (arith, w.ended), omega (arith, w.ended, w.inside, n, m))

  -- a plan that passes its own checks passes the walk and 26
  pub own_passed : {t : TreeWalk} → own_answer J kinds operands k ≡ Ok t → (walked_at J kinds operands k ≡ Ok t) × (first_refusal (idle_at kinds k t.past) ≡ passed)
  unfolding own_answer
  own_passed {t} p =
      let w = value_then (walked_at J kinds operands k) then p in
      let v = value_answered (first_refusal (idle_at kinds k w.0.past)) w.0 w.2 in
      (w.1 ∙ ap Ok (sym v.1), ap (λ u. first_refusal (idle_at kinds k u.past)) v.1 ∙ v.0)
