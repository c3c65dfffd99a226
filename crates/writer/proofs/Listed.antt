-- Lists of the nodes' kinds and operands: how they grow as the walk goes on, and what stands in the plan arrays once they are copied.
use Rattle.writer.proofs.Prelude.{◌≡◌, refl, sym, ◌∙◌, ap, ap₂, List, [], ◌∷◌, ◌++◌, map, ℕ, ◌+◌, ◌≤◌, add-one, arith, length, set, take, drop, sets, take_at, Node, over, Tree, Piece, preorder, kind_of, operand_of, kinds_of, operands_of, over_sets}

-- a list of the nodes' kinds, or of their operands, whose entries from one on are still to be put
module _ (f : Node → ℕ) where
  -- one entry more
  pub one_listed : {nodes rest : List Node} {node : Node} {goal new : List ℕ} (old : List ℕ) (at : ℕ) → nodes ≡ node ∷ rest → new ≡ set old at (f node) → sets old at (map f nodes) ≡ goal
      → sets new (at + 1) (map f rest) ≡ goal
  one_listed {rest = rest} {node} old at e p q = rw (add-one at, p) refl ∙ ap (λ ns. sets old at (map f ns)) (sym e) ∙ q

  -- none are left
  pub all_listed : {nodes : List Node} {goal : List ℕ} (old : List ℕ) (at : ℕ) → nodes ≡ [] → sets old at (map f nodes) ≡ goal → old ≡ goal
  all_listed old at e q = sym (ap (λ ns. sets old at (map f ns)) e) ∙ q

-- all of a tree is still to be listed
module _ (t : Tree Piece) {nodes : List Node} (e : nodes ≡ preorder t) (old : List ℕ) where
  pub kinds_begin : sets old 0 (map (λ n. kind_of n) nodes) ≡ sets old 0 (kinds_of t)
  unfolding kinds_of
  kinds_begin = ap (λ ns. sets old 0 (map (λ n. kind_of n) ns)) e

  pub operands_begin : sets old 0 (map (λ n. operand_of n) nodes) ≡ sets old 0 (operands_of t)
  unfolding operands_of
  operands_begin = ap (λ ns. sets old 0 (map (λ n. operand_of n) ns)) e

-- values that were listed and then copied stand over the old contents
pub copied_over : (old values blank : List ℕ) {n : ℕ} {listed new : List ℕ} → n ≡ length values → n ≤ length blank → listed ≡ sets blank 0 values → new ≡ take n listed → new ++ drop n old ≡ over values old
copied_over old values blank {n} e h l p =
    let whole = l ∙ over_sets values blank (omega arith) in
    let front = p ∙ ap (λ xs. take n xs) whole ∙ take_at values (drop (length values) blank) n (sym e) in
    ap₂ (λ xs k. xs ++ drop k old) front e
