-- The part of a node in C: what it is by the saw's definition is what it promises.
use Rattle.planner_c.proofs.Prelude.{◌≡◌, List, ℕ, length, Choices, Part, kind_of, operand_of, kinds_of, operands_of, Arrays, PartPromises, saw_answer, part_by, listed_length, own_entries, part_told, verdict_of}

module _ (s : List ℕ) (choices : Choices) (plan : Arrays) (node : ℕ) (p : Part) where
  pub kinds_told : p ≡ part_by (verdict_of (saw_answer s choices plan.0 plan.1)) plan.0 (length plan.0) node → PartPromises kinds_of s choices plan plan.0 node p
  unfolding kinds_of
  kinds_told e = part_told kinds_of s choices plan node plan.0 (listed_length (λ n. kind_of n)) (λ t q. q.drawn.kinds_are) (own_entries (λ n. kind_of n)) p e

  pub operands_told : p ≡ part_by (verdict_of (saw_answer s choices plan.0 plan.1)) plan.0 (length plan.1) node → PartPromises operands_of s choices plan plan.1 node p
  unfolding operands_of
  operands_told e = part_told operands_of s choices plan node plan.1 (listed_length (λ n. operand_of n)) (λ t q. q.drawn.operands_are) (own_entries (λ n. operand_of n)) p e
