-- What the rule of lent memory means, for every system of shares.
use Rattle.planner.proofs.Prelude.{◌≡◌, sym, ap, Bool, true, false, ◌||◌, ℕ, ◌+◌, arith, ltb, length, Length, Width, over, Job, widened, normal_positions, by_check, next, refuse_when, first_refusal, Refusal, ListShort, TableShort, Memory, line_of, System, table_words, storage_checks, list_after, Leaves, Ok, Err, passed, Checked}
use Rattle.bound.specs.Bound.{lent}

-- what a refusal leaves
abbrev Left : Checked → Job → Memory → Memory → Refusal → Type 0
Left before J old new r = (((line_of r).0 ≡ 20 → ⊥) → new ≡ old)
    × (before ≡ passed → (line_of r).0 ≡ 20 → (new.lengths ≡ over (normal_positions J Length) old.lengths) × (new.widths ≡ over (normal_positions J Width) old.widths))
    × (new.table ≡ old.table)

memory_is : (old new : Memory) → new.lengths ≡ old.lengths → new.widths ≡ old.widths → new.table ≡ old.table → new ≡ old
memory_is old new l w t = let e : lent new.lengths new.widths new.table ≡ lent old.lengths old.widths old.table = cc in e

stored : (b c : Bool) (n : ℕ) (J : Job) (A : Type 0) (old new : Memory)
    → new.lengths ≡ list_after (next (refuse_when b ListShort) passed) (normal_positions J Length) old.lengths
    → new.widths ≡ list_after (next (refuse_when b ListShort) passed) (normal_positions J Width) old.widths
    → by_check (next (refuse_when b ListShort) (next (refuse_when c (TableShort n)) passed)) A (λ r. new.table ≡ old.table)
    → (r : Refusal) → next (refuse_when b ListShort) (next (refuse_when c (TableShort n)) passed) ≡ Err r → Left passed J old new r
stored true c n J A old new l w t r e =
    let f : ListShort ≡ r = cc in
    (λ h. memory_is old new l w t, λ p k. absurd (omega (arith, k, ap (λ x. (line_of x).0) f)), t)
stored false true n J A old new l w t r e =
    let f : TableShort n ≡ r = cc in
    (λ h. absurd (h (sym (ap (λ x. (line_of x).0) f))), λ p k. (l, w), t)
stored false false n J A old new l w t r e = absurd (let z : ◌≡◌ {A = ℕ} 0 1 = cc in omega arith)

-- a refusal of any number but 20 changes nothing; on 20 the lists are filled; on every refusal the table is as it was
pub memory_kept : (S : Type 0) (before : Checked) (J : Job) (Y : System S) (old new : Memory) → Leaves before J Y old new
    → (r : Refusal) → next before (first_refusal (storage_checks J Y old)) ≡ Err r → Left before (widened J) old new r
unfolding first_refusal
memory_kept S (Ok _) J Y old new h r e =
    stored (ltb (length old.lengths) ((widened J).plate.0 + 1) || ltb (length old.widths) ((widened J).plate.1 + 1)) (ltb (length old.table) (table_words (widened J) Y))
    (table_words (widened J) Y) (widened J) _ old new h.lengths h.widths h.table r e
memory_kept S (Err x) J Y old new h r e = (
  λ k. memory_is old new h.lengths h.widths h.table,
  λ p k. absurd (let z : ◌≡◌ {A = ℕ} 0 1 = cc in omega arith),
  h.table,
)
