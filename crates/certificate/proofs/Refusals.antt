-- Part 1 of specs/Promises, proved: the first condition that holds decides, and what a refused call leaves in lent memory.
use Rattle.certificate.proofs.Prelude.{◌≡◌, sym, ap, Bool, true, false, ◌||◌, List, [], ◌∷◌, List·Memᴰ·head, List·Memᴰ·tail, List·Memᴰ·not-nil, ℕ, ◌+◌, arith, ltb, length, Length, Width, over, Job, normal_positions, Check, number_of, next, refuse_when, first_refusal, Refusal, ListShort, TableShort, words_needed, Memory, lent, list_after, TableAfter, NoneHolds, FirstDecides, MemoryKept, Err, passed, Checked, Ok}

none_more : (x : Refusal) (cs : List Check) → NoneHolds cs → NoneHolds ((false, x) ∷ cs)
none_more x cs h c (List·Memᴰ·head e) = ap (λ (c : Check). c.0) e
none_more x cs h c (List·Memᴰ·tail m) = h c m

-- the first condition that holds decides
pub first_decides : FirstDecides
unfolding first_refusal
first_decides [] = (λ p c m. absurd (List·Memᴰ·not-nil m), λ r e. absurd (let z : ◌≡◌ {A = ℕ} 0 1 = cc in omega arith))
first_decides ((true, x) ∷ cs) = (
  λ p. absurd (let z : ◌≡◌ {A = ℕ} 0 1 = cc in omega arith),
  λ r e. (let f : x ≡ r = cc in ([], cs, ap (λ r. (true, r) ∷ cs) f, λ c m. absurd (List·Memᴰ·not-nil m))),
)
first_decides ((false, x) ∷ cs) =
    let d = first_decides cs in (
      λ p. none_more x cs (d.0 p),
      λ r e. (let h = d.1 r e in ((false, x) ∷ h.0, h.1, ap (λ l. (false, x) ∷ l) h.2, none_more x h.0 h.3)),
    )

-- what a refusal leaves
abbrev Left : Checked → Job → Memory → Memory → Refusal → Type 0
Left before J old new r = ((number_of r ≡ 20 → ⊥) → new ≡ old)
    × (before ≡ passed → number_of r ≡ 20 → (new.lengths ≡ over (normal_positions J Length) old.lengths) × (new.widths ≡ over (normal_positions J Width) old.widths))
    × (new.table ≡ old.table)

memory_is : (old new : Memory) → new.lengths ≡ old.lengths → new.widths ≡ old.widths → new.table ≡ old.table → new ≡ old
memory_is old new l w t = let e : lent new.lengths new.widths new.table ≡ lent old.lengths old.widths old.table = cc in e

-- the checks before the storage's passed: by whether a list is short and whether the table is
stored : (b c : Bool) (n : ℕ) (J : Job) (weight : ℕ → ℕ) (q : ℕ) (old new : Memory)
    → new.lengths ≡ list_after (next (refuse_when b ListShort) passed) (normal_positions J Length) old.lengths
    → new.widths ≡ list_after (next (refuse_when b ListShort) passed) (normal_positions J Width) old.widths
    → TableAfter (next (refuse_when b ListShort) (next (refuse_when c (TableShort n)) passed)) J weight q old.table new.table
    → (r : Refusal) → next (refuse_when b ListShort) (next (refuse_when c (TableShort n)) passed) ≡ Err r → Left passed J old new r
stored true c n J weight q old new l w t r e =
    let f : ListShort ≡ r = cc in
    (λ h. memory_is old new l w t, λ p k. absurd (omega (arith, k, ap number_of f)), t)
stored false true n J weight q old new l w t r e =
    let f : TableShort n ≡ r = cc in
    (λ h. absurd (h (sym (ap number_of f))), λ p k. (l, w), t)
stored false false n J weight q old new l w t r e = absurd (let z : ◌≡◌ {A = ℕ} 0 1 = cc in omega arith)

pub memory_kept : MemoryKept
unfolding first_refusal
memory_kept (Ok _) J weight q old new h r e =
    stored (ltb (length old.lengths) (J.plate.0 + 1) || ltb (length old.widths) (J.plate.1 + 1)) (ltb (length old.table) (words_needed J q))
    (words_needed J q) J weight q old new h.lengths h.widths h.table r e
memory_kept (Err x) J weight q old new h r e = (
  λ k. memory_is old new h.lengths h.widths h.table,
  λ p k. absurd (let z : ◌≡◌ {A = ℕ} 0 1 = cc in omega arith),
  h.table,
)
