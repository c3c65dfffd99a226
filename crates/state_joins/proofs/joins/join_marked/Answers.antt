-- `state_joins::joins::join_marked` meets its contract.
use Rattle.state_joins.proofs.Prelude.{arith, refl, sym, ◌∙◌, growing_kept, summed_kept, topped_then, rules}
use Rattle.state_joins.proofs.Joining.{note_kept, ready_kept, entry_state, past_end, join_marked, join_unmarked, join_marked_end, gathered_taken}
use Rattle.state_joins.proofs.joins.join_marked.Goals.{then-mark-skip, else-mark-skip}
use Rattle.state_joins.proofs.joins.join_marked.Goals as goal

pub loop-k-init : goal.loop-k-init
loop-k-init c = (omega arith, refl, search rules, search rules, gathered_taken _ _ _ _ _ _ (omega (arith, c.in-Some.ensures.numbers.most)) c.in-Some.ensures)

pub returns-in_default-listed : goal.returns-in_default-listed
returns-in_default-listed c = let given = c.requires in
    let loop = c.loop-k in
    (join_marked_end _ _ _ _ _ _ _ _ _ (λ i u h e. past_end _ _ _ _ _ _ _ given.1 h (sym (note_kept _ _ _ _ loop.invariant.2.grown.rest c.args.parts.first loop.k (omega (arith, given.1.before))) ∙ c.in_default-listed.ensures) e) loop.invariant.2, loop.invariant.3)

pub join_list-high-requires : goal.join_list-high-requires
join_list-high-requires c = let given = c.requires in
    let loop = c.loop-k in
    let kept = loop.invariant.2.grown.rest in
    let state = entry_state given.1 kept loop.k _ (omega arith) c.in-Some-listed.ensures.0 in (
      record {
        growing = growing_kept given.0 loop.invariant.1 loop.invariant.2.grown;
        ready = ready_kept _ _ _ _ kept _ _ given.2;
        state = state;
        small = omega (arith, c.figure-v.ensures.0, (ready_kept _ _ _ _ kept _ _ given.1).small c.in-Some-listed.t state);
        summed = summed_kept kept given.3;
      },
      loop.invariant.4.numbers,
    )

pub loop-k-preserved : goal.loop-k-preserved
loop-k-preserved c =
    let given = c.requires in
    let loop = c.loop-k in
    let state = entry_state given.1 loop.invariant.2.grown.rest loop.k _ (omega arith) c.in-Some-listed.ensures.0 in
    elim c.if-mark-skip.branch [
      | then-mark-skip w ↦ rw (w.table-is, w.high-is) (omega arith, w.join_list-high.auto.table ∙ loop.invariant.1, join_marked _ _ _ _ _ _ _ _ _ _ _ _ _ _ given.1.before given.2.before (omega arith) state c.in-Some-listed.ensures.0 w.figure-v.ensures.0 loop.invariant.4 loop.invariant.2 w.join_list-high.ensures.0, topped_then _ _ _ _ _ _ _ _ loop.invariant.3 w.join_list-high.ensures.1, loop.invariant.4)
      | else-mark-skip w ↦ rw (w.table-is, w.high-is) (omega arith, loop.invariant.1, join_unmarked _ _ _ _ _ _ _ _ _ given.1.before (omega arith) (sym c.mark.ensures ∙ w.if-mark-skip.false) loop.invariant.2, loop.invariant.3, loop.invariant.4)
    ]
