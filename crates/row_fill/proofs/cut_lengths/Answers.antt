-- `row_fill::cut_lengths` meets its contract. The loop's invariant: the row has taken the cuts passed whose parts make up the whole, every
-- other word is as it was.
use Rattle.row_fill.proofs.Prelude.{arith, ◌≡◌, ◌∙◌, ap, ◌<◌, get_or, remainder_is}
use Rattle.row_fill.proofs.Raising.{cuts_next, cuts_pass, sums_ready, lengths_taken}
use Rattle.row_fill.proofs.cut_lengths.Goals as goal
use Rattle.row_fill.proofs.cut_lengths.Goals.{then-entry-left, else-entry-left}

pub combine-requires : goal.combine-requires
combine-requires c =
    let a = c.args in
    let l = c.loop-i in
    let e = remainder_is a.normal_lengths.now a.length_floors.now a.a l.i c.entry-whole.result c.entry.result c.entry-rest.result c.entry-whole.ensures.0 c.entry.ensures.0 c.entry-rest.ensures.0 in
    let f : c.entry-rest.result < a.a = rw e (c.requires.cuts.earlier l.i (omega arith) (omega arith)) in
    rw l.invariant.2 (sums_ready c.requires l.invariant.5 l.invariant.4 l.invariant.0 (omega arith) f)

pub loop-i-preserved : goal.loop-i-preserved
loop-i-preserved c =
    let a = c.args in
    let l = c.loop-i in
    let e = remainder_is a.normal_lengths.now a.length_floors.now a.a l.i c.entry-whole.result c.entry.result c.entry-rest.result c.entry-whole.ensures.0 c.entry.ensures.0 c.entry-rest.ensures.0 in
    let f : c.entry-rest.result < a.a = rw e (c.requires.cuts.earlier l.i (omega arith) (omega arith)) in
    let part = c.requires.cuts.part l.i (omega arith) (omega arith) in
    elim c.if-entry-left.branch [
      | then-entry-left w ↦ rw w.table-is (
        omega arith,
        omega arith,
        omega (arith, l.invariant.2),
        l.invariant.3,
        w.combine.auto.table ∙ l.invariant.4,
        cuts_next l.invariant.5 l.invariant.0 (omega (arith, c.requires.cuts.most)) e f c.requires.place
            (omega (arith, w.if-entry-left.true, l.invariant.3, c.entry-in-loop-i.ensures.0, c.entry.ensures.0, part)) (rw l.invariant.2 at w.combine.ensures),
      )
      | else-entry-left w ↦ rw w.table-is (
        omega arith,
        omega arith,
        omega (arith, l.invariant.2),
        l.invariant.3,
        l.invariant.4,
        cuts_pass l.invariant.5 (λ x. w.if-entry-left.false (omega (arith, x, l.invariant.3, c.entry-in-loop-i.ensures.0, c.entry.ensures.0, ap (λ i. get_or a.normal_lengths.now i 0) e))),
      )
    ]

pub returns : goal.returns
returns c = let e : c.loop-i.i ≡ c.args.half_end = omega (arith, c.requires.cuts.least) in
    lengths_taken c.requires (rw e at c.loop-i.invariant.5)
