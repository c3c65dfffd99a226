-- `positions::list_sums` meets its contract. The invariant: the marks below x are right, and the sums below x are listed.
use Rattle.positions.proofs.Prelude.{length-set, suc, ◌+◌, ◌≡◌, refl, false, arith, range, filter, normal?, normals}
use Rattle.positions.proofs.Lists.{entries_more, listed_more, listed_left}
use Rattle.positions.proofs.list_sums.Goals as goal
use Rattle.positions.proofs.list_sums.Goals.{then-normal, else-normal}

pub loop-x-init : goal.loop-x-init
unfolding range filter
loop-x-init c = (omega arith, refl, λ y l. absurd (omega arith), record { number = refl; contents = refl })

pub loop-x-preserved : goal.loop-x-preserved
loop-x-preserved c =
    let turn = c.loop-x in
    let normal = c.is_normal-normal in
    let marked = entries_more (λ y b. b ≡ normal? c.args.fit.now y) turn.marks turn.x normal.result false (omega (arith, turn.invariant.1)) turn.invariant.2 normal.ensures in
    elim c.if-normal.branch [
      | then-normal w ↦ (omega (arith, w.n-is), simp length-set turn.invariant.1, marked, rw (w.out-is, w.n-is) (listed_more (normal? c.args.fit.now) normal.result normal.ensures w.if-normal.true turn.invariant.3 (omega arith)))
      | else-normal w ↦ (omega (arith, w.n-is), simp length-set turn.invariant.1, marked, rw (w.out-is, w.n-is) (listed_left (normal? c.args.fit.now) normal.result normal.ensures w.if-normal.false turn.invariant.3))
    ]

-- the last position
pub returns-after-normal : goal.returns-after-normal
unfolding normals
returns-after-normal c =
    let turn = c.loop-x in
    let normal = c.is_normal-normal in
    let e : suc c.args.side ≡ turn.x + 1 = omega arith in
    rw e (elim c.if-normal.branch [
      | then-normal w ↦ rw (w.out-is, w.n-is) (listed_more (normal? c.args.fit.now) normal.result normal.ensures w.if-normal.true turn.invariant.3 (omega arith))
      | else-normal w ↦ rw (w.out-is, w.n-is) (listed_left (normal? c.args.fit.now) normal.result normal.ensures w.if-normal.false turn.invariant.3)
    ])
