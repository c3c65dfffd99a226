-- `rounds::run_rounds` meets its contract.
use Rattle.rounds.proofs.Prelude.{sym, ◌∙◌, ap, JobRecord, lent_all}
use Rattle.rounds.proofs.Run.{starts, weights_room, weights_listed, leaves, made, ends_over, goes_on, ends_refused}
use Rattle.rounds.proofs.run_rounds.Goals as goal

pub loop-k-init : goal.loop-k-init
loop-k-init c = starts c.args.block.now c.args.choices c.requires.1 c.args.lower (lent_all c.args.lengths.now c.args.widths.now c.args.table.now c.args.kinds.now c.args.operands.now)

pub slice_bounds-weights-end : goal.slice_bounds-weights-end
slice_bounds-weights-end c = let l = c.loop-k in
    let m = lent_all c.args.lengths.now c.args.widths.now c.args.table.now c.args.kinds.now c.args.operands.now in
    let size = ap (λ (j : JobRecord). j.count) c.requires.0 in
    weights_room c.args.block.now c.args.choices c.requires.1 c.args.lower m size l.invariant

pub slice_bounds-used-end : goal.slice_bounds-used-end
slice_bounds-used-end c = let l = c.loop-k in
    let m = lent_all c.args.lengths.now c.args.widths.now c.args.table.now c.args.kinds.now c.args.operands.now in
    let size = ap (λ (j : JobRecord). j.count) c.requires.0 in
    sym (weights_listed c.args.block.now c.args.choices c.requires.1 c.args.lower m size l.invariant)

pub returns-in-Err : goal.returns-in-Err
returns-in-Err c = let l = c.loop-k in
    let m = lent_all c.args.lengths.now c.args.widths.now c.args.table.now c.args.kinds.now c.args.operands.now in
    let size = ap (λ (j : JobRecord). j.count) c.requires.0 in
    let w = c.write_plan-written in
    let new = lent_all w.new.lengths w.new.widths w.new.table w.new.kinds w.new.operands in
    let left = leaves c.args.block.now c.args.choices c.requires.1 c.args.lower m size l.invariant {new = new} w.ensures.memory w.ensures.kinds_left w.ensures.operands_left in
    let e = ends_refused c.args.block.now c.args.choices c.requires.1 c.args.lower m size l.invariant w.ensures.answers left c.in-Err.is in
    record { answers = e.0 c.if-k-eq0.true; memory = e.2 }

pub returns-in-Err-2 : goal.returns-in-Err-2
returns-in-Err-2 c = let l = c.loop-k in
    let m = lent_all c.args.lengths.now c.args.widths.now c.args.table.now c.args.kinds.now c.args.operands.now in
    let size = ap (λ (j : JobRecord). j.count) c.requires.0 in
    let w = c.write_plan-written in
    let new = lent_all w.new.lengths w.new.widths w.new.table w.new.kinds w.new.operands in
    let left = leaves c.args.block.now c.args.choices c.requires.1 c.args.lower m size l.invariant {new = new} w.ensures.memory w.ensures.kinds_left w.ensures.operands_left in
    let e = ends_refused c.args.block.now c.args.choices c.requires.1 c.args.lower m size l.invariant w.ensures.answers left c.in-Err-2.is in
    record { answers = e.1 c.if-k-eq0.false; memory = e.2 }

pub next_round-turn-requires : goal.next_round-turn-requires
next_round-turn-requires c = let l = c.loop-k in
    let m = lent_all c.args.lengths.now c.args.widths.now c.args.table.now c.args.kinds.now c.args.operands.now in
    let size = ap (λ (j : JobRecord). j.count) c.requires.0 in
    let w = c.write_plan-written in
    let new = lent_all w.new.lengths w.new.widths w.new.table w.new.kinds w.new.operands in
    let left = leaves c.args.block.now c.args.choices c.requires.1 c.args.lower m size l.invariant {new = new} w.ensures.memory w.ensures.kinds_left w.ensures.operands_left in
    made c.args.block.now c.args.choices c.requires.1 c.args.lower m size l.invariant w.ensures.answers left c.in-Ok.is c.requires.0 c.requires.2 (record { lengths = w.auto.lengths ∙ l.invariant.same.lengths; widths = w.auto.widths ∙ l.invariant.same.widths; table = w.auto.table ∙ l.invariant.same.table; kinds = w.auto.kinds ∙ l.invariant.same.kinds; operands = w.auto.operands ∙ l.invariant.same.operands })

pub returns-in_default : goal.returns-in_default
returns-in_default c = let l = c.loop-k in
    let m = lent_all c.args.lengths.now c.args.widths.now c.args.table.now c.args.kinds.now c.args.operands.now in
    let size = ap (λ (j : JobRecord). j.count) c.requires.0 in
    let w = c.write_plan-written in
    let new = lent_all w.new.lengths w.new.widths w.new.table w.new.kinds w.new.operands in
    let left = leaves c.args.block.now c.args.choices c.requires.1 c.args.lower m size l.invariant {new = new} w.ensures.memory w.ensures.kinds_left w.ensures.operands_left in
    let e = ends_over c.args.block.now c.args.choices c.requires.1 c.args.lower m size l.invariant w.ensures.answers left c.in-Ok.is c.requires.0 c.count_round-found.ensures c.next_round-turn.ensures c.in_default.is in
    record { answers = e.0; memory = e.1 }

pub loop-k-preserved : goal.loop-k-preserved
loop-k-preserved c = let l = c.loop-k in
    let m = lent_all c.args.lengths.now c.args.widths.now c.args.table.now c.args.kinds.now c.args.operands.now in
    let size = ap (λ (j : JobRecord). j.count) c.requires.0 in
    let w = c.write_plan-written in
    let new = lent_all w.new.lengths w.new.widths w.new.table w.new.kinds w.new.operands in
    let left = leaves c.args.block.now c.args.choices c.requires.1 c.args.lower m size l.invariant {new = new} w.ensures.memory w.ensures.kinds_left w.ensures.operands_left in
    goes_on c.args.block.now c.args.choices c.requires.1 c.args.lower m size l.invariant w.ensures.answers left c.in-Ok.is c.requires.0 c.count_round-found.ensures c.next_round-turn.ensures c.in-Some.is (record { lengths = w.auto.lengths ∙ l.invariant.same.lengths; widths = w.auto.widths ∙ l.invariant.same.widths; table = w.auto.table ∙ l.invariant.same.table; kinds = w.auto.kinds ∙ l.invariant.same.kinds; operands = w.auto.operands ∙ l.invariant.same.operands })
