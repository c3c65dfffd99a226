-- `true_plan::true_nodes` meets its contract: each answer is one of the call's.
use Rattle.true_plan.proofs.Prelude.{sym, ◌∙◌, ap, arith, over, job_of, true_job, plan_most, needed, kinds_written, operands_written, first_stored, verdict_of, handed}
use Rattle.true_plan.proofs.Plans.{drawn_by, true_scannable, true_writable, is_refused, too_long, too_wide, within, kinds_short, positions_short, is_written, waste_written}
use Rattle.true_plan.proofs.true_nodes.Goals as goal

pub returns-in_err-check_nodes : goal.returns-in_err-check_nodes
returns-in_err-check_nodes c = let a = c.args in let q = c.requires in is_refused (job_of a.job) a.sizes q.0 q.1 a.kinds.now a.operands.now a.true_kinds.now a.positions.now (sym c.check_nodes.ensures ∙ c.in_err-check_nodes.was) (handed _ c.from_residual.ensures.1)

pub used_size-used-requires : goal.used_size-used-requires
used_size-used-requires c = let a = c.args in let q = c.requires in let p = ap verdict_of (sym c.check_nodes.ensures ∙ c.in_ok-check_nodes.was) in true_scannable (job_of a.job) a.sizes q.0 q.1 a.kinds.now a.operands.now p

pub returns-then-sizes-used : goal.returns-then-sizes-used
returns-then-sizes-used c = let a = c.args in let q = c.requires in let p = ap verdict_of (sym c.check_nodes.ensures ∙ c.in_ok-check_nodes.was) in too_long (job_of a.job) a.sizes q.0 q.1 a.kinds.now a.operands.now a.true_kinds.now a.positions.now p c.used_size-used.ensures c.if-sizes-used.true

pub returns-then-sizes-used-2 : goal.returns-then-sizes-used-2
returns-then-sizes-used-2 c = let a = c.args in let q = c.requires in let p = ap verdict_of (sym c.check_nodes.ensures ∙ c.in_ok-check_nodes.was) in too_wide (job_of a.job) a.sizes q.0 q.1 a.kinds.now a.operands.now a.true_kinds.now a.positions.now p c.used_size-used.ensures (omega (arith, c.if-sizes-used.false)) c.if-sizes-used-2.true

pub nodes_for-needed-requires : goal.nodes_for-needed-requires
nodes_for-needed-requires c = let a = c.args in let q = c.requires in let p = ap verdict_of (sym c.check_nodes.ensures ∙ c.in_ok-check_nodes.was) in omega (arith, plan_most (true_job (job_of a.job) a.sizes) (drawn_by (job_of a.job) a.sizes q.0 q.1 a.kinds.now a.operands.now p), c.count_pieces-pieces.ensures.1)

pub returns-then-true_kinds-needed : goal.returns-then-true_kinds-needed
returns-then-true_kinds-needed c = let a = c.args in let q = c.requires in let p = ap verdict_of (sym c.check_nodes.ensures ∙ c.in_ok-check_nodes.was) in
    kinds_short (job_of a.job) a.sizes q.0 q.1 a.kinds.now a.operands.now a.true_kinds.now a.positions.now p c.used_size-used.ensures (omega (arith, c.if-sizes-used.false)) (omega (arith, c.if-sizes-used-2.false)) (needed (true_job (job_of a.job) a.sizes) (drawn_by (job_of a.job) a.sizes q.0 q.1 a.kinds.now a.operands.now p) c.count_pieces-pieces.ensures.0 c.nodes_for-needed.ensures.0) c.if-true_kinds-needed.true

pub returns-then-positions-needed : goal.returns-then-positions-needed
returns-then-positions-needed c = let a = c.args in let q = c.requires in let p = ap verdict_of (sym c.check_nodes.ensures ∙ c.in_ok-check_nodes.was) in
    positions_short (job_of a.job) a.sizes q.0 q.1 a.kinds.now a.operands.now a.true_kinds.now a.positions.now p c.used_size-used.ensures (omega (arith, c.if-sizes-used.false)) (omega (arith, c.if-sizes-used-2.false)) (needed (true_job (job_of a.job) a.sizes) (drawn_by (job_of a.job) a.sizes q.0 q.1 a.kinds.now a.operands.now p) c.count_pieces-pieces.ensures.0 c.nodes_for-needed.ensures.0) (omega (arith, c.if-true_kinds-needed.false)) c.if-positions-needed.true

pub returns-then-pieces-eq0 : goal.returns-then-pieces-eq0
returns-then-pieces-eq0 c = let a = c.args in let q = c.requires in let p = ap verdict_of (sym c.check_nodes.ensures ∙ c.in_ok-check_nodes.was) in
    let n = c.nodes_for-needed.ensures.1 in
    waste_written (job_of a.job) a.sizes q.0 q.1 a.kinds.now a.operands.now a.true_kinds.now a.positions.now p c.used_size-used.ensures (omega (arith, c.if-sizes-used.false)) (omega (arith, c.if-sizes-used-2.false)) c.count_pieces-pieces.ensures.0 c.if-pieces-eq0.true (omega (arith, n, c.if-true_kinds-needed.false)) (omega (arith, n, c.if-positions-needed.false))
    (first_stored a.true_kinds.now 0 (omega (arith, n, c.if-true_kinds-needed.false))) (first_stored a.positions.now 0 (omega (arith, n, c.if-positions-needed.false)))

pub write_nodes-requires : goal.write_nodes-requires
write_nodes-requires c = let a = c.args in let q = c.requires in let p = ap verdict_of (sym c.check_nodes.ensures ∙ c.in_ok-check_nodes.was) in
    true_writable (job_of a.job) a.sizes q.0 q.1 a.kinds.now a.operands.now p (within (job_of a.job) a.sizes q.0 q.1 a.kinds.now a.operands.now a.true_kinds.now a.positions.now p c.used_size-used.ensures (omega (arith, c.if-sizes-used.false)) (omega (arith, c.if-sizes-used-2.false))) c.count_pieces-pieces.ensures.0 c.if-pieces-eq0.false c.nodes_for-needed.ensures.0 (omega (arith, c.if-true_kinds-needed.false)) (omega (arith, c.if-positions-needed.false))

pub overflow_cast-result : goal.overflow_cast-result
overflow_cast-result c = omega (arith, c.if-sizes-used.false, c.requires.1.plate_length.1)

pub overflow_cast-result-2 : goal.overflow_cast-result-2
overflow_cast-result-2 c = omega (arith, c.if-sizes-used-2.false, c.requires.1.plate_width.1)

pub returns : goal.returns
returns c = let a = c.args in let q = c.requires in let p = ap verdict_of (sym c.check_nodes.ensures ∙ c.in_ok-check_nodes.was) in
    let m = c.count_pieces-pieces.ensures.0 in
    let n = c.nodes_for-needed.ensures.0 in
    let z = c.if-pieces-eq0.false in
    is_written (job_of a.job) a.sizes q.0 q.1 a.kinds.now a.operands.now a.true_kinds.now a.positions.now p c.used_size-used.ensures (omega (arith, c.if-sizes-used.false)) (omega (arith, c.if-sizes-used-2.false)) (needed (true_job (job_of a.job) a.sizes) (drawn_by (job_of a.job) a.sizes q.0 q.1 a.kinds.now a.operands.now p) m n) (omega (arith, c.if-true_kinds-needed.false)) (omega (arith, c.if-positions-needed.false))
    (c.write_nodes.ensures.kinds ∙ ap (λ l. over l a.true_kinds.now) (kinds_written (true_job (job_of a.job) a.sizes) (drawn_by (job_of a.job) a.sizes q.0 q.1 a.kinds.now a.operands.now p) m z n))
    (c.write_nodes.ensures.operands ∙ ap (λ l. over l a.positions.now) (operands_written (true_job (job_of a.job) a.sizes) (drawn_by (job_of a.job) a.sizes q.0 q.1 a.kinds.now a.operands.now p) m z n))
