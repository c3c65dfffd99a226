-- `neat::neat_nodes` meets its contract: each answer is one of the call's.
use Rattle.neat.proofs.Prelude.{sym, ◌∙◌, ap, arith, over, job_of, verdict_of, handed}
use Rattle.neat.proofs.Plans.{plan_most, needed, waste_one, waste_kinds, waste_operands, drawn_by, own_writable, kinds_written, operands_written, kinds_short, operands_short, is_refused, is_written, first_stored}
use Rattle.neat.proofs.neat_nodes.Goals as goal

pub returns-in_err-check_nodes : goal.returns-in_err-check_nodes
returns-in_err-check_nodes c = let a = c.args in
    is_refused (job_of a.job) c.requires a.kinds.now a.operands.now a.neat_kinds.now a.neat_operands.now (sym c.check_nodes.ensures ∙ c.in_err-check_nodes.was) (handed _ c.from_residual.ensures.1)

pub nodes_for-needed-requires : goal.nodes_for-needed-requires
nodes_for-needed-requires c = let a = c.args in let J = job_of a.job in let range = c.requires in let p = ap verdict_of (sym c.check_nodes.ensures ∙ c.in_ok-check_nodes.was) in
    omega (arith, plan_most J (drawn_by J range a.kinds.now a.operands.now p), c.count_pieces-pieces.ensures.1)

pub returns-then-neat_kinds-needed : goal.returns-then-neat_kinds-needed
returns-then-neat_kinds-needed c = let a = c.args in let J = job_of a.job in let range = c.requires in let p = ap verdict_of (sym c.check_nodes.ensures ∙ c.in_ok-check_nodes.was) in
    kinds_short J range a.kinds.now a.operands.now a.neat_kinds.now a.neat_operands.now p (needed J (drawn_by J range a.kinds.now a.operands.now p) c.count_pieces-pieces.ensures.0 c.nodes_for-needed.ensures.0) c.if-neat_kinds-needed.true

pub returns-then-neat_operands-needed : goal.returns-then-neat_operands-needed
returns-then-neat_operands-needed c = let a = c.args in let J = job_of a.job in let range = c.requires in let p = ap verdict_of (sym c.check_nodes.ensures ∙ c.in_ok-check_nodes.was) in
    operands_short J range a.kinds.now a.operands.now a.neat_kinds.now a.neat_operands.now p (needed J (drawn_by J range a.kinds.now a.operands.now p) c.count_pieces-pieces.ensures.0 c.nodes_for-needed.ensures.0) (omega (arith, c.if-neat_kinds-needed.false)) c.if-neat_operands-needed.true

pub returns-then-pieces-eq0 : goal.returns-then-pieces-eq0
returns-then-pieces-eq0 c = let a = c.args in let J = job_of a.job in let range = c.requires in let p = ap verdict_of (sym c.check_nodes.ensures ∙ c.in_ok-check_nodes.was) in
    let m = c.count_pieces-pieces.ensures.0 in
    let n = c.nodes_for-needed.ensures.1 in
    is_written J range a.kinds.now a.operands.now a.neat_kinds.now a.neat_operands.now p (waste_one J (drawn_by J range a.kinds.now a.operands.now p) m c.if-pieces-eq0.true) (omega (arith, n, c.if-neat_kinds-needed.false)) (omega (arith, n, c.if-neat_operands-needed.false))
    (first_stored a.neat_kinds.now 0 (omega (arith, n, c.if-neat_kinds-needed.false)) ∙ ap (λ l. over l a.neat_kinds.now) (waste_kinds J (drawn_by J range a.kinds.now a.operands.now p) m c.if-pieces-eq0.true))
    (first_stored a.neat_operands.now 0 (omega (arith, n, c.if-neat_operands-needed.false)) ∙ ap (λ l. over l a.neat_operands.now) (waste_operands J (drawn_by J range a.kinds.now a.operands.now p) m c.if-pieces-eq0.true))

pub write_nodes-requires : goal.write_nodes-requires
write_nodes-requires c = let a = c.args in let J = job_of a.job in let range = c.requires in let p = ap verdict_of (sym c.check_nodes.ensures ∙ c.in_ok-check_nodes.was) in
    (own_writable J range a.kinds.now a.operands.now p c.count_pieces-pieces.ensures.0 c.if-pieces-eq0.false c.nodes_for-needed.ensures.0 (omega (arith, c.if-neat_kinds-needed.false)) (omega (arith, c.if-neat_operands-needed.false)), range)

pub returns : goal.returns
returns c = let a = c.args in let J = job_of a.job in let range = c.requires in let p = ap verdict_of (sym c.check_nodes.ensures ∙ c.in_ok-check_nodes.was) in
    let m = c.count_pieces-pieces.ensures.0 in
    let n = c.nodes_for-needed.ensures.0 in
    let z = c.if-pieces-eq0.false in
    is_written J range a.kinds.now a.operands.now a.neat_kinds.now a.neat_operands.now p (needed J (drawn_by J range a.kinds.now a.operands.now p) m n) (omega (arith, c.if-neat_kinds-needed.false)) (omega (arith, c.if-neat_operands-needed.false))
    (c.write_nodes.ensures.kinds ∙ ap (λ l. over l a.neat_kinds.now) (kinds_written J (drawn_by J range a.kinds.now a.operands.now p) m z n))
    (c.write_nodes.ensures.operands ∙ ap (λ l. over l a.neat_operands.now) (operands_written J (drawn_by J range a.kinds.now a.operands.now p) m z n))
