-- `printer::keeps_demands` meets its contract.
use Rattle.printer.proofs.Prelude.{sym, subst, Bool, JobPasses, block_job, DemandsKept}
use Rattle.printer.proofs.Demands.{judged}
use Rattle.printer.proofs.keeps_demands.Goals as goal

pub returns : goal.returns
returns c = let a = c.args in
    subst (λ (b : Bool). DemandsKept (JobPasses a.block.now a.choices) (block_job a.block.now a.choices) a.kinds.now a.operands.now b) (sym c.is_ok.ensures.value) (judged c.check_plan.ensures.trees)
