-- `put` of this report meets its contract.
use Rattle.answer_words.proofs.Prelude.{◌∙◌, ap₂, set, arith, plan_values}
use Rattle.answer_words.proofs.Stored.{over_more}
use Rattle.answer_words.proofs.reports.StagedReportWords.put.Goals as goal

pub returns : goal.returns
returns c = ap₂ (λ xs k. set xs 69 k) c.put_report.ensures.0 c.from.ensures
    ∙ over_more (plan_values c.args.self.now.report) c.args.answer.now 69 c.args.self.now.stages c.put_report.ensures.1 (omega (arith, c.requires))
