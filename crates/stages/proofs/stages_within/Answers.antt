-- `stages::stages_within` meets its contract: the walk begins below the first cut.
use Rattle.stages.proofs.Prelude.{◌≡◌, refl, sym, ◌∙◌, ap, arith, max, Length, Width, Ok}
use Rattle.refusal.proofs.Results.{handed}
use Rattle.stages.proofs.Walks.{answer_of, named_on, plan_leaf, plan_cut}
use Rattle.stages.proofs.stages_within.Goals.{in-2+in_ok-parts-in-2, in-3+in_ok-parts-in-3}
use Rattle.stages.proofs.stages_within.Goals as goal

pub returns-in_err-parts-in-2-clause-stages : goal.returns-in_err-parts-in-2-clause-stages
returns-in_err-parts-in-2-clause-stages c t e = handed _ c.from_residual.ensures.1 ∙ sym (ap answer_of c.in_err-parts-in-2.was) ∙ plan_cut _ c.args.limit _ c.requires.0 refl Length c.in-2.is c.requires.2 _ c.length_stage.ensures t e

pub returns-in_err-parts-in-2-clause-named : goal.returns-in_err-parts-in-2-clause-named
returns-in_err-parts-in-2-clause-named c = named_on c.length_stage.ensures.named c.in_err-parts-in-2.was (handed _ c.from_residual.ensures.1)

pub returns-in_err-parts-in-3-clause-stages : goal.returns-in_err-parts-in-3-clause-stages
returns-in_err-parts-in-3-clause-stages c t e = handed _ c.from_residual-in_err-parts-in-3.ensures.1 ∙ sym (ap answer_of c.in_err-parts-in-3.was) ∙ plan_cut _ c.args.limit _ c.requires.0 refl Width c.in-3.is c.requires.2 _ c.width_stage.ensures t e

pub returns-in_err-parts-in-3-clause-named : goal.returns-in_err-parts-in-3-clause-named
returns-in_err-parts-in-3-clause-named c = named_on c.width_stage.ensures.named c.in_err-parts-in-3.was (handed _ c.from_residual-in_err-parts-in-3.ensures.1)

pub returns-in_default-clause-stages : goal.returns-in_default-clause-stages
returns-in_default-clause-stages c = plan_leaf _ c.args.limit _ c.requires.0 refl (λ k. omega arith) (λ k. omega arith)

at_least : (c : goal.After-max) → c.max.result ≡ max 1 c.match-kinds.parts.stages
at_least c = omega (arith, c.max.ensures)

pub returns-clause-stages : goal.returns-clause-stages
returns-clause-stages c t e = elim c.match-kinds.branch [
  | in-2+in_ok-parts-in-2 w ↦ ap Ok (at_least c ∙ ap (λ p. max 1 p.stages) w.parts-is) ∙ sym (ap answer_of w.in_ok-parts-in-2.was) ∙ plan_cut _ c.args.limit _ c.requires.0 refl Length w.in-2.is c.requires.2 _ w.length_stage.ensures t e
  | in-3+in_ok-parts-in-3 w ↦ ap Ok (at_least c ∙ ap (λ p. max 1 p.stages) w.parts-is) ∙ sym (ap answer_of w.in_ok-parts-in-3.was) ∙ plan_cut _ c.args.limit _ c.requires.0 refl Width w.in-3.is c.requires.2 _ w.width_stage.ensures t e
]
