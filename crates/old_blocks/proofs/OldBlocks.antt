-- The statement of specs/OldBlocks: a call reads nothing of a block but its checks and its record, and these are the same.
use mathlib.Core.Path.{◌∙◌, ap, ap₂, subst}
use mathlib.Core.List.{List, ◌++◌}
use Prim.Native.Nat.{ℕ}
use Rattle.cutting.specs.Tree.{Tree}
use Rattle.cutting.specs.Pieces.{Piece}
use Rattle.cutting.specs.Preorder.{kinds_of, operands_of, node_count}
use Rattle.cutting.specs.Job.{Job, widened, capacity, bound_of, bound_plan}
use Rattle.refusal.specs.Refusals.{Answer, Check, Checked, answer_by, next, first_refusal, verdict_of}
use Rattle.promises.specs.declared.Choices.{Choices}
use Rattle.promises.specs.declared.JobRecord.{JobRecord}
use Rattle.job.specs.Block.{job_of, ReadAlike}
use Rattle.job.specs.Weights.{weight_in, weight_checks}
use Rattle.job.proofs.Kerf.{kerf_none_read}
use Rattle.plan.specs.Plan.{proceed, plan_answer}
use Rattle.bound.specs.Bound.{Memory, Leaves, list_after, bound_report, memory_checks}
use Rattle.writer.specs.Write.{nodes_verdict, reported}
use Rattle.promises.specs.declared.Certificate.{Certificate}
use Rattle.certificate.specs.Certificate.{plan_profit, compared}
use Rattle.old_blocks.specs.OldBlocks.{CallsAlike, KerfNoneCalls}
use Rattle.promises.specs.Refusals.{Checked, Answer, answer_by, verdict_of}
use Rattle.promises.specs.declared.WriteReport.{WriteReport}

-- the checks of a block and its record
abbrev Block : Type 0
Block = List Check × JobRecord

module _ (ws : List ℕ) (m : Memory) where
  abbrev J : Block → Job
  J b = job_of b.1

  abbrev q : Block → ℕ
  q b = capacity (J b) (weight_in ws)

  -- the verdicts of the checks before the storage's, and of the storage's
  abbrev accepts : Block → Checked
  accepts b = first_refusal (b.0 ++ weight_checks (J b) ws)

  abbrev stores : Block → Checked
  stores b = first_refusal (memory_checks (widened (J b)) (q b) m)

  module _ (kinds operands : List ℕ) where
    -- the writing call's plan, verdict and answer
    abbrev plan : Block → Tree Piece
    plan b = bound_plan (J b) (weight_in ws)

    abbrev writes : Block → Checked
    writes b = next (next (accepts b) (stores b)) (nodes_verdict (plan b) kinds operands)

    abbrev written : Block → Answer WriteReport
    written b = answer_by (writes b) (reported (bound_report (widened (J b)) (weight_in ws) (q b)) (node_count (plan b)))

    -- the certificate's verdict and answer
    abbrev plans : Block → Checked
    plans b = next (accepts b) (verdict_of (plan_answer (J b) kinds operands))

    abbrev certified : Block → Answer Certificate
    certified b = answer_by (next (plans b) (stores b)) (compared (plan_profit (J b) kinds operands) (bound_of (J b) (weight_in ws)))

module _ {s : List ℕ} {choices : Choices} {z : List ℕ} {other : Choices} (same : ReadAlike s choices z other) where
  pub calls_alike : CallsAlike s choices z other
  calls_alike = record {
    checked = λ kinds operands. ap₂ (λ c j. proceed (first_refusal c) (plan_answer (job_of j) kinds operands)) same.checks same.record_is;
    written = λ {ws} {old} {new} {kinds} {operands} p. record {
      answers = p.answers ∙ ap (written ws old kinds operands) (λ i. (same.checks i, same.record_is i));
      memory = subst (λ (b : Block). Leaves (accepts ws old b) (widened (J ws old b)) (weight_in ws) (q ws old b) old new) (λ i. (same.checks i, same.record_is i)) p.memory;
      kinds_left = p.kinds_left ∙ ap (λ (b : Block). list_after (writes ws old kinds operands b) (kinds_of (plan ws old kinds operands b)) kinds) (λ i. (same.checks i, same.record_is i));
      operands_left = p.operands_left ∙ ap (λ (b : Block). list_after (writes ws old kinds operands b) (operands_of (plan ws old kinds operands b)) operands) (λ i. (same.checks i, same.record_is i));
    };
    certified = λ {ws} {kinds} {operands} {old} {new} p. record {
      answers = p.answers ∙ ap (certified ws old kinds operands) (λ i. (same.checks i, same.record_is i));
      memory = subst (λ (b : Block). Leaves (plans ws old kinds operands b) (widened (J ws old b)) (weight_in ws) (q ws old b) old new) (λ i. (same.checks i, same.record_is i)) p.memory;
    };
  }

pub kerf_none_calls : KerfNoneCalls
kerf_none_calls s choices z n h = calls_alike (kerf_none_read s choices z n h)
