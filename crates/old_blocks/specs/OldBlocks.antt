-- Kerf 0 in the new block: the plan check answers as for the old block, and so do the writing call and the certificate, which leave the same
-- in lists, table and plan arrays. The bound call says so in its own contract.
-- docs/SCOPE.md: The blade's width.
use Rattle.std.specs.Prelude.{◌≡◌, false, List, ℕ}
use Rattle.cutting.specs.Preorder.{kinds_of, operands_of}
use Rattle.promises.specs.Refusals.{Answer}
use Rattle.promises.specs.declared.Choices.{Choices}
use Rattle.job.specs.Block.{with_old_block, KerfNone}
use Rattle.job.specs.Weights.{weight_in}
use Rattle.plan.specs.Calls.{arrays_answer}
use Rattle.bound.specs.Bound.{Memory, Leaves, BoundLeaves, wide_job, block_capacity}
use Rattle.writer.specs.Write.{block_plan, write_answer, array_after, WritePromises}
use Rattle.promises.specs.declared.Certificate.{Certificate}
use Rattle.certificate.specs.Certificate.{plan_verdict, certificate_of}
use Rattle.certificate.specs.Promises.{CertifyPromises}
use Rattle.promises.specs.declared.WriteReport.{WriteReport}

-- what a writing call answers and leaves is what it answers and leaves for a block z
pub record WrittenAs (z : List ℕ) (choices : Choices) (ws : List ℕ) (old new : Memory) (kinds operands new_kinds new_operands : List ℕ) (r : Answer WriteReport) : Type 0 where
  pub answers : r ≡ write_answer z choices ws old kinds operands
  pub memory : BoundLeaves z choices ws old new
  pub kinds_left : new_kinds ≡ array_after z choices ws old kinds operands (kinds_of (block_plan z choices ws)) kinds
  pub operands_left : new_operands ≡ array_after z choices ws old kinds operands (operands_of (block_plan z choices ws)) operands

-- and so of a certificate
pub record CertifiedAs (z : List ℕ) (choices : Choices) (ws kinds operands : List ℕ) (old new : Memory) (r : Answer Certificate) : Type 0 where
  pub answers : r ≡ certificate_of z choices ws kinds operands old
  pub memory : Leaves (plan_verdict z choices ws kinds operands) (wide_job z choices) (weight_in ws) (block_capacity z choices ws) old new

-- a call on the new block s answers and leaves what it does on the block z
pub record CallsAlike (s : List ℕ) (choices : Choices) (z : List ℕ) (other : Choices) : Type 0 where
  pub checked : (kinds operands : List ℕ) → arrays_answer s choices kinds operands ≡ arrays_answer z other kinds operands
  pub written : {ws : List ℕ} {old new : Memory} {kinds operands new_kinds new_operands : List ℕ} {r : Answer WriteReport}
      → WritePromises s choices ws old new kinds operands new_kinds new_operands r → WrittenAs z other ws old new kinds operands new_kinds new_operands r
  pub certified : {ws kinds operands : List ℕ} {old new : Memory} {r : Answer Certificate}
      → CertifyPromises s choices ws kinds operands old new r → CertifiedAs z other ws kinds operands old new r

-- kerf 0 in the new block s does what its old block z does
abbrev pub KerfNoneCalls : Type 0
KerfNoneCalls = (s : List ℕ) (choices : Choices) (z : List ℕ) → choices.old_block ≡ false → KerfNone s z → CallsAlike s choices z (with_old_block choices)
