-- Prices and the saw: which bytes of a block are prices, that the office reads its prices there, and what it means that the saw's answer
-- reads none of them and that it is the office's without the profit.
-- docs/SCOPE.md: Saw and office.
use Rattle.std.specs.Prelude.{◌≡◌, List, ℕ, Err}
use Rattle.promises.specs.declared.Refusal.TheVariants.{Price}
use Rattle.promises.specs.declared.Choices.{Choices}
use Rattle.refusal.specs.Refusals.{Answer, passed, verdict_of}
use Rattle.plan.specs.Calls.{arrays_answer}
use Rattle.saw.specs.Saw.{saw_of}
pub use Rattle.promises.specs.Block.{PriceByte, OnlyPrices, PricesFree}
use Rattle.promises.specs.declared.SawReport.{SawReport}

-- what holds of a block and of every block that differs from it only in prices
abbrev pub AtAnyPrices : Choices → List ℕ → (List ℕ → Type 0) → Type 0
AtAnyPrices choices s Holds = (z : List ℕ) → OnlyPrices choices s z → Holds z

-- beside the office: unless it gives 6, the saw's answer is the plan check's without the profit, refusals and places included. So it is
-- where the plan check passes
pub record BesideOffice (s : List ℕ) (choices : Choices) (kinds operands : List ℕ) (a : Answer SawReport) : Type 0 where
  pub alike : ((i : ℕ) → arrays_answer s choices kinds operands ≡ Err (Price i) → ⊥) → a ≡ saw_of (arrays_answer s choices kinds operands)
  pub passed : verdict_of (arrays_answer s choices kinds operands) ≡ passed → a ≡ saw_of (arrays_answer s choices kinds operands)
