-- What it is to hand an outcome over in answer words, and when a certificate's sum fits into one.
-- docs/SCOPE.md: The C interface.
use Rattle.std.specs.Prelude.{◌≡◌, List, [], ◌∷◌, ℕ, ◌+◌, ◌-◌, ◌≤◌}
use Rattle.cutting.specs.Limits.{most_figure}
use Rattle.cutting.specs.Lists.{over}
use Rattle.refusal.specs.Refusals.{Outcome}
use Rattle.promises.specs.declared.Certificate.{Certificate}
use Rattle.promises.specs.declared.Certificate.TheVariants.{Gap}
use Rattle.promises.specs.declared.Part.{Part}

-- an outcome handed over in answer words that are enough: its number is returned, its values stand at the front
abbrev pub Gives : Outcome → ℕ → List ℕ → List ℕ → Type 0
Gives o number old new = (number ≡ o.0) × (new ≡ over o.1 old)

-- a certificate's profit and gap sum to at most the bound's ceiling
abbrev pub GapWithin : Certificate → Type 0
GapWithin r = (profit gap : ℕ) → r ≡ Gap profit gap → profit + gap ≤ most_figure

-- a part does not end before it begins; its values: the first entry and the number of entries
abbrev pub InOrder : Part → Type 0
InOrder p = p.first ≤ p.past

abbrev pub part_values : Part → List ℕ
part_values p = p.first ∷ (p.past - p.first) ∷ []
