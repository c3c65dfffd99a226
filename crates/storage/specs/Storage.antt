-- Checks 19 and 20 of the storage that a call is lent, and what a check leaves in a list. J is the job with the kerf added to every side, cut
-- without loss.
-- docs/SCOPE.md: Lent memory; The table of refusals.
use Rattle.std.specs.Prelude.{◌||◌, ℕ, ◌+◌, ltb}
use Rattle.cutting.specs.Job.{Job}
use Rattle.refusal.specs.Refusals.{Check}
use Rattle.promises.specs.declared.Refusal.TheVariants.{ListShort, TableShort}
pub use Rattle.promises.specs.Call.{list_after}

-- check 19: a list shorter than the plate's length, or width, and one word more
abbrev pub list_check : Job → ℕ → ℕ → Check
list_check J m n = (ltb m (J.plate.0 + 1) || ltb n (J.plate.1 + 1), ListShort)

-- check 20: a table shorter than the words needed, with these
abbrev pub room_check : ℕ → ℕ → Check
room_check words n = (ltb n words, TableShort words)
