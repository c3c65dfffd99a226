-- What only inner contracts cite: the floors of both sides in one array, and how lent storage is laid out.
use Rattle.std.specs.Prelude.{◌≡◌, List, [], ◌∷◌, ℕ, ◌+◌, ◌*◌, length, drop}
use Rattle.promises.specs.declared.Direction.TheVariants.{Length, Width}
use Rattle.cutting.specs.Job.{Job, normal_positions}
use Rattle.refusal.specs.Refusals.{Answer, Checked, first_refusal, by_check, answer_by}
use Rattle.positions.specs.Clauses.{Floors}
use Rattle.table.specs.declared.TableSize.{TableSize}
use Rattle.table.specs.Table.{position_count}
use Rattle.table.specs.Clauses.{Mapped}
use Rattle.storage.specs.declared.Layout.{Layout}
use Rattle.storage.specs.Storage.{list_check, room_check, list_after}

-- an array maps every length and every width of the plate to the last entry of a list that is not above it: the lengths first, the
-- widths from entry 1,021 on
pub record SidesMapped (size : TableSize) (normal_lengths normal_widths floors : List ℕ) : Type 0 where
  pub entries : length floors ≡ 2042
  pub lengths_mapped : Floors normal_lengths size.rows (size.length + 1) floors
  pub widths_mapped : Floors normal_widths size.columns (size.width + 1) (drop 1021 floors)

-- one array has the floors of both sides: those of the lengths first, those of the widths from entry 1,021 on
pub record BothMapped (J : Job) (floors : List ℕ) : Type 0 where
  pub entries : length floors ≡ 2042
  pub lengths : Mapped J Length floors
  pub widths : Mapped J Width (drop 1021 floors)

-- the size of a job's table at a capacity
abbrev pub table_size : Job → ℕ → TableSize
table_size J q = record { length = J.plate.0; width = J.plate.1; count = J.count; rows = position_count J Length; columns = position_count J Width; capacity = q }

-- the words of a job's table, so many a cell
abbrev pub cell_words : Job → ℕ → ℕ
cell_words J per_cell = position_count J Length * position_count J Width * per_cell

-- how storage is laid out for it
abbrev pub layout : Job → ℕ → ℕ → Layout
layout J q per_cell = record { size = table_size J q; words = cell_words J per_cell }

-- the verdict of the check of the lists
abbrev pub lists_verdict : Job → List ℕ → List ℕ → Checked
lists_verdict J lengths widths = first_refusal (list_check J (length lengths) (length widths) ∷ [])

-- the verdict of both checks
abbrev pub storage_verdict : Job → ℕ → ℕ → List ℕ → List ℕ → Checked
storage_verdict J words room lengths widths = first_refusal (list_check J (length lengths) (length widths) ∷ room_check words room ∷ [])

-- the answer by the verdict of both checks; the lists with the normal positions, the later entries as they were, where their own check
-- passes; the floors of both sides where both pass; and else all as it was
pub record LaidOut (J : Job) (q per_cell room : ℕ) (lengths widths floors new_lengths new_widths new_floors : List ℕ) (r : Answer Layout) : Type 0 where
  pub answer : r ≡ answer_by (storage_verdict J (cell_words J per_cell) room lengths widths) (layout J q per_cell)
  pub lengths_left : new_lengths ≡ list_after (lists_verdict J lengths widths) (normal_positions J Length) lengths
  pub widths_left : new_widths ≡ list_after (lists_verdict J lengths widths) (normal_positions J Width) widths
  pub floors_left : by_check (storage_verdict J (cell_words J per_cell) room lengths widths) (BothMapped J new_floors) (λ r. new_floors ≡ floors)
