-- What the functions behind the check of a model promise: the sizes of kinds and plates with their kerf, the ways of a kind, and the table
-- of the chains as an array, kind after kind.
use Rattle.std.specs.Prelude.{◌≡◌, Bool, ◌&&◌, List, ℕ, zero, suc, ◌+◌, ◌≤◌, ◌<◌, leb, length, get_or}
use Rattle.promises.specs.declared.Direction.{Direction}
use Rattle.cutting.specs.Tree.{side}
use Rattle.cutting.specs.Pieces.{Piece, upright, turned, fits_in}
use Rattle.cutting.specs.Job.{Job, laid, turns}
use Rattle.cutting.specs.Relaxation.{taken}
use Rattle.cutting.specs.Chains.{copies_more}
use Rattle.promises.specs.declared.JobRecord.{JobRecord}
use Rattle.sizes.specs.declared.TrueSizes.{TrueSizes}
use Rattle.chains.specs.Table.{most_entry, entry}
use Rattle.model.specs.declared.Span.{Span}
use Rattle.model.specs.declared.Way.{Way}

-- what a rectangle takes in a direction, with the kerf after it
abbrev pub taken_by : Direction → Span → ℕ
taken_by d s = side d (s.length, s.width) + s.kerf

-- sides and a kerf up to given numbers
abbrev pub Within : ℕ → ℕ → Span → Type 0
Within side kerf s = (s.length ≤ side) × (s.width ≤ side) × (s.kerf ≤ kerf)

-- a way by the sizes, in truth and in the model, and the true plate
abbrev pub way_by : Direction → Bool → Span → Span → Span → Way
way_by d may real model plate = record { lies = may && (leb real.length plate.length && leb real.width plate.width); model = taken_by d model; real = taken_by d real }

-- length and width change places
abbrev pub turned_span : Span → Span
turned_span s = record { length = s.width; width = s.length; kerf = s.kerf }

-- the true size of kind i
abbrev pub true_span_at : TrueSizes → ℕ → Span
true_span_at z i = record { length = get_or z.lengths i 0; width = get_or z.widths i 0; kerf = z.kerf }

-- its size in the model
abbrev pub model_span_at : JobRecord → ℕ → Span
model_span_at j i = record { length = get_or j.lengths i 0; width = get_or j.widths i 0; kerf = j.kerf }

-- the true plate
abbrev pub true_plate : TrueSizes → Span
true_plate z = record { length = z.length; width = z.width; kerf = z.kerf }

-- the model's plate
abbrev pub model_plate : JobRecord → Span
model_plate j = record { length = j.length; width = j.width; kerf = j.kerf }

-- whether a piece may lie in its way and fits the plate so
abbrev pub lies_so : Job → Piece → Bool
lies_so J (upright i) = fits_in (laid J (upright i)) J.plate
lies_so J (turned i) = turns J i && fits_in (laid J (turned i)) J.plate

-- the way of a piece, for a true job and its model
pub record WayOf (J M : Job) (d : Direction) (p : Piece) (w : Way) : Type 0 where
  pub lies : w.lies ≡ lies_so J p
  pub model : w.model ≡ taken M d p
  pub real : w.real ≡ taken J d p

-- a table and two ways whose sums fit
pub record Fitting (table : List ℕ) (a b : Way) : Type 0 where
  pub first : 1 ≤ a.model
  pub second : 1 ≤ b.model
  pub first_fits : a.real ≤ most_entry
  pub second_fits : b.real ≤ most_entry
  pub entries_fit : (s : ℕ) → entry table s ≤ most_entry

-- a table's entries are f's
pub record Tabled (f : ℕ → ℕ) (table : List ℕ) : Type 0 where
  pub at : (s : ℕ) → s < length table → entry table s ≡ f s

-- the table without a piece: 0, and then a number above the room
abbrev pub cleared : ℕ → ℕ → ℕ
cleared above zero = 0
cleared above (suc s) = above

-- the table with so many copies more of a kind in two ways, whichever jobs and kind they are of
pub record Added (old : List ℕ) (copies : ℕ) (a b : Way) (new : List ℕ) : Type 0 where
  pub long : length new ≡ length old
  pub entries : (J M : Job) (d : Direction) (i : ℕ) → WayOf J M d (upright i) a → WayOf J M d (turned i) b → Tabled (copies_more J M d i copies (entry old)) new
