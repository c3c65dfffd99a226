-- Inner definitions, cited by the contracts of this crate alone: a finished cell, what a cell of a block asks to be made, and the steps
-- by which it is made. A share is a state of one digit, so the order of states is that of numbers.
use Rattle.std.specs.Prelude.{◌≡◌, List, ℕ, ◌+◌, ◌-◌, ◌*◌, ◌≤◌, ◌<◌, max, leb}
use Rattle.cutting.specs.Limits.{most_pieces}
use Rattle.cutting.specs.Job.{Job}
use Rattle.table.specs.Words.{Run, Cuts}
use Rattle.table.specs.States.{Covers}
use Rattle.state_cells.specs.declared.shape.Shape.{Shape}
use Rattle.state_joins.specs.declared.cuts.Line.{Line}
use Rattle.states.specs.States.{held, note, Rises, Topped}
use Rattle.state_joins.specs.Joins.{Ready, Listed, Sorted, CutAt}
use Rattle.state_cells.specs.Cells.{Startable, Inherited, Placed, Finished}

-- a finished cell from word x on: its words hold the figures f, its list has states only, which do not fall, nothing is noted past its end,
-- and the list covers the figures over g and over h, those of the cells before it in the two directions
pub record Made (words x : ℕ) (f g h : ℕ → ℕ) (xs : List ℕ) : Type 0 where
  pub figures : (s : ℕ) → s < words → held xs x s ≡ f s
  pub notes : (k : ℕ) → k < words → note xs x k ≤ words
  pub ended : (j k : ℕ) → j ≤ k → k < words → note xs x j ≡ 0 → note xs x k ≡ 0
  pub sorted : Sorted xs x words
  pub first : Covers leb words (Listed xs x words) f g
  pub second : Covers leb words (Listed xs x words) f h

-- a number of states
abbrev pub States : ℕ → Type 0
States words = (1 ≤ words) × (words ≤ 65536)

-- a cell without a cut can be made from the cells before it in length and in width
pub record UncutReady (shape : Shape) (at flat : ℕ) (xs : List ℕ) : Type 0 where
  pub one_digit : shape.d ≡ 0
  pub states : States shape.words
  pub few : shape.count ≤ most_pieces
  pub fits : (shape.stride ≤ at) × (shape.words ≤ at)
  pub starts : Startable (at - shape.stride) (at - shape.words) at shape.words flat xs
  pub shorter : Ready xs (at - shape.stride) shape.words at
  pub narrower : Ready xs (at - shape.words) shape.words at
  pub shorter_rises : Rises leb shape.words (held xs (at - shape.stride))
  pub narrower_rises : Rises leb shape.words (held xs (at - shape.words))

-- the steps by which it is made
pub record UncutSteps (J : Job) (own : ℕ → ℕ) (count words stride at l w flat next : ℕ) (old new : List ℕ) : Type 0 where
  pub top : ℕ
  pub t1 : List ℕ
  pub t2 : List ℕ
  pub t3 : List ℕ
  pub t4 : List ℕ
  pub started : Run (λ s. max (held old (at - stride) s) (held old (at - words) s)) at words old t1
  pub first : Inherited (at - words) (at - stride) at words t1 t2
  pub second : Inherited (at - stride) (at - words) at words t2 t3
  pub placed : Placed leb J own count l w at words t3 t4
  pub topped : Topped at words 0 top t1 t4
  pub done : Finished 0 at (at - stride) (at - words) words t4 new
  pub flat_is : next ≡ max flat top

-- a cell of a later block can be made: its source, the cells before it along the line and the one before it in the other direction are
pub record LaterReady (positions floors : List ℕ) (line : Line) (source across words flat : ℕ) (xs : List ℕ) : Type 0 where
  pub states : States words
  pub fits : line.stride ≤ line.at
  pub starts : Startable source (line.at - line.stride) line.at words flat xs
  pub source_ready : Ready xs source words line.at
  pub along_ready : Ready xs (line.at - line.stride) words line.at
  pub across_before : across + words ≤ line.at
  pub source_rises : Rises leb words (held xs source)
  pub along_rises : Rises leb words (held xs (line.at - line.stride))
  pub cuts : Cuts positions floors line.index line.half_end
  pub ready : (j : ℕ) → j < line.index → Ready xs (line.base + j * line.stride) words line.at

-- the steps by which it is made
pub record LaterSteps (positions floors : List ℕ) (line : Line) (source across words flat next : ℕ) (old new : List ℕ) : Type 0 where
  pub top : ℕ
  pub t1 : List ℕ
  pub t2 : List ℕ
  pub t3 : List ℕ
  pub t4 : List ℕ
  pub t5 : List ℕ
  pub started : Run (λ s. max (held old source s) (held old (line.at - line.stride) s)) line.at words old t1
  pub first : Inherited source (line.at - line.stride) line.at words t1 t2
  pub second : Inherited source across line.at words t2 t3
  pub third : Inherited (line.at - line.stride) across line.at words t3 t4
  pub taken : CutAt leb 0 line.skip positions floors line.index 1 line.half_end line.base line.stride line.at words t4 t5
  pub topped : Topped line.at words 0 top t1 t5
  pub done : Finished 0 line.at (line.at - line.stride) across words t5 new
  pub flat_is : next ≡ max flat top
