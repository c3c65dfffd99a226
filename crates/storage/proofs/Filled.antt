-- Lists and floors of pieces: what each step of laying out asks and leaves, from what the step before left; and what a fill then asks.
use Rattle.storage.proofs.Prelude.{◌≡◌, refl, sym, subst, List, ℕ, ◌+◌, ◌*◌, ◌≤◌, ◌<◌, mul-le-mul_left, arith, length, drop, length-drop, Direction, Length, Width, most_capacity, over, Rect, side, Job, normal_positions, InTableRange, pieces_job, Holds, field_in, Listable, positions_of, Mappable, Floors, holds_take, holds_length, lengths_found, widths_found, positions_rising, floors_found, position_count, TableSize, Mapped, Positions, Fillable, SidesMapped, BothMapped, table_size, LaidOut, Answer, Layout, Ok}
use Rattle.storage.proofs.Storage.{ready_laid}

side_most : (J : Job) → InTableRange J → (d : Direction) → side d J.plate ≤ 1020
side_most J h Length = h.plate_length.1
side_most J h Width = h.plate_width.1

module _ (J : Job) (d : Direction) {n : ℕ} {old list : List ℕ} (h : Holds (normal_positions J d) n old list) where
  -- a list of normal positions can be mapped
  pub map_ready : InTableRange J → Mappable list n (side d J.plate) 1021
  map_ready g =
      let r = positions_rising J d list n (holds_length h) (holds_take h) in
      let m = side_most J g d in
      record { some = r.0; listed = holds_length h; rising = r.1; most = m; room_there = omega (arith, m) }

  -- its map is the job's
  mapped : (floors : List ℕ) → Floors list n (side d J.plate + 1) floors → Mapped J d floors
  mapped floors f = floors_found J d list n (holds_length h) (holds_take h) floors f

module _ (r : Rect) (count : ℕ) (pieces : List ℕ) where
  -- the plain job of the pieces
  abbrev J : Job
  J = pieces_job r count pieces

  module _ (h : InTableRange J) {room : ℕ} where
    -- what listing a side's positions asks
    pub lengths_ready : r.0 < room → (0 ≤ 1) × Listable (field_in pieces 0) count r.0 room
    lengths_ready l = (omega arith, record { kinds = h.kinds; most = h.plate_length.1; room_there = l; positive = λ i k. (let e : 5 * i + 0 ≡ 5 * i = omega arith in rw e (h.lengths i k).0) })

    pub widths_ready : r.1 < room → (1 ≤ 1) × Listable (field_in pieces 1) count r.1 room
    widths_ready l = (omega arith, record { kinds = h.kinds; most = h.plate_width.1; room_there = l; positive = λ i k. (h.widths i k).0 })

  module _ {n : ℕ} {old list : List ℕ} where
    -- what is then listed are the job's normal positions
    pub lengths_listed : Holds (positions_of pieces 0 count r.0 r.1) n old list → Holds (normal_positions J Length) n old list
    lengths_listed h = subst (λ xs. Holds xs n old list) (lengths_found r count pieces) h

    pub widths_listed : Holds (positions_of pieces 1 count r.1 r.0) n old list → Holds (normal_positions J Width) n old list
    widths_listed h = subst (λ xs. Holds xs n old list) (widths_found r count pieces) h

  module _ {p columns : ℕ} {lengths₀ widths₀ lengths widths : List ℕ} (a : Holds (normal_positions J Length) p lengths₀ lengths) (b : Holds (normal_positions J Width) columns widths₀ widths) (q : ℕ) where
    abbrev size : TableSize
    size = record { length = r.0; width = r.1; count = count; rows = p; columns = columns; capacity = q }

    -- the size is the job's
    pub size_is : size ≡ table_size J q
    size_is = rw (a.number, b.number) refl

    -- the floors of both sides are the job's
    pub both_mapped : {floors : List ℕ} → SidesMapped size lengths widths floors → BothMapped J floors
    both_mapped {floors} m = record {
      entries = m.entries;
      lengths = mapped J Length a floors m.lengths_mapped;
      widths = mapped J Width b (drop 1021 floors) m.widths_mapped;
    }

-- a list of normal positions and its floors, as a fill asks for them
positions : (J : Job) (d : Direction) (old : List ℕ) {list floors : List ℕ} → list ≡ over (normal_positions J d) old → side d J.plate < length floors → Mapped J d floors → Positions J d (position_count J d) list floors
positions J d old {list} {floors} e l m =
    let h : Holds (normal_positions J d) (position_count J d) old list = record { number = refl; contents = e } in
    record { counted = refl; listed = holds_take h; mapped = l; floored = m }

module _ {r : Rect} {count : ℕ} {pieces : List ℕ} {q per_cell : ℕ} {lengths widths floors new_lengths new_widths new_floors table : List ℕ} {a : Answer Layout} {l : Layout}
    (laid : LaidOut (pieces_job r count pieces) q per_cell (length table) lengths widths floors new_lengths new_widths new_floors a) (e : a ≡ Ok l) where
  -- what a fill asks, where a cell has a word for each share
  pub fillable : InTableRange (pieces_job r count pieces) → q ≤ most_capacity → q + 1 ≤ per_cell → Fillable l.size pieces new_lengths new_widths new_floors table
  fillable most few enough =
      let N = pieces_job r count pieces in
      let k = ready_laid laid e in
      subst (λ s. Fillable s pieces new_lengths new_widths new_floors table) (sym k.size_is) (record {
        in_range = most;
        most = few;
        floors_there = k.mapped.entries;
        lengths = positions N Length lengths k.lengths_hold (omega (arith, most.plate_length.1, k.mapped.entries)) k.mapped.lengths;
        widths = positions N Width widths k.widths_hold (omega (arith, most.plate_width.1, k.mapped.entries, length-drop 1021 new_floors)) k.mapped.widths;
        room = omega (arith, k.room_there, mul-le-mul_left (position_count N Length * position_count N Width) enough);
      })
