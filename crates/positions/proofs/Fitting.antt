-- The sides of the pieces that fit: how the list grows, and that it gives the normal positions of the plain job of the array.
use Rattle.positions.proofs.Prelude.{◌≡◌, refl, sym, ◌∙◌, ap, subst, true, false, and_comm, List, [], ◌∷◌, ◌++◌, map, ℕ, ◌+◌, ◌-◌, ◌*◌, ◌≤◌, ◌<◌, arith, T, leb, length, set, length-map, Direction, Length, Width, range, filter, Rect, side, fits_in, normals, sides, normal_positions, size_in, price_in, pieces_job, mem_range, mem_filter, mem_map, filter_map_cong, true_fits_in, get_or_mem, plain_sides, Holds, entry, field_in, piece_fits, fitting, positions_of}
use Rattle.positions.specs.Clauses.{Listable}
use Rattle.positions.proofs.Lists.{filter_taken, filter_left, filter_count, holds_more}

map_snoc : (f : ℕ → ℕ) (xs : List ℕ) (x : ℕ) → map f (xs ++ (x ∷ [])) ≡ map f xs ++ (f x ∷ [])
map_snoc f [] x = refl
map_snoc f (y ∷ ys) x = ap (λ zs. f y ∷ zs) (map_snoc f ys x)

module _ (pieces : List ℕ) (field l o : ℕ) where
  -- the side of a piece that fits is not greater than the plate's
  pub side_most : (i : ℕ) → piece_fits pieces field l o i ≡ true → field_in pieces field i ≤ l
  side_most i t = (true_fits_in (field_in pieces field i, field_in pieces (1 - field) i) (l, o) (subst T (sym t) tt)).0

  -- no piece yet
  pub fitting_none : (old : List ℕ) → Holds (fitting pieces field 0 l o) 0 old old
  unfolding fitting range filter
  fitting_none old = record { number = refl; contents = refl }

  -- one piece more, which fits: its side is written
  pub fitting_taken : (i n : ℕ) (old new : List ℕ) → piece_fits pieces field l o i ≡ true
      → Holds (fitting pieces field i l o) n old new → n < length old → Holds (fitting pieces field (i + 1) l o) (n + 1) old (set new n (field_in pieces field i))
  unfolding fitting
  fitting_taken i n old new t w h =
      rw (filter_taken (piece_fits pieces field l o) i t, map_snoc (field_in pieces field) (filter (piece_fits pieces field l o) (range 0 i)) i) (holds_more (fitting pieces field i l o) old new n (field_in pieces field i) w h)

  -- one piece more, which does not fit
  pub fitting_left : (i n : ℕ) (old new : List ℕ) → piece_fits pieces field l o i ≡ false → Holds (fitting pieces field i l o) n old new → Holds (fitting pieces field (i + 1) l o) n old new
  unfolding fitting
  fitting_left i n old new t w = rw (filter_left (piece_fits pieces field l o) i t) w

  -- the sides are as positive as the pieces' own, and no more than the pieces: their positions can be listed
  pub fitting_listable : (n room : ℕ) → Listable (field_in pieces field) n l room → Listable (entry (fitting pieces field n l o)) (length (fitting pieces field n l o)) l room
  unfolding fitting
  fitting_listable n room given =
      let xs = filter (piece_fits pieces field l o) (range 0 n) in
      record {
        kinds = rw length-map (omega (arith, filter_count (piece_fits pieces field l o) n, given.kinds));
        most = given.most;
        room_there = given.room_there;
        positive = λ i b. (
            let j = mem_map (field_in pieces field) _ xs (get_or_mem (fitting pieces field n l o) i 0 b) in
            let r = mem_range 0 n j.0 (mem_filter (piece_fits pieces field l o) (range 0 n) j.1).0 in
            rw j.2 (given.positive j.0 (omega arith)));
      }

module _ (r : Rect) (n : ℕ) (pieces : List ℕ) where
  found : (d : Direction) (field o : ℕ) → ((i : ℕ) → (piece_fits pieces field (side d r) o i ≡ fits_in (size_in pieces i) r) × (field_in pieces field i ≡ side d (size_in pieces i)))
      → positions_of pieces field n (side d r) o ≡ normal_positions (pieces_job r n pieces) d
  unfolding fitting sides normals normal_positions
  found d field o h =
      ap (λ zs. normals zs (side d r))
      (filter_map_cong _ (λ i. fits_in (size_in pieces i) r) _ (λ i. side d (size_in pieces i)) (range 0 n) (λ i m. h i) ∙ sym (plain_sides r n (size_in pieces) (price_in pieces) d))

  first_field : (i : ℕ) → field_in pieces 0 i ≡ (size_in pieces i).0
  first_field i = let e : 5 * i + 0 ≡ 5 * i = omega arith in rw e

  -- field 0, the lengths
  pub lengths_found : positions_of pieces 0 n r.0 r.1 ≡ normal_positions (pieces_job r n pieces) Length
  lengths_found = found Length 0 r.1 (λ i. rw (first_field i) (refl, refl))

  -- field 1, the widths
  pub widths_found : positions_of pieces 1 n r.1 r.0 ≡ normal_positions (pieces_job r n pieces) Width
  widths_found = found Width 1 r.0 (λ i. rw (first_field i) (and_comm (leb (size_in pieces i).1 r.1) (leb (size_in pieces i).0 r.0), refl))
