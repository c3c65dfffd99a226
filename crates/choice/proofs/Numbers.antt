-- An array that holds the pieces of a job has the node numbers that the choice asks for.
use Rattle.choice.proofs.Prelude.{List, ℕ, ◌*◌, ◌≤◌, ◌<◌, arith, most_kinds, Job, members, node_number, member_at, PieceArray, get_or_mem, member_kind, members_count, Numbered}
use Rattle.cutting.specs.Pieces as laid

number_below : (p : laid.Piece) (n : ℕ) → laid.kind p < n → node_number p < 2 * n
number_below (laid.upright i) n h = omega arith
number_below (laid.turned i) n h = omega arith

-- the pieces of at most 64 kinds are numbered
pub array_numbered : (J : Job) (weight : ℕ → ℕ) (n : ℕ) (pieces : List ℕ) → PieceArray J weight n pieces → J.count ≤ most_kinds → Numbered n pieces
array_numbered J weight n pieces given h = record {
  counted = omega (arith, given.listing.number, members_count J);
  nodes = λ j l. (
      let m = get_or_mem (members J) j (laid.upright 0) (omega (arith, given.listing.number)) in
      omega (arith, given.nodes j l, number_below (member_at J j) J.count (member_kind J (member_at J j) m)));
}
