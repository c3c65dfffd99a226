-- A figure below 2^41 and a note above it, with or without a mark, put together and taken apart.
use Rattle.states.proofs.Prelude.{◌≡◌, ℕ, ◌+◌, ◌*◌, ◌≤◌, ◌<◌, arith, figure_in, note_in, mark_in}

pub figure_small : (w : ℕ) → figure_in w < 2199023255552
unfolding figure_in
figure_small w = omega arith

pub figure_plain : (v : ℕ) → v < 2199023255552 → figure_in v ≡ v
unfolding figure_in
figure_plain v h = omega arith

pub note_plain : (v : ℕ) → v < 2199023255552 → note_in v ≡ 0
unfolding note_in
note_plain v h = omega arith

pub figure_noted : (v k : ℕ) → v < 2199023255552 → figure_in (v + 2199023255552 * k) ≡ v
unfolding figure_in
figure_noted v k h = omega arith

pub note_noted : (v s g : ℕ) → v < 2199023255552 → g ≤ 2 → note_in (v + 2199023255552 * (4 * s + 1 + g)) ≡ s + 1
unfolding note_in
note_noted v s g h l = omega arith

pub mark_noted : (v s g : ℕ) → v < 2199023255552 → g ≤ 2 → mark_in (v + 2199023255552 * (4 * s + 1 + g)) ≡ g
unfolding mark_in
mark_noted v s g h l = omega arith

pub figure_flagged : (v : ℕ) → v < 2199023255552 → figure_in (v + 2199023255552) ≡ v
unfolding figure_in
figure_flagged v h = omega arith

pub note_flagged : (v : ℕ) → v < 2199023255552 → note_in (v + 2199023255552) ≡ 1
unfolding note_in
note_flagged v h = omega arith

pub plain_word : (w : ℕ) → note_in w ≡ 0 → figure_in w ≡ w
unfolding figure_in note_in
plain_word w h = omega arith
