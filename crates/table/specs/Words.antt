-- What the fills of the table share: a run of words that is written, every other word as it was, and the cuts of a side at the entries
-- of a list of positions, with floors that give each length the index of a position not above it.
use Rattle.std.specs.Prelude.{◌≡◌, List, ℕ, ◌+◌, ◌-◌, ◌*◌, ◌≤◌, ◌<◌, length, get_or}

-- the words before `at`, and those from `end` on, are as they were
pub record Outside (at end : ℕ) (old new : List ℕ) : Type 0 where
  pub before : (i : ℕ) → i < at → get_or new i 0 ≡ get_or old i 0
  pub after : (i : ℕ) → end ≤ i → get_or new i 0 ≡ get_or old i 0

-- the m words from `at` on are f at 0, 1, ..
pub record Run (f : ℕ → ℕ) (at m : ℕ) (old new : List ℕ) : Type 0 where
  pub here : (j : ℕ) → j < m → get_or new (at + j) 0 ≡ f j
  pub rest : Outside at (at + m) old new

-- what the search for the half of entry b asks: the entries before `from` are not past it
pub record HalfReady (positions : List ℕ) (from b : ℕ) : Type 0 where
  pub least : 1 ≤ from
  pub most : from ≤ b
  pub listed : b < length positions
  pub some : 0 < get_or positions b 0
  pub within : (i : ℕ) → 1 ≤ i → i < from → 2 * get_or positions i 0 ≤ get_or positions b 0

-- the first index from 1 on whose entry is past half of entry b: where the first half of the cuts ends
pub record Half (positions : List ℕ) (b half_end : ℕ) : Type 0 where
  pub least : 1 ≤ half_end
  pub most : half_end ≤ b
  pub within : (i : ℕ) → 1 ≤ i → i < half_end → 2 * get_or positions i 0 ≤ get_or positions b 0
  pub past : get_or positions b 0 < 2 * get_or positions half_end 0

-- where a side, entry b of a list, is cut at entry i: the index of the remainder's floor
abbrev pub remainder : List ℕ → List ℕ → ℕ → ℕ → ℕ
remainder positions floors b i = get_or floors (get_or positions b 0 - get_or positions i 0) 0

-- the cuts of entry b at the entries from 1 to the half's end less 1: both parts are earlier entries, and no more than the side together
pub record Cuts (positions floors : List ℕ) (b half_end : ℕ) : Type 0 where
  pub least : 1 ≤ half_end
  pub most : half_end ≤ b
  pub listed : b < length positions
  pub mapped : get_or positions b 0 < length floors
  pub part : (i : ℕ) → 1 ≤ i → i < half_end → get_or positions i 0 ≤ get_or positions b 0
  pub earlier : (i : ℕ) → 1 ≤ i → i < half_end → remainder positions floors b i < b

-- a rising list of so many entries up to 1,020, and floors: for each number up to an entry the index of an entry not above it
pub record Axis (positions floors : List ℕ) (count : ℕ) : Type 0 where
  pub listed : count ≤ length positions
  pub rise : (i j : ℕ) → i < j → j < count → get_or positions i 0 < get_or positions j 0
  pub side : (b : ℕ) → b < count → (get_or positions b 0 ≤ 1020) × (get_or positions b 0 < length floors)
  pub floored : (b x : ℕ) → b < count → x ≤ get_or positions b 0 → (get_or floors x 0 < count) × (get_or positions (get_or floors x 0) 0 ≤ x)
