-- The bound is the table's last word: the figure of the last normal length and width at the whole capacity is that of the plate.
use Rattle.bound.proofs.Prelude.{◌≡◌, sym, ◌∙◌, ap₂, List, ℕ, ◌+◌, ◌-◌, ◌*◌, ◌≤◌, ◌<◌, mul-le-mul, arith, get_or, Direction, Length, Width, side, Job, figure_of, normal_floor, InTableRange, table_solid, positions_some, positions_normal, positions_floor, figure_floor, position_count, position, words_needed, Figures}

-- a table needs a word
pub words_some : (J : Job) (q : ℕ) → 1 ≤ words_needed J q
words_some J q =
    let a = positions_some J Length in
    let b = positions_some J Width in
    let c : 1 ≤ q + 1 = omega arith in
    omega (arith, mul-le-mul (mul-le-mul a b) c)

-- the last normal position is the largest not above the plate's side
pub last_position : (J : Job) (d : Direction) → position J d (position_count J d - 1) ≡ normal_floor J d (side d J.plate)
last_position J d =
    let n = position_count J d in
    let some = positions_some J d in
    let last = positions_normal J d (n - 1) (omega arith) in
    sym (positions_floor J d (n - 1) (side d J.plate) (omega arith) (omega arith) last.1 (λ h. absurd (omega arith)))

less_one : (p r : ℕ) → 0 < p → (p - 1) * r + r ≡ p * r
less_one p r h = go (p - 1) (omega arith)
  where
    go : (k : ℕ) → p ≡ k + 1 → k * r + r ≡ p * r
    go k e = rw e (omega arith)

-- the word before the end
pub word_last : (p r n : ℕ) → 0 < p → 0 < r → ((p - 1) * r + (r - 1)) * (n + 1) + n ≡ p * r * (n + 1) - 1
word_last p r n hp hr =
    let e = less_one p r hp in
    let f : (p - 1) * r + (r - 1) + 1 ≡ p * r = omega arith in
    let g : ((p - 1) * r + (r - 1) + 1) * (n + 1) ≡ p * r * (n + 1) = rw f in
    omega arith

-- the word before the end holds the figure of the plate
pub bound_last : (J : Job) (weight : ℕ → ℕ) → InTableRange J → (q : ℕ) (xs : List ℕ) → Figures J weight q xs → get_or xs (words_needed J q - 1) 0 ≡ figure_of J weight J.plate.0 J.plate.1 q
bound_last J weight h q xs f =
    let p = position_count J Length in
    let r = position_count J Width in
    let a = positions_some J Length in
    let b = positions_some J Width in
    rw (← word_last p r q a b)
    (f (p - 1) (r - 1) q (omega arith) (omega arith) (omega arith)
    ∙ ap₂ (λ l w. figure_of J weight l w q) (last_position J Length) (last_position J Width)
    ∙ sym (figure_floor J weight (table_solid J h) J.plate.0 J.plate.1 q (omega arith) (omega arith)))
