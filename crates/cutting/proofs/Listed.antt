-- The pieces that may lie as kinds of a plain job, by their numbers: it has the same normal positions, figures and choices. So code that
-- knows neither turned pieces, cancelled kinds nor kerf serves every job.
use Rattle.cutting.proofs.Prelude.{◌≡◌, refl, sym, ◌∙◌, ap, ap₂, Bool, true, false, Option, none, some, List, [], ◌∷◌, map, List-as-Memᴰ, ℕ, zero, suc, ◌+◌, ◌-◌, ◌≤◌, ◌<◌, arith, leb, eqb, length, Direction, Length, Width, most_wide_side, range, filter, first, greatest, each, pairs, Rect, side, Shares, leaf, Piece, upright, turned, kind, ways, fits_in, sized, saw, floor, by_weight, by_state, sides, normal?, Choice, as_waste, as_piece, as_cut, or_waste, or_length, or_piece, or_zero, Job, laid, widened, ordered, members, pieces, by_kind, figure_under, figure_of, normal_side, normal_positions, laid_earns, pair_earns, first_pair, plan_choice, KindsAbove, InRange, plain, member_at, Listing, InTableRange}
use Rattle.cutting.proofs.Lists.{mem_range, through, first_cong, entries, filter_map, first_map, filter_map_cong}
use Rattle.cutting.proofs.Greatest.{greatest_map, greatest_cong}
use Rattle.cutting.proofs.Recursion.{figure_same}
use Rattle.cutting.proofs.Positions.{get_or_mem}
use Rattle.cutting.proofs.Members.{member_kind, members_above, members_count}

-- kinds that are all ordered and not to be turned lie upright each
all_upright : (a n : ℕ) → each (ways false) (filter (λ j. leb 1 1) (range a n)) ≡ map upright (range a n)
unfolding range filter each
all_upright a zero = refl
all_upright a (suc n) = ap (λ ps. upright a ∷ ps) (all_upright (suc a) n)

map-map : {A B D : Type 0} (f : B → D) (g : A → B) (xs : List A) → map f (map g xs) ≡ map (λ x. f (g x)) xs
map-map f g [] = refl
map-map f g (x ∷ xs) = ap (λ ys. f (g x) ∷ ys) (map-map f g xs)

-- the sides of pieces that a function gives
sides_map : {P Q : Type 0} (g : P → Q) (ps : List P) (size : Q → Rect) (plate : Rect) (d : Direction) → sides (map g ps) size plate d ≡ sides ps (λ p. size (g p)) plate d
unfolding sides
sides_map g ps size plate d = ap (map (λ q. side d (size q))) (filter_map (λ q. fits_in (size q) plate) g ps) ∙ map-map (λ q. side d (size q)) g (filter (λ p. fits_in (size (g p)) plate) ps)

-- the sides of pieces whose sizes agree
sides_cong : {P : Type 0} (ps : List P) (size size' : P → Rect) (plate : Rect) (d : Direction) → ((p : P) → List-as-Memᴰ p ps → size p ≡ size' p) → sides ps size plate d ≡ sides ps size' plate d
unfolding sides
sides_cong ps size size' plate d h = filter_map_cong _ _ _ _ ps (λ p m. (let e = h p m in (ap (λ r. fits_in r plate) e, ap (side d) e)))

-- a choice with other names for its pieces
abbrev pub renamed : {P Q S : Type 0} → (P → Q) → Choice P S → Choice Q S
renamed f as_waste = as_waste
renamed f (as_piece p) = as_piece (f p)
renamed f (as_cut d x q) = as_cut d x q

renamed_choice : {P Q S : Type 0} (f : P → Q) (b : Bool) (o : Option P) (l w : Option (ℕ × (S × S)))
    → renamed f (or_zero b (or_piece o (or_length l (or_waste w)))) ≡ or_zero b (or_piece (through f o) (or_length l (or_waste w)))
renamed_choice f true o l w = refl
renamed_choice f false (some p) l w = refl
renamed_choice f false none (some u) w = refl
renamed_choice f false none none (some u) = refl
renamed_choice f false none none none = refl

-- numbered pieces lie upright each, so that greatest, first and sides go by their numbers
module _ (r : Rect) (n : ℕ) (size : ℕ → Rect) (price : ℕ → ℕ) where
  abbrev N : Job
  N = plain r n size price

  pub plain_members : members N ≡ map upright (range 0 n)
  unfolding ordered members
  plain_members = all_upright 0 n

  pub plain_greatest : (f : Piece → ℕ) → greatest f (members N) ≡ greatest (λ i. f (upright i)) (range 0 n)
  plain_greatest f = ap (greatest f) plain_members ∙ greatest_map f upright (range 0 n)

  pub plain_first : (f : Piece → Bool) → first f (members N) ≡ through upright (first (λ i. f (upright i)) (range 0 n))
  plain_first f = ap (first f) plain_members ∙ first_map f upright (range 0 n)

  pub plain_sides : (d : Direction) → sides (members N) (laid N) r d ≡ sides (range 0 n) size r d
  plain_sides d = ap (λ ps. sides ps (laid N) r d) plain_members ∙ sides_map upright (range 0 n) (laid N) r d

-- the pieces that may lie are their list's entries
members_listed : (J : Job) → members J ≡ map (member_at J) (range 0 (length (members J)))
members_listed J = entries (members J) (upright 0)

module _ (J : Job) (weight : ℕ → ℕ) (n : ℕ) (size : ℕ → Rect) (price heavy : ℕ → ℕ) (given : Listing J weight n size price heavy) where
  -- the plain job of the numbers
  abbrev L : Job
  L = plain J.plate n size price

  -- a number of the list is below n
  below : (j : ℕ) → List-as-Memᴰ j (range 0 n) → j < n
  below j m = let l = mem_range 0 n j m in omega arith

  numbered : members J ≡ map (member_at J) (range 0 n)
  numbered = members_listed J ∙ ap (λ n. map (member_at J) (range 0 n)) (sym given.number)

  -- the greatest over the pieces is that over the numbers
  pub greatest_listed : (f g : Piece → ℕ) → ((j : ℕ) → j < n → f (upright j) ≡ g (member_at J j)) → greatest f (members L) ≡ greatest g (members J)
  greatest_listed f g h = plain_greatest J.plate n size price f ∙ (greatest_cong _ _ (range 0 n) (λ j m. h j (below j m))
      ∙ (sym (greatest_map g (member_at J) (range 0 n)) ∙ sym (ap (greatest g) numbered)))

  -- and so is the first that passes
  first_listed : (f g : Piece → Bool) → ((j : ℕ) → j < n → f (upright j) ≡ g (member_at J j)) → first g (members J) ≡ through (λ p. member_at J (kind p)) (first f (members L))
  first_listed f g h =
      ap (first g) numbered ∙ (first_map g (member_at J) (range 0 n) ∙ (ap (through (member_at J)) (sym (first_cong _ _ (range 0 n) (λ j m. h j (below j m))))
      ∙ (twice (first (λ j. f (upright j)) (range 0 n)) ∙ ap (through (λ p. member_at J (kind p))) (sym (plain_first J.plate n size price f)))))
    where
      twice : (o : Option ℕ) → through (member_at J) o ≡ through (λ p. member_at J (kind p)) (through upright o)
      twice none = refl
      twice (some j) = refl

  -- the numbers have the same sides, so the same normal positions
  listed_sides : (d : Direction) → sides (members L) (laid L) J.plate d ≡ sides (members J) (laid J) J.plate d
  listed_sides d = plain_sides J.plate n size price d ∙ (sides_cong (range 0 n) size (λ j. laid J (member_at J j)) J.plate d (λ j m. given.sizes j (below j m))
      ∙ (sym (sides_map (member_at J) (range 0 n) (laid J) J.plate d) ∙ sym (ap (λ ps. sides ps (laid J) J.plate d) numbered)))

  pub listed_normal : (d : Direction) → normal_side L d ≡ normal_side J d
  listed_normal d = ap normal? (listed_sides d)

  pub listed_positions : (d : Direction) → normal_positions L d ≡ normal_positions J d
  unfolding normal_positions
  listed_positions d = ap (λ N. filter N (range 0 (suc (side d J.plate)))) (listed_normal d)

  -- shares that admit the same pieces, by their numbers, and are divided alike
  module _ {S : Type 0} (H H' : Shares Piece S) (admits : (s : S) (j : ℕ) → j < n → H.admits s (upright j) ≡ H'.admits s (member_at J j)) (splits : (d : Direction) (s : S) → H.splits d s ≡ H'.splits d s) where
    -- give the same figures
    pub shares_figure : (l w : ℕ) (s : S) → figure_under L H l w s ≡ figure_under J H' l w s
    unfolding leaf pieces sized
    shares_figure l w s = figure_same (pieces L) (pieces J) (saw 0) H H' (λ r s. greatest_listed _ _ (λ j h. rw (given.sizes j h, given.prices j h, admits s j h) refl)) splits (l, w) s

    module _ (l w : ℕ) (s : S) where
      shares_pair : (d : Direction) → first_pair L H d l w s ≡ first_pair J H' d l w s
      unfolding first_pair
      shares_pair d = first_cong _ _ _ (λ u m. test d u)
          ∙ ap₂ (λ N qs. first (pair_earns J H' d l w s) (pairs (filter N (range 1 (floor N (side d (l, w)) - 1))) qs)) (listed_normal d) (splits d s)
        where
          test : (d : Direction) (u : ℕ × (S × S)) → pair_earns L H d l w s u ≡ pair_earns J H' d l w s u
          test Length u = ap₂ eqb (ap₂ ◌+◌ (shares_figure u.0 w u.1.0) (shares_figure (l - u.0) w u.1.1)) (shares_figure l w s)
          test Width u = ap₂ eqb (ap₂ ◌+◌ (shares_figure l u.0 u.1.0) (shares_figure l (w - u.0) u.1.1)) (shares_figure l w s)

      -- and the same choices, by the pieces' numbers
      shares_choice : plan_choice J H' l w s ≡ renamed (λ p. member_at J (kind p)) (plan_choice L H l w s)
      unfolding plan_choice
      shares_choice = (λ i. or_zero (eqb (sym (shares_figure l w s) i) 0) (or_piece (alone i) (or_length (sym (shares_pair Length) i) (or_waste (sym (shares_pair Width) i)))))
          ∙ sym (renamed_choice (λ p. member_at J (kind p)) (eqb (figure_under L H l w s) 0)
          (first (laid_earns L H l w s) (members L)) (first_pair L H Length l w s) (first_pair L H Width l w s))
        where
          alone : first (laid_earns J H' l w s) (members J) ≡ through (λ p. member_at J (kind p)) (first (laid_earns L H l w s) (members L))
          alone = first_listed (laid_earns L H l w s) (laid_earns J H' l w s) (λ j h. rw (given.sizes j h, given.prices j h, admits s j h, shares_figure l w s) refl)

  -- the same figures by weight
  pub listed_figure : (l w c : ℕ) → figure_of L heavy l w c ≡ figure_of J weight l w c
  unfolding figure_of by_weight
  listed_figure = shares_figure (by_kind heavy) (by_kind weight) (λ s j h. ap (λ v. leb v s) (given.weights j h)) (λ d s. refl)

  -- and where the weights are states of an order the same figures and choices
  module _ (le : ℕ → ℕ → Bool) where
    abbrev numbers : Shares Piece ℕ
    numbers = by_state le (λ p. heavy (kind p))

    abbrev kinds : Shares Piece ℕ
    kinds = by_state le (λ p. weight (kind p))

    pub state_figure : (l w s : ℕ) → figure_under L numbers l w s ≡ figure_under J kinds l w s
    unfolding by_state
    state_figure = shares_figure numbers kinds (λ s j h. ap (λ v. le v s) (given.weights j h)) (λ d s. refl)

    pub state_choice : (l w s : ℕ) → plan_choice J kinds l w s ≡ renamed (λ p. member_at J (kind p)) (plan_choice L numbers l w s)
    unfolding by_state
    state_choice = shares_choice numbers kinds (λ s j h. ap (λ v. le v s) (given.weights j h)) (λ d s. refl)

  -- where the kinds have both sides above k, so have the numbers
  pub listed_above : (k : ℕ) → KindsAbove k J → KindsAbove k L
  listed_above k h j l = rw (given.sizes j l) (members_above J k h (member_at J j) (get_or_mem (members J) j (upright 0) (omega (arith, given.number))))

-- the numbers of a widened job in range are in the table's ranges
module _ (J : Job) (weight : ℕ → ℕ) (n : ℕ) (size : ℕ → Rect) (price heavy : ℕ → ℕ) (given : Listing (widened J) weight n size price heavy) where
  pub listed_range : InRange J → InTableRange (plain (widened J).plate n size price)
  listed_range h = record {
    fixed = λ i. refl;
    demands = λ j l. omega arith;
    plate_length = omega (arith, h.plate_length, h.kerfs);
    plate_width = omega (arith, h.plate_width, h.kerfs);
    kinds = omega (arith, given.number, members_count (widened J), h.kinds);
    lengths = λ j l. rw (given.sizes j l) (length_range (member_at (widened J) j) (known j l));
    widths = λ j l. rw (given.sizes j l) (width_range (member_at (widened J) j) (known j l));
    prices = λ j l. rw (given.prices j l) (h.prices (kind (member_at (widened J) j)) (known j l));
  }
    where
      known : (j : ℕ) → j < n → kind (member_at (widened J) j) < J.count
      known j l = member_kind (widened J) (member_at (widened J) j) (get_or_mem (members (widened J)) j (upright 0) (omega (arith, given.number)))

      length_range : (p : Piece) → kind p < J.count → (1 ≤ (laid (widened J) p).0) × ((laid (widened J) p).0 ≤ most_wide_side)
      length_range (upright i) l = omega (arith, h.lengths i l, h.kerfs)
      length_range (turned i) l = omega (arith, h.widths i l, h.kerfs)

      width_range : (p : Piece) → kind p < J.count → (1 ≤ (laid (widened J) p).1) × ((laid (widened J) p).1 ≤ most_wide_side)
      width_range (upright i) l = omega (arith, h.widths i l, h.kerfs)
      width_range (turned i) l = omega (arith, h.lengths i l, h.kerfs)
