-- Laws of the ways of a kind and of the table: which of the ways are the kind's, one kind more, and that the entries fit.
use Rattle.model.proofs.Prelude.{◌≡◌, refl, sym, ◌∙◌, ap, ap₂, subst, Bool, true, false, ◌&&◌, not, List, [], ◌∷◌, ℕ, zero, suc, ◌+◌, ◌-◌, ◌≤◌, ◌<◌, min, dec_lt, arith, lt-ltb, le-ltb, le-leb, lt-leb, ltb, leb, length, List·getD-eq-default, Direction, Length, Width, most_true_side, Rect, side, keep, filter, upright, turned, ways, quarter, fits_in, Job, laid, turns, InRange, taken, room, lowest, fitting_ways, without, one_more, copies_more, least, chains_fit, JobRecord, job_of, TrueSizes, true_job, TrueRange, most_entry, entry, Repeated, two_ways, one_way, no_way, Way, Span, taken_by, way_by, turned_span, true_span_at, model_span_at, true_plate, lies_so, WayOf, Fitting, Tabled, cleared, Added}

-- the least over a list with a number is at most that number
lowest_most : {A : Type 0} (f : A → ℕ) (xs : List A) (n : ℕ) → lowest f xs n ≤ n
unfolding lowest
lowest_most f [] n = omega arith
lowest_most f (x ∷ xs) n = omega (arith, lowest_most f xs n)

-- more copies take no more
more_most : (J M : Job) (d : Direction) (i c : ℕ) (g : ℕ → ℕ) (s : ℕ) → copies_more J M d i c g s ≤ g s
unfolding copies_more one_more
more_most J M d i zero g s = omega arith
more_most J M d i (suc c) g s = omega (arith, lowest_most (λ p. copies_more J M d i c g (s - taken M d p) + taken J d p) (fitting_ways J i) (copies_more J M d i c g s), more_most J M d i c g s)

-- a kind's ways that lie: upright, and then turned
pub fitting_by : (J : Job) (i : ℕ) → fitting_ways J i ≡ keep (lies_so J (upright i)) (upright i) (keep (lies_so J (turned i)) (turned i) [])
unfolding fitting_ways filter
fitting_by J i = go (turns J i)
  where
    go : (t : Bool) → filter (λ p. fits_in (laid J p) J.plate) (ways t i) ≡ keep (lies_so J (upright i)) (upright i) (keep (t && fits_in (laid J (turned i)) J.plate) (turned i) [])
    go true = refl
    go false = refl

module _ (old : List ℕ) (copies : ℕ) (a b : Way) where
  -- what the kind's ways are where two ways of it are told
  ways_told : (J M : Job) (d : Direction) (i : ℕ) (x y : Bool) → WayOf J M d (upright i) a → WayOf J M d (turned i) b → a.lies ≡ x → b.lies ≡ y
      → fitting_ways J i ≡ keep x (upright i) (keep y (turned i) [])
  ways_told J M d i x y u v e f = fitting_by J i ∙ ap₂ (λ x y. keep x (upright i) (keep y (turned i) [])) (sym u.lies ∙ e) (sym v.lies ∙ f)

  -- both ways lie
  pub added_two : {new : List ℕ} → a.lies ≡ true → b.lies ≡ true → Repeated copies old a.model a.real b.model b.real new → Added old copies a b new
  added_two e f h = record {
    long = h.long;
    entries = λ J M d i u v. record {
      at = λ s l. (let w = h.entries s (omega (arith, l, h.long)) in
          (rw (u.model, u.real, v.model, v.real) at w) ∙ two_ways J M d i (entry old) (upright i) (turned i) (ways_told J M d i true true u v e f) copies s);
    };
  }

  -- upright only
  pub added_upright : {new : List ℕ} → a.lies ≡ true → b.lies ≡ false → Repeated copies old a.model a.real a.model a.real new → Added old copies a b new
  added_upright e f h = record {
    long = h.long;
    entries = λ J M d i u v. record {
      at = λ s l. (let w = h.entries s (omega (arith, l, h.long)) in
          (rw (u.model, u.real) at w) ∙ one_way J M d i (entry old) (upright i) (ways_told J M d i true false u v e f) copies s);
    };
  }

  -- turned only
  pub added_turned : {new : List ℕ} → a.lies ≡ false → b.lies ≡ true → Repeated copies old b.model b.real b.model b.real new → Added old copies a b new
  added_turned e f h = record {
    long = h.long;
    entries = λ J M d i u v. record {
      at = λ s l. (let w = h.entries s (omega (arith, l, h.long)) in
          (rw (v.model, v.real) at w) ∙ one_way J M d i (entry old) (turned i) (ways_told J M d i false true u v e f) copies s);
    };
  }

  -- neither
  pub added_none : a.lies ≡ false → b.lies ≡ false → Added old copies a b old
  added_none e f = record {
    long = refl;
    entries = λ J M d i u v. record { at = λ s l. no_way J M d i (entry old) (ways_told J M d i false false u v e f) copies s };
  }

module _ (J M : Job) (d : Direction) where
  -- two functions alike up to s give one copy more alike there
  lowest_alike : {A : Type 0} (f g : A → ℕ) (xs : List A) (m n : ℕ) → ((x : A) → f x ≡ g x) → m ≡ n → lowest f xs m ≡ lowest g xs n
  unfolding lowest
  lowest_alike f g [] m n h e = e
  lowest_alike f g (x ∷ xs) m n h e = ap₂ min (h x) (lowest_alike f g xs m n h e)

  more_alike : (i c : ℕ) (f g : ℕ → ℕ) (s : ℕ) → ((x : ℕ) → x ≤ s → f x ≡ g x) → copies_more J M d i c f s ≡ copies_more J M d i c g s
  unfolding copies_more one_more
  more_alike i zero f g s h = h s (omega arith)
  more_alike i (suc c) f g s h =
      lowest_alike (λ p. copies_more J M d i c f (s - taken M d p) + taken J d p) (λ p. copies_more J M d i c g (s - taken M d p) + taken J d p) (fitting_ways J i) (copies_more J M d i c f s) (copies_more J M d i c g s)
      (λ p. ap (λ x. x + taken J d p) (more_alike i c f g (s - taken M d p) (λ x l. h x (omega arith)))) (more_alike i c f g s h)

  -- one kind more
  pub least_more : (i k : ℕ) (table new : List ℕ) {c : ℕ} {a b : Way} → k ≡ suc i → c ≡ J.demand i → WayOf J M d (upright i) a → WayOf J M d (turned i) b → Tabled (least J M d i) table → Added table c a b new
      → Tabled (least J M d k) new
  unfolding least
  least_more i k table new {c} e f u v h w = record {
    at = λ s l. (let q = (w.entries J M d i u v).at s l in
        let r = more_alike i c (entry table) (least J M d i) s (λ x m. h.at x (omega (arith, m, l, w.long))) in
        rw e (q ∙ r ∙ ap (λ c. copies_more J M d i c (least J M d i) s) f));
  }

  -- no entry is above the room by more than one
  least_below : (n s : ℕ) → least J M d n s ≤ suc (room J d)
  unfolding least
  least_below zero zero = omega arith
  least_below zero (suc s) = omega arith
  least_below (suc n) s = omega (arith, more_most J M d n (J.demand n) (least J M d n) s, least_below n s)

  pub entries_below : (n : ℕ) (table : List ℕ) → room J d ≤ 101000000 → Tabled (least J M d n) table → (s : ℕ) → entry table s ≤ most_entry
  entries_below n table b h s = go (dec_lt s (length table))
    where
      go : Dec (s < length table) → entry table s ≤ most_entry
      go (yes l) = omega (arith, h.at s l, least_below n s)
      go (no l) = let e : entry table s ≡ 0 = List·getD-eq-default table 0 (omega arith) in omega (arith, e)

  -- the cleared table is the one of no kind
  pub cleared_least : (table : List ℕ) (above : ℕ) → above ≡ suc (room J d) → Tabled (cleared above) table → Tabled (least J M d 0) table
  unfolding least
  cleared_least table above e h = record { at = λ s l. h.at s l ∙ go s }
    where
      go : (s : ℕ) → cleared above s ≡ without J d s
      go zero = refl
      go (suc s) = e

-- a side by both
side_least : (d : Direction) (q : Rect) (n : ℕ) → n ≤ q.0 → n ≤ q.1 → n ≤ side d q
side_least Length q n l w = l
side_least Width q n l w = w

side_most : (d : Direction) (q : Rect) (n : ℕ) → q.0 ≤ n → q.1 ≤ n → side d q ≤ n
side_most Length q n l w = l
side_most Width q n l w = w

module _ (j : JobRecord) (z : TrueSizes) (d : Direction) where
  abbrev model : Job
  model = job_of j

  abbrev truth : Job
  truth = true_job model z

  module _ (i : ℕ) {x y p : Span} (e : x ≡ true_span_at z i) (f : y ≡ model_span_at j i) where
    -- the upright way of kind i
    pub told_upright : {a : Way} → p ≡ true_plate z → a ≡ way_by d true x y p → WayOf truth model d (upright i) a
    told_upright g h = subst (λ a. WayOf truth model d (upright i) a) (sym (rw (e, f, g) at h)) (record { lies = refl; model = refl; real = refl })

    -- the turned way
    pub told_turned : {b : Way} → p ≡ true_plate z → b ≡ way_by d (turns model i) (turned_span x) (turned_span y) p → WayOf truth model d (turned i) b
    told_turned g h = subst (λ b. WayOf truth model d (turned i) b) (sym (rw (e, f, g) at h)) (record { lies = refl; model = refl; real = refl })

  -- the two ways and the table fit
  pub kind_fits : InRange model → TrueRange truth → (i : ℕ) → i < j.count → (table : List ℕ) → Tabled (least truth model d i) table → {a b : Way} → WayOf truth model d (upright i) a → WayOf truth model d (turned i) b → Fitting table a b
  kind_fits r t i l table h u v = record {
    first = omega (arith, u.model, side_least d (model.size i) 1 (r.lengths i l).0 (r.widths i l).0);
    second = omega (arith, v.model, side_least d (quarter (model.size i)) 1 (r.widths i l).0 (r.lengths i l).0);
    first_fits = omega (arith, u.real, t.kerfs, side_most d (truth.size i) most_true_side (t.lengths i l).1 (t.widths i l).1);
    second_fits = omega (arith, v.real, t.kerfs, side_most d (quarter (truth.size i)) most_true_side (t.widths i l).1 (t.lengths i l).1);
    entries_fit = entries_below truth model d i table (room_most t) h;
  }
    where
      room_most : TrueRange truth → room truth d ≤ 101000000
      room_most t = omega (arith, t.kerfs, side_most d truth.plate most_true_side t.plate_length.1 t.plate_width.1)

-- what the true plate takes is its room
pub true_room : (J : Job) (z : TrueSizes) (d : Direction) → TrueRange (true_job J z) → {p : Span} {n : ℕ} → p ≡ true_plate z → n ≡ taken_by d p → (n ≡ room (true_job J z) d) × (n ≤ 101000000)
true_room J z d t {p} {n} e f =
    let g : n ≡ room (true_job J z) d = rw e at f in
    (g, omega (arith, g, t.kerfs, side_most d (true_job J z).plate most_true_side t.plate_length.1 t.plate_width.1))

-- the test of a direction, as the refusal's condition
not_less : (a b : ℕ) → leb b a ≡ not (ltb a b)
not_less a b = go (dec_lt a b)
  where
    go : Dec (a < b) → leb b a ≡ not (ltb a b)
    go (yes l) = lt-leb b a l ∙ sym (ap not (lt-ltb a b l))
    go (no l) = le-leb b a (omega arith) ∙ sym (ap not (le-ltb a b (omega arith)))

pub exceed_told : (J M : Job) (d : Direction) {a b : ℕ} → a ≡ least J M d J.count (suc (room M d)) → b ≡ room J d → leb a b ≡ not (chains_fit J M d)
unfolding chains_fit
exceed_told J M d e f = ap₂ leb e f ∙ not_less (room J d) (least J M d J.count (suc (room M d)))
