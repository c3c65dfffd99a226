-- The two scans from the last node to the first: what each knows after the last node, at one node more in front, and at the first.
use Rattle.neat.proofs.Prelude.{◌≡◌, refl, sym, ◌∙◌, ap, ap₂, subst, Bool, true, false, List, [], ◌∷◌, ◌++◌, map, append_assoc, ℕ, zero, suc, ◌+◌, ◌-◌, ◌≤◌, ◌<◌, add-one, arith, length, take, drop, set, get_or, length-set, length-map, length-append, length-drop, take-append-drop, drop-length, drop-cons, get_or-set_same, take-suc, length-take-le, set_at, Node, Waste, Piece, Turned, Cut, most_kinds, only, keep, over, Rect, Tree, ◌⊑◌, kind_of, operand_of, of_piece, node_of, nodes_in, waiting, with_node, trees_in, first_tree, nodes_length, nodes_suc, next_waits, stored_past, Entry, Step, used_rect, entry_of, most_kept, Kept, told_of, size_of, used_with, becomes, Ready, Numbered, Stepped, Advanced, remains, put_when, neat_nodes, pieces_in, Makes, AllMake, Fair, Known, Within, Scannable, Writable}
use Rattle.cutting.specs.Pieces as laid
use Rattle.neat.proofs.Trees.{node_numbered, node_ready, node_used, node_operand, node_written}

-- the pieces of the nodes from k on
pub record Counted (kinds : List ℕ) (pieces k : ℕ) : Type 0 where
  pub inside : k ≤ length kinds
  pub most : pieces + k ≤ length kinds
  pub counted : pieces ≡ pieces_in (drop k kinds)

pub none_counted : (kinds : List ℕ) → Counted kinds 0 (length kinds)
unfolding pieces_in
none_counted kinds = record { inside = omega arith; most = omega arith; counted = rw drop-length refl }

module _ {kinds : List ℕ} {pieces k : ℕ} (s : Counted kinds pieces k) where
  pub one_more : 0 < k → {n : Node} → n ≡ node_of (get_or kinds (k - 1) 0) 0 → {m : ℕ} → (m ≡ of_piece (λ p. 1) 0 n) × (m ≤ 1) → Counted kinds (pieces + m) (k - 1)
  unfolding pieces_in
  one_more some {n} read {m} one =
      let e : k - 1 + 1 ≡ k = omega arith in
      let d : drop (k - 1) kinds ≡ get_or kinds (k - 1) 0 ∷ drop k kinds = drop-cons kinds (k - 1) 0 (omega (arith, s.inside)) ∙ ap (λ i. get_or kinds (k - 1) 0 ∷ drop i kinds) (sym (add-one (k - 1)) ∙ e) in
      record {
        inside = omega (arith, s.inside);
        most = omega (arith, s.most, one.1);
        counted = omega (arith, s.counted, one.0 ∙ ap (of_piece (λ p. 1) 0) read, ap pieces_in d);
      }

  pub all_counted : k ≤ 0 → (pieces ≡ pieces_in kinds) × (pieces ≤ length kinds)
  all_counted h = let e : k ≡ 0 = omega arith in (s.counted ∙ ap (λ i. pieces_in (drop i kinds)) e, omega (arith, s.most))

-- what stands in an array of which the entries from o to m are written
abbrev pub laid_over : List ℕ → ℕ → List ℕ → ℕ → List ℕ
laid_over l o ws m = take o l ++ (ws ++ drop m l)

keep_map : (f : Node → ℕ) (b : Bool) (x : Node) (xs : List Node) → map f (keep b x xs) ≡ keep b (f x) (map f xs)
keep_map f true x xs = refl
keep_map f false x xs = refl

store : (l : List ℕ) (o : ℕ) (ws : List ℕ) (m v : ℕ) → suc o ≤ length l → set (laid_over l (suc o) ws m) o v ≡ laid_over l o (v ∷ ws) m
store l o ws m v g =
    ap (λ t. set t o v) (ap (λ t. t ++ (ws ++ drop m l)) (take-suc l o 0 (omega arith)) ∙ append_assoc (take o l) (get_or l o 0 ∷ []) (ws ++ drop m l))
    ∙ set_at (take o l) (get_or l o 0) (ws ++ drop m l) v o (length-take-le o l (omega arith))

put_again : (b : Bool) (l : List ℕ) (o : ℕ) (ws : List ℕ) (m v : ℕ) → (b ≡ true → 0 < o) → o ≤ length l → put_when b (laid_over l o ws m) (o - 1) v ≡ laid_over l (o - only b 1) (keep b v ws) m
put_again false l o ws m v h g = let z : o ≡ o - 0 = omega arith in ap (λ n. laid_over l n ws m) z
put_again true l o ws m v h g =
    let a = h refl in
    let e : o ≡ suc (o - 1) = omega arith in
    ap (λ n. set (laid_over l n ws m) (o - 1) v) e ∙ store l (o - 1) ws m v (omega arith)

over_length : (l : List ℕ) (o : ℕ) (ws : List ℕ) (m : ℕ) → o + length ws ≡ m → m ≤ length l → length (laid_over l o ws m) ≡ length l
over_length l o ws m e h = omega (arith, length-append (take o l) (ws ++ drop m l), length-append ws (drop m l), length-take-le o l (omega arith), length-drop m l)

keep_count : {A : Type 0} (b : Bool) (x : A) (xs : List A) (o m : ℕ) → (b ≡ true → 0 < o) → o + length xs ≡ m → o - only b 1 + length (keep b x xs) ≡ m
keep_count true x xs o m h e = omega (arith, h refl)
keep_count false x xs o m h e = omega arith

keep_room : {A : Type 0} (b : Bool) (x : A) (xs : List A) (o m : ℕ) → o + length xs ≡ m → length (keep b x xs) ≤ m → b ≡ true → 0 < o
keep_room true x xs o m e h t = omega arith
keep_room false x xs o m e h t = absurd (let z : ◌≡◌ {A = ℕ} 0 1 = cc in omega arith)

keep_longer : {A : Type 0} (b : Bool) (x : A) (xs : List A) → length xs ≤ length (keep b x xs)
keep_longer true x xs = omega arith
keep_longer false x xs = omega arith

-- a used size put on top
put_top : (lengths widths : List ℕ) (n : ℕ) (u : Rect) → n < length lengths → n < length widths → waiting (set lengths n u.0) (set widths n u.1) (n + 1) ≡ u ∷ waiting lengths widths n
unfolding waiting
put_top lengths widths n u l w = rw add-one
    (ap₂ (λ q rs. q ∷ rs) (ap₂ (λ a b. (a, b)) (get_or-set_same lengths n u.0 0 l) (get_or-set_same widths n u.1 0 w)) (stored_past lengths widths n u.0 u.1 n (omega arith)))

-- so a step puts its used size there
pub advances : (k : ℕ) (size : Rect) (node : Node) (lengths widths : List ℕ) (n : ℕ) (s : Step) → Kept lengths widths → n ≤ most_kept → Stepped k size node lengths widths n s
    → Advanced k size node lengths widths (set lengths s.below s.used.length) (set widths s.below s.used.width) n s
advances k size node lengths widths n s kept few step =
    record {
      entry_is = step.entry_is;
      used_are = put_top lengths widths s.below (used_rect s.used) (omega (arith, kept.0, step.below_most)) (omega (arith, kept.1, step.below_most)) ∙ step.used_are;
      below_most = step.below_most;
      kept = (length-set lengths s.below s.used.length ∙ kept.0, length-set widths s.below s.used.width ∙ kept.1);
    }

-- the node at a place and those after it
pub node_here : (kinds operands : List ℕ) (k : ℕ) → length kinds ≡ length operands → 0 < k → k ≤ length kinds
    → drop (k - 1) (nodes_in kinds operands) ≡ (get_or kinds (k - 1) 0, get_or operands (k - 1) 0) ∷ drop k (nodes_in kinds operands)
node_here kinds operands k same some inside = let e : suc (k - 1) ≡ k = omega arith in
    nodes_suc kinds operands (k - 1) same (omega arith) ∙ ap (λ i. (get_or kinds (k - 1) 0, get_or operands (k - 1) 0) ∷ drop i (nodes_in kinds operands)) e

-- no node, and all nodes
none_left : (kinds operands : List ℕ) → length kinds ≡ length operands → drop (length kinds) (nodes_in kinds operands) ≡ []
none_left kinds operands same = ap (λ n. drop n (nodes_in kinds operands)) (sym (nodes_length kinds operands same)) ∙ drop-length (nodes_in kinds operands)

all_make : (Q : Tree laid.Piece → Type 0) (ns : List (ℕ × ℕ)) (k : ℕ) → AllMake Q ns → AllMake Q (drop k ns)
all_make Q ns zero f = f
all_make Q [] (suc k) f = f
all_make Q (n ∷ ns) (suc k) f = all_make Q ns k f.1

-- one node fewer draws at most one tree more
one_fewer : (n : Node) (ts : List (Tree laid.Piece)) → length ts ≤ length (with_node n ts) + 1
one_fewer Waste ts = omega arith
one_fewer (Piece i) ts = omega arith
one_fewer (Turned i) ts = omega arith
one_fewer (Cut d x) [] = omega arith
one_fewer (Cut d x) (a ∷ []) = omega arith
one_fewer (Cut d x) (a ∷ b ∷ ts) = omega arith

-- so k nodes fewer draw at most k more
trees_most : (ns : List (ℕ × ℕ)) (k : ℕ) → length (trees_in (drop k ns)) ≤ length (trees_in ns) + k
unfolding trees_in
trees_most ns zero = omega arith
trees_most [] (suc k) = omega arith
trees_most (n ∷ ns) (suc k) = omega (arith, trees_most ns k, one_fewer (node_of n.0 n.1) (trees_in ns))

waiting_length : (lengths widths : List ℕ) (n : ℕ) → length (waiting lengths widths n) ≡ n
unfolding waiting
waiting_length lengths widths zero = refl
waiting_length lengths widths (suc n) = ap suc (waiting_length lengths widths n)

-- the first of some rectangles
abbrev first_rect : List Rect → Rect
first_rect [] = (0, 0)
first_rect (r ∷ rs) = r

module _ (kinds operands : List ℕ) where
  -- the trees that the nodes from k on draw
  abbrev pub trees_from : ℕ → List (Tree laid.Piece)
  trees_from k = trees_in (drop k (nodes_in kinds operands))

  -- what is written of them
  abbrev pub written_from : ℕ → (laid.Piece → Rect) → ℕ → List Node
  written_from kerf size k = neat_nodes kerf size (trees_from k)

-- what every scan knows before it reads node k - 1: the n used sizes that are kept are those of the trees that the nodes from k on draw
pub record Scanning (kerf : ℕ) (size : laid.Piece → Rect) (kinds operands lengths widths : List ℕ) (n k : ℕ) : Type 0 where
  pub inside : k ≤ length kinds
  pub few : n + k ≤ length kinds
  pub kept : Kept lengths widths
  pub used_are : waiting lengths widths n ≡ map (told_of kerf size) (trees_from kinds operands k)

module _ {kerf : ℕ} {size : laid.Piece → Rect} {kinds operands : List ℕ} (given : Scannable kerf size kinds operands) where
  abbrev ns : List (ℕ × ℕ)
  ns = nodes_in kinds operands

  pub scan_begins : (lengths widths : List ℕ) → Kept lengths widths → Scanning kerf size kinds operands lengths widths 0 (length kinds)
  unfolding waiting trees_in
  scan_begins lengths widths kept =
      record { inside = omega arith; few = omega arith; kept = kept; used_are = sym (ap (λ l. map (told_of kerf size) (trees_in l)) (none_left kinds operands given.walkable.0)) }

  module _ {lengths widths : List ℕ} {n k : ℕ} (s : Scanning kerf size kinds operands lengths widths n k) where
    -- there are no more used sizes than half of the nodes and one more
    pub few_kept : n ≤ most_kept
    few_kept = omega (
      arith,
      s.few,
      given.walkable.1,
      given.one,
      trees_most ns k,
      waiting_length lengths widths n,
      ap length s.used_are,
      length-map (trees_from kinds operands k) (told_of kerf size),
    )

    -- at the first node the one used size is that of the one tree
    scan_ends : k ≤ 0 → waiting lengths widths n ≡ map (told_of kerf size) (trees_in ns)
    scan_ends h = let e : k ≡ 0 = omega arith in s.used_are ∙ ap (λ i. map (told_of kerf size) (trees_from kinds operands i)) e

    pub one_kept : k ≤ 0 → 1 ≤ length (trees_in ns) → 1 ≤ n
    one_kept h some = omega (arith, some, waiting_length lengths widths n, ap length (scan_ends h), length-map (trees_in ns) (told_of kerf size))

    pub one_used : k ≤ 0 → 1 ≤ length (trees_in ns) → (get_or lengths (n - 1) 0, get_or widths (n - 1) 0) ≡ told_of kerf size (first_tree (trees_in ns))
    one_used h some = go (trees_in ns) some (sym (next_waits lengths widths n (one_kept h some)) ∙ scan_ends h)
      where
        go : (ts : List (Tree laid.Piece)) → 1 ≤ length ts → (get_or lengths (n - 1) 0, get_or widths (n - 1) 0) ∷ waiting lengths widths (n - 1) ≡ map (told_of kerf size) ts
            → (get_or lengths (n - 1) 0, get_or widths (n - 1) 0) ≡ told_of kerf size (first_tree ts)
        go [] l e = absurd (omega (arith, l))
        go (t ∷ ts) l e = ap (λ us. first_rect us) e

    -- one node more
    module _ (some : 0 < k) {node : Node} (read : node ≡ node_of (get_or kinds (k - 1) 0) (get_or operands (k - 1) 0)) where
      here : trees_from kinds operands (k - 1) ≡ with_node node (trees_from kinds operands k)
      unfolding trees_in
      here = ap trees_in (node_here kinds operands k given.walkable.0 some s.inside) ∙ sym (ap (λ x. with_node x (trees_from kinds operands k)) read)

      makes_here : (Q : Tree laid.Piece → Type 0) → AllMake Q ns → Makes Q node (trees_from kinds operands k)
      makes_here Q all = subst (λ x. Makes Q x (trees_from kinds operands k)) (sym read)
          (subst (AllMake Q) (node_here kinds operands k given.walkable.0 some s.inside) (all_make Q ns (k - 1) all)).0

      pub numbered : Numbered node
      numbered = node_numbered kerf size node (trees_from kinds operands k) (makes_here (Known size) given.known)

      pub ready : Ready node (waiting lengths widths n)
      ready = subst (Ready node) (sym s.used_are) (node_ready kerf size node (trees_from kinds operands k) (makes_here (Known size) given.known))

      module _ {s₀ : Rect} (sized : s₀ ≡ size_of size node) {new_lengths new_widths : List ℕ} {t : Step} (step : Advanced kerf s₀ node lengths widths new_lengths new_widths n t) where
        pub scan_on : Scanning kerf size kinds operands new_lengths new_widths (t.below + 1) (k - 1)
        scan_on =
            record {
              inside = omega (arith, s.inside);
              few = omega (arith, s.few, step.below_most);
              kept = step.kept;
              used_are = step.used_are ∙ (λ i. used_with kerf (sized i) node (s.used_are i))
                  ∙ node_used kerf size node (trees_from kinds operands k) (makes_here (Known size) given.known) ∙ sym (ap (map (told_of kerf size)) here);
            }

        -- what the node becomes
        pub entry_here : t.entry ≡ entry_of (becomes node (map (told_of kerf size) (trees_from kinds operands k)))
        entry_here = step.entry_is ∙ ap (λ us. entry_of (becomes node us)) s.used_are

-- what a scan that writes knows besides: what is written begins at place o
pub record Writing (kerf : ℕ) (size : laid.Piece → Rect) (kinds operands old_kinds old_operands : List ℕ) (needed : ℕ) (new_kinds new_operands lengths widths : List ℕ) (n o k : ℕ) : Type 0 where
  pub scanning : Scanning kerf size kinds operands lengths widths n k
  pub place : o + length (written_from kinds operands kerf size k) ≡ needed
  pub kinds_are : new_kinds ≡ laid_over old_kinds o (map (λ n. kind_of n) (written_from kinds operands kerf size k)) needed
  pub operands_are : new_operands ≡ laid_over old_operands o (map (λ n. operand_of n) (written_from kinds operands kerf size k)) needed

-- what is given of a kerf is given of its equal
pub at_kerf : {kerf' kerf : ℕ} {size : laid.Piece → Rect} {plate : Rect} {kinds operands old_kinds old_operands : List ℕ} {needed : ℕ} → kerf' ≡ kerf
    → Writable kerf size plate kinds operands old_kinds old_operands needed → Writable kerf' size plate kinds operands old_kinds old_operands needed
at_kerf {size = size} {plate} {kinds} {operands} {old_kinds} {old_operands} {needed} e = subst (λ k. Writable k size plate kinds operands old_kinds old_operands needed) (sym e)

-- fewer nodes have no more written of them
fewer : (kerf : ℕ) (size : laid.Piece → Rect) (plate : Rect) → Fair plate → (ns : List (ℕ × ℕ)) → AllMake (Known size) ns → AllMake (Within kerf size plate) ns → (k : ℕ)
    → length (neat_nodes kerf size (trees_in (drop k ns))) ≤ length (neat_nodes kerf size (trees_in ns))
unfolding trees_in
fewer kerf size plate fair ns f w zero = omega arith
fewer kerf size plate fair [] f w (suc k) = omega arith
fewer kerf size plate fair (n ∷ ns) f w (suc k) =
    let x = becomes (node_of n.0 n.1) (map (told_of kerf size) (trees_in ns)) in
    omega (arith, fewer kerf size plate fair ns f.1 w.1 k, keep_longer (remains (kind_of x)) x (neat_nodes kerf size (trees_in ns)), ap length (node_written kerf size plate fair (node_of n.0 n.1) (trees_in ns) f.0 w.0))

module _ {kerf : ℕ} {size : laid.Piece → Rect} {plate : Rect} {kinds operands old_kinds old_operands : List ℕ} {needed : ℕ} (given : Writable kerf size plate kinds operands old_kinds old_operands needed) where
  abbrev g : Scannable kerf size kinds operands
  g = given.scannable

  none_written : written_from kinds operands kerf size (length kinds) ≡ []
  unfolding trees_in neat_nodes
  none_written = ap (λ l. neat_nodes kerf size (trees_in l)) (none_left kinds operands g.walkable.0)

  none_over : (f : Node → ℕ) (old : List ℕ) → old ≡ laid_over old needed (map f (written_from kinds operands kerf size (length kinds))) needed
  none_over f old = sym (ap (λ l. laid_over old needed (map f l) needed) none_written ∙ take-append-drop needed old)

  pub begins : (lengths widths : List ℕ) → Kept lengths widths → Writing kerf size kinds operands old_kinds old_operands needed old_kinds old_operands lengths widths 0 needed (length kinds)
  begins lengths widths kept =
      record {
        scanning = scan_begins g lengths widths kept;
        place = omega (arith, ap length none_written);
        kinds_are = none_over (λ n. kind_of n) old_kinds;
        operands_are = none_over (λ n. operand_of n) old_operands;
      }

  module _ {new_kinds new_operands lengths widths : List ℕ} {n o k : ℕ} (s : Writing kerf size kinds operands old_kinds old_operands needed new_kinds new_operands lengths widths n o k) where
    -- the arrays keep their lengths
    same_over : (f : Node → ℕ) (old : List ℕ) {new : List ℕ} → needed ≤ length old → new ≡ laid_over old o (map f (written_from kinds operands kerf size k)) needed → length new ≡ length old
    same_over f old {new} h e = let w = length-map (written_from kinds operands kerf size k) f in
        ap length e ∙ over_length old o (map f (written_from kinds operands kerf size k)) needed (omega (arith, s.place, w)) h

    pub same_kinds : length new_kinds ≡ length old_kinds
    same_kinds = same_over (λ n. kind_of n) old_kinds given.kinds_room s.kinds_are

    pub same_operands : length new_operands ≡ length old_operands
    same_operands = same_over (λ n. operand_of n) old_operands given.operands_room s.operands_are

    -- at the first node all is written
    all_over : (f : Node → ℕ) (old : List ℕ) → k ≤ 0 → laid_over old o (map f (written_from kinds operands kerf size k)) needed ≡ over (map f (neat_nodes kerf size (trees_in (nodes_in kinds operands)))) old
    all_over f old h =
        let e : k ≡ 0 = omega arith in
        let w : written_from kinds operands kerf size k ≡ neat_nodes kerf size (trees_in (nodes_in kinds operands)) = ap (written_from kinds operands kerf size) e in
        let z : o ≡ 0 = omega (arith, s.place, ap length w, given.counts) in
        λ i. laid_over old (z i) (map f (w i)) ((given.counts ∙ sym (length-map (neat_nodes kerf size (trees_in (nodes_in kinds operands))) f)) i)

    pub ends : {kerf' : ℕ} → kerf ≡ kerf' → k ≤ 0 → (new_kinds ≡ over (map (λ n. kind_of n) (neat_nodes kerf' size (trees_in (nodes_in kinds operands)))) old_kinds)
        × (new_operands ≡ over (map (λ n. operand_of n) (neat_nodes kerf' size (trees_in (nodes_in kinds operands)))) old_operands)
    ends e h = (
      s.kinds_are ∙ all_over (λ n. kind_of n) old_kinds h ∙ ap (λ x. over (map (λ n. kind_of n) (neat_nodes x size (trees_in (nodes_in kinds operands)))) old_kinds) e,
      s.operands_are ∙ all_over (λ n. operand_of n) old_operands h ∙ ap (λ x. over (map (λ n. operand_of n) (neat_nodes x size (trees_in (nodes_in kinds operands)))) old_operands) e,
    )

    -- one node more
    module _ (some : 0 < k) {node : Node} (read : node ≡ node_of (get_or kinds (k - 1) 0) (get_or operands (k - 1) 0)) {s₀ : Rect} (sized : s₀ ≡ size_of size node)
        {new_lengths new_widths : List ℕ} {t : Step} (step : Advanced kerf s₀ node lengths widths new_lengths new_widths n t) where
      -- what it becomes
      abbrev after : Node
      after = becomes node (map (told_of kerf size) (trees_from kinds operands k))

      is_after : t.entry ≡ entry_of after
      is_after = entry_here g s.scanning some read sized step

      pub operand_most : (l : ℕ) → most_kinds ≤ l → plate ⊑ (l, l) → t.entry.operand ≤ l
      operand_most l a b = subst (λ (e : Entry). e.operand ≤ l) (sym is_after)
          (node_operand kerf size plate l a b node (trees_from kinds operands k) (makes_here g s.scanning some read (Known size) g.known) (makes_here g s.scanning some read (Within kerf size plate) given.within))

      -- what is written with the node
      with_here : written_from kinds operands kerf size (k - 1) ≡ keep (remains (kind_of after)) after (written_from kinds operands kerf size k)
      with_here = ap (neat_nodes kerf size) (here g s.scanning some read)
          ∙ node_written kerf size plate given.fair node (trees_from kinds operands k) (makes_here g s.scanning some read (Known size) g.known) (makes_here g s.scanning some read (Within kerf size plate) given.within)

      room_after : remains (kind_of after) ≡ true → 0 < o
      room_after r = keep_room (remains (kind_of after)) after (written_from kinds operands kerf size k) o needed s.place
          (omega (arith, given.counts, fewer kerf size plate given.fair (nodes_in kinds operands) g.known given.within (k - 1), ap length with_here)) r

      pub room : remains t.entry.kind ≡ true → (0 < o) × (o ≤ length new_kinds) × (o ≤ length new_operands)
      room r = (
        room_after (sym (ap (λ (e : Entry). remains e.kind) is_after) ∙ r),
        omega (arith, s.place, given.kinds_room, same_kinds),
        omega (arith, s.place, given.operands_room, same_operands),
      )

      -- and the scan goes on
      module _ {o' : ℕ} (less : o' ≡ o - only (remains t.entry.kind) 1) where
        less_after : o' ≡ o - only (remains (kind_of after)) 1
        less_after = less ∙ ap (λ (e : Entry). o - only (remains e.kind) 1) is_after

        put_more : (f : Node → ℕ) (old now later : List ℕ) → needed ≤ length old → now ≡ laid_over old o (map f (written_from kinds operands kerf size k)) needed
            → later ≡ put_when (remains (kind_of after)) now (o - 1) (f after) → later ≡ laid_over old o' (map f (written_from kinds operands kerf size (k - 1))) needed
        put_more f old now later h c d =
            d ∙ ap (λ l. put_when (remains (kind_of after)) l (o - 1) (f after)) c
            ∙ put_again (remains (kind_of after)) old o (map f (written_from kinds operands kerf size k)) needed (f after) room_after (omega (arith, s.place, h))
            ∙ (λ i. laid_over old (sym less_after i) ((sym (keep_map f (remains (kind_of after)) after (written_from kinds operands kerf size k)) ∙ sym (ap (map f) with_here)) i) needed)

        pub goes_on : {later_kinds later_operands : List ℕ} → later_kinds ≡ put_when (remains t.entry.kind) new_kinds (o - 1) t.entry.kind
            → later_operands ≡ put_when (remains t.entry.kind) new_operands (o - 1) t.entry.operand
            → Writing kerf size kinds operands old_kinds old_operands needed later_kinds later_operands new_lengths new_widths (t.below + 1) o' (k - 1)
        goes_on {later_kinds} {later_operands} c d =
            record {
              scanning = scan_on g s.scanning some read sized step;
              place = (λ i. less_after i + length (with_here i)) ∙ keep_count (remains (kind_of after)) after (written_from kinds operands kerf size k) o needed room_after s.place;
              kinds_are = put_more (λ n. kind_of n) old_kinds new_kinds later_kinds given.kinds_room s.kinds_are (c ∙ ap (λ (e : Entry). put_when (remains e.kind) new_kinds (o - 1) e.kind) is_after);
              operands_are = put_more (λ n. operand_of n) old_operands new_operands later_operands given.operands_room s.operands_are
                  (d ∙ ap (λ (e : Entry). put_when (remains e.kind) new_operands (o - 1) e.operand) is_after);
            }
