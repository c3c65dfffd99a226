-- One node of the scan: a cut by whether its parts hold a piece, the two used sizes on top, and what the node becomes over them.
use Rattle.neat.proofs.Prelude.{◌≡◌, refl, sym, ◌∙◌, ap, ap₂, subst, true, List, ◌∷◌, ℕ, zero, suc, ◌+◌, ◌-◌, ◌*◌, ◌≤◌, max, arith, get_or, Direction, Length, Width, Node, Waste, Cut, Rect, side, ◌⊑◌, kind_of, joined, waiting, next_waits, Entry, Used, Step, used_rect, as_used, entry_of, most_told, told_side, told, told_sides, moved, used_with, becomes, Ready, Stepped, remains, nodes_for}

-- what no side is told as more than is told as it is
told_is : (r : Rect) → r ⊑ told_sides → r ≡ told r
told_is r h = ap₂ (λ l w. (l, w)) (omega arith) (omega arith)

-- a cut whose first part holds no piece, whose second part alone holds none, and whose parts both hold one, as it is told
module _ (k : ℕ) (d : Direction) (u v : Rect) where
  pub joined_first : (m n : ℕ) → m ≡ 0 → v ⊑ told_sides → v ≡ told (joined k d m n u v)
  joined_first m n e h = told_is v h ∙ sym (ap (λ i. told (joined k d i n u v)) e)

  pub joined_second : (m n : ℕ) → (m ≡ 0 → ⊥) → n ≡ 0 → u ⊑ told_sides → u ≡ told (joined k d m n u v)
  joined_second zero n h e l = absurd (h refl)
  joined_second (suc m) n h e l = told_is u l ∙ sym (ap (λ i. told (joined k d (suc m) i u v)) e)

greater_told : (a b : ℕ) → a ≤ most_told → b ≤ most_told → max a b ≡ told_side (max a b)
greater_told a b h i = omega arith

pub joined_length : (k m n : ℕ) (u v : Rect) {d : Direction} → d ≡ Length → (m ≡ 0 → ⊥) → (n ≡ 0 → ⊥) → u ⊑ told_sides → v ⊑ told_sides
    → (told_side (u.0 + k + v.0), max u.1 v.1) ≡ told (joined k d m n u v)
joined_length k zero n u v e h i p q = absurd (h refl)
joined_length k (suc m) zero u v e h i p q = absurd (i refl)
joined_length k (suc m) (suc n) u v e h i p q = ap (λ w. (told_side (u.0 + k + v.0), w)) (greater_told u.1 v.1 p.1 q.1) ∙ sym (ap (λ d. told (joined k d (suc m) (suc n) u v)) e)

pub joined_width : (k m n : ℕ) (u v : Rect) {d : Direction} → d ≡ Width → (m ≡ 0 → ⊥) → (n ≡ 0 → ⊥) → u ⊑ told_sides → v ⊑ told_sides
    → (max u.0 v.0, told_side (u.1 + k + v.1)) ≡ told (joined k d m n u v)
joined_width k zero n u v e h i p q = absurd (h refl)
joined_width k (suc m) zero u v e h i p q = absurd (i refl)
joined_width k (suc m) (suc n) u v e h i p q = ap (λ l. (l, told_side (u.1 + k + v.1))) (greater_told u.0 v.0 p.0 q.0) ∙ sym (ap (λ d. told (joined k d (suc m) (suc n) u v)) e)

pub moved_first : (d : Direction) (m n x : ℕ) → m ≡ 0 → Waste ≡ moved d m n x
moved_first d m n x e = sym (ap (λ i. moved d i n x) e)

pub moved_second : (d : Direction) (m n x : ℕ) → n ≡ 0 → Waste ≡ moved d m n x
moved_second d zero n x e = refl
moved_second d (suc m) n x e = sym (ap (λ i. moved d (suc m) i x) e)

pub moved_both : (d : Direction) (m n x : ℕ) → (m ≡ 0 → ⊥) → (n ≡ 0 → ⊥) → Cut d x ≡ moved d m n x
moved_both d zero n x h i = absurd (h refl)
moved_both d (suc m) zero x h i = absurd (i refl)
moved_both d (suc m) (suc n) x h i = refl

-- the kind of a cut does not tell its position
cut_kind : (d : Direction) (x y : ℕ) → kind_of (Cut d x) ≡ kind_of (Cut d y)
cut_kind Length x y = refl
cut_kind Width x y = refl

-- what is written of a cut that remains
pub cut_entry : (d : Direction) (m n x : ℕ) {k y : ℕ} → k ≡ kind_of (Cut d 0) → y ≡ x → (m ≡ 0 → ⊥) → (n ≡ 0 → ⊥) → ◌≡◌ {A = Entry} (record { kind = k; operand = y }) (entry_of (moved d m n x))
cut_entry d m n x e f h i = (λ j. record { kind = (e ∙ cut_kind d 0 x) j; operand = f j }) ∙ ap (λ z. entry_of z) (moved_both d m n x h i)

-- a kind that is not waste's remains
pub remains_some : (k : ℕ) → (k ≡ 0 → ⊥) → remains k ≡ true
remains_some zero h = absurd (h refl)
remains_some (suc k) h = refl

pub nodes_some : (n : ℕ) → (n ≡ 0 → ⊥) → 2 * n - 1 ≡ nodes_for n
nodes_some zero h = absurd (h refl)
nodes_some (suc n) h = refl

module _ (lengths widths : List ℕ) (n : ℕ) where
  -- the n used sizes, and the two on top
  abbrev us : List Rect
  us = waiting lengths widths n

  abbrev first : Rect
  first = (get_or lengths (n - 1) 0, get_or widths (n - 1) 0)

  abbrev second : Rect
  second = (get_or lengths (n - 1 - 1) 0, get_or widths (n - 1 - 1) 0)

  top_two : 2 ≤ n → us ≡ first ∷ second ∷ waiting lengths widths (n - 2)
  top_two h = let e : n - 1 - 1 ≡ n - 2 = omega arith in
      next_waits lengths widths n (omega arith) ∙ ap (λ l. first ∷ l) (next_waits lengths widths (n - 1) (omega arith) ∙ ap (λ i. second ∷ waiting lengths widths i) e)

  module _ (d : Direction) (x : ℕ) {node : Node} (is : node ≡ Cut d x) (ready : Ready node us) where
    -- a cut has two used sizes, and both are told
    pub two : 2 ≤ n
    unfolding waiting
    two = go n (subst (λ m. Ready m us) is ready)
      where
        go : (n : ℕ) → Ready (Cut d x) (waiting lengths widths n) → 2 ≤ n
        go zero r = absurd r
        go (suc zero) r = absurd r
        go (suc (suc n)) r = omega arith

    pub both_told : {u v : Used} → u ≡ as_used first → v ≡ as_used second → (used_rect u ⊑ told_sides) × (used_rect v ⊑ told_sides)
    both_told {u} {v} e f = subst (λ (z : Used × Used). (used_rect z.0 ⊑ told_sides) × (used_rect z.1 ⊑ told_sides)) (λ i. (sym e i, sym f i))
        (subst (λ l. Ready (Cut d x) l) (top_two two) (subst (λ m. Ready m us) is ready))

    -- so it is one step
    pub cut_steps : (k : ℕ) (size : Rect) {u v : Used} → u ≡ as_used first → v ≡ as_used second → {s : Step}
        → s.entry ≡ entry_of (moved d u.length v.length (side d (used_rect u))) → s.used ≡ as_used (told (joined k d u.length v.length (used_rect u) (used_rect v))) → s.below ≡ n - 2
        → Stepped k size node lengths widths n s
    cut_steps k size {u} {v} e f {s} a b c =
        let t = top_two two in
        record {
          entry_is = a ∙ (λ i. entry_of (moved d (e i).length (f i).length (side d (used_rect (e i))))) ∙ sym (λ i. entry_of (becomes (is i) (t i)));
          used_are = (λ i. used_rect (b i) ∷ waiting lengths widths (c i)) ∙ (λ i. told (joined k d (e i).length (f i).length (used_rect (e i)) (used_rect (f i))) ∷ waiting lengths widths (n - 2)) ∙ sym (λ i. used_with k size (is i) (t i));
          below_most = omega (arith, c);
        }

  -- a node that is no cut adds the size of its piece
  pub leaf_steps : (k : ℕ) (size : Rect) {node : Node} {s : Step} → node ≡ becomes node us → size ∷ us ≡ used_with k size node us
      → (s.entry ≡ entry_of node) × (s.used ≡ as_used size) × (s.below ≡ n) → Stepped k size node lengths widths n s
  leaf_steps k size {node} {s} a b c =
      record { entry_is = c.0 ∙ ap (λ x. entry_of x) a; used_are = (λ i. used_rect (c.1 i) ∷ waiting lengths widths (c.2 i)) ∙ b; below_most = omega (arith, c.2) }
