-- Where a walk stands: on its way past nodes that keep its direction, at a cut that changes it, and after that cut's parts.
use Rattle.stages.proofs.Prelude.{◌≡◌, refl, sym, ◌∙◌, ap, subst, Bool, true, false, List, ℕ, ◌+◌, ◌-◌, ◌≤◌, ◌<◌, max, arith, eqb-true, eqb-false, eqb, length, get_or, Direction, Length, Width, other, Answer, Refusal, ManyStages, Walk, Reach, Step, Change, End, Walked, cut_kind, pass, Reached, Stands, nodes_left, Along, Resumed, Checked, refuse_when, ltb, ltb-true, Ok, Err}
use Rattle.stages.proofs.Walks.{ends, lacks, leaf, keeps, past, stops, goes_on}

-- a check that refused: its condition holds
refused_when : (t : Bool) (q : Refusal) {a : Checked} {x : Refusal} → a ≡ refuse_when t q → a ≡ Err x → (t ≡ true) × (x ≡ q)
refused_when true q e p = (refl, cc)
refused_when false q e p = (cc, cc)

turned : (d : Direction) → 5 - cut_kind d ≡ cut_kind (other d)
turned Length = refl
turned Width = refl

is_turned : (d : Direction) {own kind : ℕ} → own ≡ cut_kind d → kind ≡ 5 - own → kind ≡ cut_kind (other d)
is_turned d o turns = turns ∙ ap (λ k. 5 - k) o ∙ turned d

neither : (d : Direction) {kind : ℕ} → (kind ≡ cut_kind d → ⊥) → (kind ≡ cut_kind (other d) → ⊥) → (kind ≡ 2 → ⊥) × (kind ≡ 3 → ⊥)
neither Length f g = (f, g)
neither Width f g = (g, f)

-- a walk on its way from s₀, past nodes that keep the direction whose cuts have the kind `own`
pub record Going (ks : List ℕ) (left own : ℕ) (s₀ s : Reach) : Type 0 where
  pub later : s₀.next ≤ s.next
  pub to : s.next ≤ length ks
  pub few : s.waiting ≤ s.next + 2
  pub reached : (d : Direction) → own ≡ cut_kind d → (at : ℕ) → Reached d ks left at s₀ → Reached d ks left at s

pub sets_out : (ks : List ℕ) (left own : ℕ) (s : Reach) → s.next ≤ length ks → s.waiting ≤ s.next + 2 → Going ks left own s s
sets_out ks left own s to few = record { later = omega arith; to = to; few = few; reached = λ d o at w. w }

pub passes : {ks : List ℕ} {left own : ℕ} {s₀ s : Reach} → Going ks left own s₀ s → 0 < s.waiting → (kind : ℕ) → s.next < length ks → kind ≡ get_or ks s.next 0 → (kind ≡ 5 - own → ⊥) → 1 ≤ left
    → Going ks left own s₀ (pass (eqb kind own) s)
passes {ks} {left} {own} {s₀} {s} g wait kind inside read f l = go (eqb kind own) refl
  where
    go : (b : Bool) → eqb kind own ≡ b → Going ks left own s₀ (pass b s)
    go true e = record {
      later = omega (arith, g.later);
      to = omega arith;
      few = omega (arith, g.few);
      reached = λ d o at w. keeps (g.reached d o at w) wait kind inside read (eqb-true kind own e ∙ o) l;
    }
    go false e = record {
      later = omega (arith, g.later);
      to = omega arith;
      few = omega (arith, g.few);
      reached = λ d o at w. (let n = neither d (λ k. eqb-false kind own e (k ∙ sym o)) (λ k. f (k ∙ sym (turned d) ∙ ap (λ k. 5 - k) (sym o))) in leaf (g.reached d o at w) wait kind inside read n.0 n.1);
    }

module _ (d : Direction) {ks : List ℕ} {left own : ℕ} {s₀ s : Reach} (g : Going ks left own s₀ s) (o : own ≡ cut_kind d) where
  abbrev ended : Answer Step
  ended = Ok (End (record { next = s.next; stages = s.most }))

  ends_here : ((at : ℕ) → Reached d ks left at s → Stands d ks left at ended) → Along d ks left s₀ ended
  ends_here f = record {
    stands = λ at w. f at (g.reached d o at w);
    fewer = λ step e. (let i : End (record { next = s.next; stages = s.most }) ≡ step = cc in subst (λ x. nodes_left ks x ≤ length ks - s₀.next) i (omega arith));
  }

  -- no tree waits, or no node is left
  pub along_ends : s.waiting ≤ 0 → Along d ks left s₀ ended
  along_ends h = ends_here (λ at w. ends w h)

  pub along_lacks : 0 < s.waiting → length ks ≤ s.next → Along d ks left s₀ ended
  along_lacks wait h = ends_here (λ at w. lacks w wait h)

  -- a cut changes the direction
  module _ (wait : 0 < s.waiting) (kind : ℕ) (inside : s.next < length ks) (read : kind ≡ get_or ks s.next 0) (turns : kind ≡ 5 - own) where
    along_past : left ≤ 1 → Along d ks left s₀ (Err (ManyStages s.next))
    along_past l = record { stands = λ at w. past (g.reached d o at w) wait kind inside read (is_turned d o turns) l; fewer = λ step e. cc }

    pub along_refused : {a : Checked} {x : Refusal} → a ≡ refuse_when (ltb left 2) (ManyStages s.next) → a ≡ Err x → {r : Answer Step} → r ≡ Err x → Along d ks left s₀ r
    along_refused e p h =
        let q = refused_when (ltb left 2) (ManyStages s.next) e p in
        subst (Along d ks left s₀) (sym (h ∙ ap Err q.1)) (along_past (omega (arith, ltb-true left 2 q.0)))

    pub along_changes : 2 ≤ left → Along d ks left s₀ (Ok (Change s))
    along_changes l = record {
      stands = λ at w. (g.reached d o at w, record { some = wait; few = g.few; inside = inside; turned = sym read ∙ is_turned d o turns; room = l });
      fewer = λ step e. (let i : Change s ≡ step = cc in subst (λ x. nodes_left ks x ≤ length ks - s₀.next) i (omega (arith, g.later)));
    }

-- the walk goes on after the parts of that cut
pub resumed : (d : Direction) {ks : List ℕ} {left : ℕ} (s : Reach) {parts : Walk} → Walked (other d) ks (s.next + 1) (left - 1) (Ok parts) → s.next < length ks → {r : Answer Step}
    → Along d ks left (record { next = parts.next; waiting = s.waiting - 1; most = max s.most (max 1 parts.stages + 1) }) r → Resumed d ks left s r
resumed d s {parts} f inside a = record {
  stands = λ at w t. a.stands at (goes_on w t.some _ t.inside refl t.turned t.room parts f);
  fewer = λ step e. (let h = a.fewer step e in omega (arith, h, (f.inside parts refl).0));
}

-- or those parts pass the limit
pub parts_refused : (d : Direction) {ks : List ℕ} {left at : ℕ} {step : Step} {s : Reach} → Stands d ks left at (Ok step) → step ≡ Change s → {r : Answer Walk} {x : Refusal} → Walked (other d) ks (s.next + 1) (left - 1) r → r ≡ Err x
    → {a : Answer Walk} → a ≡ Err x → Walked d ks at left a
parts_refused d {ks} {left} {at} w e f is h =
    let v = subst (λ x. Stands d ks left at (Ok x)) e w in
    let t = v.1 in
    subst (Walked d ks at left) (sym h) (stops v.0 t.some _ t.inside refl t.turned t.room is f)
