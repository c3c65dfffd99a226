-- What a node leaves: its answer and the copies are the definition's, and the sums stay within their bound.
use Rattle.node.proofs.Prelude.{◌≡◌, ◌∙◌, refl, sym, ap, subst, Bool, true, false, not, List, ℕ, ◌+◌, ◌-◌, ◌≤◌, eqb, get_or, set, Direction, Cut, Rect, side, Job, first_refusal, refuse_when, Refusal, Operand, Tally, outside, node_of, most_kind, node_checks, with_waste, with_piece, with_cut, tallied, copied, lying_as, laying, Grows, Placed, Ok, Err, passed, Checked, Answer}
use Rattle.std.specs.Result.{IsErrAnd}
use Rattle.refusal.specs.Refusals.{verdict_of}
use Rattle.refusal.proofs.Results.{handed, refused_answer, given_answer}
use Rattle.node.proofs.Nodes.{waste_checks, cut_checks}

-- what a piece adds
tallied_piece : (J : Job) (b : Bool) (i : ℕ) (r : Rect) (t : Tally) → tallied J (laying b i) r t ≡ with_piece (J.price i) (lying_as b (J.size i)) r t
tallied_piece J false i r t = refl
tallied_piece J true i r t = refl

copied_piece : (b : Bool) (i : ℕ) (c : List ℕ) → copied (laying b i) c ≡ set c i (get_or c i 0 + 1)
copied_piece false i c = refl
copied_piece true i c = refl

module _ (J : Job) (k : ℕ) (r : Rect) (t : Tally) (c : List ℕ) where
  -- a node that is refused
  pub refused : (kind o : ℕ) (a : Answer Tally) {x : Refusal} → first_refusal (node_checks J c r k kind o) ≡ Err x → IsErrAnd a (λ y. y ≡ x) → Placed J k kind o r t c a c
  refused kind o a e p = let h = handed a p in let v = ap verdict_of h in
      record { answer = refused_answer _ _ a e p; counts = λ q. cc; sized = λ s q. cc }

  -- one that passes
  placed : {kind o : ℕ} {s : Tally} {after : List ℕ} → first_refusal (node_checks J c r k kind o) ≡ passed → s ≡ tallied J (node_of kind o) r t → after ≡ copied (node_of kind o) c → Grows t s → Placed J k kind o r t c (Ok s) after
  placed {s = s} e f g h = record { answer = given_answer _ _ e (ap Ok f); counts = λ q. g; sized = λ u q. (let w : s ≡ u = cc in subst (Grows t) w h) }

  -- a waste node
  module _ (o : ℕ) {v : Checked} (e : v ≡ refuse_when (not (eqb o 0)) (Operand k)) where
    pub waste_verdict : first_refusal (node_checks J c r k 0 o) ≡ v
    waste_verdict = waste_checks J c r k o ∙ sym e

    pub waste_placed : {s : Tally} → v ≡ passed → s ≡ with_waste r t → Grows t s → Placed J k 0 o r t c (Ok s) c
    waste_placed p f g = placed (waste_verdict ∙ p) f refl g

  module _ (kind o : ℕ) (h : kind ≤ most_kind J.turning) where
    -- a piece
    pub piece_placed : (b : Bool) (i : ℕ) → node_of kind o ≡ laying b i → {s : Tally} {copies : ℕ} → first_refusal (node_checks J c r k kind o) ≡ passed
        → s ≡ with_piece (J.price i) (lying_as b (J.size i)) r t → Grows t s → copies ≡ get_or c i 0 + 1 → Placed J k kind o r t c (Ok s) (set c i copies)
    piece_placed b i e p f g m = placed p (f ∙ sym (ap (λ n. tallied J n r t) e ∙ tallied_piece J b i r t)) (ap (set c i) m ∙ sym (ap (λ n. copied n c) e ∙ copied_piece b i c)) g

    -- a cut
    module _ (d : Direction) (x kerf : ℕ) (n : node_of kind o ≡ Cut d x) (b : J.kerf ≡ kerf) {v : Checked} (e : v ≡ refuse_when (outside 1 (side d r - kerf - 1) x) (Operand k)) where
      pub cut_verdict : first_refusal (node_checks J c r k kind o) ≡ v
      cut_verdict = cut_checks J c r k kind o h d x n ∙ ap (λ m. refuse_when (outside 1 (side d r - m - 1) x) (Operand k)) b ∙ sym e

      pub cut_placed : {s : Tally} → v ≡ passed → s ≡ with_cut kerf d r t → Grows t s → Placed J k kind o r t c (Ok s) c
      cut_placed p f g = placed (cut_verdict ∙ p) (f ∙ sym (ap (λ m. tallied J m r t) n ∙ ap (λ m. with_cut m d r t) b)) (sym (ap (λ m. copied m c) n)) g

-- a node whose kind is known
pub placed_as : {J : Job} {k kind n o : ℕ} {r : Rect} {t : Tally} {c : List ℕ} {a : Answer Tally} {after : List ℕ} → kind ≡ n → Placed J k n o r t c a after → Placed J k kind o r t c a after
placed_as {J} {k} {kind} {n} {o} {r} {t} {c} {a} {after} e p = subst (λ x. Placed J k x o r t c a after) (sym e) p
