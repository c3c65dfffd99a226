-- Laws of answers: what `?` hands on is the refusal of the check before it, and an answer's number and values are those of its verdict.
use mathlib.Core.Path.{◌≡◌, refl, sym, ◌∙◌, ap}
use mathlib.Core.List.{List}
use Prim.Native.Nat.{ℕ}
use Rattle.std.proofs.Common.{Ok, Err}
use Rattle.std.specs.Result.{IsErrAnd}
use Rattle.promises.specs.declared.Refusal.{Refusal}
use Rattle.promises.specs.Refusals.{Answer, Checked, passed, answer_by, verdict_of, next, outcome_by, outcome_of}

-- what `?` hands on is the refusal
pub handed : {A : Type 0} (r : Answer A) {x : Refusal} → IsErrAnd r (λ y. y ≡ x) → r ≡ Err x
handed (Ok a) p = absurd p
handed (Err y) p = ap Err p

-- so it is the check's answer
pub as_check : {a : Checked} (r : Checked) {x : Refusal} → a ≡ Err x → IsErrAnd r (λ y. y ≡ x) → r ≡ a
as_check r e p = handed r p ∙ sym e

-- a refusal is the answer where the checks refuse
pub refused_answer : {A : Type 0} (v : Checked) (a : A) (r : Answer A) {x : Refusal} → v ≡ Err x → IsErrAnd r (λ y. y ≡ x) → r ≡ answer_by v a
refused_answer v a r e p = handed r p ∙ sym (ap (λ w. answer_by w a) e)

-- and the value where they pass
pub given_answer : {A : Type 0} (v : Checked) (a : A) {r : Answer A} → v ≡ passed → r ≡ Ok a → r ≡ answer_by v a
given_answer v a e p = p ∙ sym (ap (λ w. answer_by w a) e)

-- the verdict of an answer is that of its checks
pub verdict_is : {A : Type 0} (v : Checked) (a : A) → verdict_of (answer_by v a) ≡ v
verdict_is (Ok _) a = refl
verdict_is (Err r) a = refl

-- its number and values are the table's
pub said_by : {A : Type 0} (values : A → List ℕ) (v : Checked) (a : A) → outcome_of values (answer_by v a) ≡ outcome_by v (values a)
said_by values (Ok _) a = refl
said_by values (Err r) a = refl

-- a refusal before some checks is that of all
pub before_refuses : (v w : Checked) {x : Refusal} → v ≡ Err x → next v w ≡ Err x
before_refuses v w e = ap (λ u. next u w) e

-- and where they pass the others decide
pub before_passes : (v w : Checked) → v ≡ passed → next v w ≡ w
before_passes v w e = ap (λ u. next u w) e

-- what a caller knows of an answer with a value, and of a refusal
pub value_answered : {A : Type 0} (v : Checked) (a : A) {x : A} → answer_by v a ≡ Ok x → (v ≡ passed) × (x ≡ a)
value_answered (Ok _) a e = (refl, cc)
value_answered (Err r) a e = (cc, cc)

pub refusal_answered : {A : Type 0} (v : Checked) (a : A) {x : Refusal} → answer_by v a ≡ Err x → v ≡ Err x
refusal_answered (Ok _) a e = cc
refusal_answered (Err r) a e = cc

-- both clauses of an answer: what it is, and its number and values
pub told : {A : Type 0} (values : A → List ℕ) (v : Checked) (a : A) {r : Answer A} → r ≡ answer_by v a → (r ≡ answer_by v a) × (outcome_of values r ≡ outcome_by v (values a))
told values v a e = (e, ap (outcome_of values) e ∙ said_by values v a)
