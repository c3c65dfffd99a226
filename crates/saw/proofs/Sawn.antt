-- A plan check's answer without its profit: its verdict is the same, and so is its refusal.
use Rattle.saw.proofs.Prelude.{◌≡◌, refl, ap, Refusal, Answer, verdict_of, no_pass, Report, SawReport, without_profit, saw_of, Ok, Err}

pub sawn_verdict : (a : Answer Report) → verdict_of (saw_of a) ≡ verdict_of a
sawn_verdict (Ok r) = refl
sawn_verdict (Err x) = refl

-- where it has a value
pub sawn_value : (a : Answer Report) {r : SawReport} → saw_of a ≡ Ok r → (s : Report) × (a ≡ Ok s) × (r ≡ without_profit s)
sawn_value (Ok s) e = (s, refl, cc)
sawn_value (Err x) e = no_pass (ap verdict_of e)

-- an answer whose verdict is a refusal
pub refused_verdict : {A : Type 0} (a : Answer A) {x : Refusal} → verdict_of a ≡ Err x → a ≡ Err x
refused_verdict (Ok r) e = cc
refused_verdict (Err y) e = cc
