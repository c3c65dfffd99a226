-- What the table gives for a refusal it gives for the case that the refusal is.
use mathlib.Core.Path.{◌≡◌, sym, ap}
use Rattle.promises.specs.declared.Refusal.{Refusal}
use Rattle.refusal.specs.Refusals.{number_of, place_of}

pub told : {r case : Refusal} → r ≡ case → (number_of case ≡ number_of r) × (place_of case ≡ place_of r)
told e = (sym (ap number_of e), sym (ap place_of e))
