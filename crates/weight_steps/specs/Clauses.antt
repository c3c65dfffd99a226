-- Inner definitions, cited by the contracts of this crate alone.
use Rattle.std.specs.Prelude.{List, ℕ, ◌*◌, get_or}
use Rattle.cutting.specs.Lists.{sum}
use Rattle.weight_steps.specs.Step.{distance}

-- the summed squares of the distances of n kinds, over arrays of copies and demands
abbrev pub summed_squares : List ℕ → List ℕ → ℕ → ℕ
summed_squares copies demands n = sum n (λ i. distance (get_or copies i 0) (get_or demands i 0) * distance (get_or copies i 0) (get_or demands i 0))
