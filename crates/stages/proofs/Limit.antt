-- The check of a limit; the checks of a tree, which pass exactly where its stages are within the limit.
use Rattle.stages.proofs.Prelude.{◌≡◌, refl, sym, ◌∙◌, ap, Bool, true, false, ◌||◌, [], ◌∷◌, ℕ, ◌+◌, ◌-◌, ◌≤◌, arith, lt-leb, leb-false, ltb-false, leb, ltb, Direction, most_limit, Tree, waste, piece, cut, change, stages_below, root, stages, node_count, root_stages, StageLimit, next, refuse_when, first_refusal, outside, cons_passed, append_passed, passed_append, limit_check, path_checks, stage_checks, passed}
use Rattle.cutting.specs.Pieces as laid
use Rattle.stages.proofs.Place.{by_paths}

-- the check of the limit
pub limit_by : (n : ℕ) (b : Bool) → outside 1 most_limit n ≡ b → first_refusal (limit_check n ∷ []) ≡ next (refuse_when b StageLimit) passed
unfolding first_refusal
limit_by n b e = ap (λ x. next (refuse_when x StageLimit) passed) e

or_false : (a b : Bool) → (a || b) ≡ false → (a ≡ false) × (b ≡ false)
or_false true b e = (e, cc)
or_false false b e = (refl, e)

-- a limit that passes
pub limit_inside : (n : ℕ) → outside 1 most_limit n ≡ false → (1 ≤ n) × (n ≤ most_limit)
limit_inside n e = let f = or_false (ltb n 1) (ltb most_limit n) e in (ltb-false n 1 f.0, ltb-false most_limit n f.1)

passed_below : (t : Tree laid.Piece) (d : Direction) (k n : ℕ) → first_refusal (stage_checks d k n t) ≡ passed → stages_below d t ≤ k
unfolding stage_checks stages_below
passed_below waste d k n h = omega arith
passed_below (piece p) d k n h = omega arith
passed_below (cut e x a b) d k n h =
    let u = cons_passed _ _ _ h in
    let v = append_passed (stage_checks e (k - change d e) (n + 1) a) (stage_checks e (k - change d e) (n + 1 + node_count a) b) u.1 in
    omega (arith, leb-false k (change d e) u.0, passed_below a e (k - change d e) (n + 1) v.0, passed_below b e (k - change d e) (n + 1 + node_count a) v.1)

below_passed : (t : Tree laid.Piece) (d : Direction) (k n : ℕ) → stages_below d t ≤ k → first_refusal (stage_checks d k n t) ≡ passed
unfolding stage_checks stages_below first_refusal
below_passed waste d k n h = refl
below_passed (piece p) d k n h = refl
below_passed (cut e x a b) d k n h =
    let l : leb k (change d e) ≡ false = lt-leb k (change d e) (omega arith) in
    rw l (passed_append (stage_checks e (k - change d e) (n + 1) a) (stage_checks e (k - change d e) (n + 1 + node_count a) b)
    (below_passed a e (k - change d e) (n + 1) (omega arith)) (below_passed b e (k - change d e) (n + 1 + node_count a) (omega arith)))

-- where check 23 passes, the plan's stages are within the limit
pub passed_within : (t : Tree laid.Piece) (k : ℕ) → first_refusal (path_checks k t) ≡ passed → stages t ≤ k
passed_within t k h = omega (arith, passed_below t (root t) k 0 (by_paths k t ∙ h), root_stages t)

-- and the other way
pub within_passed : (t : Tree laid.Piece) (k : ℕ) → stages t ≤ k → first_refusal (path_checks k t) ≡ passed
within_passed t k h = sym (by_paths k t) ∙ below_passed t (root t) k 0 (omega (arith, root_stages t))
