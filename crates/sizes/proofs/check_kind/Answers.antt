-- `sizes::check_kind` meets its contract.
use Rattle.sizes.proofs.Prelude.{◌≡◌, ◌∙◌, ap, ◌+◌, ◌*◌, arith, refuse_when, TrueSize, u32_at, check_last, true_sides_outside}
use Rattle.sizes.proofs.check_kind.Goals as goal

pub returns : goal.returns
returns c = let s = c.args.block.now in
    let i = c.args.i in
    let e : 12 + 8 * i + 4 ≡ 16 + 8 * i = omega arith in
    check_last _ _ (c.refuse_if.ensures ∙ ap (λ t. refuse_when t (TrueSize (i + 1))) (c.true_sides_outside.ensures ∙ ap (λ k. true_sides_outside (u32_at s (12 + 8 * i)) (u32_at s k)) e))
