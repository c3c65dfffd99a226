-- `job::check_size` meets its contract.
use Rattle.job.proofs.Prelude.{◌≡◌, ◌∙◌, ap, ◌||◌, ◌+◌, ◌*◌, arith, refuse_when, KindSide, outside, u16_at}
use Rattle.job.proofs.Checks.{check_last}
use Rattle.job.proofs.check_size.Goals as goal

pub returns : goal.returns
returns c = let s = c.args.block.now in
    let i = c.args.i in
    let h = c.args.h in
    let e : h + 4 * i + 2 ≡ h + 2 + 4 * i = omega arith in
    check_last _ _ (c.refuse_if.ensures ∙ ap (λ t. refuse_when t (KindSide i)) (c.side_outside.ensures ∙ ap (λ k. outside 1 1000 (u16_at s (h + 4 * i)) || outside 1 1000 (u16_at s k)) e))
