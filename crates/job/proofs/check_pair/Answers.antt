-- `job::check_pair` meets its contract.
use Rattle.refusal.proofs.Results.{as_check}
use Rattle.job.proofs.Prelude.{◌≡◌, ◌∙◌, ap, ◌+◌, ◌*◌, arith, ltb, refuse_when, Price, Demand, u32_at, u16_at, count_at, price_at, demand_at}
use Rattle.job.proofs.Checks.{check_stops, check_passes, check_last}
use Rattle.job.proofs.check_pair.Goals as goal
use Rattle.job.proofs.check_pair.Goals.{then-priced+in_ok-refuse_if, else-priced}

pub returns-in_err-refuse_if : goal.returns-in_err-refuse_if
returns-in_err-refuse_if c = let s = c.args.block.now in
    let i = c.args.i in
    let h = c.args.h in
    let e : c.read_u32.result ≡ price_at h s i = c.read_u32.ensures ∙ ap (λ n. u32_at s (h + 4 * n + 6 * i)) c.requires.0.0 in
    rw c.if-priced.true (as_check _ c.in_err-refuse_if.was c.from_residual.ensures.1
    ∙ check_stops _ _ _ (c.refuse_if.ensures ∙ ap (λ p. refuse_when (ltb 1000000 p) (Price i)) e) c.in_err-refuse_if.was)

pub returns : goal.returns
returns c = let s = c.args.block.now in
    let i = c.args.i in
    let h = c.args.h in
    let k : h + 4 * c.args.n + 6 * i + 4 ≡ h + 4 + 4 * count_at s + 6 * i = omega (arith, c.requires.0.0) in
    let g : c.read_u16.result ≡ demand_at h s i = c.read_u16.ensures ∙ ap (u16_at s) k in
    let d = check_last _ _ (c.refuse_if-2.ensures ∙ ap (λ p. refuse_when (ltb 255 p) (Demand i)) g) in
    elim c.if-priced.branch [
      | then-priced+in_ok-refuse_if w ↦ (
          let e : w.read_u32.result ≡ price_at h s i = w.read_u32.ensures ∙ ap (λ n. u32_at s (h + 4 * n + 6 * i)) c.requires.0.0 in
          rw w.if-priced.true (d ∙ check_passes _ _ _ (w.refuse_if.ensures ∙ ap (λ p. refuse_when (ltb 1000000 p) (Price i)) e) w.in_ok-refuse_if.was))
      | else-priced w ↦ rw w.if-priced.false d
    ]
