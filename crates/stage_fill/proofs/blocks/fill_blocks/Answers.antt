-- `stage_fill::blocks::fill_blocks` meets its contract.
use Rattle.stage_fill.proofs.Prelude.{arith, ◌≡◌, ◌∙◌, ap, ℕ, ◌+◌, ◌*◌, ◌≤◌}
use Rattle.stage_fill.proofs.Filling.{stages_kept, stage_block, made_then}
use Rattle.stage_fill.proofs.blocks.fill_blocks.Goals as goal

pub fill_block-flat-requires : goal.fill_block-flat-requires
fill_block-flat-requires c = let l = c.loop-n in
    let block = c.block_of-block.ensures in
    (stage_block _ block.0 (omega (arith, block.1)) (stages_kept l.invariant.1 c.requires), rw block.1 l.invariant.2.cells)

pub loop-n-preserved : goal.loop-n-preserved
loop-n-preserved c = let l = c.loop-n in
    let cells = c.args.shape.length_count * c.args.shape.columns in
    let filled = c.fill_block-flat in
    let next = ap (λ m. m * cells + cells) c.block_of-block.ensures.1 ∙ step l.n cells in
    (omega arith, filled.auto.table ∙ l.invariant.1, made_then (more l.n cells) l.invariant.2 (rw next at filled.ensures))
  where
    step : (n cells : ℕ) → n * cells + cells ≡ (n + 1) * cells
    step n cells = omega arith

    more : (n cells : ℕ) → n * cells ≤ (n + 1) * cells
    more n cells = omega arith

pub returns : goal.returns
returns c = let l = c.loop-n in
    let e : l.n ≡ 2 * c.args.limit + 1 = omega arith in
    (l.flat, rw e at l.invariant.2)
