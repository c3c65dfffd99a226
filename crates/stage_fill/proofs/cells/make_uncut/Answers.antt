-- `stage_fill::cells::make_uncut` meets its contract: each step leaves what the next one asks.
use Rattle.stage_fill.proofs.Prelude.{arith, ◌∙◌, [], ◌∷◌, outside_chain, ready_kept, topped_then}
use Rattle.stage_fill.proofs.Steps.{one_order, rises_same, growing, unsummed, start_rises, start_topped}
use Rattle.stage_fill.proofs.cells.make_uncut.Goals as goal

pub inherit-top-requires-2 : goal.inherit-top-requires-2
inherit-top-requires-2 c = let p = c.requires in
    let started = c.begin in
    let first = c.inherit-top in
    (ready_kept _ _ _ _ (outside_chain _ _ _ _ _ started.ensures.rest first.ensures.0.rest) _ _ p.shorter, p.starts.second_before, omega (arith, p.starts.room, started.auto.table, first.auto.table))

pub place_pieces-top-requires : goal.place_pieces-top-requires
place_pieces-top-requires c = let p = c.requires in
    let started = c.begin in
    let first = c.inherit-top in
    let second = c.inherit-top-2 in (
      rw p.one_digit (growing p.states (omega (arith, p.starts.room, started.auto.table, first.auto.table, second.auto.table))
          (rises_same (λ s h. second.ensures.0.same s h ∙ first.ensures.0.same s h) (start_rises _ _ _ _ _ _ started.ensures p.shorter_rises p.narrower_rises))),
      p.few,
      unsummed p.one_digit,
    )

pub finish-requires : goal.finish-requires
finish-requires c = let p = c.requires in
    let started = c.begin in
    let first = c.inherit-top in
    let second = c.inherit-top-2 in
    let placed = c.place_pieces-top in (
      omega (arith, p.starts.room, started.auto.table, first.auto.table, second.auto.table, placed.auto.table),
      p.states.1,
      start_topped _ _ _ _ _ _ started.ensures (topped_then _ _ _ _ _ _ _ _ first.ensures.1 (topped_then _ _ _ _ _ _ _ _ second.ensures.1 placed.ensures.1)),
      p.starts.first_before,
      p.starts.second_before,
    )

pub returns : goal.returns
returns c = let started = c.begin in
    let first = c.inherit-top in
    let second = c.inherit-top-2 in
    let placed = c.place_pieces-top in
    record {
      top = placed.result;
      t1 = _;
      t2 = _;
      t3 = _;
      t4 = _;
      started = started.ensures;
      first = first.ensures.0;
      second = second.ensures.0;
      placed = rw (c.requires.one_digit, one_order (c.args.shape.words ∷ [])) at placed.ensures.0;
      topped = topped_then _ _ _ _ _ _ _ _ first.ensures.1 (topped_then _ _ _ _ _ _ _ _ second.ensures.1 placed.ensures.1);
      done = c.finish.ensures;
      flat_is = c.max.ensures;
    }
