-- `stage_fill::cells::make_later` meets its contract: each step leaves what the next one asks.
use Rattle.stage_fill.proofs.Prelude.{arith, refl, ◌∙◌, [], ◌∷◌, outside_chain, ready_kept, topped_then}
use Rattle.stage_fill.proofs.Steps.{one_order, rises_same, growing, unsummed, start_rises, start_topped}
use Rattle.stage_fill.proofs.cells.make_later.Goals as goal

pub cut-top-requires : goal.cut-top-requires
cut-top-requires c = let p = c.requires in
    let started = c.begin in
    let first = c.inherit-top in
    let second = c.inherit-top-2 in
    let third = c.inherit-top-3 in
    record {
      growing = growing p.states (omega (arith, p.starts.room, started.auto.table, first.auto.table, second.auto.table, third.auto.table)) (rises_same (λ s h. third.ensures.0.same s h ∙ (second.ensures.0.same s h ∙ first.ensures.0.same s h)) (start_rises _ _ _ _ _ _ started.ensures p.source_rises p.along_rises));
      first = omega arith;
      cuts = p.cuts;
      ready = λ j h. ready_kept _ _ _ _ (outside_chain _ _ _ _ _ (outside_chain _ _ _ _ _ (outside_chain _ _ _ _ _ started.ensures.rest first.ensures.0.rest) second.ensures.0.rest) third.ensures.0.rest) _ _ (p.ready j h);
      summed = unsummed refl;
    }

pub finish-requires : goal.finish-requires
finish-requires c = let p = c.requires in
    let started = c.begin in
    let first = c.inherit-top in
    let second = c.inherit-top-2 in
    let third = c.inherit-top-3 in
    let taken = c.cut-top in
    (omega (arith, p.starts.room, started.auto.table, first.auto.table, second.auto.table, third.auto.table, taken.auto.table), p.states.1, start_topped _ _ _ _ _ _ started.ensures (topped_then _ _ _ _ _ _ _ _ first.ensures.1 (topped_then _ _ _ _ _ _ _ _ second.ensures.1 (topped_then _ _ _ _ _ _ _ _ third.ensures.1 taken.ensures.1))), p.starts.second_before, p.across_before)

pub returns : goal.returns
returns c = let p = c.requires in
    let started = c.begin in
    let first = c.inherit-top in
    let second = c.inherit-top-2 in
    let third = c.inherit-top-3 in
    let taken = c.cut-top in
    record {
      top = taken.result;
      t1 = _;
      t2 = _;
      t3 = _;
      t4 = _;
      t5 = _;
      started = started.ensures;
      first = first.ensures.0;
      second = second.ensures.0;
      third = third.ensures.0;
      taken = rw (one_order (c.args.words ∷ [])) at taken.ensures.0;
      topped = topped_then _ _ _ _ _ _ _ _ first.ensures.1 (topped_then _ _ _ _ _ _ _ _ second.ensures.1 (topped_then _ _ _ _ _ _ _ _ third.ensures.1 taken.ensures.1));
      done = c.finish.ensures;
      flat_is = c.max.ensures;
    }
