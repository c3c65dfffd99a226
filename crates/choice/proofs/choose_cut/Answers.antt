-- `choice::choose_cut` meets its contract.
use Rattle.choice.proofs.Choice.{rest_part, width_out, waste_out}
use Rattle.choice.proofs.Prelude.{arith, length-drop, ◌∙◌, sym}
use Rattle.choice.proofs.choose_cut.Goals as goal

pub length_search-along-requires : goal.length_search-along-requires
length_search-along-requires c = omega (arith, c.requires.0.remainders 0 (omega arith) 0 (omega arith))

pub slice_bounds-rest-count : goal.slice_bounds-rest-count
slice_bounds-rest-count c = omega (arith, c.requires.1.mapped, length-drop 1021 c.args.floors.now)

pub slice_bounds-rest-start : goal.slice_bounds-rest-start
slice_bounds-rest-start c = omega (arith, c.requires.1.mapped, length-drop 1021 c.args.floors.now)

pub width_search-across-requires : goal.width_search-across-requires
width_search-across-requires c = omega (arith, c.requires.1.remainders 0 (omega arith) 0 (omega arith))

pub find_cut-requires-2 : goal.find_cut-requires-2
find_cut-requires-2 c = (rw (rest_part 1021 c.args.floors.now, c.width_search-across.ensures) c.requires.1, c.requires.2)

pub returns-in-Some-find_cut : goal.returns-in-Some-find_cut
returns-in-Some-find_cut c =
    let across = rw (rest_part 1021 c.args.floors.now, c.width_search-across.ensures) at c.find_cut-2.ensures in
    width_out (sym (rw c.length_search-along.ensures at c.find_cut.ensures) ∙ c.in_default.is) (sym across ∙ c.in-Some-find_cut.is)

pub returns : goal.returns
returns c =
    let across = rw (rest_part 1021 c.args.floors.now, c.width_search-across.ensures) at c.find_cut-2.ensures in
    waste_out (sym (rw c.length_search-along.ensures at c.find_cut.ensures) ∙ c.in_default.is) (sym across ∙ c.in_default-find_cut.is)
