-- `rack::add_copies` meets its contract: before kind j the totals have the plan's own copies of the kinds below.
use Rattle.rack.proofs.Totals.{adding_begins, adding_stops, adding_goes, adding_ends}
use Rattle.rack.proofs.add_copies.Goals as goal

pub loop-j-init : goal.loop-j-init
loop-j-init c = let a = c.args in adding_begins a.count a.demands.now a.plate a.totals.now a.own.now

pub returns-in_err-refuse_if : goal.returns-in_err-refuse_if
returns-in_err-refuse_if c = let a = c.args in adding_stops a.count a.demands.now a.plate a.totals.now a.own.now c.loop-j.invariant c.loop-j-test.true c.refuse_if.ensures c.in_err-refuse_if.was _ c.from_residual.ensures.1

pub loop-j-preserved : goal.loop-j-preserved
loop-j-preserved c = let a = c.args in adding_goes a.count a.demands.now a.plate a.totals.now a.own.now c.loop-j.invariant c.loop-j-test.true c.refuse_if.ensures c.in_ok-refuse_if.was

pub returns : goal.returns
returns c = let a = c.args in adding_ends a.count a.demands.now a.plate _ a.own.now c.loop-j.invariant c.loop-j-test.false
