-- `model::check_model` meets its contract: the two blocks are read first.
use Rattle.refusal.proofs.Results.{handed}
use Rattle.model.proofs.Model.{model_promised, model_stops, given_ranges, model_decides}
use Rattle.model.proofs.check_model.Goals as goal

pub returns-in_err-job : goal.returns-in_err-job
returns-in_err-job c = let a = c.args in
    model_promised a.block.now a.choices a.sizes.now (model_stops a.block.now a.choices a.sizes.now c.read_true_job.ensures c.in_err-job.was (handed _ c.from_residual.ensures.1))

pub check_chains-requires : goal.check_chains-requires
check_chains-requires c = given_ranges c.args.block.now c.args.choices c.args.sizes.now c.read_true_job.ensures c.in_ok-job.was

pub returns : goal.returns
returns c = let a = c.args in
    model_promised a.block.now a.choices a.sizes.now (model_decides a.block.now a.choices a.sizes.now c.read_true_job.ensures c.in_ok-job.was c.check_chains.ensures)
