-- What every file imports: the types of src/lib.rt.
pub use Rattle.promises.specs.declared.Refusal.{Refusal}
pub use Rattle.promises.specs.declared.Direction.{Direction}
pub use Rattle.promises.specs.declared.Direction.TheVariants.{Length, Width}
pub use Rattle.promises.specs.declared.Node.{Node}
pub use Rattle.promises.specs.declared.Report.{Report}
pub use Rattle.promises.specs.declared.Choices.{Choices}
pub use Rattle.promises.specs.declared.JobRecord.{JobRecord}
pub use Rattle.promises.specs.declared.Certificate.{Certificate}
pub use Rattle.promises.specs.declared.BoundReport.{BoundReport}
pub use Rattle.promises.specs.declared.TwoReport.{TwoReport}
pub use Rattle.promises.specs.declared.WriteReport.{WriteReport}
pub use Rattle.promises.specs.declared.ExactReport.{ExactReport}
pub use Rattle.promises.specs.declared.WeightsFound.{WeightsFound}
pub use Rattle.promises.specs.declared.Plate.{Plate}
pub use Rattle.promises.specs.declared.SawReport.{SawReport}
pub use Rattle.promises.specs.declared.Part.{Part}
pub use Rattle.promises.specs.declared.PlatesReport.{PlatesReport}
pub use Rattle.promises.specs.declared.LagrangianReport.{LagrangianReport}
pub use Rattle.promises.specs.declared.StagedReport.{StagedReport}
pub use Rattle.promises.specs.declared.TrueReport.{TrueReport}
