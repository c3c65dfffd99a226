-- Every refusal has a number from 1 on, so a call that answers 0 was not refused.
use Prim.Native.Nat.{◌<◌}
use native.Mathlib.Omega.{arith}
use Rattle.promises.specs.declared.Refusal.{Refusal}
use Rattle.promises.specs.declared.Refusal.TheVariants.{ShortHeader, PlateSide, RackSide, KindCount, BlockLength, KindSide, Price, Demand, WeightCount, Capacity, PlanLength, NodeCount, NodeKind, PieceNumber, Operand, Misfit, Excess, NodeMissing, NodeLeft, ListShort, TableShort, PlanLong, StageLimit, ManyStages, SecondCount, CapacityProduct, IdleCut, Kerf, RackSize, RackDemand, DemandProduct, SizesLength, TrueSize, NoModel, TrueMisfit, Grain, AgainstGrain, MultiplierCount, Multiplier}
use Rattle.refusal.specs.Refusals.{number_of}

pub number_some : (r : Refusal) → 0 < number_of r
number_some ShortHeader = omega arith
number_some PlateSide = omega arith
number_some (RackSide k) = omega arith
number_some KindCount = omega arith
number_some BlockLength = omega arith
number_some (KindSide k) = omega arith
number_some (Price k) = omega arith
number_some (Demand k) = omega arith
number_some WeightCount = omega arith
number_some Capacity = omega arith
number_some PlanLength = omega arith
number_some NodeCount = omega arith
number_some (NodeKind k) = omega arith
number_some (PieceNumber k) = omega arith
number_some (Operand k) = omega arith
number_some (Misfit k) = omega arith
number_some (Excess k) = omega arith
number_some (NodeMissing k) = omega arith
number_some (NodeLeft k) = omega arith
number_some ListShort = omega arith
number_some (TableShort n) = omega arith
number_some (PlanLong n) = omega arith
number_some StageLimit = omega arith
number_some (ManyStages k) = omega arith
number_some SecondCount = omega arith
number_some CapacityProduct = omega arith
number_some (IdleCut k) = omega arith
number_some Kerf = omega arith
number_some RackSize = omega arith
number_some (RackDemand k) = omega arith
number_some DemandProduct = omega arith
number_some SizesLength = omega arith
number_some (TrueSize k) = omega arith
number_some (NoModel k) = omega arith
number_some (TrueMisfit k) = omega arith
number_some (Grain k) = omega arith
number_some (AgainstGrain k) = omega arith
number_some MultiplierCount = omega arith
number_some (Multiplier k) = omega arith
