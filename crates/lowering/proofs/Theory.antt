-- Bottom up. One cell lowered: StoredNumbers, LoweredTables, HeightsFall, WalksKept. Steps made of it: SweepSteps, StepsTaken, CellRules.
-- Sweeps: SweepsTaken, StillSweep, FirstTables, SweepsEnd. Rounds: OneJoinPass, SpreadKeepsJoined, SpreadSteps, RoundsEnd, RoundsBegin.
pub mod StoredNumbers
pub mod LoweredTables
pub mod HeightsFall
pub mod WalksKept
pub mod SweepSteps
pub mod StepsTaken
pub mod CellRules
pub mod SweepsTaken
pub mod StillSweep
pub mod FirstTables
pub mod SweepsEnd
pub mod OneJoinPass
pub mod SpreadKeepsJoined
pub mod SpreadSteps
pub mod RoundsEnd
pub mod RoundsBegin
