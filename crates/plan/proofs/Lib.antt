-- The plan file: its answer in the order of the code, what a sound file gives, and that a plan and its bytes are inverse.
pub mod FileParts
pub mod FaultsFound
pub mod FirstFault
pub mod FirstRefusal
pub mod RecordTurns
pub mod Records
pub mod Stretches
pub mod TestsDecide
pub mod PlanExactly
pub mod PlanCodes
pub mod SoundFile
pub mod BytesOfPlans
pub mod CaseB
pub mod TestsMade
pub mod Common
