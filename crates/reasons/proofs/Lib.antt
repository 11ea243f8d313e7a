-- What the walks through the code cite.
pub mod PlaceLaws
pub mod StepLaws
pub mod NoteLaws
pub mod StartLaws
pub mod ListLaws
pub mod WorkLaws
pub mod FineLaws
pub mod SweepLaws
pub mod CallLaws
pub mod LentLaws
