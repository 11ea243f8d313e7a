-- The working-out of a reason list: where it stands, what a step does, how a line is noted, what it begins with and leaves.
pub mod Stands
pub mod Stepping
pub mod Notes
pub mod Starting
pub mod Working
pub mod Room
pub mod Lent
