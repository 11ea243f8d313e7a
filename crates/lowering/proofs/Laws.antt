-- What the walks through the code cite: a loop's turns, what a sound file gives, and each step from the cells and links as they were read.
pub mod LoopTurns
pub mod TestLoops
pub mod CellsWritten
pub mod SpreadAsRead
pub mod ReadyFile
pub mod LinksAsRead
pub mod FirstAsRead
pub mod StillStored
pub mod LooksAtCells
