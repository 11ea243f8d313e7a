pub mod CellMethods
pub mod StoredCells
pub mod Common
