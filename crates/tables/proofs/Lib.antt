-- The rounds from the first tables to their end, and the times written: what the walks of this crate cite.
pub mod SettleLoop
pub mod TimesWritten
