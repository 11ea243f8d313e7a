-- Plans written: the lists that are lent, what `write` answers and leaves, and the round trips.
pub mod PlanLists
pub mod Wrote
pub mod RoundTrips
pub mod Puts
