-- Theory: what sweeps and rounds keep and how they end, on functions of lists, over any ranges, with no code in sight.
-- Laws: from what code reads to those functions; the laws that the walks through the code cite.
pub mod Theory
pub mod Laws
pub mod Common
