-- Laws that the methods of a lent table cite.
pub mod Taking
