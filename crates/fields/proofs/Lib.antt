-- Fields read and written: that a field and its bytes are inverse, and a signed number and its bits.
pub mod FieldBytes
