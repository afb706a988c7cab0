-- Decimal numerals: what is read, what is written, and the laws between the two.
pub mod Numeral
pub mod Value
pub mod Laws
