-- Arithmetic with condition codes: sums, products, shifts and pairs.
pub mod CountedShifts
pub mod Numbers
pub mod Pairs
pub mod Products
pub mod Results
pub mod Shifts
pub mod Calls
