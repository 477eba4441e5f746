-- Lemmas on arithmetic: carries and overflow, products and quotients, and shifts at once and one by one.
pub mod Carries
pub mod CarryRules
pub mod JoinedBits
pub mod Powers
pub mod Quotients
pub mod Shifting
pub mod Signs
