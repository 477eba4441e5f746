-- Memory management, the KT11-D: pages, translation, and the unit's registers.
pub mod Page
pub mod Reference
pub mod Register
pub mod Management
pub mod Translation
pub mod Registers
pub mod IoPage
pub mod Kept
pub mod Laws
pub mod Calls
