-- An RK05 drive's pack: its geometry, and what it holds.
pub mod Drive
pub mod Geometry
pub mod Kept
