-- What contracts know of the files of the system that a store reads and replaces, and of the store's calls.
pub mod Crashes
pub mod Disks
pub mod Faults
pub mod Told
