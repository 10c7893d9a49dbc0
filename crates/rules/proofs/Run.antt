-- Runs side by side: of the flat group, of the membership machine and of Figure 1, from the first view on.
pub mod Listed
pub mod Events
pub mod Beside
pub mod Trace
pub mod Whole
