mod Facts
mod Along
pub mod Kept
mod Checked
mod Sums
mod NoPages
mod Shown
mod Read
mod Rooted
mod Stepped
pub mod PlanOf
