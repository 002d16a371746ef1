mod Found
mod Lines
mod SampleBytes
mod Pieces
mod Remainders
mod Replied
mod Shown
mod CallsMade
mod Visits
mod Words
pub mod Steps
pub mod Refused
pub mod Parted
pub mod InParts
