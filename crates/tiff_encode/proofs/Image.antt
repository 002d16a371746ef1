-- The calls of an image, and its steps in a list of jobs.
pub mod Table
pub mod FitsCalls
pub mod Fits
pub mod Guard
pub mod Ends
pub mod Steps
pub mod StepsDirected
pub mod StepsStored
pub mod StepsUnrefused
pub mod StepsResolved
pub mod StepsAll
