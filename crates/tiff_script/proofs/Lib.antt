pub mod DigitPairs
pub mod Folds
pub mod JobLines
pub mod NumberWords
pub mod SampleRuns
