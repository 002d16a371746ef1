pub mod NumberPlaces
pub mod RowBack
pub mod RowsBack
pub mod PlannedPut
pub mod Refused
