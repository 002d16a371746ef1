mod Letters
mod Joined
pub mod Texts
mod Sames
pub mod Followed
mod MetAgain
mod Headers
mod Parts
mod Passed
pub mod Ahead
mod Trees
