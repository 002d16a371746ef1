pub mod ByteOrders
mod Sixteen
mod Turned
mod Named
mod Extended
pub mod Ahead
pub mod Held
mod Lasts
pub mod Places
pub mod Search
