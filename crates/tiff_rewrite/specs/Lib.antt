pub mod PlannedRewrite
pub mod Rewrite
pub mod RewriteLaws
pub mod StoredNumbers
pub mod lemmas
