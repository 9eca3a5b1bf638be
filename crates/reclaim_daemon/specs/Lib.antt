pub mod SharedValue
pub mod Sweeping
pub mod PagingIn
pub mod Audit
