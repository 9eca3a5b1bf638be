pub mod BareLending
pub mod FrameValue
pub mod FramePoolValue
pub mod Lending
