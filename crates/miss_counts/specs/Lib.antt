pub mod StringPages
pub mod Counted
pub mod FrameNumbers
pub mod Guests
pub mod Playing
pub mod Replayed
pub mod WriteBacks
pub mod WrittenBack
