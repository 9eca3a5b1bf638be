pub mod GuestStatus
pub mod Words
