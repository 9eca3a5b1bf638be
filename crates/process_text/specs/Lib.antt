pub mod ExitStatus
pub mod ProcessText
