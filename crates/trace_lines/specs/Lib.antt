pub mod Ids
pub mod PageIds
pub mod PlainLines
pub mod Columns
pub mod PageLines
pub mod AddressLines
pub mod Rows
pub mod Lines
