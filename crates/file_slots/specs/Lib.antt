pub mod FileSlotValue
pub mod FromStart
pub mod FileNames
pub mod Making
