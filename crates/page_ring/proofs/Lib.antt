pub mod LinkLaws
pub mod ChainLaws
pub mod IndexLaws
pub mod SlotLaws
pub mod SendLaws
pub mod SearchLaws
