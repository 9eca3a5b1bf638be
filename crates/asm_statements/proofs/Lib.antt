pub mod PointLemmas
pub mod PseudoLaws
pub mod RangeLemmas
