pub mod WordNumbers
pub mod References
pub mod ReferenceAnswers
pub mod Written
pub mod WrittenPages
