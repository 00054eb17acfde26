pub mod Keys
pub mod Answers
pub mod Apart
