pub mod Answers
pub mod DraftViews
pub mod Ordering
pub mod Passing
pub mod Taking
