pub mod FirstFailing
pub mod ReadRefusals
pub mod ReplayRefusals
pub mod Verdicts
