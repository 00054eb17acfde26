pub mod Sums
pub mod CutLaws
pub mod Rooms
pub mod Fitting
pub mod Sizes
pub mod TasksApart
