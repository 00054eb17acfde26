pub mod Cells
pub mod Changes
pub mod Paging
pub mod SeenCells
