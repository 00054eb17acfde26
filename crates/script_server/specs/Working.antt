pub mod PassLines
pub mod Dealing
pub mod Threads
pub mod Closing
pub mod Served
pub mod FreeBatches
