pub mod Tokenizing
pub mod Parsing
pub mod Rendering
pub mod Views
pub mod PlainViews
pub mod Writing
pub mod Assembling
pub mod Resolving
