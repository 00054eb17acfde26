pub mod MetadataData
pub mod Reading
pub mod ReadingViews
