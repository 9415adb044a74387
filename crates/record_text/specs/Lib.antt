pub mod Pages
pub mod HeadViews
pub mod TailViews
pub mod ValueParts
