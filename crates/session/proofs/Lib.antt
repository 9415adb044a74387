pub mod TextFiles
pub mod TableTexts
pub mod Filling
