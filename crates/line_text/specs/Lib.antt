pub mod Standing
pub mod ShortTexts
pub mod DigitTexts
