pub mod Decimals
pub mod LineLaws
pub mod TokenLines
pub mod AnswerLaws
pub mod Examples
pub mod Sizes
