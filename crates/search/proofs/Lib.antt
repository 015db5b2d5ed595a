pub mod Seeds
pub mod LastLaws
pub mod StopLaws
