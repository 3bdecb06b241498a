pub mod AmongLaws
pub mod CutLaws
pub mod FilterLaws
pub mod LinesLaws
pub mod ListLaws
pub mod PlaceLaws
pub mod StopLaws
