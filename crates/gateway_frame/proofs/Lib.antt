-- `PaddingRead` has that PADDING by its byte alone is what a step of the walk reads, `FrameBack` that a frame's record gives back
-- what the table said, `Onces` that each public function has only one answer.
pub mod PaddingRead
pub mod FrameBack
pub mod Onces
