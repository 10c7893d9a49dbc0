pub mod AnswerLaws
pub mod Widths
pub mod StaysSoundLines
pub mod BenchRuns
pub mod ShownReplies
pub mod WholeCase
