pub mod AnswerLaws
pub mod StandIns
