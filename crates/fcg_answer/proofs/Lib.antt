pub mod PageLaws
pub mod AnswerLaws
