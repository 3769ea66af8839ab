pub mod ByAnswers
