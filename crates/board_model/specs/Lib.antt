pub mod Faults
pub mod Sound
pub mod Form
pub mod FormAnswers
pub mod Answers
pub mod Trees
pub mod Rounds
