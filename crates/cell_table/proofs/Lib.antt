pub mod MembersLemmas
pub mod PinsLemmas
pub mod JudgeLemmas
pub mod TableLemmas
pub mod FaultLemmas
pub mod SoundLemmas
pub mod OneAnswer
