pub mod HexLemmas
pub mod ShownLemmas
