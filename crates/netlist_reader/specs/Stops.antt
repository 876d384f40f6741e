-- Inside: where reading a whole netlist stops, but for nets that are lacking, and the first of these that is named.
use Rattle.std.specs.Prelude.{◌≡◌, ◌<◌, ◌≤◌, ◌+◌, ◌⊎◌, ℕ, Bool, true, false, ◌==◌, if◌then◌else◌, List, ◌++◌, Option, Some, None, Result, Ok, Err, length, slice_get, take}
use Rattle.token_words.specs.Word.{Word}
use Rattle.verilog_lex.specs.declared.keyword.TheConstants.{MODULE, WIRE}
use Rattle.verilog_lex.specs.declared.token.TokenKind.{TokenKind}
use Rattle.verilog_lex.specs.declared.token.TokenKind.TheVariants.{Keyword}
use Rattle.emu_machine.specs.declared.netlist.Chip.{Chip}
use Rattle.netlist_reader.specs.Faults.{HasWire, NamesDeclared, SaysLoosely, first_net}
use Rattle.netlist_reader.specs.Inside.{Follows}
use Rattle.netlist_reader.specs.declared.fault.Stop.{Stop}
use Rattle.netlist_reader.specs.declared.fault.Stop.TheVariants as stop

-- the words go on to a netlist
pub record BeginsLoosely (front : List Word) : Type 0 where
  pub rest : List Word
  pub chips : List Chip
  pub says : SaysLoosely (front ++ rest) chips

-- the words before place `k` go on to a netlist, and those up to it do not; where they end at `k`, they are none
pub record IsLooselyWrong (words : List Word) (k : ℕ) : Type 0 where
  pub inside : k ≤ length words
  pub before : BeginsLoosely (take k words)
  pub up_to : k < length words → BeginsLoosely (take (k + 1) words) → ⊥
  pub at_end : k ≡ length words → (chips : List Chip) → SaysLoosely words chips → ⊥

-- some words begin a netlist, and with what comes next they begin none; where nothing is left, they are none
pub record IsWrongAt (before after : List Word) : Type 0 where
  pub seen : List Word
  pub split : before ≡ seen ++ after
  pub begins : BeginsLoosely seen
  pub none : (words : List Word) (chips : List Chip) → Follows after words → SaysLoosely (seen ++ words) chips → ⊥

-- the chips whose netlist the words are, or where they are wrong
abbrev pub ReadsNetlist : List Word → List Word → Result (List Chip) Stop → Type 0
ReadsNetlist before after (Ok chips) = SaysLoosely before chips
ReadsNetlist before after (Err stop.Stuck) = IsWrongAt before after
ReadsNetlist before after (Err stop.NoMemory) = Unit {0}

-- at place `k` the first net is named, which its module has not declared; before it that is not so
pub record IsLacking (words : List Word) (k : ℕ) : Type 0 where
  pub there : slice_get words k ≡ Some first_net
  pub none : HasWire (take k words) → ⊥
  pub before : NamesDeclared (take k words)

-- the first place where a net is named that its module has not declared
abbrev pub TellsLacking : List Word → Option ℕ → Type 0
TellsLacking words None = NamesDeclared words
TellsLacking words (Some k) = IsLacking words k

-- whether a net is declared behind a token in its module, where this says whether one is before it
abbrev pub declared_behind : TokenKind → Bool → Bool
declared_behind (Keyword place) declared =
    if place == MODULE then false else (if place == WIRE then true else declared)
declared_behind other declared = declared

-- the earlier of two places, where there is a first one
abbrev pub IsEarlier : Option ℕ → ℕ → ℕ → Type 0
IsEarlier None second place = place ≡ second
IsEarlier (Some first) second place = ((first < second) × (place ≡ first)) ⊎ ((second ≤ first) × (place ≡ second))
