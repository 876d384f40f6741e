-- What reading a netlist answers: its chips, or the first word that cannot stand there.
-- The rule is told in docs/FORMATS.md, "The netlist".
use Rattle.std.specs.Prelude.{◌≡◌, ◌≢◌, ◌<◌, ◌≤◌, ◌+◌, ◌^◌, ℕ, zero, suc, List, ◌∷◌, ◌++◌, Result, Ok, Err, codes, length, take}
use Rattle.token_words.specs.Word.{Word, key}
use Rattle.verilog_lex.specs.declared.keyword.TheConstants.{MODULE, WIRE}
use Rattle.emu_machine.specs.declared.netlist.Chip.{Chip}
use Rattle.emu_machine.specs.Building.{IsGateOf, IsMemoryOf, IsRegisterOf}
use Rattle.netlist_reader.specs.Netlist.{Each, SaysChips, netlist_words, numbered}
use Rattle.netlist_reader.specs.declared.fault.NetlistFault.{NetlistFault}
use Rattle.netlist_reader.specs.declared.fault.NetlistFault.TheVariants.{Form, NoMemory}

-- how many nets the instances of a chip may name: where it has none, they name one that is not there, n0
abbrev pub nets_over : ℕ → ℕ
nets_over zero = 1
nets_over (suc nets) = suc nets

-- the gates, registers and memories of a chip are of the forms, but for the net that a chip without nets lacks
pub record HasLooseForms (chip : Chip) : Type 0 where
  pub few : chip.nets < 2 ^ 32
  pub gates : Each (IsGateOf (nets_over chip.nets)) chip.gates
  pub registers : Each (IsRegisterOf (nets_over chip.nets)) chip.registers
  pub memories : Each (IsMemoryOf (nets_over chip.nets)) chip.memories

-- the words are the netlist of these chips, but for nets that are lacking
pub record SaysLoosely (words : List Word) (chips : List Chip) : Type 0 where
  pub words_are : words ≡ netlist_words chips
  pub forms : Each HasLooseForms chips

-- the name of the first net
abbrev pub first_net : Word
first_net = numbered (codes "n") 0

-- in the module where the words end, a net is declared
pub record HasWire (words : List Word) : Type 0 where
  pub before : List Word
  pub behind : List Word
  pub words_are : words ≡ before ++ key WIRE ∷ behind
  pub same_module : (a b : List Word) → behind ≢ a ++ key MODULE ∷ b

-- n0 stands only behind a declaration in its module
abbrev pub NamesDeclared : List Word → Type 0
NamesDeclared words = (before behind : List Word) → words ≡ before ++ first_net ∷ behind → HasWire before

-- The words go on to the netlist of some chips, but for nets that are lacking; none of these is named yet.
pub record BeginsNetlist (front : List Word) : Type 0 where
  pub rest : List Word
  pub chips : List Chip
  pub says : SaysLoosely (front ++ rest) chips
  pub declared : NamesDeclared front

-- The words before place `k` begin a netlist, and those up to it begin none; where they end at `k`, they
-- are none.
pub record IsFirstWrong (words : List Word) (k : ℕ) : Type 0 where
  pub inside : k ≤ length words
  pub before : BeginsNetlist (take k words)
  pub up_to : k < length words → BeginsNetlist (take (k + 1) words) → ⊥
  pub at_end : k ≡ length words → (chips : List Chip) → SaysChips words chips → ⊥

-- the chips whose netlist the words are, or the first word that cannot stand there
abbrev pub Reading : List Word → Result (List Chip) NetlistFault → Type 0
Reading words (Ok chips) = SaysChips words chips
Reading words (Err (Form k)) = IsFirstWrong words k
Reading words (Err NoMemory) = Unit {0}
