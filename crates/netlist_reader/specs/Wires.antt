-- Inside: the declarations of nets, and the modules of chips.
use Rattle.std.specs.Prelude.{◌≡◌, ◌<◌, ◌^◌, ℕ}
use Rattle.emu_machine.specs.declared.netlist.Chip.{Chip}
use Rattle.netlist_reader.specs.Faults.{HasLooseForms}
use Rattle.token_words.specs.Word.{Word, key}
use Rattle.verilog_lex.specs.declared.keyword.TheConstants.{MODULE, WIRE}

-- so many nets have numbers of 32 bits
abbrev pub IsNetCount : ℕ → Type 0
IsNetCount nets = nets < 2 ^ 32

-- the word that begins a declaration
abbrev pub IsWireWord : Word → Type 0
IsWireWord word = word ≡ key WIRE

-- the word that begins a module
abbrev pub IsModuleWord : ℕ → Word → Type 0
IsModuleWord nets word = word ≡ key MODULE

-- the forms of a chip do not depend on what stands around it
abbrev pub IsFormedChip : ℕ → Chip → Type 0
IsFormedChip nets chip = HasLooseForms chip
