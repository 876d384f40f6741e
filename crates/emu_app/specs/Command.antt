-- The words of commands.
-- The rule is told in docs/FORMATS.md, "Commands".
use Rattle.std.specs.Prelude.{◌≡◌, ◌<◌, ℕ, ◌==◌, if◌then◌else◌, List, [], ◌∷◌, codes, length, slice_get, unwrap_or}
use Rattle.emu_app.specs.declared.command.Command.{Command}
use Rattle.emu_app.specs.declared.command.Command.TheVariants.{Check, Settle, Replay}
use Rattle.emu_app.specs.declared.command.CommandNames.{CommandNames}
use Rattle.case_texts.specs.declared.what.What.{What}
use Rattle.case_texts.specs.declared.what.What.TheVariants.{Design, Cells, Groups, Opening, Events}
use Rattle.case_texts.specs.What.{order, what_at}

-- the first word of a command
abbrev pub command_word : Command → List ℕ
command_word Check = codes "check"
command_word Settle = codes "settle"
command_word Replay = codes "replay"

-- a command has this word
abbrev pub IsNamed : Command → List ℕ → Type 0
IsNamed command word = command_word command ≡ word

-- how many texts a command reads
abbrev pub text_count : Command → ℕ
text_count Check = 7
text_count Settle = 5
text_count Replay = 9

-- the place of a text among those that `settle` reads; beyond them for one that it does not read
abbrev pub settle_place : What → ℕ
settle_place Design = 0
settle_place Cells = 1
settle_place Groups = 2
settle_place Opening = 3
settle_place Events = 4
settle_place other = 5

-- the place of a text among those that a command reads, in the order of its words
abbrev pub place_of : Command → What → ℕ
place_of Settle what = settle_place what
place_of other what = order what

-- a command reads a text
abbrev pub Reads : Command → What → Type 0
Reads command what = place_of command what < text_count command

-- the text at a place of those that `settle` reads
abbrev pub settle_what_at : ℕ → What
settle_what_at place =
    if place == 0 then Design
    else if place == 1 then Cells
    else if place == 2 then Groups
    else if place == 3 then Opening
    else Events

-- the text at a place of the words of a command
abbrev pub text_at : Command → ℕ → What
text_at Settle place = settle_what_at place
text_at other place = what_at place

-- a command, the name of the top module, and the names of the texts in the order of the words
pub record CommandWords : Type 0 where
  pub command : Command
  pub top : List ℕ
  pub names : List (List ℕ)

-- the name of a text
abbrev pub name_of : CommandWords → What → List ℕ
name_of n what = unwrap_or (slice_get n.names (place_of n.command what)) []

-- `COMMAND TOP TEXT ..`, with a name for each text that the command reads
pub record IsCommand (words : List (List ℕ)) (n : CommandWords) : Type 0 where
  pub shape : words ≡ command_word n.command ∷ n.top ∷ n.names
  pub count : length n.names ≡ text_count n.command

-- the words are those of no command
abbrev pub IsNoCommand : List (List ℕ) → Type 0
IsNoCommand words = (n : CommandWords) → IsCommand words n → ⊥

-- the words that names stand for
abbrev pub words_of : CommandNames → CommandWords
words_of n = record { command = n.command; top = n.top.now; names = n.names.now }
