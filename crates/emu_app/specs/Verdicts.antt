-- The text that a rejection prints: the rule that fails first, and its least place.
-- The rule is told in docs/FORMATS.md, "Printed texts".
use Rattle.std.specs.Prelude.{ℕ, List, ◌++◌, codes, decimal}
use Rattle.id_arena.specs.declared.keys.ChipId.{ChipId}
use Rattle.emu_machine.specs.declared.place.Place.{Place}
use Rattle.emu_machine.specs.declared.place.Place.TheVariants as place
use Rattle.emu_machine.specs.declared.place.Thing.{Thing}
use Rattle.emu_machine.specs.declared.place.Thing.TheVariants as thing
use Rattle.emu_machine.specs.declared.rule.Rule.{Rule}
use Rattle.emu_machine.specs.Acceptance.{rule_number}
use Rattle.case_texts.specs.Words.{line}

-- `chip C`, and what is said of that chip
abbrev pub of_chip : ChipId → List ℕ → List ℕ
of_chip chip words = codes "chip " ++ decimal chip.place ++ words

-- `frame K slot T action J`
abbrev pub action_words : ℕ → ℕ → ℕ → List ℕ
action_words k t j = codes "frame " ++ decimal k ++ codes " slot " ++ decimal t ++ codes " action " ++ decimal j

-- `frame K chip C`, and what is said of that chip at the frame's end
abbrev pub at_end : ℕ → ChipId → List ℕ → List ℕ
at_end k chip words = codes "frame " ++ decimal k ++ codes " " ++ of_chip chip words

-- what is used again: `wire W`, `register C R` or `memory C M`
abbrev pub thing_words : Thing → List ℕ
thing_words (thing.Wire wire) = codes " wire " ++ decimal wire.place
thing_words (thing.Register chip register) = codes " register " ++ decimal chip.place ++ codes " " ++ decimal register.place
thing_words (thing.Memory chip mem) = codes " memory " ++ decimal chip.place ++ codes " " ++ decimal mem.place

-- a place at which a rule fails
abbrev pub place_words : Place → List ℕ
place_words (place.Chips modules) = codes "chips " ++ decimal modules
place_words (place.Gate chip gate) = of_chip chip (codes " gate " ++ decimal gate)
place_words (place.Weight chip weight) = of_chip chip (codes " weight " ++ decimal weight)
place_words (place.Frame k) = codes "frame " ++ decimal k
place_words (place.Action k t j) = action_words k t j
place_words (place.Again k t j what) = action_words k t j ++ thing_words what
place_words (place.Register chip register) = of_chip chip (codes " register " ++ decimal register.place)
place_words (place.Memory chip mem) = of_chip chip (codes " memory " ++ decimal mem.place)
place_words (place.Input net) = codes "input " ++ decimal net.place
place_words (place.Element elem) = codes "element " ++ decimal elem.place
place_words (place.Output output) = codes "output " ++ decimal output
place_words (place.EndRegister k chip register) = at_end k chip (codes " register " ++ decimal register.place)
place_words (place.EndMemory k chip mem) = at_end k chip (codes " memory " ++ decimal mem.place)
place_words (place.EndRead k chip mem port) =
    at_end k chip (codes " memory " ++ decimal mem.place ++ codes " read " ++ decimal port)

-- `rejected A<k> at PLACE`
abbrev pub rejected_text : Rule → Place → List ℕ
rejected_text rule at = line (codes "rejected A" ++ decimal (rule_number rule) ++ codes " at " ++ place_words at)
