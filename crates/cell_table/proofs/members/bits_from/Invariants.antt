use Rattle.std.proofs.Common.{◌≡◌, ◌++◌, drop, option_map}
use Rattle.json_members.specs.Members.{all_of}
use Rattle.cell_table.specs.Members.{bit_of}
use Rattle.cell_table.proofs.members.bits_from.Given as goal

abbrev pub invariant-loop-character : goal.invariant-loop-character
invariant-loop-character l =
    option_map (λ rest. l.bits ++ rest) (all_of bit_of (drop l.character-index l.characters)) ≡ all_of bit_of l.characters
