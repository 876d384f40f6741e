-- What is made at one place, put behind all that was made before. The next numbers are the lengths of the lists.
-- The rule is told in docs/FORMATS.md, "Expansion" and "Faults of flattening".
use Rattle.std.specs.Prelude.{◌+◌, ◌^◌, ℕ, if◌then◌else◌, nat_lt, Some, None, List, [], ◌∷◌, ◌++◌, length, map, sum_by}
use Rattle.id_arena.specs.declared.keys.NetId.{NetId}
use Rattle.design_core.specs.declared.element.Element.{Element}
use Rattle.design_core.specs.declared.element.Element.TheVariants as element
use Rattle.design_core.specs.declared.element.Memory.{Memory}
use Rattle.design_core.specs.declared.fault.LimitKind.{LimitKind}
use Rattle.design_core.specs.declared.fault.LimitKind.TheVariants.{Elements, Nets, Words}
use Rattle.design_core.specs.declared.operation.Op.TheVariants.{Buf}
use Rattle.design_core.specs.Most.{most_elements, most_nets, most_words}
use Rattle.std.specs.List.{zip}
use Rattle.flattening.specs.declared.fault.ElabFault.TheVariants.{Limit}
use Rattle.flattening.specs.declared.made.Made.{Made}
use Rattle.flattening.specs.Steps.{Step, Test, first_fault, unless}

-- a piece without anything
abbrev pub nothing : Made
nothing = record { net_names = []; scopes = []; elements = []; paths = []; memories = []; modules = 0 }

-- what was made, and then a piece
abbrev pub joined : Made → Made → Made
joined made piece =
    record {
      net_names = made.net_names ++ piece.net_names;
      scopes = made.scopes ++ piece.scopes;
      elements = made.elements ++ piece.elements;
      paths = made.paths ++ piece.paths;
      memories = made.memories ++ piece.memories;
      modules = made.modules + piece.modules;
    }

-- elements whose paths end in one scope
abbrev pub elements_in : ℕ → List Element → Made
elements_in scope elements = record nothing { elements = elements; paths = map (λ e. scope) elements }

-- a `buf` for each bit, from bit 0 on, from one list of nets to another
abbrev pub buffers : List NetId → List NetId → List Element
buffers from to = map (λ (source, target). element.Gate Buf (source ∷ []) target) (zip from to)

-- the words of some memories
abbrev pub words_in : List Memory → ℕ
words_in memories = sum_by (λ memory. 2 ^ memory.address_bits) memories

-- the limit fails where there are more than the most
abbrev pub beyond : LimitKind → ℕ → ℕ → ℕ → Test
beyond which at most count = if nat_lt most count then Some (Limit which at) else None

-- the limits that a piece may pass, in their order: nets with nets 0 and 1, elements, words of all memories
abbrev pub room_tests : ℕ → Made → Made → List Test
room_tests at made piece =
    beyond Nets at most_nets (length made.net_names + length piece.net_names)
    ∷ beyond Elements at most_elements (length made.elements + length piece.elements)
    ∷ beyond Words at most_words (words_in made.memories + words_in piece.memories)
    ∷ []

-- a deed: tests, and then a piece
pub record Deed : Type 0 where
  pub tests : List Test
  pub piece : Made

-- the step of a deed whose limits stand at this byte: its tests, then the limits, then the piece is there
abbrev pub performed : ℕ → Deed → Step
performed at deed made = unless (first_fault (deed.tests ++ room_tests at made deed.piece)) (joined made deed.piece)
