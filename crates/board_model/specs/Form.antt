-- The form of a board's JSON tree:
-- {"version":2,"chips":[{"room":8},{"room":40},..],"wires":[{"from":1,"to":0,"latency":2},..],"slots":16}
-- The rule is told in docs/FORMATS.md, "The board".
use Rattle.std.specs.Prelude.{◌≡◌, ◌==◌, ◌||◌, Bool, ℕ, Option, Some, codes, option_and_then, if◌then◌else◌}
use Rattle.serde_json.specs.Data.{Data}
use Rattle.json_members.specs.Members.{◌>>=◌, number_member, word_member, array_member, each}
use Rattle.id_arena.specs.declared.wire.Wire.{Wire}
use Rattle.id_arena.specs.BoardPlan.{BoardPlan}

-- a chip has a room of at most 2 ^ 40
abbrev pub room_of : Data → Option ℕ
room_of = number_member (codes "room") 1099511627776

-- a wire of version 2 tells its latency; elsewhere it is 1 slot, whatever the wire has under that key
abbrev pub latency_of : ℕ → Data → Option ℕ
latency_of version tree = if version == 2 then word_member (codes "latency") tree else Some 1

-- a wire has the chips that it goes from and to, and its latency
abbrev pub wire_of : ℕ → Data → Option Wire
wire_of version tree = do
  start ← word_member (codes "from") tree
  end ← word_member (codes "to") tree
  latency ← latency_of version tree
  Some (record { from = record { place = start }; to = record { place = end }; latency = latency })

-- the versions of a board's text
abbrev pub is_known : ℕ → Bool
is_known version = version == 1 || version == 2

-- the tree has the form, with this version and these numbers; other members may stand beside these
pub record HasForm (tree : Data) (number : ℕ) (plan : BoardPlan) : Type 0 where
  pub version : word_member (codes "version") tree ≡ Some number
  pub chips : option_and_then (each room_of) (array_member (codes "chips") tree) ≡ Some plan.rooms
  pub wires : option_and_then (each (wire_of number)) (array_member (codes "wires") tree) ≡ Some plan.wires
  pub slots : word_member (codes "slots") tree ≡ Some plan.slots
