use Rattle.std.proofs.Common.{◌≡◌, ◌++◌, drop}
use Rattle.std.specs.Prelude.{option_map}
use Rattle.serde_json.specs.View.{items_view}
use Rattle.json_members.specs.Members.{each}
use Rattle.board_model.specs.Form.{room_of}
use Rattle.board_model.proofs.form.read_rooms.Given as goal

-- the rooms so far, followed by those of the chips to come, are the rooms of all
abbrev pub invariant-chips : goal.invariant-chips
invariant-chips l =
    option_map (λ rest. l.rooms ++ rest) (each room_of (items_view (drop l.chip-index l.chips))) ≡ each room_of (items_view l.chips)
