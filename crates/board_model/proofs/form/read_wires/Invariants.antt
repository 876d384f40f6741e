use Rattle.std.proofs.Common.{◌≡◌, ◌++◌, drop}
use Rattle.std.specs.Prelude.{option_map}
use Rattle.serde_json.specs.View.{items_view}
use Rattle.json_members.specs.Members.{each}
use Rattle.board_model.specs.Form.{wire_of}
use Rattle.board_model.proofs.form.read_wires.Given as goal

-- the wires so far, followed by those to come, are the wires of all
abbrev pub invariant-wires : goal.invariant-wires
invariant-wires l =
    option_map (λ rest. l.wires ++ rest) (each (wire_of l.version) (items_view (drop l.tree-index l.ends))) ≡ each (wire_of l.version) (items_view l.ends)
