use Rattle.std.proofs.Common.{◌≡◌, map, sym, Some}
use Rattle.std.specs.Prelude.{codes}
use Rattle.serde_json.specs.View.{view, items_view}
use Rattle.json_members.specs.Members.{array_member}
use Rattle.cell_table.specs.Table.{version_of}
use Rattle.cell_table.proofs.FaultLemmas.{value_stands}
use Rattle.cell_table.proofs.MembersLemmas.{items_are}
use Rattle.cell_table.proofs.read.table_from.Goals as goal

pub returns-in-Some-array_member : goal.returns-in-Some-array_member
returns-in-Some-array_member c =
    let d = view c.args.value.now in
    let values = c.in-Some-array_member.items.now in
    let told : version_of d ≡ Some c.in-Some.version = sym c.in-Some.ensures in
    let found : array_member (codes "cells") d ≡ Some (items_view values) = sym c.in-Some-array_member.ensures.value in
    value_stands d c.in-Some.version (map view values) c.cells_from.result told (items_are (codes "cells") d values found) c.cells_from.ensures
