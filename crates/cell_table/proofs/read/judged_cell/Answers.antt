use Rattle.std.proofs.Common.{◌≡◌, None, sym, ◌∙◌}
use Rattle.serde_json.specs.View.{view}
use Rattle.cell_table.specs.Faults.{written_fault}
use Rattle.cell_table.proofs.FaultLemmas.{sound_cell}
use Rattle.cell_table.proofs.SoundLemmas.{sound_kind, written_addressed}
use Rattle.cell_table.proofs.read.judged_cell.Goals as goal

pub cell_from-requires-clause-sized : goal.cell_from-requires-clause-sized
cell_from-requires-clause-sized c =
    let none : written_fault c.args.version c.args.names.now c.in-Ok.written ≡ None = sym c.in_ok-fault.ensures ∙ c.in_default.is in
    (sound_cell c.args.version c.args.names.now c.in-Ok.written none).0

pub cell_from-requires-clause-within : goal.cell_from-requires-clause-within
cell_from-requires-clause-within c =
    let none : written_fault c.args.version c.args.names.now c.in-Ok.written ≡ None = sym c.in_ok-fault.ensures ∙ c.in_default.is in
    (sound_cell c.args.version c.args.names.now c.in-Ok.written none).1

pub returns-clause-new : goal.returns-clause-new
returns-clause-new c =
    let none : written_fault c.args.version c.args.names.now c.in-Ok.written ≡ None = sym c.in_ok-fault.ensures ∙ c.in_default.is in
    rw c.in_ok-cell_from.ensures (sound_cell c.args.version c.args.names.now c.in-Ok.written none).2

pub returns-clause-sound : goal.returns-clause-sound
returns-clause-sound c =
    let none : written_fault c.args.version c.args.names.now c.in-Ok.written ≡ None = sym c.in_ok-fault.ensures ∙ c.in_default.is in
    let tests = sound_cell c.args.version c.args.names.now c.in-Ok.written none in
    let at = written_addressed c.args.version (view c.args.value.now) c.in-Ok.written c.in-Ok.ensures in
    rw c.in_ok-cell_from.ensures (sound_kind c.in-Ok.written.kind at tests.0 tests.1)
