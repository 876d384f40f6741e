use Rattle.std.proofs.Common.{refl, ◌∙◌}
use Rattle.std.specs.Prelude.{codes}
use Rattle.emu_machine.specs.Building.{IsGateOf}
use Rattle.netlist_reader.specs.Forms.{IsGateFirst, IsShapeOf}
use Rattle.netlist_reader.specs.Netlist.{gate_words}
use Rattle.netlist_reader.proofs.ItemLines.{gate_begins, gate_done, gate_holds, gate_room, item_stop, shape_order}
use Rattle.netlist_reader.proofs.items.EmuGateLine.read_next.Goals as goal

pub returns-in_err-pins : goal.returns-in_err-pins
returns-in_err-pins c =
    item_stop (IsGateOf c.args.nets) (IsGateFirst c.args.nets) gate_words (codes "g") c.args.number _ (IsShapeOf c.in-Some.shape) _ _ _ _ _
    c.from_residual.ensures (gate_begins c.args.nets)
    (gate_room c.args.nets c.in-Some.shape.least c.in-Some.shape.most _ c.ranges.nets.fits c.in-Some.ensures.1 (shape_order c.in-Some.shape _ c.in-Some.ensures.0) refl refl refl)
    c.in-Some.ensures.0 c.pass.ensures (λ w is. gate_holds c.in-Some.shape c.args.nets c.args.number w _ _ is refl refl refl) c.in_err-pins.ensures

pub returns : goal.returns
returns c =
    gate_done c.in-Some.shape c.args.nets c.args.number c.in_ok-gate.gate _ _ _ _ _ refl refl refl c.in-Some.ensures.0 c.pass.ensures c.in_ok-pins.ensures (c.in_ok-gate.ensures.0, c.in_ok-gate.ensures.1 ∙ c.as_slice.ensures)
