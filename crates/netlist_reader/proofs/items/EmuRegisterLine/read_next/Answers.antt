use Rattle.std.proofs.Common.{refl, ◌≡◌, ◌∙◌}
use Rattle.std.specs.Prelude.{codes}
use Rattle.token_words.specs.Word.{name}
use Rattle.emu_machine.specs.Building.{IsRegisterOf}
use Rattle.netlist_reader.specs.Forms.{IsRegisterFirst, register_text}
use Rattle.netlist_reader.specs.Netlist.{register_words}
use Rattle.netlist_reader.proofs.ItemLines.{register_begins, register_done, register_holds, register_room, item_stop}
use Rattle.netlist_reader.proofs.items.EmuRegisterLine.read_next.Goals as goal

pub returns-in_err-pins : goal.returns-in_err-pins
returns-in_err-pins c =
    item_stop (IsRegisterOf c.args.nets) (IsRegisterFirst c.args.nets) register_words (codes "r") c.args.number _ (λ w. w ≡ name (register_text c.in-Some.count)) _ _ _ _ _
    c.from_residual.ensures (register_begins c.args.nets)
    (register_room c.args.nets c.in-Some.count _ c.ranges.nets.fits c.in-Some.ensures.3 c.in-Some.ensures.1 refl refl refl)
    c.in-Some.ensures.0 c.pass.ensures (λ w is. register_holds c.args.nets c.in-Some.count c.args.number w _ _ is c.in-Some.ensures.1 c.in-Some.ensures.2 refl refl refl) c.in_err-pins.ensures

pub returns : goal.returns
returns c =
    register_done c.args.nets c.in-Some.count c.args.number c.register_of.result _ _ _ _ _ refl refl refl c.in-Some.ensures.0 c.pass.ensures c.in_ok-pins.ensures (c.register_of.ensures.pins ∙ c.as_slice.ensures) c.register_of.ensures.loaded
