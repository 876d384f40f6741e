use Rattle.std.proofs.Common.{refl, ◌≡◌, subst}
use Rattle.std.specs.Prelude.{codes}
use Rattle.token_words.specs.Word.{name}
use Rattle.emu_machine.specs.Building.{IsMemoryOf}
use Rattle.netlist_reader.specs.Cuts.{IsCut}
use Rattle.netlist_reader.specs.Forms.{IsMemoryFirst, memory_text}
use Rattle.netlist_reader.specs.Netlist.{memory_words}
use Rattle.netlist_reader.proofs.ItemLines.{item_stop}
use Rattle.netlist_reader.proofs.MemoryLines.{memory_begins, memory_done, memory_holds, memory_room}
use Rattle.netlist_reader.proofs.items.EmuMemoryLine.read_next.Goals as goal

pub returns-in_err-pins : goal.returns-in_err-pins
returns-in_err-pins c =
    item_stop (IsMemoryOf c.args.nets) (IsMemoryFirst c.args.nets) memory_words (codes "m") c.args.number _ (λ w. w ≡ name (memory_text c.in-Some.shape)) _ _ _ _ _
    c.from_residual.ensures (memory_begins c.args.nets)
    (memory_room c.in-Some.shape c.args.nets _ c.ranges.nets.fits c.in-Some.ensures.2 c.count_of-count.ensures c.count_of-count.ensures refl)
    c.in-Some.ensures.0 c.pass.ensures (λ w is. memory_holds c.in-Some.shape c.args.nets c.args.number w _ _ is c.in-Some.ensures.1 c.count_of-count.ensures c.count_of-count.ensures refl) c.in_err-pins.ensures

pub returns : goal.returns
returns c =
    memory_done c.in-Some.shape c.args.nets c.args.number c.in_ok-memory.memory _ _ _ _ _ refl c.in-Some.ensures.0 c.in-Some.ensures.1 c.pass.ensures c.in_ok-pins.ensures
    (subst (λ pins. IsCut c.in-Some.shape pins c.in_ok-memory.memory) c.as_slice.ensures c.in_ok-memory.ensures)
