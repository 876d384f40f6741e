-- One gate after the other is put into the table.
use Rattle.std.proofs.Common.{◌≡◌, ◌<◌, ◌∙◌, sym, ap, ℕ, arith, length, List, set, refl}
use Rattle.std.specs.Prelude.{slice_get, Some}
use Rattle.std.proofs.lemmas.Option.{slice_get_read}
use Rattle.emu_machine.specs.declared.netlist.EmuGate.{EmuGate}
use Rattle.gate_cycles.proofs.Rows.{one_more, output_low}
use Rattle.gate_cycles.proofs.gates.net_gates.Goals as goal

pub set-requires : goal.set-requires
set-requires c =
    let at : slice_get c.args.chip.now.gates c.each.k ≡ Some c.index-gates-k.result =
    ap (λ (gs : List EmuGate). slice_get gs c.each.k) (sym c.as_slice-gates.ensures)
    ∙ slice_get_read c.as_slice-gates.result.now (length c.as_slice-gates.result.now) c.each.k c.index-gates-k.result refl c.each-test.true c.index-gates-k.is in
    let low = output_low c.args.chip.now c.requires c.each.k c.index-gates-k.result at in
    let place : c.from-in-each.result ≡ c.index-gates-k.result.output.place = c.from-in-each.ensures ∙ ap (λ (g : EmuGate). g.output.place) (sym c.index-gates-k.is) in
    let nets = c.each.invariant.nets in
    omega (arith, low, place, nets)

pub each-preserved : goal.each-preserved
each-preserved c =
    let at : slice_get c.args.chip.now.gates c.each.k ≡ Some c.index-gates-k.result =
    ap (λ (gs : List EmuGate). slice_get gs c.each.k) (sym c.as_slice-gates.ensures)
    ∙ slice_get_read c.as_slice-gates.result.now (length c.as_slice-gates.result.now) c.each.k c.index-gates-k.result refl c.each-test.true c.index-gates-k.is in
    let place : c.from-in-each.result ≡ c.index-gates-k.result.output.place = c.from-in-each.ensures ∙ ap (λ (g : EmuGate). g.output.place) (sym c.index-gates-k.is) in
    one_more c.args.chip.now c.requires c.each.k c.index-gates-k.result c.each.table c.set.new.self at c.each.invariant
    (c.set.ensures ∙ ap (λ (n : ℕ). set c.each.table n c.each.k) place)
