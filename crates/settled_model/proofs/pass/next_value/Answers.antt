-- The element that drives a net of a design names nets of the design alone.
use Rattle.std.proofs.Common.{◌≡◌, ℕ, true, subst, sym, ◌∙◌}
use Rattle.design_core.specs.Design.{element_reads}
use Rattle.design_core.specs.Faults.{are_there, element_outputs}
use Rattle.settled_model.proofs.Ranges.{reads_there, outputs_there, few_inputs}
use Rattle.settled_model.proofs.Sizes.{bit_found, bit_clock}
use Rattle.settled_model.proofs.pass.next_value.Goals as goal

pub element_value-requires-clause-reads : goal.element_value-requires-clause-reads
element_value-requires-clause-reads c =
    subst (λ (k : ℕ). are_there k (element_reads c.elem.result.now) ≡ true) (sym c.requires.new_size)
    (reads_there c.args.design.now c.requires.design c.in-Elem.id.place c.elem.result.now c.elem.ensures.here)

pub element_value-requires-clause-output : goal.element_value-requires-clause-output
element_value-requires-clause-output c =
    subst (λ (k : ℕ). are_there k (element_outputs c.elem.result.now) ≡ true) (sym c.requires.new_size)
    (outputs_there c.args.design.now c.requires.design c.in-Elem.id.place c.elem.result.now c.elem.ensures.here)

pub element_value-requires-clause-within : goal.element_value-requires-clause-within
element_value-requires-clause-within c =
    few_inputs c.args.design.now c.requires.within c.in-Elem.id.place c.elem.result.now c.elem.ensures.here

pub clocked_value-requires-clause-clock : goal.clocked_value-requires-clause-clock
clocked_value-requires-clause-clock c =
    bit_clock c.args.design.now c.requires.design c.in-Read.mem.place c.in-Read.port c.in-Read.bit c.port_of.result.now
    (bit_found c.args.design.now c.args.net.place c.in-Read.mem c.in-Read.port c.in-Read.bit c.port_of.result.now (sym c.driver.ensures ∙ c.in-Read.is) c.port_of.ensures)
    c.in-Some.edge _ c.requires.new_size c.in-Some.is
