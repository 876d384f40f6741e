use Rattle.std.proofs.Common.{ap, sym, ◌∙◌}
use Rattle.std.proofs.lemmas.Option.{slice_get_within}
use Rattle.design_core.specs.declared.element.Element.TheVariants as element
use Rattle.gain_place.specs.Homes.{source_of}
use Rattle.gain_place.proofs.Sources.{memory_source}
use Rattle.gain_place.proofs.pins.source.Goals as goal

pub elem_of-requires : goal.elem_of-requires
elem_of-requires c =
    let h = c.driver_is_read_bit.ensures c.args.design.now c.args.net.place c.in-Read.m c.in-Read.field-1 c.in-Read.field-2 (sym c.driver.ensures ∙ c.in-Read.is) in
    slice_get_within c.args.design.now.memories c.in-Read.m.place h.0 h.3

pub returns-in-Read-clause-named : goal.returns-in-Read-clause-named
returns-in-Read-clause-named c =
    let h = c.driver_is_read_bit.ensures c.args.design.now c.args.net.place c.in-Read.m c.in-Read.field-1 c.in-Read.field-2 (sym c.driver.ensures ∙ c.in-Read.is) in
    sym (ap (source_of c.args.design.now) (sym c.driver.ensures ∙ c.in-Read.is)
    ∙ memory_source c.args.design.now c.in-Read.m.place c.elem_of.result c.stands.ensures.design
    (slice_get_within c.args.design.now.memories c.in-Read.m.place h.0 h.3) c.elem_of.ensures)

pub returns-in-Read-clause-there : goal.returns-in-Read-clause-there
returns-in-Read-clause-there c =
    slice_get_within c.args.design.now.elements c.elem_of.result.place (element.Memory (record { place = c.in-Read.m.place })) c.elem_of.ensures
