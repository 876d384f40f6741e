-- The memory that drives a bit of a read port.
use Rattle.std.proofs.Common.{◌≡◌, ◌<◌, ℕ, arith, refl}
use Rattle.std.specs.Prelude.{Some, length, position, count_by}
use Rattle.std.proofs.lemmas.Bool.{eq-eqb}
use Rattle.facts.proofs.Counting.{found}
use Rattle.id_arena.specs.declared.keys.ElemId.{ElemId}
use Rattle.design_core.specs.declared.element.Element.TheVariants as element
use Rattle.design_core.specs.declared.parts.Parts.{Parts}
use Rattle.design_core.specs.Design.{IsDesign, is_memory}
use Rattle.design_core.specs.Tables.{IsMemoryAt}

pub memory_source : (p : Parts) (m : ℕ) (e : ElemId) → IsDesign p → m < length p.memories → IsMemoryAt p m e
    → position (is_memory m) p.elements ≡ Some e.place
memory_source p m e is low at =
    let one : count_by (is_memory m) p.elements ≡ 1 = is.one_element m low in
    found (is_memory m) p.elements e.place (element.Memory (record { place = m })) at (eq-eqb m m refl) (omega arith)
