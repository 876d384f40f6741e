-- Bits of read ports are nets of the design.
use Rattle.std.proofs.Common.{◌≡◌, List, subst, sym}
use Rattle.std.specs.Prelude.{Some, slice_get}
use Rattle.design_core.specs.declared.element.ReadPort.{ReadPort}
use Rattle.design_core.specs.declared.parts.Parts.{Parts}
use Rattle.shape_check.specs.Mapped.{ArePorts}
use Rattle.shape_check.proofs.Lost.{ports_low}
use Rattle.shape_check.proofs.unmapped.is_memory_mapped.Goals as goal

pub ports_kept-requires-clause-there : goal.ports_kept-requires-clause-there
ports_kept-requires-clause-there c =
    subst (λ (ports : List ReadPort). ArePorts c.args.case.now ports) (sym c.as_slice.ensures)
    (ports_low c.args.case.now c.args.mem.place c.mem-memory.result.now c.stands.ensures.design
    (subst (λ (p : Parts). slice_get p.memories c.args.mem.place ≡ Some c.mem-memory.result.now) c.design.ensures c.mem-memory.ensures.here))
