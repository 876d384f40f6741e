use Rattle.std.proofs.Common.{◌≡◌, ◌∙◌, ℕ}
use Rattle.design_core.specs.declared.element.Memory.{Memory}
use Rattle.design_core.specs.Drives.{memory_drives, put_all}
use Rattle.design_core.proofs.Filling.{nested_from}
use Rattle.design_core.proofs.drives.drive_memories.Goals as goal

pub memories-preserved : goal.memories-preserved
memories-preserved c =
    let done : c.drive_memory.new.table ≡ put_all (memory_drives c.memories.place c.index-memories-place.result) c.memories.table = rw (c.of.ensures) at c.drive_memory.ensures in
    let more = nested_from (λ (x : ℕ × Memory). memory_drives x.0 x.1) c.args.memories.now c.memories.place c.index-memories-place.result c.memories.table c.drive_memory.new.table c.memories-test.true c.index-memories-place.is done in
    record {
      rest = more ∙ c.memories.invariant.rest;
      size = c.drive_memory.auto.table ∙ c.memories.invariant.size;
    }
