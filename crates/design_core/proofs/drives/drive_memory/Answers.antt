use Rattle.std.proofs.Common.{◌≡◌, ◌∙◌, ℕ}
use Rattle.design_core.specs.declared.element.ReadPort.{ReadPort}
use Rattle.design_core.specs.Drives.{port_drives, put_all}
use Rattle.design_core.proofs.Filling.{nested_from}
use Rattle.design_core.proofs.drives.drive_memory.Goals as goal

pub ports-preserved : goal.ports-preserved
ports-preserved c =
    let done : c.drive_bits.new.table ≡ put_all (port_drives c.args.mem.place c.ports.port c.index-reads-port.result.bits) c.ports.table = cc in
    let more = nested_from (λ (x : ℕ × ReadPort). port_drives c.args.mem.place x.0 x.1.bits) c.as_slice-reads.result.now c.ports.port c.index-reads-port.result c.ports.table c.drive_bits.new.table c.ports-test.true c.index-reads-port.is done in
    record {
      rest = more ∙ c.ports.invariant.rest;
      size = c.drive_bits.auto.table ∙ c.ports.invariant.size;
    }
