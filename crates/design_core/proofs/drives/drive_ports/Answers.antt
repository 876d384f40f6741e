use Rattle.std.proofs.Common.{◌≡◌, ◌∙◌, map}
use Rattle.design_core.specs.declared.element.Driver.TheVariants.{Input}
use Rattle.design_core.specs.Drives.{drive_of, put_all}
use Rattle.design_core.proofs.Filling.{nested}
use Rattle.design_core.proofs.drives.drive_ports.Goals as goal

pub ports-preserved : goal.ports-preserved
ports-preserved c =
    let done : c.drive_inputs.new.table ≡ put_all (map (drive_of Input) c.port-item.result.nets) c.ports.table = cc in
    let more = nested (λ port. map (drive_of Input) port.nets) c.args.ports.now c.ports.port-index c.port-item.result c.ports.table c.drive_inputs.new.table c.ports-test.true c.port-item.is done in
    record {
      rest = more ∙ c.ports.invariant.rest;
      size = c.drive_inputs.auto.table ∙ c.ports.invariant.size;
    }
