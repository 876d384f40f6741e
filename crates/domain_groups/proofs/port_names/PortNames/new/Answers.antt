use Rattle.std.proofs.Common.{rules}
use Rattle.domain_groups.proofs.FirstPorts.{few_more, taken_in}
use Rattle.domain_groups.proofs.port_names.PortNames.new.Goals as goal
use Rattle.domain_groups.proofs.port_names.PortNames.new.Goals.{then-number-known+in_ok-push, else-number-known}

pub ports-preserved : goal.ports-preserved
ports-preserved c =
    record {
      few = few_more _ _ c.ports.place _ c.in-Ok.ensures.names c.ports.invariant.few;
      indexes = taken_in c.args.ports.now _ _ _ _ c.ports.place _ _ c.index-ports-place.result _ (search rules) c.ports.invariant.indexes c.index-ports-place.is c.bytes.ensures c.len-known.ensures c.in-Ok.ensures.place c.in-Ok.ensures.names
          (elim c.if-number-known.branch [ then-number-known+in_ok-push w ↦ (λ e. search rules) | else-number-known w ↦ (λ e. search rules) ])
          (elim c.if-number-known.branch [ then-number-known+in_ok-push w ↦ (λ e. search rules) | else-number-known w ↦ (λ e. search rules) ]);
    }
