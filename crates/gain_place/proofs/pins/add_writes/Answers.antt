use Rattle.std.proofs.Common.{ap, sym, ◌∙◌}
use Rattle.std.specs.Prelude.{Some}
use Rattle.std.proofs.lemmas.Option.{slice_get-get_or}
use Rattle.id_arena.specs.declared.keys.NetId.{NetId}
use Rattle.design_core.specs.Design.{write_reads}
use Rattle.gain_place.proofs.Added.{one_added}
use Rattle.gain_place.proofs.pins.add_writes.Goals as goal

pub ports-preserved : goal.ports-preserved
ports-preserved c =
    one_added write_reads (λ (n : NetId). n.place) c.ports.row.items c.add_write.new.row.items _ c.args.ports.now c.ports.port-index c.port-item.result
    (slice_get-get_or c.args.ports.now c.ports.port-index c.port-item.result c.ports-test.true ∙ ap Some (sym c.port-item.is)) c.in_ok-add_write.ensures c.ports.invariant
