use Rattle.serde_json.specs.View.{view}
use Rattle.result_files.specs.Map.{SaysEntry}
use Rattle.result_files.proofs.map_reader.read_chip_map.Goals as goal
use Rattle.result_files.proofs.MapLemmas.{entry_refused}
use Rattle.result_files.proofs.Refusals.{part_refused}

pub returns-in_err-entry : goal.returns-in_err-entry
returns-in_err-entry c =
    part_refused _ (SaysEntry c.args.version (c.args.chip.now, view c.args.tree.now)) _ _ c.from_residual.ensures (λ e says. (e, says.form)) c.in_err-entry.ensures

pub returns-else-entry_fits : goal.returns-else-entry_fits
returns-else-entry_fits c =
    entry_refused _ _ _ c.in_ok-entry.entry _ c.in_ok-entry.ensures c.if-entry_fits.false c.entry_fits.ensures
