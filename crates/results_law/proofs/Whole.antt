-- All three printed texts together.
use Rattle.results_law.specs.ReadBack.{ResultsReadBack}
use Rattle.results_law.proofs.Chips.{netlists_back}
use Rattle.results_law.proofs.Maps.{maps_back}
use Rattle.results_law.proofs.Schedules.{schedules_back}

pub results_back : ResultsReadBack
results_back results fits = record {
  net_is = record { says = netlists_back results.net (record { formed = fits.built.formed; nets = fits.nets }); driven = fits.built.netlist };
  schedule_is = schedules_back results.schedule fits.schedule fits.named;
  map_is =
      maps_back results.net results.map fits.map
      (record { count = fits.stand.mapped.count; entries = fits.stand.mapped.chips; outputs = fits.stand.mapped.outputs });
}
