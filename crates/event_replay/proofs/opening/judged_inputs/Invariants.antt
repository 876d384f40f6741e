use Rattle.std.proofs.Common.{◌≡◌, None, take}
use Rattle.std.specs.Prelude.{filter_map, flat_map}
use Rattle.domain_groups.specs.Openings.{input_fault, input_values}
use Rattle.event_replay.specs.Checks.{first_of}
use Rattle.event_replay.proofs.opening.judged_inputs.Given as goal

abbrev pub invariant-given : goal.invariant-given
invariant-given l = record {
  sound : first_of (filter_map (input_fault l.ports) (take l.value-index l.given)) ≡ None;
  gives : l.values ≡ flat_map (input_values l.ports) (take l.value-index l.given);
}
