use Rattle.std.proofs.Common.{◌++◌, ◌≡◌, ◌∷◌, [], drop, map}
use Rattle.std.specs.Prelude.{filter, flat_map}
use Rattle.module_nets.specs.Mentions.{is_kept, place_mentions}
use Rattle.module_nets.specs.declared.mention.Role.TheVariants.{Used, Wired}
use Rattle.module_nets.proofs.gather.add_places.Given as goal

abbrev pub invariant-places : goal.invariant-places
invariant-places l =
    l.out ++ filter (is_kept l.sieve) (flat_map place_mentions (drop l.place-index l.places))
    ≡ l.fn.out ++ filter (is_kept l.sieve) (flat_map place_mentions l.places)
