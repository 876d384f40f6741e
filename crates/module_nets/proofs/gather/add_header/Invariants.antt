use Rattle.std.proofs.Common.{◌++◌, ◌≡◌, ◌∷◌, [], drop, map}
use Rattle.std.specs.Prelude.{filter, flat_map}
use Rattle.module_nets.specs.Mentions.{is_kept, head_mention}
use Rattle.module_nets.specs.declared.mention.Role.TheVariants.{Used, Wired}
use Rattle.module_nets.proofs.gather.add_header.Given as goal

abbrev pub invariant-ports : goal.invariant-ports
invariant-ports l =
    l.out ++ filter (is_kept l.sieve) (map head_mention (drop l.port-index l.ports))
    ≡ l.fn.out ++ filter (is_kept l.sieve) (map head_mention l.ports)
