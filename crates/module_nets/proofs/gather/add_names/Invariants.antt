use Rattle.std.proofs.Common.{◌++◌, ◌≡◌, ◌∷◌, [], drop, map}
use Rattle.std.specs.Prelude.{filter, flat_map}
use Rattle.module_nets.specs.Mentions.{is_kept, mention}
use Rattle.module_nets.specs.declared.mention.Role.TheVariants.{Used, Wired}
use Rattle.module_nets.proofs.gather.add_names.Given as goal

abbrev pub invariant-names : goal.invariant-names
invariant-names l =
    l.out ++ filter (is_kept l.sieve) (map (mention l.role) (drop l.name-index l.names))
    ≡ l.fn.out ++ filter (is_kept l.sieve) (map (mention l.role) l.names)
