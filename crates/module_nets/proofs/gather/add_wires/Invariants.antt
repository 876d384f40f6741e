use Rattle.std.proofs.Common.{◌++◌, ◌≡◌, ◌∷◌, [], drop, map}
use Rattle.std.specs.Prelude.{filter, flat_map}
use Rattle.module_nets.specs.Mentions.{is_kept, mention}
use Rattle.module_nets.specs.declared.mention.Role.TheVariants.{Used, Wired}
use Rattle.module_nets.proofs.gather.add_wires.Given as goal

abbrev pub invariant-nets : goal.invariant-nets
invariant-nets l =
    l.out ++ filter (is_kept l.sieve) (map (λ net. mention (Wired l.range) net.name) (drop l.net-index l.nets))
    ≡ l.fn.out ++ filter (is_kept l.sieve) (map (λ net. mention (Wired l.range) net.name) l.nets)
