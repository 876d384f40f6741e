use Rattle.std.proofs.Common.{◌++◌, ◌≡◌, ◌∷◌, [], drop, map}
use Rattle.std.specs.Prelude.{filter, flat_map}
use Rattle.module_nets.specs.Mentions.{is_kept, place_mentions}
use Rattle.module_nets.specs.declared.mention.Role.TheVariants.{Used, Wired}
use Rattle.module_nets.proofs.gather.add_named.Given as goal

abbrev pub invariant-links : goal.invariant-links
invariant-links l =
    l.out ++ filter (is_kept l.sieve) (flat_map (λ link. place_mentions link.expr) (drop l.link-index l.links))
    ≡ l.fn.out ++ filter (is_kept l.sieve) (flat_map (λ link. place_mentions link.expr) l.links)
