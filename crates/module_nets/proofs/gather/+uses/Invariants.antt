use Rattle.std.proofs.Common.{◌++◌, ◌≡◌, ◌∷◌, [], drop, map}
use Rattle.std.specs.Prelude.{filter, flat_map}
use Rattle.module_nets.specs.Mentions.{is_kept, uses}
use Rattle.module_nets.specs.declared.mention.Role.TheVariants.{Used, Wired}
use Rattle.module_nets.proofs.gather.+uses.Given as goal

abbrev pub invariant-add_parts-parts : goal.invariant-add_parts-parts
invariant-add_parts-parts l =
    l.out ++ filter (is_kept l.sieve) (flat_map uses (drop l.part-index l.parts))
    ≡ l.fn.out ++ filter (is_kept l.sieve) (flat_map uses l.parts)
