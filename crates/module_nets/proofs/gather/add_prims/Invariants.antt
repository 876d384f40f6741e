use Rattle.std.proofs.Common.{◌++◌, ◌≡◌, ◌∷◌, [], drop, map}
use Rattle.std.specs.Prelude.{filter, flat_map}
use Rattle.module_nets.specs.Mentions.{is_kept, prim_mentions}
use Rattle.module_nets.specs.declared.mention.Role.TheVariants.{Used, Wired}
use Rattle.module_nets.proofs.gather.add_prims.Given as goal

abbrev pub invariant-prims : goal.invariant-prims
invariant-prims l =
    l.out ++ filter (is_kept l.sieve) (flat_map prim_mentions (drop l.prim-index l.prims))
    ≡ l.fn.out ++ filter (is_kept l.sieve) (flat_map prim_mentions l.prims)
