use Rattle.std.proofs.Common.{◌++◌, ◌≡◌, ◌∷◌, [], drop, map}
use Rattle.std.specs.Prelude.{filter, flat_map}
use Rattle.module_nets.specs.Mentions.{is_kept, inst_mentions}
use Rattle.module_nets.specs.declared.mention.Role.TheVariants.{Used, Wired}
use Rattle.module_nets.proofs.gather.add_insts.Given as goal

abbrev pub invariant-insts : goal.invariant-insts
invariant-insts l =
    l.out ++ filter (is_kept l.sieve) (flat_map inst_mentions (drop l.inst-index l.insts))
    ≡ l.fn.out ++ filter (is_kept l.sieve) (flat_map inst_mentions l.insts)
