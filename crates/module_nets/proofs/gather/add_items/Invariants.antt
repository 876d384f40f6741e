use Rattle.std.proofs.Common.{◌++◌, ◌≡◌, ◌∷◌, [], drop, map}
use Rattle.std.specs.Prelude.{filter, flat_map}
use Rattle.module_nets.specs.Mentions.{is_kept, item_mentions}
use Rattle.module_nets.specs.declared.mention.Role.TheVariants.{Used, Wired}
use Rattle.module_nets.proofs.gather.add_items.Given as goal

abbrev pub invariant-items : goal.invariant-items
invariant-items l =
    l.out ++ filter (is_kept l.sieve) (flat_map item_mentions (drop l.item-index l.items))
    ≡ l.fn.out ++ filter (is_kept l.sieve) (flat_map item_mentions l.items)
