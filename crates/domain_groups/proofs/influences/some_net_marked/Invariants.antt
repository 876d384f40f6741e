use Rattle.std.proofs.Common.{◌≡◌, drop, map}
use Rattle.std.specs.List.{list_any}
use Rattle.design_core.specs.declared.node.NodeId.TheVariants.{Net}
use Rattle.domain_groups.specs.Influences.{is_marked}
use Rattle.domain_groups.proofs.influences.some_net_marked.Given as goal

abbrev pub invariant-nets : goal.invariant-nets
invariant-nets l =
    list_any (is_marked l.ranked.design l.table l.row) (map Net (drop l.net-index l.nets))
    ≡ list_any (is_marked l.ranked.design l.table l.row) (map Net l.nets)
