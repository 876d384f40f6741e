use Rattle.std.proofs.Common.{◌∙◌, ◌++◌, ◌∷◌, [], ◌+◌, ap, map, refl, sym}
use Rattle.std.specs.List.{range_with_len}
use Rattle.std.proofs.lemmas.List.FromFn.{map-range_with_len_more}
use Rattle.cell_parts.specs.Wires.{net_numbered}
use Rattle.cell_parts.proofs.wires.new_nets.Goals as goal

pub nets-preserved : goal.nets-preserved
nets-preserved c =
    c.in_ok-push.ensures.ok
    ∙ ap (λ l. l ++ c.of.result ∷ []) c.nets.invariant
    ∙ ap (λ n. map net_numbered (range_with_len c.args.next c.nets.k) ++ n ∷ []) c.of.ensures
    ∙ sym (map-range_with_len_more net_numbered c.args.next c.nets.k (c.args.next + c.nets.k) refl)
