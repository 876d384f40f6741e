use Rattle.std.proofs.Common.{◌∙◌, ◌+◌, ◌++◌, ◌∷◌, [], ap, append_assoc, map, refl, sym}
use Rattle.std.specs.List.{range_with_len}
use Rattle.std.proofs.lemmas.List.FromFn.{map-range_with_len_more}
use Rattle.module_bits.specs.Bits.{net_at}
use Rattle.elaborator.proofs.setting.push_nets.Goals as goal

pub nets-preserved : goal.nets-preserved
nets-preserved c =
    let front = c.args.bits.now in
    let made = map net_at (range_with_len c.args.low c.nets.k) in
    c.in_ok-push.ensures.ok
    ∙ ap (λ l. l ++ c.of.result ∷ []) c.nets.invariant
    ∙ append_assoc front made (c.of.result ∷ [])
    ∙ ap (λ l. front ++ l) (ap (λ net. made ++ net ∷ []) c.of.ensures ∙ sym (map-range_with_len_more net_at c.args.low c.nets.k (c.args.low + c.nets.k) refl))
