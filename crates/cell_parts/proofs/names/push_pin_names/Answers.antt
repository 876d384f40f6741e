use Rattle.std.proofs.Common.{◌∙◌, ◌∷◌, [], ◌+◌, ℕ, Option, Some, ap, arith, map}
use Rattle.std.specs.List.{range_with_len}
use Rattle.std.proofs.lemmas.List.{map-append}
use Rattle.std.proofs.lemmas.List.FromFn.{map-range_with_len_more}
use Rattle.design_core.specs.declared.parts.NetName.{NetName}
use Rattle.cell_parts.proofs.Pairs.{put_more}
use Rattle.cell_parts.proofs.names.push_pin_names.Goals as goal

pub bits-preserved : goal.bits-preserved
bits-preserved c =
    let named : Option ℕ → NetName = λ index. record { scope = c.args.scope; name = c.args.name.now; index = index } in
    let indices = map Some (range_with_len 0 c.bits.bit) in
    put_more c.args.out.now (map named indices) (map named (map Some (range_with_len 0 (c.bits.bit + 1)))) c.bits.out c.push_name-in-bits.new.out (named (Some c.bits.bit))
    c.bits.invariant c.in_ok-push_name.ensures
    (ap (map named) (map-range_with_len_more Some 0 c.bits.bit c.bits.bit (omega arith)) ∙ map-append named indices (Some c.bits.bit ∷ []))
