use Rattle.std.proofs.Common.{rules, ◌<◌, ◌+◌, ◌^◌, length, List, ℕ, take, set, get_or, refl, sym, ap, subst, arith, ◌∙◌}
use Rattle.std.specs.Prelude.{◌==◌, if◌then◌else◌}
use Rattle.gain_place.specs.Homes.{chip_at}
use Rattle.gain_place.specs.Spans.{stamp_at, IsSpanned}
use Rattle.gain_place.proofs.Spanning.{none_spanned, one_spanned}
use Rattle.gain_place.proofs.cutting.spanned.Goals as goal

pub elems-init : goal.elems-init
elems-init c = none_spanned c.args.chips.now c.args.elems.now c.args.stamp (length c.args.seen.now.items) c.args.seen.now.items refl c.requires.fresh

pub elems-preserved : goal.elems-preserved
elems-preserved c =
    let i : ℕ = c.elems.elem-index in
    let k : ℕ = get_or c.args.elems.now i 0 in
    let a : ℕ = chip_at c.args.chips.now k in
    let there : k < length c.args.chips.now = search rules in
    let reaches = c.requires.within k there in
    let same = c.elems.invariant.same in
    let within : a < length c.elems.seen.items = omega (arith, reaches, same) in
    let small : a < 2 ^ 32 = let t = c.place.type_inv in let e = c.place.ensures in omega arith in
    subst (λ (seen : List ℕ). IsSpanned c.args.chips.now (take (i + 1) c.args.elems.now) c.args.stamp (length c.args.seen.now.items) seen (c.elems.count + c.first_seen-count.result))
    (sym (c.first_seen-count.ensures.put ∙ ap (λ (x : ℕ). set c.elems.seen.items x c.args.stamp) c.place.ensures))
    (one_spanned c.args.chips.now c.args.elems.now c.args.stamp (length c.args.seen.now.items) i c.elems.seen.items c.elems.count c.elems.invariant c.elems-test.true
    within small c.first_seen-count.result
    (c.first_seen-count.ensures.told ∙ ap (λ (x : ℕ). if stamp_at c.elems.seen.items x == c.args.stamp then 0 else 1) c.place.ensures))
