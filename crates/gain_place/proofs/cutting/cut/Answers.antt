use Rattle.std.proofs.Common.{rules, ◌≡◌, ap, sym, arith, ◌∙◌}
use Rattle.design_core.specs.Design.{net_count}
use Rattle.gain_place.specs.Cut.{crossings}
use Rattle.gain_place.specs.Spans.{cut_to}
use Rattle.gain_place.proofs.Spanning.{cut_is, cut_more}
use Rattle.gain_place.proofs.cutting.cut.Goals as goal

pub nets-preserved : goal.nets-preserved
nets-preserved c =
    let x : c.from-total.result ≡ crossings c.args.design.now c.args.placement.now c.nets.net
    = c.from-total.ensures ∙ c.net_crossings.ensures.crossings ∙ ap (λ chips. crossings c.args.design.now chips c.nets.net) c.as_slice-chips.ensures in
    let m = cut_more c.args.design.now c.args.placement.now c.nets.net in
    let s = c.nets.invariant.sum in
    record {
      sum = omega (arith, x, m, s);
      small = search rules;
      fresh = c.net_crossings.ensures.stamps;
      within = search rules;
      few = search rules;
    }

pub returns : goal.returns
returns c =
    let e : c.nets.net ≡ net_count c.args.design.now = search rules in
    c.nets.invariant.sum ∙ ap (cut_to c.args.design.now c.args.placement.now) e ∙ sym (cut_is c.args.design.now c.args.placement.now)
