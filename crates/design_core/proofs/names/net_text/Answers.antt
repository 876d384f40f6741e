-- Nets 0 and 1 have their constants as names.
use Rattle.std.proofs.Common.{◌≡◌, ◌∙◌, sym}
use Rattle.std.specs.Prelude.{codes}
use Rattle.std.proofs.lemmas.Result.{IfOk-weaker}
use Rattle.design_core.specs.Names.{IsNetText}
use Rattle.design_core.proofs.Outwards.{net_low, net_high}
use Rattle.design_core.proofs.names.net_text.Goals as goal

pub returns-in-0 : goal.returns-in-0
returns-in-0 c =
    let p = c.args.parts.now in
    let n = c.args.net.place in
    IfOk-weaker c.from_bytes.result (λ text. text ≡ codes "1'b0") (IsNetText p n) (λ text same. net_low p n text (sym c.place.ensures ∙ c.in-0.is) same) c.from_bytes.ensures

pub returns-in-1 : goal.returns-in-1
returns-in-1 c =
    let p = c.args.parts.now in
    let n = c.args.net.place in
    IfOk-weaker c.from_bytes-in-1.result (λ text. text ≡ codes "1'b1") (IsNetText p n) (λ text same. net_high p n text (sym c.place.ensures ∙ c.in-1.is) same) c.from_bytes-in-1.ensures
