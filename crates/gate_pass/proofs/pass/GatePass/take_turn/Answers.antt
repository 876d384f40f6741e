use Rattle.std.proofs.Common.{◌≡◌, ◌<◌, ℕ, List, length, get_or, map, sym, ap, subst, ◌∙◌, arith}
use Rattle.std.specs.Prelude.{Some, slice_get, slice_index, Contains}
use Rattle.std.proofs.lemmas.Option.{get_or_from_slice_get}
use Rattle.std.proofs.lemmas.List.Elements.{Contains-get_or}
use Rattle.graph_rank.specs.Rows.{row}
use Rattle.gate_pass.specs.Gates.{value_on, PassState}
use Rattle.gate_pass.proofs.Taken.{has_had_turn}
use Rattle.gate_pass.proofs.pass.GatePass.take_turn.Goals as goal

pub value-value-requires-clause-there : goal.value-value-requires-clause-there
value-value-requires-clause-there g c k d low =
    let has : Contains (row c.self.inside.inputs c.args.gate) (get_or c.row.result.now k d) =
    subst (λ (xs : List ℕ). Contains xs (get_or c.row.result.now k d)) c.row.ensures (Contains-get_or c.row.result.now k d low) in
    let there : get_or c.row.result.now k d < length c.self.inside.values = c.self.invariant.ranked.reads c.args.gate (get_or c.row.result.now k d) has in
    let size : length c.as_slice.result.now ≡ length c.self.inside.values = ap length c.as_slice.ensures in
    omega (arith, there, size)

pub put-requires : goal.put-requires
put-requires g c =
    let low : c.args.gate < length c.self.inside.outputs = subst (λ (s : PassState g.row.T.Denot). c.args.gate < length s.outputs) (sym c.self.view_is) c.requires.there in
    let is : slice_index c.self.inside.outputs c.args.gate ≡ c.get-output.result.now =
    get_or_from_slice_get c.self.inside.outputs c.args.gate c.get-output.result.now 0 (subst (λ (k : ℕ). slice_get c.self.inside.outputs k ≡ Some c.get-output.result.now) c.from.ensures c.get-output.ensures) in
    let there : slice_index c.self.inside.outputs c.args.gate < length c.self.inside.values = c.self.invariant.ranked.drives c.args.gate low in
    omega (arith, is, there)

pub returns-clause-turn : goal.returns-clause-turn
returns-clause-turn g c =
    let is : slice_index c.self.inside.outputs c.args.gate ≡ c.get-output.result.now =
    get_or_from_slice_get c.self.inside.outputs c.args.gate c.get-output.result.now 0 (subst (λ (k : ℕ). slice_get c.self.inside.outputs k ≡ Some c.get-output.result.now) c.from.ensures c.get-output.ensures) in
    let gives : ℕ → List g.row.T.Denot → g.row.T.Denot = g.R.GateRule.gives c.args.rule.now in
    has_had_turn g.T.NetValue.none gives c.self.inside.inputs c.self.inside.outputs c.self.inside.values c.self.inside.waiting c.rest.new.self c.args.gate
    c.get-output.result.now c.value-value.result c.args.self.now c.put.new.self c.self.view_is (sym is)
    (c.value-value.ensures.value
    ∙ ap (λ (values : List g.row.T.Denot). gives c.args.gate (map (value_on g.T.NetValue.none values) c.row.result.now)) c.as_slice.ensures
    ∙ ap (λ (xs : List ℕ). gives c.args.gate (map (value_on g.T.NetValue.none c.self.inside.values) xs)) c.row.ensures)
    c.rest.ensures c.put.ensures
