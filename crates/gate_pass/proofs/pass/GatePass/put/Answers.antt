use Rattle.std.proofs.Common.{◌≡◌, ◌<◌, ℕ, List, length, set, sym, subst, arith}
use Rattle.std.specs.Prelude.{Contains}
use Rattle.graph_rank.specs.Rows.{row}
use Rattle.gate_pass.specs.Gates.{value_on, PassState}
use Rattle.gate_pass.specs.Inside.{AreWoken}
use Rattle.gate_pass.proofs.Members.{row_there}
use Rattle.gate_pass.proofs.Taken.{has_value, has_no_value, takes_same, takes_other}
use Rattle.gate_pass.proofs.pass.GatePass.put.Goals as goal

pub wake_readers-requires : goal.wake_readers-requires
wake_readers-requires g c k reads =
    let low : c.args.net < length c.self.inside.values = subst (λ (s : PassState g.row.T.Denot). c.args.net < length s.values) (sym c.self.view_is) c.requires in
    let same : c.row.result.now ≡ row c.self.inside.readers c.args.net = c.row.ensures in
    let read : Contains (row c.self.inside.inputs k) c.args.net = (c.self.invariant.read.each c.args.net k low).0 (subst (λ (xs : List ℕ). Contains xs k) same reads) in
    omega (arith, row_there c.self.inside.inputs k c.args.net read, c.self.invariant.ranked.count, c.self.invariant.gates)

pub returns-then-not-is : goal.returns-then-not-is
returns-then-not-is g c =
    let low : c.args.net < length c.self.inside.values = subst (λ (s : PassState g.row.T.Denot). c.args.net < length s.values) (sym c.self.view_is) c.requires in
    takes_other g.T.NetValue.none c.self.inside.inputs c.self.inside.outputs c.self.inside.readers c.self.inside.values c.set.new.self c.self.inside.waiting c.wake_readers.new.waiting c.args.net c.args.value c.args.self.now
    c.self.view_is low c.self.invariant.read
    (has_no_value g.T.NetValue.none c.self.inside.values c.args.net c.from.result c.args.value c.get.result.now c.is.result c.from.ensures c.get.ensures c.is.ensures c.if-not-is.true)
    (subst (λ (k : ℕ). c.set.new.self ≡ set c.self.inside.values k c.args.value) c.from-then-not-is.ensures c.set.ensures)
    (subst (λ (gates : List ℕ). AreWoken gates c.self.inside.waiting c.wake_readers.new.waiting) c.row.ensures c.wake_readers.ensures)

pub returns-else-not-is : goal.returns-else-not-is
returns-else-not-is g c =
    takes_same g.T.NetValue.none c.args.net c.args.value c.args.self.now
    (subst (λ (s : PassState g.row.T.Denot). value_on g.T.NetValue.none s.values c.args.net ≡ c.args.value) c.self.view_is
    (has_value g.T.NetValue.none c.self.inside.values c.args.net c.from.result c.args.value c.get.result.now c.is.result c.from.ensures c.get.ensures c.is.ensures c.if-not-is.false))
