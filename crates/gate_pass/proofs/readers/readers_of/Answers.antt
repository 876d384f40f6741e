use Rattle.std.proofs.Common.{◌≡◌, ℕ, List, ◌+◌, ◌++◌, ◌∷◌, [], subst, sym, ap, ◌∙◌, arith}
use Rattle.gate_pass.specs.Readers.{AreFirstReaders}
use Rattle.gate_pass.proofs.Chains.{next_readers, all_readers}
use Rattle.gate_pass.proofs.readers.readers_of.Goals as goal

pub nets-preserved : goal.nets-preserved
nets-preserved c =
    let pushed : c.add_row.new.self ≡ c.nets.readers ++ c.fill.new.gates.items ∷ [] =
    c.in_ok-add_row.ensures.ok ∙ ap (λ (gates : List ℕ). c.nets.readers ++ gates ∷ []) c.as_slice.ensures.value in
    subst (AreFirstReaders (c.nets.net + 1) c.args.inputs.now) (sym pushed)
    (next_readers c.args.inputs.now c.nets.readers c.nets.net c.fill.new.gates.items c.in_ok-chains.chains.last.items c.in_ok-chains.chains.pins.items c.in_ok-chains.ensures.pins
    (c.in_ok-fill.ensures c.in_ok-chains.ensures.pins.nets c.in_ok-chains.ensures.pins.linked) c.nets.invariant)

pub returns : goal.returns
returns c = all_readers c.args.nets c.nets.net c.args.inputs.now c.nets.readers (omega (arith, c.nets-test.false, c.nets.auto.net-end)) c.nets.invariant
