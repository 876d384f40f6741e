use Rattle.std.proofs.Common.{[], ◌∷◌}
use Rattle.token_words.specs.Word.{close_parenthesis, comma}
use Rattle.netlist_reader.specs.Inside.{ArePins, IsNetBelow}
use Rattle.netlist_reader.specs.Netlist.{closed_words, net_word}
use Rattle.netlist_reader.proofs.Stucks.{stops, not_so}
use Rattle.netlist_reader.proofs.Terminals.{opened_holds, opened_more, opened_close, opened_whole}
use Rattle.netlist_reader.proofs.pins.take_pins.Goals as goal

pub returns-in_err-net : goal.returns-in_err-net
returns-in_err-net c =
    stops (ArePins c.args.room) (IsNetBelow c.args.room.nets) closed_words (λ n. comma ∷ net_word n ∷ []) _ _ _ _ _ _ c.from_residual-in_err-net.ensures c.pins.invariant.split
    (opened_holds c.args.room _ _ _ c.len.result c.requires c.pins.invariant c.len.ensures (c.goes_on.ensures.0 c.pins-test.true))
    c.in_err-net.ensures

pub pins-preserved : goal.pins-preserved
pins-preserved c =
    opened_more c.args.room _ _ _ _ _ _ c.len.result c.requires c.pins.invariant c.len.ensures (c.goes_on.ensures.0 c.pins-test.true) c.in_ok-net.ensures c.in_ok-push.ensures.ok

pub returns-in_err-take : goal.returns-in_err-take
returns-in_err-take c =
    stops (ArePins c.args.room) (λ u. Unit {0}) closed_words (λ u. close_parenthesis ∷ []) _ _ _ _ _ _ c.from_residual-in_err-take.ensures c.pins.invariant.split
    (opened_close c.args.room _ _ _ c.len.result c.requires c.pins.invariant c.len.ensures (not_so _ _ c.pins-test.false c.goes_on.ensures))
    c.in_err-take.ensures

pub returns : goal.returns
returns c =
    opened_whole c.args.room _ _ _ _ c.len.result c.pins.invariant c.len.ensures (not_so _ _ c.pins-test.false c.goes_on.ensures) c.in_ok-take.ensures.1
