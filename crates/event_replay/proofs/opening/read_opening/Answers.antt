use Rattle.std.proofs.Common.{IfOk}
use Rattle.serde_json.specs.View.{view}
use Rattle.settled_model.specs.Opening.{Opens}
use Rattle.event_replay.specs.Opened.{AreStates}
use Rattle.event_replay.specs.Settings.{AreInputBits}
use Rattle.event_replay.proofs.Answering.{if_ok}
use Rattle.event_replay.proofs.Judging.{Sound, answers, if_sound}
use Rattle.event_replay.proofs.opening.read_opening.Goals as goal

pub returns-clause-means : goal.returns-clause-means
returns-clause-means c =
    answers c.args.design.now c.args.bytes.now c.in_ok-given.given c.judged.result (record { tree = view c.in_ok-tree.tree; text = c.in_ok-tree.ensures; form = c.in_ok-given.ensures.told }) c.judged.ensures

pub returns-clause-opens : goal.returns-clause-opens
returns-clause-opens c =
    if_ok (Sound c.args.design.now) (Opens c.args.design.now) c.judged.result (λ o sound. sound.opens)
    (if_sound c.args.design.now c.in_ok-given.given c.judged.result c.stands.ensures.design c.input_is_input_bit.ensures c.in_ok-given.ensures.apart c.judged.ensures)

pub returns-clause-bits : goal.returns-clause-bits
returns-clause-bits c =
    if_ok (Sound c.args.design.now) (λ o. AreInputBits c.args.design.now o.inputs) c.judged.result (λ o sound. sound.bits)
    (if_sound c.args.design.now c.in_ok-given.given c.judged.result c.stands.ensures.design c.input_is_input_bit.ensures c.in_ok-given.ensures.apart c.judged.ensures)

pub returns-clause-states : goal.returns-clause-states
returns-clause-states c =
    if_ok (Sound c.args.design.now) (λ o. AreStates c.args.design.now o.ones) c.judged.result (λ o sound. sound.states)
    (if_sound c.args.design.now c.in_ok-given.given c.judged.result c.stands.ensures.design c.input_is_input_bit.ensures c.in_ok-given.ensures.apart c.judged.ensures)
