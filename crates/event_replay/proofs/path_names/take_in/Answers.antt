use Rattle.std.proofs.Common.{arith, rules}
use Rattle.event_replay.proofs.Leading.{takes_known, takes_new}
use Rattle.event_replay.proofs.path_names.take_in.Goals as goal

pub returns-then-place-known : goal.returns-then-place-known
returns-then-place-known c =
    let known = c.len-known.ensures in
    takes_known c.args.names.now c.intern.new.self c.args.numbers.now.items c.args.path.now c.args.number c.in-Ok.place c.requires.same c.in-Ok.ensures.place c.in-Ok.ensures.names (omega arith)

pub returns : goal.returns
returns c =
    let known = c.len-known.ensures in
    takes_new c.args.names.now c.intern.new.self c.args.numbers.now.items c.push.new.self.items c.args.path.now c.args.number c.in-Ok.place c.requires.same c.in-Ok.ensures.place c.in-Ok.ensures.names (omega arith) (search rules)
