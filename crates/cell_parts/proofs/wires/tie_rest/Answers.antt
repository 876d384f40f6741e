use Rattle.std.proofs.Common.{rules, ◌≡◌, ◌+◌, arith, drop, refl}
use Rattle.cell_parts.specs.Wires.{new_width, tied_by}
use Rattle.cell_parts.proofs.Filling.{filled_all, filled_as_is, filled_by_new, tie_was}
use Rattle.cell_parts.proofs.Pairs.{count_here, tied_at, tied_end}
use Rattle.cell_parts.proofs.wires.tie_rest.Goals.{then-is_none+in_ok-nets, else-is_none}
use Rattle.cell_parts.proofs.wires.tie_rest.Goals as goal

pub new_nets-requires : goal.new_nets-requires
new_nets-requires c =
    let all = tied_by c.args.pins.now c.args.ties.now in
    let here = tied_at c.args.pins.now c.args.pins.now c.args.ties.now c.pins.place c.index-pins-place.result c.get-tie.result.now refl c.pins-test.true c.index-pins-place.is
    (tie_was c.args.pins.now c.args.ties.now c.pins.ties c.args.next c.pins.next c.pins.place c.get-tie.result.now c.pins.invariant c.get-tie.ensures) in
    let wide : c.from-width.result ≡ new_width (record { pin = c.index-pins-place.result; tie = c.get-tie.result.now }) = search rules in
    omega (arith, wide, c.pins.invariant.few, count_here (drop c.pins.place all) (drop (c.pins.place + 1) all) (record { pin = c.index-pins-place.result; tie = c.get-tie.result.now }) here)

pub pins-preserved : goal.pins-preserved
pins-preserved c =
    let here = tied_at c.args.pins.now c.args.pins.now c.args.ties.now c.pins.place c.index-pins-place.result c.get-tie.result.now refl c.pins-test.true c.index-pins-place.is
    (tie_was c.args.pins.now c.args.ties.now c.pins.ties c.args.next c.pins.next c.pins.place c.get-tie.result.now c.pins.invariant c.get-tie.ensures) in
    let wide : c.from-width.result ≡ new_width (record { pin = c.index-pins-place.result; tie = c.get-tie.result.now }) = search rules in
    elim c.if-is_none.branch [
      | then-is_none+in_ok-nets w ↦
          filled_by_new c.args.pins.now c.args.ties.now c.pins.ties c.if-is_none.ties c.args.next c.pins.next c.pins.place c.from-width.result c.index-pins-place.result c.get-tie.result.now
          c.pins.invariant here wide w.in_ok-nets.nets (search rules) (search rules) c.get-tie.ensures (search rules)
      | else-is_none w ↦
          filled_as_is c.args.pins.now c.args.ties.now c.pins.ties c.if-is_none.ties c.args.next c.pins.next c.pins.place c.from-width.result c.index-pins-place.result c.get-tie.result.now
          c.pins.invariant here wide (search rules) c.get-tie.ensures (search rules)
    ]

pub returns : goal.returns
returns c =
    filled_all c.args.pins.now c.args.ties.now c.pins.ties c.args.next c.pins.next c.pins.place c.pins.invariant
    (tied_end c.args.pins.now c.args.pins.now c.args.ties.now c.pins.place refl c.pins-test.false)
    (omega (arith, c.pins-test.false, c.pins.invariant.long, c.requires.together))
