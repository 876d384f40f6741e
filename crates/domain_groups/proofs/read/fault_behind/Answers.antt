use Rattle.std.proofs.Common.{◌≡◌, ◌∙◌, false, sym, ap, arith, length}
use Rattle.std.specs.Prelude.{if◌then◌else◌, ◌==◌, Some, None}
use Rattle.domain_groups.specs.declared.fault.GroupFault.TheVariants.{PortTwice}
use Rattle.domain_groups.specs.Judged.{is_taken, ports_of}
use Rattle.domain_groups.proofs.Faulty.{not_empty, unknown_port, known_ports}
use Rattle.domain_groups.proofs.read.fault_behind.Goals as goal

pub returns-then-places-len-clause-fault : goal.returns-then-places-len-clause-fault
returns-then-places-len-clause-fault c =
    let taken : is_taken c.args.earlier.now c.args.group.now.name ≡ false = ap (is_taken c.args.earlier.now) (sym c.bytes.ensures) ∙ sym c.is_taken.ensures ∙ c.if-is_taken.false in
    let some : (length c.args.group.now.ports == 0) ≡ false = not_empty c.args.group.now.ports c.is_empty.result c.is_empty.ensures c.if-is_empty.false in
    let size = c.len.ensures in
    unknown_port c.args.ports.now c.args.earlier.now c.args.group.now c.args.places.now c.requires.named taken some (omega arith)

pub returns-then-some_earlier-clause-fault : goal.returns-then-some_earlier-clause-fault
returns-then-some_earlier-clause-fault c =
    let taken : is_taken c.args.earlier.now c.args.group.now.name ≡ false = ap (is_taken c.args.earlier.now) (sym c.bytes.ensures) ∙ sym c.is_taken.ensures ∙ c.if-is_taken.false in
    let some : (length c.args.group.now.ports == 0) ≡ false = not_empty c.args.group.now.ports c.is_empty.result c.is_empty.ensures c.if-is_empty.false in
    let size = c.len.ensures in
    ap (λ b. if b then Some (PortTwice (length c.args.earlier.now)) else None) (sym c.if-some_earlier.true)
    ∙ known_ports c.args.ports.now c.args.earlier.now c.args.group.now c.args.places.now c.requires.named taken some (omega arith) c.some_earlier.result
    (c.some_earlier.ensures.found (ports_of c.args.ports.now c.args.earlier.now) c.requires.marks)

pub returns-clause-fault : goal.returns-clause-fault
returns-clause-fault c =
    let taken : is_taken c.args.earlier.now c.args.group.now.name ≡ false = ap (is_taken c.args.earlier.now) (sym c.bytes.ensures) ∙ sym c.is_taken.ensures ∙ c.if-is_taken.false in
    let some : (length c.args.group.now.ports == 0) ≡ false = not_empty c.args.group.now.ports c.is_empty.result c.is_empty.ensures c.if-is_empty.false in
    let size = c.len.ensures in
    ap (λ b. if b then Some (PortTwice (length c.args.earlier.now)) else None) (sym c.if-some_earlier.false)
    ∙ known_ports c.args.ports.now c.args.earlier.now c.args.group.now c.args.places.now c.requires.named taken some (omega arith) c.some_earlier.result
    (c.some_earlier.ensures.found (ports_of c.args.ports.now c.args.earlier.now) c.requires.marks)
