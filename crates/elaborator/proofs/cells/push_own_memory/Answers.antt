use Rattle.std.proofs.Common.{◌≡◌, ◌∙◌, List, [], ◌∷◌, ◌++◌, OnOk, ap, subst, sym}
use Rattle.cell_parts.specs.CellElements.{cell_memories}
use Rattle.design_core.specs.declared.element.Memory.{Memory}
use Rattle.flattening.specs.Pieces.{joined, nothing}
use Rattle.elaborator.proofs.CellMemories.{only_memory, sound_bits}
use Rattle.elaborator.proofs.cells.push_own_memory.Goals as goal

pub push_memory-requires-in-Some-clause-bits : goal.push_memory-requires-in-Some-clause-bits
push_memory-requires-in-Some-clause-bits c =
    let all = sym (c.in_ok-push_memory.ensures ∙ ap (λ (l : List Memory). l ++ cell_memories c.args.wires.now c.args.kind.now) c.new-memories.ensures) ∙ c.in-Some.ensures in
    sound_bits c.args.wires.now c.args.kind.now c.in-Some.memory c.requires.sound (only_memory c.args.wires.now c.args.kind.now c.in-Some.memory c.pop.new.self all)

pub returns : goal.returns
returns c =
    let all = sym (c.in_ok-push_memory.ensures ∙ ap (λ (l : List Memory). l ++ cell_memories c.args.wires.now c.args.kind.now) c.new-memories.ensures) ∙ c.in-Some.ensures in
    subst (λ (l : List Memory). OnOk c.push_memory-in-Some.result (c.push_memory-in-Some.new.self ≡ joined c.args.making.now (record nothing { memories = l })))
    (sym (only_memory c.args.wires.now c.args.kind.now c.in-Some.memory c.pop.new.self all)) c.push_memory-in-Some.ensures
