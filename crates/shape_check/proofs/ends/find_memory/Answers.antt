-- The memories are taken in order.
use Rattle.std.proofs.Common.{◌≡◌, ◌<◌, ◌≤◌, [], ◌∷◌, sym, length, subst, arith, refl, List, ℕ, ap, get_or}
use Rattle.std.specs.Prelude.{Some, None, slice_get}
use Rattle.std.proofs.lemmas.Option.{slice_get_read}
use Rattle.id_arena.specs.declared.keys.MemId.{MemId}
use Rattle.emu_machine.specs.declared.netlist.EmuMemory.{EmuMemory}
use Rattle.emu_machine.specs.Acceptance.{Case}
use Rattle.emu_machine.specs.Building.{IsBuilt}
use Rattle.emu_machine.specs.Netlist.{chip_at}
use Rattle.shape_check.specs.Ends.{EndFails}
use Rattle.shape_check.specs.Ports.{IsSmall}
use Rattle.use_check.specs.Least.{IsLeastUnder}
use Rattle.use_check.proofs.Walk.{found_in, more, nowhere}
use Rattle.shape_check.proofs.Finishing.{longer, past_memories}
use Rattle.shape_check.proofs.Parts.{small_memory}
use Rattle.shape_check.proofs.ends.find_memory.Goals as goal

element : (xs ys : List EmuMemory) (k : ℕ) (x : EmuMemory) → xs ≡ ys → k < length xs → x ≡ get_or xs k x → slice_get ys k ≡ Some x
element xs ys k x same low is = subst (λ (zs : List EmuMemory). slice_get zs k ≡ Some x) same (slice_get_read xs (length xs) k x refl low is)

pub find_in_memory-requires : goal.find_in_memory-requires
find_in_memory-requires c =
    let at : slice_get (chip_at c.args.end.now.judged.results.net c.args.chip.place).memories c.each.k ≡ Some c.index-memories-k.result =
    element c.args.memories.now _ c.each.k c.index-memories-k.result c.requires.memories c.each-test.true c.index-memories-k.is in
    let small : IsSmall c.index-memories-k.result =
    small_memory c.args.end.now.judged.results.net c.args.chip.place c.each.k c.index-memories-k.result (subst (λ (x : Case). IsBuilt x.results.net) c.case.ensures c.stands.ensures.netlist) at in
    record {
      there = subst (λ (i : ℕ). slice_get (chip_at c.args.end.now.judged.results.net c.args.chip.place).memories i ≡ Some c.index-memories-k.result) (sym (ap (λ (x : MemId). x.place) c.of.ensures)) at;
      few = omega (arith, small.ports);
    }

pub returns-in-Some : goal.returns-in-Some
returns-in-Some c =
    found_in (EndFails c.args.end.now) (c.args.end.now.frame ∷ c.args.chip.place ∷ 1 ∷ []) (longer c.args.end.now 3 (omega arith)) c.each.k c.find_in_memory.result _ c.each.invariant
    (subst (λ (k : ℕ). IsLeastUnder (EndFails c.args.end.now) (c.args.end.now.frame ∷ c.args.chip.place ∷ 1 ∷ k ∷ []) c.find_in_memory.result) (ap (λ (x : MemId). x.place) c.of.ensures) c.find_in_memory.ensures)
    c.in-Some.is

pub each-preserved : goal.each-preserved
each-preserved c =
    more (EndFails c.args.end.now) (c.args.end.now.frame ∷ c.args.chip.place ∷ 1 ∷ []) c.each.k _ c.each.invariant
    (subst (λ (k : ℕ). IsLeastUnder (EndFails c.args.end.now) (c.args.end.now.frame ∷ c.args.chip.place ∷ 1 ∷ k ∷ []) None) (ap (λ (x : MemId). x.place) c.of.ensures) c.in_default.ensures)
    refl

pub returns : goal.returns
returns c =
    nowhere (EndFails c.args.end.now) (c.args.end.now.frame ∷ c.args.chip.place ∷ 1 ∷ []) (longer c.args.end.now 3 (omega arith)) c.each.k c.each.invariant
    (λ j high. past_memories c.args.end.now c.args.chip.place j (subst (λ (xs : List EmuMemory). length xs ≤ j) c.requires.memories (omega (arith, high, c.each-test.false))))
