-- The memories are taken in order.
use Rattle.std.proofs.Common.{◌≡◌, ◌≤◌, ◌∙◌, [], ◌∷◌, sym, length, subst, arith, refl, List, ℕ, ◌<◌, get_or, ap, false}
use Rattle.std.specs.Prelude.{Some, slice_get}
use Rattle.std.proofs.lemmas.Option.{slice_get_read}
use Rattle.id_arena.specs.declared.keys.MemId.{MemId}
use Rattle.emu_machine.specs.declared.netlist.EmuMemory.{EmuMemory}
use Rattle.emu_machine.specs.declared.place.Place.TheVariants as place
use Rattle.emu_machine.specs.Acceptance.{FailsA7, mapped_memory_fits}
use Rattle.emu_machine.specs.Netlist.{chip_at}
use Rattle.use_check.specs.Least.{IsLeastUnder}
use Rattle.shape_check.proofs.Parts.{longer, memory_fails, memory_passes, past_memories, small_memory}
use Rattle.use_check.proofs.Walk.{found, more, nowhere}
use Rattle.shape_check.proofs.fitting.find_memory.Goals as goal

element : (xs ys : List EmuMemory) (k : ℕ) (x : EmuMemory) → xs ≡ ys → k < length xs → x ≡ get_or xs k x → slice_get ys k ≡ Some x
element xs ys k x same low is = subst (λ (zs : List EmuMemory). slice_get zs k ≡ Some x) same (slice_get_read xs (length xs) k x refl low is)

pub memory_fits-requires : goal.memory_fits-requires
memory_fits-requires c =
    small_memory c.args.case.now.results.net c.args.chip.place c.each.k c.index-memories-k.result c.stands.ensures.netlist
    (element c.args.memories.now _ c.each.k c.index-memories-k.result c.requires.memories c.each-test.true c.index-memories-k.is)

pub returns-then-not-memory_fits : goal.returns-then-not-memory_fits
returns-then-not-memory_fits c =
    let same : c.of.result.place ≡ c.each.k = ap (λ (x : MemId). x.place) c.of.ensures in
    found (FailsA7 c.args.case.now) (c.args.chip.place ∷ 2 ∷ []) (longer c.args.case.now 2 (omega arith)) c.each.k (place.Memory c.args.chip c.of.result) c.each.invariant
    (subst (λ (k : ℕ). IsLeastUnder (FailsA7 c.args.case.now) (c.args.chip.place ∷ 2 ∷ k ∷ []) (Some (place.Memory c.args.chip c.of.result))) same
    (memory_fails c.args.case.now c.args.chip c.of.result c.index-memories-k.result
    (subst (λ (k : ℕ). slice_get (chip_at c.args.case.now.results.net c.args.chip.place).memories k ≡ Some c.index-memories-k.result) (sym same) (element c.args.memories.now _ c.each.k c.index-memories-k.result c.requires.memories c.each-test.true c.index-memories-k.is))
    (subst (λ (k : ℕ). mapped_memory_fits c.args.case.now c.args.chip.place k c.index-memories-k.result ≡ false) (sym same) (sym c.memory_fits.ensures ∙ c.if-not-memory_fits.true))))

pub each-preserved : goal.each-preserved
each-preserved c =
    more (FailsA7 c.args.case.now) (c.args.chip.place ∷ 2 ∷ []) c.each.k _ c.each.invariant
    (memory_passes c.args.case.now c.args.chip.place c.each.k c.index-memories-k.result
    (element c.args.memories.now _ c.each.k c.index-memories-k.result c.requires.memories c.each-test.true c.index-memories-k.is)
    (sym c.memory_fits.ensures ∙ c.if-not-memory_fits.false))
    refl

pub returns : goal.returns
returns c =
    nowhere (FailsA7 c.args.case.now) (c.args.chip.place ∷ 2 ∷ []) (longer c.args.case.now 2 (omega arith)) c.each.k c.each.invariant
    (λ j high. past_memories c.args.case.now c.args.chip.place j (subst (λ (xs : List EmuMemory). length xs ≤ j) c.requires.memories (omega (arith, high, c.each-test.false))))
