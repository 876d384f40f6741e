-- The originals of memories, as they are looked up.
use Rattle.std.proofs.Common.{◌≡◌, ℕ, [], length, refl, sym, ap, ◌∙◌}
use Rattle.std.specs.Prelude.{Option, Some, None, slice_get, option_map}
use Rattle.std.specs.Option.{option_map_or}
use Rattle.id_arena.specs.declared.keys.MemId.{MemId}
use Rattle.design_core.specs.declared.element.Memory.{Memory}
use Rattle.design_core.specs.declared.parts.Parts.{Parts}
use Rattle.design_core.specs.Dependency.{write_nodes}
use Rattle.emu_machine.specs.declared.map.MemMap.{MemMap}
use Rattle.emu_machine.specs.Results.{Results}
use Rattle.emu_machine.specs.Mapped.{chip_map, memory_of}
use Rattle.emu_machine.specs.Marks.{design_writes, writes_of}
use Rattle.frame_marks.proofs.Starting.{node_count}

module _ (p : Parts) (r : Results) (c m : ℕ) where
  abbrev entry_of : Option MemMap
  entry_of = slice_get (chip_map r c).memories m

  abbrev named : Option MemId
  named = option_map (λ entry. entry.of) entry_of

  place_of : (o : Option MemMap) → option_map (λ (entry : MemMap). entry.of.place) o ≡ option_map (λ (of : MemId). of.place) (option_map (λ (entry : MemMap). entry.of) o)
  place_of None = refl
  place_of (Some entry) = refl

  memory_named : (o : Option MemId) → named ≡ o → memory_of r c m ≡ option_map (λ (of : MemId). of.place) o
  memory_named o is = place_of entry_of ∙ ap (option_map (λ (of : MemId). of.place)) is

  pub writes_are : (of : MemId) (memory : Memory) → named ≡ Some of → slice_get p.memories of.place ≡ Some memory → writes_of p r c m ≡ write_nodes of memory
  writes_are of memory is at =
      ap (λ o. option_map_or (design_writes p) o []) (memory_named (Some of) is)
      ∙ ap (λ o. option_map_or (λ (one : Memory). write_nodes of one) o []) at

  pub count_is : (of : MemId) (memory : Memory) → named ≡ Some of → slice_get p.memories of.place ≡ Some memory → (count : ℕ) → count ≡ length memory.writes → count ≡ length (writes_of p r c m)
  count_is of memory is at count counts =
      counts ∙ sym (node_count of memory) ∙ sym (ap length (writes_are of memory is at))
