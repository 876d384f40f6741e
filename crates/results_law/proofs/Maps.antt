-- Printed maps are read back.
use Rattle.std.proofs.Common.{◌≡◌, ◌≤◌, ◌+◌, ◌⊎◌, inl, inr, ℕ, zero, suc, Bool, true, false, List, [], ◌∷◌, Some, length, slice_get, refl, sym, ap, ◌∙◌, subst, arith}
use Rattle.std.specs.Prelude.{IsUtf8, codes, map, if◌then◌else◌}
use Rattle.std.specs.List.{list_any, zip}
use Rattle.std.proofs.lemmas.Bool.{or_parts}
use Rattle.std.proofs.lemmas.List.{length-map}
use Rattle.json.proofs.Printed.Utf8.{IsUtf8-are_ascii}
use Rattle.serde_json.specs.Data.{Data, boolean}
use Rattle.serde_json.specs.Read.{max_depth}
use Rattle.emu_machine.specs.declared.map.ChipMap.{ChipMap}
use Rattle.emu_machine.specs.declared.map.MemMap.{MemMap}
use Rattle.emu_machine.specs.declared.map.Spot.{Spot}
use Rattle.emu_machine.specs.declared.map.StateMap.{StateMap}
use Rattle.emu_machine.specs.declared.map.Subject.{Subject}
use Rattle.emu_machine.specs.declared.map.Subject.TheVariants.{Net, Up, Down, Take, Next, TakeWrite, Old, TakeRead}
use Rattle.emu_machine.specs.declared.netlist.Chip.{Chip}
use Rattle.emu_machine.specs.Results.{ChipEntryFits}
use Rattle.result_files.specs.Trees.{list, whole, IsWord}
use Rattle.result_files.specs.Lists.{SayEach}
use Rattle.result_files.specs.Map.{IsEntryTree, IsKeptTree, IsMemoryTree, IsSpotTree, IsSubjectTree, SaysEntry, has_clocked, spot_tree, subject_row}
use Rattle.result_files.specs.Printed.{AreAll, entry_tree, map_tree, map_version, memory_tree, subject_tree}
use Rattle.results_law.specs.ReadBack.{EntryFits, IsMapOf, MapFits, MapsReadBack, MemoryFits, SpotFits, SubjectFits}
use Rattle.results_law.proofs.Schedules.{list_said, row_back}
use Rattle.results_law.proofs.Trees.{IsBack, all_mapped, kept_back, line_reads, line_utf8, list_back, three_back, two_back, whole_back, wider}

subject_named : (subject : Subject) → IsUtf8 (subject_row subject).0
subject_named (Net n) = IsUtf8-are_ascii (codes "net") refl
subject_named (Up n) = IsUtf8-are_ascii (codes "up") refl
subject_named (Down n) = IsUtf8-are_ascii (codes "down") refl
subject_named (Take e) = IsUtf8-are_ascii (codes "take") refl
subject_named (Next e) = IsUtf8-are_ascii (codes "next") refl
subject_named (TakeWrite m p) = IsUtf8-are_ascii (codes "takew") refl
subject_named (Old m p b) = IsUtf8-are_ascii (codes "old") refl
subject_named (TakeRead m p) = IsUtf8-are_ascii (codes "taker") refl

memory_back : (memory : MemMap) → MemoryFits memory → IsBack 2 (memory_tree memory)
unfolding memory_tree
memory_back memory fits =
    two_back 1 (codes "of") (codes "reads") (whole memory.of.place) (list (map boolean memory.kept)) refl (IsUtf8-are_ascii (codes "of") refl) (IsUtf8-are_ascii (codes "reads") refl)
    (wider 0 1 (whole memory.of.place) (omega arith) (whole_back memory.of.place fits.of))
    (list_back 0 (map boolean memory.kept) (all_mapped boolean 0 memory.kept (λ k b e. kept_back b)))

entry_back : (entry : ChipMap) → EntryFits entry → IsBack 4 (entry_tree entry)
unfolding entry_tree
entry_back entry fits =
    three_back 3 (codes "memories") (codes "nets") (codes "registers") (list (map memory_tree entry.memories)) (list (map subject_tree entry.nets)) (list (map boolean entry.kept)) refl
    (IsUtf8-are_ascii (codes "memories") refl) (IsUtf8-are_ascii (codes "nets") refl) (IsUtf8-are_ascii (codes "registers") refl)
    (list_back 2 (map memory_tree entry.memories) (all_mapped memory_tree 2 entry.memories (λ k m e. memory_back m (fits.memories k m e))))
    (wider 2 3 (list (map subject_tree entry.nets)) (omega arith) (list_back 1 (map subject_tree entry.nets) (all_mapped subject_tree 1 entry.nets (λ k s e. row_back (subject_row s) (subject_named s) (fits.nets k s e)))))
    (wider 1 3 (list (map boolean entry.kept)) (omega arith) (list_back 0 (map boolean entry.kept) (all_mapped boolean 0 entry.kept (λ k b e. kept_back b))))

spot_back : (spot : Spot) → SpotFits spot → IsBack 1 (spot_tree spot)
spot_back spot fits = list_back 0 (whole spot.chip.place ∷ whole spot.net.place ∷ []) (whole_back spot.chip.place fits.chip, (whole_back spot.net.place fits.net, tt))

memory_said : (memory : MemMap) → MemoryFits memory → IsMemoryTree (memory_tree memory) memory
unfolding memory_tree
memory_said memory fits = record {
  of = refl;
  of_fits = fits.of;
  reads = record { member = list (map boolean memory.kept); there = refl; is = list_said boolean IsKeptTree memory.kept fits.few (λ k b e. refl) };
}

entry_said : (entry : ChipMap) → EntryFits entry → IsEntryTree (entry_tree entry) entry
unfolding entry_tree
entry_said entry fits = record {
  nets = record { member = list (map subject_tree entry.nets); there = refl; is = list_said subject_tree IsSubjectTree entry.nets fits.few_nets (λ k s e. record { tree_is = refl; fit = fits.nets k s e }) };
  registers = record { member = list (map boolean entry.kept); there = refl; is = list_said boolean IsKeptTree entry.kept fits.few_registers (λ k b e. refl) };
  memories = record { member = list (map memory_tree entry.memories); there = refl; is = list_said memory_tree IsMemoryTree entry.memories fits.few_memories (λ k m e. memory_said m (fits.memories k m e)) };
}

-- each chip's tree says its entry
entries_said : (version : ℕ) (chips : List Chip) (entries : List ChipMap) → length entries ≡ length chips → AreAll EntryFits entries
    → ((c : ℕ) (chip : Chip) (entry : ChipMap) → slice_get chips c ≡ Some chip → slice_get entries c ≡ Some entry → ChipEntryFits chip entry)
    → (version ≡ 1 → (c : ℕ) (entry : ChipMap) → slice_get entries c ≡ Some entry → has_clocked entry ≡ false)
    → SayEach (SaysEntry version) (zip chips (map entry_tree entries)) entries
entries_said version [] [] size fits counts plain = tt
entries_said version [] (x ∷ xs) size fits counts plain = absurd (omega arith)
entries_said version (c ∷ cs) [] size fits counts plain = absurd (omega arith)
entries_said version (c ∷ cs) (x ∷ xs) size fits counts plain = (
  record { form = entry_said x (fits 0 x refl); fits = record { counts = counts 0 c x refl refl; plain = λ e. plain e 0 x refl } },
  entries_said version cs xs (omega arith) (λ k y e. fits (suc k) y e) (λ k d y e f. counts (suc k) d y e f) (λ e k y f. plain e (suc k) y f),
)

-- where none of the entries has a clocked subject, each has none
none_clocked : (xs : List ChipMap) → list_any has_clocked xs ≡ false → (c : ℕ) (entry : ChipMap) → slice_get xs c ≡ Some entry → has_clocked entry ≡ false
none_clocked [] none c entry e = cc
none_clocked (x ∷ xs) none zero entry e = (let parts = or_parts (has_clocked x) (list_any has_clocked xs) none in let same : x ≡ entry = cc in subst (λ y. has_clocked y ≡ false) same parts.0)
none_clocked (x ∷ xs) none (suc c) entry e = (let parts = or_parts (has_clocked x) (list_any has_clocked xs) none in none_clocked xs parts.1 c entry e)

module _ (m : StateMap) where
  either : (map_version m ≡ 1) ⊎ (map_version m ≡ 2)
  either = go (list_any has_clocked m.chips)
    where
      go : (b : Bool) → (◌≡◌ {A = ℕ} (if b then 2 else 1) 1) ⊎ (◌≡◌ {A = ℕ} (if b then 2 else 1) 2)
      go true = inr refl
      go false = inl refl

  plain : map_version m ≡ 1 → list_any has_clocked m.chips ≡ false
  plain = go (list_any has_clocked m.chips)
    where
      go : (b : Bool) → ◌≡◌ {A = ℕ} (if b then 2 else 1) 1 → b ≡ false
      go true e = absurd (omega arith)
      go false e = refl

  version_word : IsWord (map_version m)
  version_word = go (list_any has_clocked m.chips)
    where
      go : (b : Bool) → IsWord (if b then 2 else 1)
      go true = omega arith
      go false = omega arith

  map_back : MapFits m → IsBack 6 (map_tree m)
  unfolding map_tree
  map_back fits =
      three_back 5 (codes "chips") (codes "outputs") (codes "version") (list (map entry_tree m.chips)) (list (map spot_tree m.outputs)) (whole (map_version m)) refl
      (IsUtf8-are_ascii (codes "chips") refl) (IsUtf8-are_ascii (codes "outputs") refl) (IsUtf8-are_ascii (codes "version") refl)
      (list_back 4 (map entry_tree m.chips) (all_mapped entry_tree 4 m.chips (λ k x e. entry_back x (fits.chips k x e))))
      (wider 2 5 (list (map spot_tree m.outputs)) (omega arith) (list_back 1 (map spot_tree m.outputs) (all_mapped spot_tree 1 m.outputs (λ k s e. spot_back s (fits.outputs k s e)))))
      (wider 0 5 (whole (map_version m)) (omega arith) (whole_back (map_version m) version_word))

pub maps_back : MapsReadBack
unfolding map_tree
maps_back chips m fits of =
    let back = map_back m fits in
    record {
      tree = map_tree m;
      text = record {
        utf8 = line_utf8 (map_tree m) 6 back;
        reads = line_reads (map_tree m) (wider 6 max_depth (map_tree m) (omega arith) back);
      };
      version = map_version m;
      version_is = record { member = refl; either = either m };
      form = record {
        trees = map entry_tree m.chips;
        entries = record { there = refl; few = (let size = length-map m.chips entry_tree in let few = fits.few_chips in omega arith) };
        count = length-map m.chips entry_tree ∙ of.count;
        each = entries_said (map_version m) chips m.chips of.count fits.chips of.entries (λ e. none_clocked m.chips (plain m e));
        outputs = record {
          member = list (map spot_tree m.outputs);
          there = refl;
          is = list_said spot_tree IsSpotTree m.outputs fits.few_outputs (λ k s e. record { tree_is = refl; chip_fits = (fits.outputs k s e).chip; net_fits = (fits.outputs k s e).net });
        };
        exist = of.outputs;
      };
    }
