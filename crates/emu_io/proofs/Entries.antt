-- The entries of a map as the bytes that are held under each name.
use Rattle.std.proofs.Common.{◌≡◌, ℕ, Bool, true, false, List, Some, refl, sym}
use Rattle.std.specs.Bool.{Decides}
use Rattle.std.specs.BTreeMap.{BTreeMap, Updates, is_at}
use Rattle.std.specs.Cmp.Lexicographic.{slice_cmp}
use Rattle.std.specs.Ordering.{nat_cmp}
use Rattle.std.proofs.lemmas.Map.Text.{is_eq-slice_cmp}
use Rattle.std.proofs.lemmas.Slice.Eq.{bytes_eq-Decides}
use Rattle.emu_io.specs.Files.{Sets}
use Rattle.emu_io.specs.MemFiles.{held_in}

false_from_Decides : {P : Type 0} → (b : Bool) → Decides b P → (P → ⊥) → b ≡ false
false_from_Decides true told fails = absurd (fails (told.0 refl))
false_from_Decides false told fails = refl

-- the search for a name passes over every other
passes_over : (name other : List ℕ) → (other ≡ name → ⊥) → is_at (slice_cmp nat_cmp name) other ≡ false
passes_over name other differs =
    rw is_eq-slice_cmp (false_from_Decides _ (bytes_eq-Decides name other) (λ same. differs (sym same)))

-- of a map with the entries `old`, an insertion sets the name, and no other
pub added : (m n : BTreeMap (List ℕ) (List ℕ)) (old : List (List ℕ × List ℕ)) (name bytes key value : List ℕ)
    → m.entries ≡ old → key ≡ name → value ≡ bytes → Updates (slice_cmp nat_cmp) m n key (Some value)
    → Sets (held_in old) name (Some bytes) (held_in n.entries)
added m n old name bytes key value same_entries same_name same_bytes updates =
    rw (← same_entries, ← same_name, ← same_bytes) (record {
      here = updates.1;
      others = λ other differs. updates.2 other (passes_over key other differs);
    })
