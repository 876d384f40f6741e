-- Lists of the same lengths have entries at the same places.
use Rattle.std.proofs.Common.{◌≡◌, ◌<◌, ◌∙◌, ℕ, true, List, [], ◌∷◌, Some, slice_get, length, sym, ap, arith}
use Rattle.std.specs.Prelude.{is_some}
use Rattle.std.proofs.lemmas.Option.{slice_get_within, slice_get-get_or, unwrap_or-slice_get}
use Rattle.emu_machine.specs.declared.netlist.Chip.{Chip}
use Rattle.emu_machine.specs.Results.{Results, MapFits}
use Rattle.emu_machine.specs.Mapped.{no_chip_map, chip_map}
use Rattle.emu_machine.specs.Readings.{HasEntries, AllAreMapped}

some_there : {X : Type 0} (xs : List X) (k : ℕ) → k < length xs → is_some (slice_get xs k) ≡ true
some_there [] k low = absurd (omega arith)
some_there (x ∷ xs) k low = ap is_some (slice_get-get_or (x ∷ xs) k x low)

entries : (r : Results) (c : ℕ) (chip : Chip) → MapFits r → slice_get r.net c ≡ Some chip → HasEntries chip (chip_map r c)
entries r c chip fits at =
    let low : c < length r.net = slice_get_within r.net c chip at in
    let count = fits.count in
    let there : slice_get r.map.chips c ≡ Some (chip_map r c) = slice_get-get_or r.map.chips c no_chip_map (omega arith) ∙ ap Some (sym (unwrap_or-slice_get r.map.chips c no_chip_map)) in
    let f = fits.chips c chip (chip_map r c) at there in
    record {
      nets = λ k low. some_there (chip_map r c).nets k (omega (arith, f.nets));
      registers = λ k low. some_there (chip_map r c).kept k (omega (arith, f.registers));
      memories = λ m low. some_there (chip_map r c).memories m (omega (arith, f.memories));
      reads = λ m k memory of here beside low. some_there of.kept k (omega (arith, f.reads m memory of here beside));
    }

pub all_mapped : AllAreMapped
all_mapped r c chip fits at = entries r c chip fits at
