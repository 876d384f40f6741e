-- Registers and ports with their terminals.
use Rattle.std.proofs.Common.{◌≡◌, ◌+◌, ◌-◌, ◌*◌, ◌<◌, ◌≤◌, ℕ, zero, suc, Option, Some, List, [], ◌∷◌, ◌++◌, length, take, drop, slice_get, refl, sym, ap, ◌∙◌, subst, append_assoc, arith}
use Rattle.std.specs.Prelude.{IsSome, flat_map, slice_index_or}
use Rattle.std.proofs.Math.Nat.{suc-mul}
use Rattle.std.proofs.lemmas.Bool.{false≢true}
use Rattle.std.proofs.lemmas.List.{append-nil, length-append, length-drop, length-take-le, take_all, take-append-drop}
use Rattle.std.proofs.lemmas.List.Concat.{flat_map-append}
use Rattle.id_arena.specs.declared.keys.ChipNetId.{ChipNetId}
use Rattle.emu_machine.specs.declared.netlist.EmuRead.{EmuRead}
use Rattle.emu_machine.specs.declared.netlist.EmuWrite.{EmuWrite}
use Rattle.netlist_writer.specs.NetlistText.{read_pins, write_pins}
use Rattle.netlist_reader.specs.Netlist.{pins_of_register}
use Rattle.netlist_reader.specs.Cuts.{IsReadCut, IsReadSized, IsWriteCut, IsWriteSized, ReadsSoFar, WritesSoFar, read_size, write_size}
use Rattle.netlist_reader.specs.declared.shape.MemoryShape.{MemoryShape}
use Rattle.netlist_reader.proofs.NumberedLines.{each_more}

pub register_whole : (pins : List ChipNetId) (none : ChipNetId) (d enable : Option ChipNetId) → 0 < length pins → length pins ≤ 3 → d ≡ slice_get pins 1 → enable ≡ slice_get pins 2 → pins_of_register (record { q = slice_index_or pins 0 none; d = d; enable = enable }) ≡ pins
register_whole [] none d enable some few e f = absurd (omega arith)
register_whole (q ∷ []) none d enable some few e f = ap (λ x. pins_of_register (record { q = q; d = x; enable = enable })) e
register_whole (q ∷ p ∷ []) none d enable some few e f =
    ap (λ x. pins_of_register (record { q = q; d = x; enable = enable })) e ∙ ap (λ x. pins_of_register (record { q = q; d = Some p; enable = x })) f
register_whole (q ∷ p ∷ r ∷ []) none d enable some few e f =
    ap (λ x. pins_of_register (record { q = q; d = x; enable = enable })) e ∙ ap (λ x. pins_of_register (record { q = q; d = Some p; enable = x })) f
register_whole (q ∷ p ∷ r ∷ s ∷ rest) none d enable some few e f = absurd (omega arith)

pub register_loaded : (pins : List ChipNetId) (d enable : Option ChipNetId) → d ≡ slice_get pins 1 → enable ≡ slice_get pins 2 → IsSome enable → IsSome d
register_loaded [] d enable e f some = absurd (let no : IsSome (slice_get {X = ChipNetId} [] 2) = subst IsSome f some in false≢true no)
register_loaded (q ∷ []) d enable e f some = absurd (let no : IsSome (slice_get {X = ChipNetId} [] 2) = subst IsSome f some in false≢true no)
register_loaded (q ∷ p ∷ rest) d enable e f some = subst IsSome (sym e) refl

-- Ports, one behind another.

-- there are terminals for one port more
pub enough_left : (left more size : ℕ) → left ≡ more * size → 0 < more → size ≤ left
enough_left left zero size e some = absurd (omega arith)
enough_left left (suc more) size e some = (let product = suc-mul more size in omega arith)

less_left : (left more size : ℕ) → left ≡ (suc more) * size → left - size ≡ more * size
less_left left more size e = (let product = suc-mul more size in omega arith)

pub next_writes : (shape : MemoryShape) (pins left : List ChipNetId) (more : ℕ) (ports pushed : List EmuWrite) (port : EmuWrite) → WritesSoFar shape pins left (suc more) ports → IsWriteCut shape.address_bits (take (write_size shape) left) port → pushed ≡ ports ++ port ∷ [] → WritesSoFar shape pins (drop (write_size shape) left) more pushed
next_writes shape pins left more ports pushed port far cut e =
    let size = far.size in
    let room = enough_left (length left) (suc more) (write_size shape) far.size (omega arith) in
    let front = length-take-le (write_size shape) left room in
    let behind = length-drop (write_size shape) left in
    let product = less_left (length left) more (write_size shape) far.size in
    let whole : length (write_pins port) ≡ length (take (write_size shape) left) = ap length cut.1 in
    let parts = length-append port.address port.feed in
    let address = cut.0 in
    let count = far.count in
    let sizes = length-append ports (port ∷ []) in
    subst (WritesSoFar shape pins (drop (write_size shape) left) more) (sym e) (record {
      count = omega arith;
      split =
          ap (λ ps. ps ++ drop (write_size shape) left) (flat_map-append write_pins ports (port ∷ []))
          ∙ append_assoc (flat_map write_pins ports) (write_pins port ++ []) (drop (write_size shape) left)
          ∙ ap (λ ps. flat_map write_pins ports ++ (ps ++ drop (write_size shape) left)) (append-nil (write_pins port) ∙ cut.1)
          ∙ ap (λ ps. flat_map write_pins ports ++ ps) (take-append-drop (write_size shape) left) ∙ far.split;
      size = omega arith;
      sized = each_more (IsWriteSized shape) ports port far.sized (cut.0, omega arith);
    })

pub next_reads : (shape : MemoryShape) (pins left : List ChipNetId) (more : ℕ) (ports pushed : List EmuRead) (port : EmuRead) → ReadsSoFar shape pins left (suc more) ports → IsReadCut shape.address_bits (take (read_size shape) left) port → pushed ≡ ports ++ port ∷ [] → ReadsSoFar shape pins (drop (read_size shape) left) more pushed
next_reads shape pins left more ports pushed port far cut e =
    let size = far.size in
    let room = enough_left (length left) (suc more) (read_size shape) far.size (omega arith) in
    let front = length-take-le (read_size shape) left room in
    let behind = length-drop (read_size shape) left in
    let product = less_left (length left) more (read_size shape) far.size in
    let whole : length (read_pins port) ≡ length (take (read_size shape) left) = ap length cut.1 in
    let parts = length-append port.address port.bits in
    let address = cut.0 in
    let count = far.count in
    let sizes = length-append ports (port ∷ []) in
    subst (ReadsSoFar shape pins (drop (read_size shape) left) more) (sym e) (record {
      count = omega arith;
      split =
          ap (λ ps. ps ++ drop (read_size shape) left) (flat_map-append read_pins ports (port ∷ []))
          ∙ append_assoc (flat_map read_pins ports) (read_pins port ++ []) (drop (read_size shape) left)
          ∙ ap (λ ps. flat_map read_pins ports ++ (ps ++ drop (read_size shape) left)) (append-nil (read_pins port) ∙ cut.1)
          ∙ ap (λ ps. flat_map read_pins ports ++ ps) (take-append-drop (read_size shape) left) ∙ far.split;
      size = omega arith;
      sized = each_more (IsReadSized shape) ports port far.sized (cut.0, omega arith);
    })

pub writes_taken : (shape : MemoryShape) (pins left : List ChipNetId) (counter size : ℕ) (ports pushed : List EmuWrite) (port : EmuWrite) → counter < shape.writes → size ≡ write_size shape → WritesSoFar shape pins left (shape.writes - counter) ports → IsWriteCut shape.address_bits (take size left) port → pushed ≡ ports ++ port ∷ [] → WritesSoFar shape pins (take (length left - size) (drop size left)) (shape.writes - (counter + 1)) pushed
writes_taken shape pins left counter size ports pushed port below is far cut e =
    let next : shape.writes - counter ≡ suc (shape.writes - (counter + 1)) = omega arith in
    let behind = length-drop size left in
    let rest : take (length left - size) (drop size left) ≡ drop (write_size shape) left =
    take_all (length left - size) (drop size left) (omega arith) ∙ ap (λ n. drop n left) is in
    subst (λ ps. WritesSoFar shape pins ps (shape.writes - (counter + 1)) pushed) (sym rest)
    (next_writes shape pins left (shape.writes - (counter + 1)) ports pushed port (subst (λ n. WritesSoFar shape pins left n ports) next far)
    (subst (λ n. IsWriteCut shape.address_bits (take n left) port) is cut) e)

pub reads_taken : (shape : MemoryShape) (pins left : List ChipNetId) (counter size : ℕ) (ports pushed : List EmuRead) (port : EmuRead) → counter < shape.reads → size ≡ read_size shape → ReadsSoFar shape pins left (shape.reads - counter) ports → IsReadCut shape.address_bits (take size left) port → pushed ≡ ports ++ port ∷ [] → ReadsSoFar shape pins (take (length left - size) (drop size left)) (shape.reads - (counter + 1)) pushed
reads_taken shape pins left counter size ports pushed port below is far cut e =
    let next : shape.reads - counter ≡ suc (shape.reads - (counter + 1)) = omega arith in
    let behind = length-drop size left in
    let rest : take (length left - size) (drop size left) ≡ drop (read_size shape) left =
    take_all (length left - size) (drop size left) (omega arith) ∙ ap (λ n. drop n left) is in
    subst (λ ps. ReadsSoFar shape pins ps (shape.reads - (counter + 1)) pushed) (sym rest)
    (next_reads shape pins left (shape.reads - (counter + 1)) ports pushed port (subst (λ n. ReadsSoFar shape pins left n ports) next far)
    (subst (λ n. IsReadCut shape.address_bits (take n left) port) is cut) e)
