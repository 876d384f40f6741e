-- The lines of memories.
use Rattle.std.proofs.Common.{◌≡◌, ◌+◌, ◌*◌, ◌<◌, ◌^◌, ℕ, zero, suc, Some, None, List, [], ◌∷◌, ◌++◌, length, take, drop, slice_get, refl, sym, ap, ◌∙◌, subst, append_assoc, arith}
use Rattle.std.specs.Prelude.{codes, flat_map}
use Rattle.std.proofs.Math.Nat.{suc-mul}
use Rattle.std.proofs.lemmas.List.{length-append, length-drop, length-take-le, take-append-drop}
use Rattle.std.proofs.lemmas.Option.{same_Some}
use Rattle.token_words.specs.Word.{Word, name}
use Rattle.id_arena.specs.declared.keys.ChipNetId.{ChipNetId}
use Rattle.emu_machine.specs.declared.netlist.EmuMemory.{EmuMemory}
use Rattle.emu_machine.specs.declared.netlist.EmuRead.{EmuRead}
use Rattle.emu_machine.specs.declared.netlist.EmuWrite.{EmuWrite}
use Rattle.emu_machine.specs.Building.{AreNetsOf, IsMemoryOf}
use Rattle.netlist_writer.specs.NetlistText.{memory_form, memory_pins, read_pins, write_pins}
use Rattle.netlist_reader.specs.Netlist.{Each, memory_words, pin_words}
use Rattle.netlist_reader.specs.Inside.{ArePins, AreApart, Begins, EachBegins, IsRoom}
use Rattle.netlist_reader.specs.Cuts.{IsCut, IsReadSized, IsWriteSized, pin_count, read_size, write_size}
use Rattle.netlist_reader.specs.Forms.{IsMemoryFirst, IsPossible, ShowsMemory, TellsMemory, TellsName, memory_text}
use Rattle.netlist_reader.specs.declared.pins.Room.{Room}
use Rattle.netlist_reader.specs.declared.shape.MemoryShape.{MemoryShape}
use Rattle.netlist_reader.proofs.ItemLines.{first_word, form_holds, line_whole, more_below, same_pins}
use Rattle.netlist_reader.proofs.MemoryNames.{same_form}
use Rattle.netlist_reader.proofs.NumberedLines.{each_head, each_tail}
use Rattle.netlist_reader.proofs.Stucks.{Holds}
use Rattle.netlist_reader.proofs.Terminals.{join_below, tail_below}

-- Nets of parts.

left_below : (nets : ℕ) (ms ns : List ChipNetId) → AreNetsOf nets (ms ++ ns) → AreNetsOf nets ms
left_below nets [] ns all k m e = absurd (no_item k m e)
  where
    no_item : (j : ℕ) (n : ChipNetId) → slice_get {X = ChipNetId} [] j ≡ Some n → ⊥
    no_item j n f = cc
left_below nets (x ∷ ms) ns all zero m e = all 0 m e
left_below nets (x ∷ ms) ns all (suc k) m e = left_below nets ms ns (tail_below nets x (ms ++ ns) all) k m e

right_below : (nets : ℕ) (ms ns : List ChipNetId) → AreNetsOf nets (ms ++ ns) → AreNetsOf nets ns
right_below nets [] ns all = λ k m e. all k m e
right_below nets (x ∷ ms) ns all = right_below nets ms ns (tail_below nets x (ms ++ ns) all)

-- the terminals of one port
port_below : {P : Type 0} (pins : P → List ChipNetId) (nets : ℕ) (ports : List P) (k : ℕ) (port : P) → AreNetsOf nets (flat_map pins ports) → slice_get ports k ≡ Some port → AreNetsOf nets (pins port)
port_below {P = P} pins nets [] k port all e = absurd (no_port k e)
  where
    no_port : (j : ℕ) → slice_get {X = P} [] j ≡ Some port → ⊥
    no_port j f = cc
port_below pins nets (p ∷ ports) zero port all e = subst (λ q. AreNetsOf nets (pins q)) (same_Some p port e) (left_below nets (pins p) (flat_map pins ports) all)
port_below pins nets (p ∷ ports) (suc k) port all e = port_below pins nets ports k port (right_below nets (pins p) (flat_map pins ports) all) e

ports_below : {P : Type 0} (pins : P → List ChipNetId) (nets : ℕ) (ports : List P) → Each (λ p. AreNetsOf nets (pins p)) ports → AreNetsOf nets (flat_map pins ports)
ports_below pins nets [] each k m e = absurd (no_item k m e)
  where
    no_item : (j : ℕ) (n : ChipNetId) → slice_get {X = ChipNetId} [] j ≡ Some n → ⊥
    no_item j n f = cc
ports_below pins nets (p ∷ ports) each k m e =
    join_below nets (pins p) (flat_map pins ports) (each_head (λ q. AreNetsOf nets (pins q)) p ports each) (ports_below pins nets ports (each_tail (λ q. AreNetsOf nets (pins q)) p ports each)) k m e

-- Sizes.

sizes_are : {P : Type 0} (pins : P → List ChipNetId) (size : ℕ) (ports : List P) → Each (λ p. length (pins p) ≡ size) ports → length (flat_map pins ports) ≡ length ports * size
sizes_are pins size [] each = omega arith
sizes_are pins size (p ∷ ports) each =
    let head = each_head (λ q. length (pins q) ≡ size) p ports each in
    let rest = sizes_are pins size ports (each_tail (λ q. length (pins q) ≡ size) p ports each) in
    let parts = length-append (pins p) (flat_map pins ports) in
    let product = suc-mul (length ports) size in
    omega arith

write_length : (shape : MemoryShape) (port : EmuWrite) → IsWriteSized shape port → length (write_pins port) ≡ write_size shape
write_length shape port sized = (let a = sized.0 in let b = sized.1 in let parts = length-append port.address port.feed in omega arith)

read_length : (shape : MemoryShape) (port : EmuRead) → IsReadSized shape port → length (read_pins port) ≡ read_size shape
read_length shape port sized = (let a = sized.0 in let b = sized.1 in let parts = length-append port.address port.bits in omega arith)

pins_length : (shape : MemoryShape) (memory : EmuMemory) → length memory.writes ≡ shape.writes → length memory.reads ≡ shape.reads → Each (IsWriteSized shape) memory.writes → Each (IsReadSized shape) memory.reads → length (memory_pins memory) ≡ pin_count shape
pins_length shape memory ws rs writes reads =
    let first = sizes_are write_pins (write_size shape) memory.writes (λ k p e. write_length shape p (writes k p e)) in
    let second = sizes_are read_pins (read_size shape) memory.reads (λ k p e. read_length shape p (reads k p e)) in
    length-append (flat_map write_pins memory.writes) (flat_map read_pins memory.reads)
    ∙ ap (λ n. n + length (flat_map read_pins memory.reads)) (first ∙ ap (λ n. n * write_size shape) ws)
    ∙ ap (λ n. shape.writes * write_size shape + n) (second ∙ ap (λ n. n * read_size shape) rs)

-- Some memory has given terminals.

each_none : {P : Type 0} (Is : P → Type 0) → Each Is []
each_none {P = P} Is = λ k p e. absurd (no_port k p e)
  where
    no_port : (j : ℕ) (q : P) → slice_get {X = P} [] j ≡ Some q → ⊥
    no_port j q f = cc

pub each_one_more : {P : Type 0} (Is : P → Type 0) (p : P) (ports : List P) → Is p → Each Is ports → Each Is (p ∷ ports)
each_one_more Is p ports is each zero q e = subst Is (same_Some p q e) is
each_one_more Is p ports is each (suc k) q e = each k q e

write_from : (shape : MemoryShape) (ns : List ChipNetId) → length ns ≡ write_size shape → (port : EmuWrite) × (write_pins port ≡ ns) × IsWriteSized shape port
write_from shape [] size = absurd (omega arith)
write_from shape (n ∷ ns) size =
    let first = length-take-le shape.address_bits ns (omega arith) in
    let second = length-drop shape.address_bits ns in (
      record { enable = n; address = take shape.address_bits ns; feed = drop shape.address_bits ns },
      ap (λ xs. n ∷ xs) (take-append-drop shape.address_bits ns),
      (first, omega arith),
    )

read_from : (shape : MemoryShape) (ns : List ChipNetId) → length ns ≡ read_size shape → (port : EmuRead) × (read_pins port ≡ ns) × IsReadSized shape port
read_from shape ns size =
    let first = length-take-le shape.address_bits ns (omega arith) in
    let second = length-drop shape.address_bits ns in (
      record { address = take shape.address_bits ns; bits = drop shape.address_bits ns },
      take-append-drop shape.address_bits ns,
      (first, omega arith),
    )

ports_from : {P : Type 0} (Is : P → Type 0) (pins : P → List ChipNetId) (size : ℕ) → ((ns : List ChipNetId) → length ns ≡ size → (p : P) × (pins p ≡ ns) × Is p) → (m : ℕ) (ns : List ChipNetId) → length ns ≡ m * size → (ports : List P) × (length ports ≡ m) × (flat_map pins ports ≡ ns) × Each Is ports
ports_from Is pins size one zero [] e = ([], refl, refl, each_none Is)
ports_from Is pins size one zero (n ∷ ns) e = absurd (omega arith)
ports_from Is pins size one (suc m) ns e =
    let product = suc-mul m size in
    let front = length-take-le size ns (omega arith) in
    let behind = length-drop size ns in
    let p = one (take size ns) front in
    let rest = ports_from Is pins size one m (drop size ns) (omega arith) in (
      p.0 ∷ rest.0,
      ap suc rest.1,
      (λ i. p.1 i ++ rest.2 i) ∙ take-append-drop size ns,
      each_one_more Is p.0 rest.0 p.2 rest.3,
    )

memory_with : (shape : MemoryShape) (ns : List ChipNetId) → length ns ≡ pin_count shape → (memory : EmuMemory) × IsCut shape ns memory
memory_with shape ns size =
    let front = length-take-le (shape.writes * write_size shape) ns (omega arith) in
    let behind = length-drop (shape.writes * write_size shape) ns in
    let writes = ports_from (IsWriteSized shape) write_pins (write_size shape) (write_from shape) shape.writes (take (shape.writes * write_size shape) ns) front in
    let reads = ports_from (IsReadSized shape) read_pins (read_size shape) (read_from shape) shape.reads (drop (shape.writes * write_size shape) ns) (omega arith) in (
      record { address_bits = shape.address_bits; width = shape.width; writes = writes.0; reads = reads.0 },
      record {
        address_bits = refl;
        width = refl;
        writes = writes.1;
        reads = reads.1;
        pins_are = (λ i. writes.2 i ++ reads.2 i) ∙ take-append-drop (shape.writes * write_size shape) ns;
        write_sizes = writes.3;
        read_sizes = reads.3;
      },
    )

-- a memory that was cut out of terminals below is of the forms
cut_fits : (shape : MemoryShape) (nets : ℕ) (ns : List ChipNetId) (memory : EmuMemory) → IsPossible shape → IsCut shape ns memory → AreNetsOf nets ns → IsMemoryOf nets memory × (memory_form memory ≡ memory_text shape)
cut_fits shape nets ns memory is cut all =
    let below : AreNetsOf nets (memory_pins memory) = subst (AreNetsOf nets) (sym cut.pins_are) all in
    let w-below = left_below nets (flat_map write_pins memory.writes) (flat_map read_pins memory.reads) below in
    let r-below = right_below nets (flat_map write_pins memory.writes) (flat_map read_pins memory.reads) below in
    let bits = cut.address_bits in
    let width = cut.width in
    let ws = cut.writes in
    let rs = cut.reads in
    let a = is.address_bits in
    let b = is.some_width in
    let c = is.width in
    let d = is.ports in (
      record {
        address_bits = omega arith;
        some_width = omega arith;
        width = omega arith;
        ports = omega arith;
        writes = λ k port e.
            let all-pins = port_below write_pins nets memory.writes k port w-below e in
            let sized = cut.write_sizes k port e in
            record {
              enable = all-pins 0 port.enable refl;
              address = left_below nets port.address port.feed (tail_below nets port.enable (port.address ++ port.feed) all-pins);
              feed = right_below nets port.address port.feed (tail_below nets port.enable (port.address ++ port.feed) all-pins);
              address_bits = sized.0 ∙ sym bits;
              width = sized.1 ∙ sym width;
            };
        reads = λ k port e.
            let all-pins = port_below read_pins nets memory.reads k port r-below e in
            let sized = cut.read_sizes k port e in
            record {
              address = left_below nets port.address port.bits all-pins;
              bits = right_below nets port.address port.bits all-pins;
              address_bits = sized.0 ∙ sym bits;
              width = sized.1 ∙ sym width;
            };
      },
      ap (λ (s : MemoryShape). memory_text s) (same_shape (cut.address_bits) cut.width cut.writes cut.reads),
    )
  where
    same_shape : memory.address_bits ≡ shape.address_bits → memory.width ≡ shape.width → length memory.writes ≡ shape.writes → length memory.reads ≡ shape.reads → ◌≡◌ {A = MemoryShape} (record { address_bits = memory.address_bits; width = memory.width; writes = length memory.writes; reads = length memory.reads }) shape
    same_shape e f g h = λ i. record { address_bits = e i; width = f i; writes = g i; reads = h i }

form_possible : (nets : ℕ) (memory : EmuMemory) → IsMemoryOf nets memory → IsPossible (record { address_bits = memory.address_bits; width = memory.width; writes = length memory.writes; reads = length memory.reads })
form_possible nets memory is = record { address_bits = is.address_bits; some_width = is.some_width; width = is.width; ports = is.ports }

pub memory_below : (nets : ℕ) (memory : EmuMemory) → IsMemoryOf nets memory → AreNetsOf nets (memory_pins memory)
memory_below nets memory is =
    join_below nets (flat_map write_pins memory.writes) (flat_map read_pins memory.reads)
    (ports_below write_pins nets memory.writes (λ k port e. (let of = is.writes k port e in more_below nets port.enable (port.address ++ port.feed) of.enable (join_below nets port.address port.feed of.address of.feed))))
    (ports_below read_pins nets memory.reads (λ k port e. (let of = is.reads k port e in join_below nets port.address port.bits of.address of.bits)))

only_pins : (shape : MemoryShape) (nets : ℕ) (memory : EmuMemory) → IsPossible shape → IsMemoryOf nets memory → memory_form memory ≡ memory_text shape → length (memory_pins memory) ≡ pin_count shape
only_pins shape nets memory possible is e =
    let same = same_form (record { address_bits = memory.address_bits; width = memory.width; writes = length memory.writes; reads = length memory.reads }) shape (form_possible nets memory is) possible e in
    let bits : memory.address_bits ≡ shape.address_bits = ap (λ (s : MemoryShape). s.address_bits) same in
    let width : memory.width ≡ shape.width = ap (λ (s : MemoryShape). s.width) same in
    pins_length shape memory (ap (λ (s : MemoryShape). s.writes) same) (ap (λ (s : MemoryShape). s.reads) same)
    (λ k port f. ((is.writes k port f).address_bits ∙ bits, (is.writes k port f).width ∙ width))
    (λ k port f. ((is.reads k port f).address_bits ∙ bits, (is.reads k port f).width ∙ width))

pub memory_holds : (shape : MemoryShape) (nets k : ℕ) (w : Word) (room : Room) (mid : List Word) → w ≡ name (memory_text shape) → IsPossible shape → room.least ≡ pin_count shape → room.most ≡ pin_count shape → room.nets ≡ nets → Holds (IsMemoryOf nets) (ArePins room) (λ memory. memory_words (k, memory)) (pin_words (codes "m") k) (w ∷ []) mid
memory_holds shape nets k w room mid is possible l m n =
    form_holds (IsMemoryOf nets) (λ memory. name (memory_form memory)) memory_pins (codes "m") k room w mid make only
  where
    make : (ns : List ChipNetId) → ArePins room ns → (memory : EmuMemory) × IsMemoryOf nets memory × (name (memory_form memory) ≡ w) × (memory_pins memory ≡ ns)
    make ns are =
        let enough = are.enough in
        let few = are.few in
        let with = memory_with shape ns (omega arith) in
        let fits = cut_fits shape nets ns with.0 possible with.1 (subst (λ j. AreNetsOf j ns) n are.below) in
        (with.0, fits.0, ap name fits.1 ∙ sym is, with.1.pins_are)

    only : (memory : EmuMemory) → IsMemoryOf nets memory → name (memory_form memory) ≡ w → ArePins room (memory_pins memory)
    only memory of e =
        let size = only_pins shape nets memory possible of (ap (λ (v : Word). v.name) (e ∙ is)) in
        record { enough = omega arith; few = omega arith; below = subst (λ j. AreNetsOf j (memory_pins memory)) (sym n) (memory_below nets memory of) }

-- a memory whose terminals are nets of a chip is one of that chip
pub memory_at : (m nets : ℕ) (memory : EmuMemory) → IsMemoryOf m memory → AreNetsOf nets (memory_pins memory) → IsMemoryOf nets memory
memory_at m nets memory is all =
    (cut_fits (record { address_bits = memory.address_bits; width = memory.width; writes = length memory.writes; reads = length memory.reads }) nets (memory_pins memory) memory (form_possible m memory is) (record {
      address_bits = refl;
      width = refl;
      writes = refl;
      reads = refl;
      pins_are = refl;
      write_sizes = λ k port e. ((is.writes k port e).address_bits, (is.writes k port e).width);
      read_sizes = λ k port e. ((is.reads k port e).address_bits, (is.reads k port e).width);
    }) all).0

pub memory_room : (shape : MemoryShape) (nets : ℕ) (room : Room) → nets < 2 ^ 32 → (0 < pin_count shape → 0 < nets) → room.least ≡ pin_count shape → room.most ≡ pin_count shape → room.nets ≡ nets → IsRoom room
memory_room shape nets room fits some l m n = record {
  order = omega arith;
  some = λ there. omega arith;
  there = λ there. subst (λ j. 0 < j) (sym n) (some (subst (λ j. 0 < j) m there));
  small = omega arith;
}

pub memory_done : (shape : MemoryShape) (nets k : ℕ) (memory : EmuMemory) (pins : List ChipNetId) (room : Room) (before mid after : List Word) → room.nets ≡ nets → Begins (λ w. w ≡ name (memory_text shape)) before → IsPossible shape → mid ≡ drop 1 before → ArePins room pins × (mid ≡ pin_words (codes "m") k pins ++ after) → IsCut shape pins memory → IsMemoryOf nets memory × (before ≡ memory_words (k, memory) ++ after)
memory_done shape nets k memory pins room before mid after n begun possible e taken cut =
    let word = first_word (λ w. w ≡ name (memory_text shape)) before begun in
    let fits = cut_fits shape nets pins memory possible cut (subst (λ j. AreNetsOf j pins) n taken.0.below) in
    (fits.0, line_whole (name (memory_form memory)) word.0 (codes "m") k (memory_pins memory) pins before mid after (word.1 ∙ ap (λ ws. word.0 ∷ ws) (sym e)) (ap name fits.1 ∙ sym word.2) cut.pins_are taken.1)

pub memory_begins : (nets : ℕ) → EachBegins (IsMemoryOf nets) (IsMemoryFirst nets) memory_words
memory_begins nets k memory after is = (memory, is, refl)

-- Memories are told apart.

same_front : (a b c d : List ChipNetId) → length a ≡ length c → a ++ b ≡ c ++ d → (a ≡ c) × (b ≡ d)
same_front [] b [] d size e = (refl, e)
same_front [] b (y ∷ c) d size e = absurd (omega arith)
same_front (x ∷ a) b [] d size e = absurd (omega arith)
same_front (x ∷ a) b (y ∷ c) d size e =
    let first : x ≡ y = cc in
    let tails : a ++ b ≡ c ++ d = cc in
    let rest = same_front a b c d (omega arith) tails in
    (λ i. first i ∷ rest.0 i, rest.1)

same_ports : {P : Type 0} (Is : P → Type 0) (pins : P → List ChipNetId) → ((p q : P) (a b : List ChipNetId) → Is p → Is q → pins p ++ a ≡ pins q ++ b → (p ≡ q) × (a ≡ b)) → (ps qs : List P) (a b : List ChipNetId) → length ps ≡ length qs → Each Is ps → Each Is qs → flat_map pins ps ++ a ≡ flat_map pins qs ++ b → (ps ≡ qs) × (a ≡ b)
same_ports Is pins one [] [] a b size each each-2 e = (refl, e)
same_ports Is pins one [] (q ∷ qs) a b size each each-2 e = absurd (omega arith)
same_ports Is pins one (p ∷ ps) [] a b size each each-2 e = absurd (omega arith)
same_ports Is pins one (p ∷ ps) (q ∷ qs) a b size each each-2 e =
    let first = one p q (flat_map pins ps ++ a) (flat_map pins qs ++ b) (each_head Is p ps each) (each_head Is q qs each-2)
    (sym (append_assoc (pins p) (flat_map pins ps) a) ∙ e ∙ append_assoc (pins q) (flat_map pins qs) b) in
    let rest = same_ports Is pins one ps qs a b (omega arith) (each_tail Is p ps each) (each_tail Is q qs each-2) first.1 in
    (λ i. first.0 i ∷ rest.0 i, rest.1)

same_write : (shape : MemoryShape) (p q : EmuWrite) (a b : List ChipNetId) → IsWriteSized shape p → IsWriteSized shape q → write_pins p ++ a ≡ write_pins q ++ b → (p ≡ q) × (a ≡ b)
same_write shape p q a b is is-2 e =
    let first : p.enable ≡ q.enable = cc in
    let tails : (p.address ++ p.feed) ++ a ≡ (q.address ++ q.feed) ++ b = cc in
    let addresses = same_front p.address (p.feed ++ a) q.address (q.feed ++ b) (is.0 ∙ sym is-2.0) (sym (append_assoc p.address p.feed a) ∙ tails ∙ append_assoc q.address q.feed b) in
    let feeds = same_front p.feed a q.feed b (is.1 ∙ sym is-2.1) addresses.1 in
    (λ i. record { enable = first i; address = addresses.0 i; feed = feeds.0 i }, feeds.1)

same_read : (shape : MemoryShape) (p q : EmuRead) (a b : List ChipNetId) → IsReadSized shape p → IsReadSized shape q → read_pins p ++ a ≡ read_pins q ++ b → (p ≡ q) × (a ≡ b)
same_read shape p q a b is is-2 e =
    let addresses = same_front p.address (p.bits ++ a) q.address (q.bits ++ b) (is.0 ∙ sym is-2.0) (sym (append_assoc p.address p.bits a) ∙ e ∙ append_assoc q.address q.bits b) in
    let bits = same_front p.bits a q.bits b (is.1 ∙ sym is-2.1) addresses.1 in
    (λ i. record { address = addresses.0 i; bits = bits.0 i }, bits.1)

pub memories_apart : (nets : ℕ) → nets < 2 ^ 32 → AreApart (IsMemoryOf nets) memory_words
memories_apart nets fits k x y a b is is-2 e =
    let same = same_pins nets (codes "m") k (memory_pins x) (memory_pins y) (name (memory_form x)) (name (memory_form y)) a b fits (memory_below nets x is) (memory_below nets y is-2) e in
    let shapes = same_form (record { address_bits = x.address_bits; width = x.width; writes = length x.writes; reads = length x.reads }) (record { address_bits = y.address_bits; width = y.width; writes = length y.writes; reads = length y.reads }) (form_possible nets x is) (form_possible nets y is-2) (ap (λ (v : Word). v.name) same.0) in
    let bits : x.address_bits ≡ y.address_bits = ap (λ (s : MemoryShape). s.address_bits) shapes in
    let width : x.width ≡ y.width = ap (λ (s : MemoryShape). s.width) shapes in
    let writes = same_ports (IsWriteSized (record { address_bits = y.address_bits; width = y.width; writes = length y.writes; reads = length y.reads })) write_pins (same_write (record { address_bits = y.address_bits; width = y.width; writes = length y.writes; reads = length y.reads })) x.writes y.writes (flat_map read_pins x.reads) (flat_map read_pins y.reads) (ap (λ (s : MemoryShape). s.writes) shapes)
    (λ j p f. ((is.writes j p f).address_bits ∙ bits, (is.writes j p f).width ∙ width)) (λ j p f. ((is-2.writes j p f).address_bits, (is-2.writes j p f).width)) same.1 in
    let reads = same_ports (IsReadSized (record { address_bits = y.address_bits; width = y.width; writes = length y.writes; reads = length y.reads })) read_pins (same_read (record { address_bits = y.address_bits; width = y.width; writes = length y.writes; reads = length y.reads })) x.reads y.reads [] [] (ap (λ (s : MemoryShape). s.reads) shapes)
    (λ j p f. ((is.reads j p f).address_bits ∙ bits, (is.reads j p f).width ∙ width)) (λ j p f. ((is-2.reads j p f).address_bits, (is-2.reads j p f).width)) (ap (λ ps. ps ++ []) writes.1) in
    (λ i. record { address_bits = bits i; width = width i; writes = writes.0 i; reads = reads.0 i }, same.2)

-- What the next word shows.

pub no_memory : (nets : ℕ) (words : List Word) (bytes : List ℕ) → TellsName words bytes → TellsMemory bytes None → ShowsMemory nets words None
no_memory nets words bytes names none = λ b.
    let word = first_word (IsMemoryFirst nets) words b in
    let of = word.2 in
    none (record { address_bits = of.0.address_bits; width = of.0.width; writes = length of.0.writes; reads = length of.0.reads }) (form_possible nets of.0 of.1)
    (sym (names.only (memory_form of.0) (subst (Begins (λ w. w ≡ name (memory_form of.0))) (sym word.1) (sym of.2))))

-- without nets a memory has no terminals
pub no_nets : (nets : ℕ) (words : List Word) (bytes : List ℕ) (shape : MemoryShape) → nets ≡ 0 → 0 < pin_count shape → TellsName words bytes → IsPossible shape × (bytes ≡ memory_text shape) → ShowsMemory nets words None
no_nets nets words bytes shape none some names is = λ b.
    let word = first_word (IsMemoryFirst nets) words b in
    let of = word.2 in
    let text : memory_form of.0 ≡ memory_text shape = names.only (memory_form of.0) (subst (Begins (λ w. w ≡ name (memory_form of.0))) (sym word.1) (sym of.2)) ∙ is.1 in
    let size = only_pins shape nets of.0 is.0 of.1 text in
    first (memory_pins of.0) (omega arith) (memory_below nets of.0 of.1)
  where
    first : (pins : List ChipNetId) → 0 < length pins → AreNetsOf nets pins → ⊥
    first [] a all = omega arith
    first (n ∷ pins) a all = (let below = all 0 n refl in omega arith)
