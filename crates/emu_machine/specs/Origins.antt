-- What each gate, register and memory must be, read off its subjects: the rule A7.
-- The rule is told in docs/RULES.md, "Acceptance".
use Rattle.std.specs.Prelude.{ℕ, zero, suc, ◌==◌, ◌&&◌, ◌||◌, nat_lt, Bool, true, false, not, is_some, if◌then◌else◌, Option, Some, None, List, [], ◌∷◌, ◌++◌, map, length, slice_get, unwrap_or, option_map, option_and_then, option_to_list, zip, flat_map}
use Rattle.std.specs.List.{list_any, list_all, enumerate_from}
use Rattle.std.specs.Option.{option_map_or}
use Rattle.id_arena.specs.declared.keys.NetId.{NetId}
use Rattle.id_arena.specs.declared.keys.ElemId.{ElemId}
use Rattle.id_arena.specs.declared.keys.MemId.{MemId}
use Rattle.id_arena.specs.declared.keys.ChipNetId.{ChipNetId}
use Rattle.design_core.specs.declared.operation.Op.{Op}
use Rattle.design_core.specs.declared.operation.Op.TheVariants.{And, Nand, Or, Nor, Xor, Xnor, Buf, Not, Table}
use Rattle.design_core.specs.declared.element.Edge.{Edge}
use Rattle.design_core.specs.declared.element.Level.{Level}
use Rattle.design_core.specs.declared.element.Flop.{Flop}
use Rattle.design_core.specs.declared.element.Latch.{Latch}
use Rattle.design_core.specs.declared.element.Memory.{Memory}
use Rattle.design_core.specs.declared.element.WritePort.{WritePort}
use Rattle.design_core.specs.declared.element.ReadPort.{ReadPort}
use Rattle.design_core.specs.declared.element.Element.{Element}
use Rattle.design_core.specs.declared.element.Element.TheVariants as element
use Rattle.design_core.specs.declared.element.Driver.{Driver}
use Rattle.design_core.specs.declared.element.Driver.TheVariants as driven
use Rattle.design_core.specs.declared.parts.Parts.{Parts}
use Rattle.design_core.specs.Operation.{number, bit}
use Rattle.design_core.specs.Design.{net_count, driver}
use Rattle.emu_machine.specs.declared.netlist.EmuGate.{EmuGate}
use Rattle.emu_machine.specs.declared.netlist.EmuRegister.{EmuRegister}
use Rattle.emu_machine.specs.declared.netlist.EmuMemory.{EmuMemory}
use Rattle.emu_machine.specs.declared.netlist.EmuRead.{EmuRead}
use Rattle.emu_machine.specs.declared.netlist.EmuWrite.{EmuWrite}
use Rattle.emu_machine.specs.declared.map.Subject.{Subject}
use Rattle.emu_machine.specs.declared.map.Subject.TheVariants.{Net, Up, Down, Take, Next, TakeWrite, Old, TakeRead}
use Rattle.emu_machine.specs.declared.map.MemMap.{MemMap}
use Rattle.emu_machine.specs.Results.{Results}
use Rattle.emu_machine.specs.Mapped.{subject, flop_at, design_write, design_read}

-- the values of so many inputs, one list for each row of a table, in the order of the rows
abbrev pub rows : ℕ → List (List Bool)
rows zero = [] ∷ []
rows (suc k) = flat_map (λ bits. (false ∷ bits) ∷ (true ∷ bits) ∷ []) (rows k)

-- the table of a function of so many inputs
abbrev pub table_of : ℕ → (List Bool → Bool) → Op
table_of inputs function = Table (number (map function (rows inputs)))

-- whether a pin acts at this value of its net
abbrev pub acts_at : Level → Bool → Bool
acts_at level value = if level.high then value else not value

-- the resets that are there, clear first
abbrev pub resets : Option Level → Option Level → List Level
resets clear preset = option_to_list clear ++ option_to_list preset

-- the value that a preset forces, with the value of its pin
abbrev pub preset_at : Option Level → List Bool → Option Bool
preset_at (Some preset) (b ∷ bits) = if acts_at preset b then Some true else None
preset_at other bits = None

-- the value that resets force, with the value of each that is there, clear first
abbrev pub forced_at : Option Level → Option Level → List Bool → Option Bool
forced_at (Some clear) preset (b ∷ bits) = if acts_at clear b then Some false else preset_at preset bits
forced_at (Some clear) preset [] = None
forced_at None preset bits = preset_at preset bits

-- a latch gate: its gate, its data, its hold for the old value, then its resets
abbrev pub latch_function : Latch → List Bool → Bool
latch_function l (gate ∷ feed ∷ hold ∷ bits) =
    unwrap_or (forced_at l.clear l.preset bits) (if acts_at l.gate gate then feed else hold)
latch_function l other = false

-- an edge gate: the value before, then the value after
abbrev pub rise_function : List Bool → Bool
rise_function (old ∷ new ∷ []) = not old && new
rise_function other = false

abbrev pub fall_function : List Bool → Bool
fall_function (old ∷ new ∷ []) = old && not new
fall_function other = false

-- a take gate: the edge, then the resets
abbrev pub take_function : Flop → List Bool → Bool
take_function f (edge ∷ bits) = edge || list_any (λ (level, b). acts_at level b) (zip (resets f.clear f.preset) bits)
take_function f [] = false

-- a next gate: the data, then the resets
abbrev pub next_function : Flop → List Bool → Bool
next_function f (feed ∷ bits) = unwrap_or (forced_at f.clear f.preset bits) feed
next_function f [] = false

-- a write take gate: the edge, then the enable
abbrev pub write_take_function : WritePort → List Bool → Bool
write_take_function w (edge ∷ enable ∷ []) = edge && acts_at w.enable enable
write_take_function w other = false

-- a read take gate: the edge
abbrev pub read_take_function : List Bool → Bool
read_take_function (edge ∷ []) = edge
read_take_function other = false

abbrev pub same_op : Op → Op → Bool
same_op And And = true
same_op And Nand = false
same_op And Or = false
same_op And Nor = false
same_op And Xor = false
same_op And Xnor = false
same_op And Buf = false
same_op And Not = false
same_op And (Table b) = false
same_op Nand And = false
same_op Nand Nand = true
same_op Nand Or = false
same_op Nand Nor = false
same_op Nand Xor = false
same_op Nand Xnor = false
same_op Nand Buf = false
same_op Nand Not = false
same_op Nand (Table b) = false
same_op Or And = false
same_op Or Nand = false
same_op Or Or = true
same_op Or Nor = false
same_op Or Xor = false
same_op Or Xnor = false
same_op Or Buf = false
same_op Or Not = false
same_op Or (Table b) = false
same_op Nor And = false
same_op Nor Nand = false
same_op Nor Or = false
same_op Nor Nor = true
same_op Nor Xor = false
same_op Nor Xnor = false
same_op Nor Buf = false
same_op Nor Not = false
same_op Nor (Table b) = false
same_op Xor And = false
same_op Xor Nand = false
same_op Xor Or = false
same_op Xor Nor = false
same_op Xor Xor = true
same_op Xor Xnor = false
same_op Xor Buf = false
same_op Xor Not = false
same_op Xor (Table b) = false
same_op Xnor And = false
same_op Xnor Nand = false
same_op Xnor Or = false
same_op Xnor Nor = false
same_op Xnor Xor = false
same_op Xnor Xnor = true
same_op Xnor Buf = false
same_op Xnor Not = false
same_op Xnor (Table b) = false
same_op Buf And = false
same_op Buf Nand = false
same_op Buf Or = false
same_op Buf Nor = false
same_op Buf Xor = false
same_op Buf Xnor = false
same_op Buf Buf = true
same_op Buf Not = false
same_op Buf (Table b) = false
same_op Not And = false
same_op Not Nand = false
same_op Not Or = false
same_op Not Nor = false
same_op Not Xor = false
same_op Not Xnor = false
same_op Not Buf = false
same_op Not Not = true
same_op Not (Table b) = false
same_op (Table a) And = false
same_op (Table a) Nand = false
same_op (Table a) Or = false
same_op (Table a) Nor = false
same_op (Table a) Xor = false
same_op (Table a) Xnor = false
same_op (Table a) Buf = false
same_op (Table a) Not = false
same_op (Table a) (Table b) = a == b

abbrev pub same_subject : Subject → Subject → Bool
same_subject (Net a) (Net b) = a.place == b.place
same_subject (Net a) (Up b) = false
same_subject (Net a) (Down b) = false
same_subject (Net a) (Take b) = false
same_subject (Net a) (Next b) = false
same_subject (Net a) (TakeWrite b j) = false
same_subject (Net a) (Old b j l) = false
same_subject (Net a) (TakeRead b j) = false
same_subject (Up a) (Net b) = false
same_subject (Up a) (Up b) = a.place == b.place
same_subject (Up a) (Down b) = false
same_subject (Up a) (Take b) = false
same_subject (Up a) (Next b) = false
same_subject (Up a) (TakeWrite b j) = false
same_subject (Up a) (Old b j l) = false
same_subject (Up a) (TakeRead b j) = false
same_subject (Down a) (Net b) = false
same_subject (Down a) (Up b) = false
same_subject (Down a) (Down b) = a.place == b.place
same_subject (Down a) (Take b) = false
same_subject (Down a) (Next b) = false
same_subject (Down a) (TakeWrite b j) = false
same_subject (Down a) (Old b j l) = false
same_subject (Down a) (TakeRead b j) = false
same_subject (Take a) (Net b) = false
same_subject (Take a) (Up b) = false
same_subject (Take a) (Down b) = false
same_subject (Take a) (Take b) = a.place == b.place
same_subject (Take a) (Next b) = false
same_subject (Take a) (TakeWrite b j) = false
same_subject (Take a) (Old b j l) = false
same_subject (Take a) (TakeRead b j) = false
same_subject (Next a) (Net b) = false
same_subject (Next a) (Up b) = false
same_subject (Next a) (Down b) = false
same_subject (Next a) (Take b) = false
same_subject (Next a) (Next b) = a.place == b.place
same_subject (Next a) (TakeWrite b j) = false
same_subject (Next a) (Old b j l) = false
same_subject (Next a) (TakeRead b j) = false
same_subject (TakeWrite a i) (Net b) = false
same_subject (TakeWrite a i) (Up b) = false
same_subject (TakeWrite a i) (Down b) = false
same_subject (TakeWrite a i) (Take b) = false
same_subject (TakeWrite a i) (Next b) = false
same_subject (TakeWrite a i) (TakeWrite b j) = (a.place == b.place) && (i == j)
same_subject (TakeWrite a i) (Old b j l) = false
same_subject (TakeWrite a i) (TakeRead b j) = false
same_subject (Old a i k) (Net b) = false
same_subject (Old a i k) (Up b) = false
same_subject (Old a i k) (Down b) = false
same_subject (Old a i k) (Take b) = false
same_subject (Old a i k) (Next b) = false
same_subject (Old a i k) (TakeWrite b j) = false
same_subject (Old a i k) (Old b j l) = (a.place == b.place) && (i == j) && (k == l)
same_subject (Old a i k) (TakeRead b j) = false
same_subject (TakeRead a i) (Net b) = false
same_subject (TakeRead a i) (Up b) = false
same_subject (TakeRead a i) (Down b) = false
same_subject (TakeRead a i) (Take b) = false
same_subject (TakeRead a i) (Next b) = false
same_subject (TakeRead a i) (TakeWrite b j) = false
same_subject (TakeRead a i) (Old b j l) = false
same_subject (TakeRead a i) (TakeRead b j) = (a.place == b.place) && (i == j)

-- whether the net of a chip has this subject
abbrev pub has_subject : Results → ℕ → ChipNetId → Subject → Bool
has_subject r c n what = option_map_or (same_subject what) (subject r c n.place) false

-- whether nets of a chip have these subjects, one by one and none more
abbrev pub have_subjects : Results → ℕ → List ChipNetId → List Subject → Bool
have_subjects r c [] [] = true
have_subjects r c (n ∷ nets) (what ∷ subjects) = has_subject r c n what && have_subjects r c nets subjects
have_subjects r c nets subjects = false

-- the operation of a gate, and the subjects of its inputs in order
pub record Origin : Type 0 where
  pub op : Op
  pub inputs : List Subject

-- the edge of a clock as a subject
abbrev pub edge_of : NetId → Bool → Subject
edge_of clock rise = if rise then Up clock else Down clock

abbrev pub reset_subjects : Option Level → Option Level → List Subject
reset_subjects clear preset = map (λ level. Net level.net) (resets clear preset)

abbrev pub constant_origin : Bool → Origin
constant_origin b = record { op = Table (bit b); inputs = [] }

-- a latch gate reads, after gate and data, the latch's own net, which is its hold
abbrev pub latch_origin : Latch → Origin
latch_origin l =
    let inputs : List Subject = Net l.gate.net ∷ Net l.feed ∷ Net l.q ∷ reset_subjects l.clear l.preset
    in record { op = table_of (length inputs) (latch_function l); inputs = inputs }

-- the origin of a gate whose output stands for the output of an element
abbrev pub element_origin : Option Element → Option Origin
element_origin (Some (element.Gate op inputs output)) = Some (record { op = op; inputs = map Net inputs })
element_origin (Some (element.Latch l)) = Some (latch_origin l)
element_origin other = None

-- no gate stands for an input, a flip-flop's output or a read bit
abbrev pub net_origin : Parts → Driver → Option Origin
net_origin p (driven.Constant b) = Some (constant_origin b)
net_origin p (driven.Elem e) = element_origin (slice_get p.elements e.place)
net_origin p other = None

abbrev pub take_origin : Flop → Origin
take_origin f =
    let inputs : List Subject = edge_of f.clock f.rise ∷ reset_subjects f.clear f.preset
    in record { op = table_of (length inputs) (take_function f); inputs = inputs }

abbrev pub next_origin : Flop → Origin
next_origin f =
    let inputs : List Subject = Net f.feed ∷ reset_subjects f.clear f.preset
    in record { op = table_of (length inputs) (next_function f); inputs = inputs }

abbrev pub write_take_origin : WritePort → Origin
write_take_origin w =
    record { op = table_of 2 (write_take_function w); inputs = edge_of w.clock w.rise ∷ Net w.enable.net ∷ [] }

-- only a read port with a clock has one
abbrev pub read_take_origin : Option Edge → Option Origin
read_take_origin None = None
read_take_origin (Some clock) =
    Some (record { op = table_of 1 read_take_function; inputs = edge_of clock.net clock.rise ∷ [] })

abbrev pub is_design_net : Parts → NetId → Bool
is_design_net p n = nat_lt n.place (net_count p)

-- the origin of a gate, by the subject of its output; none where the subject names what is not there
abbrev pub origin_of : Parts → Subject → Option Origin
origin_of p (Net n) = if is_design_net p n then net_origin p (driver p n.place) else None
origin_of p (Up n) = if is_design_net p n then Some (record { op = table_of 2 rise_function; inputs = Net n ∷ Net n ∷ [] }) else None
origin_of p (Down n) = if is_design_net p n then Some (record { op = table_of 2 fall_function; inputs = Net n ∷ Net n ∷ [] }) else None
origin_of p (Take e) = option_map take_origin (flop_at p e.place)
origin_of p (Next e) = option_map next_origin (flop_at p e.place)
origin_of p (TakeWrite m k) = option_map write_take_origin (design_write p m.place k)
origin_of p (Old m k b) = None
origin_of p (TakeRead m k) = option_and_then (λ port. read_take_origin port.clock) (design_read p m.place k)

abbrev pub has_origin : Results → ℕ → EmuGate → Option Origin → Bool
has_origin r c gate None = false
has_origin r c gate (Some origin) = same_op gate.op origin.op && have_subjects r c gate.inputs origin.inputs

-- a gate fits where it is what the subject of its output says
abbrev pub gate_fits : Parts → Results → ℕ → EmuGate → Bool
gate_fits p r c gate = option_map_or (λ what. has_origin r c gate (origin_of p what)) (subject r c gate.output.place) false

-- the subject is a net of the design
abbrev pub is_net_subject : Parts → Option Subject → Bool
is_net_subject p (Some (Net n)) = is_design_net p n
is_net_subject p other = false

-- what a register with an enable must have at its D and at its enable
pub record Loading : Type 0 where
  pub feed : Subject
  pub enable : Subject

abbrev pub flop_loading : ElemId → Loading
flop_loading e = record { feed = Next e; enable = Take e }

abbrev pub read_loading : MemId → ℕ → ℕ → ReadPort → Option Loading
read_loading m k b port = option_map (λ clock. record { feed = Old m k b; enable = TakeRead m k }) port.clock

-- A flip-flop's output is loaded with what the flip-flop takes, and a bit of a read port with a clock with
-- what the port takes. Nothing else is loaded under an enable.
abbrev pub driver_loading : Parts → Driver → Option Loading
driver_loading p (driven.Constant b) = None
driver_loading p driven.Input = None
driver_loading p (driven.Elem e) = option_map (λ f. flop_loading e) (flop_at p e.place)
driver_loading p (driven.Read m k b) = option_and_then (read_loading m k b) (design_read p m.place k)

abbrev pub loading_of : Parts → Option Subject → Option Loading
loading_of p (Some (Net n)) = driver_loading p (driver p n.place)
loading_of p other = None

abbrev pub loading_fits : Results → ℕ → ChipNetId → ChipNetId → Option Loading → Bool
loading_fits r c d enable None = false
loading_fits r c d enable (Some loading) = has_subject r c d loading.feed && has_subject r c enable loading.enable

-- The Q of a register without D stands for a net of the design. D and Q of one with D alone stand for
-- one such net. One with an enable stands for a flip-flop's output or a bit of a read port with a clock.
abbrev pub register_pins_fit : Parts → Results → ℕ → ChipNetId → Option ChipNetId → Option ChipNetId → Bool
register_pins_fit p r c q None None = is_net_subject p (subject r c q.place)
register_pins_fit p r c q None (Some enable) = false
register_pins_fit p r c q (Some d) None =
    is_net_subject p (subject r c q.place) && option_map_or (has_subject r c d) (subject r c q.place) false
register_pins_fit p r c q (Some d) (Some enable) = loading_fits r c d enable (loading_of p (subject r c q.place))

abbrev pub register_fits : Parts → Results → ℕ → EmuRegister → Bool
register_fits p r c register = register_pins_fit p r c register.q register.d register.enable

-- each write port of a chip's memory stands for the design's port of the same number
abbrev pub write_fits : Results → ℕ → MemId → ℕ → WritePort → EmuWrite → Bool
write_fits r c m k design port =
    has_subject r c port.enable (TakeWrite m k)
    && have_subjects r c port.address (map Net design.address)
    && have_subjects r c port.feed (map Net design.feed)

-- what the nets of a read port stand for: the design's nets, and where the port has a clock the bits of the
-- word that it takes
abbrev pub read_subjects : MemId → ℕ → ReadPort → List Subject
read_subjects m k design =
    option_map_or (λ clock. map (λ (b, n). Old m k b) (enumerate_from 0 design.bits)) design.clock (map Net design.bits)

abbrev pub keeps_read : MemMap → ℕ → Bool
keeps_read entry k = unwrap_or (slice_get entry.kept k) false

-- each read port of a chip's memory stands for the design's port of the same number; one with a clock is free
abbrev pub read_fits : Results → ℕ → MemMap → ℕ → ReadPort → EmuRead → Bool
read_fits r c entry k design port =
    have_subjects r c port.address (map Net design.address)
    && have_subjects r c port.bits (read_subjects entry.of k design)
    && not (is_some design.clock && keeps_read entry k)

-- a memory of a chip has the dimensions, the ports and the subjects of the design's memory
abbrev pub memory_ports_fit : Results → ℕ → MemMap → Memory → EmuMemory → Bool
memory_ports_fit r c entry design memory =
    (memory.address_bits == design.address_bits) && (memory.width == design.width)
    && (length memory.writes == length design.writes) && (length memory.reads == length design.reads)
    && list_all (λ (k, (w, port)). write_fits r c entry.of k w port) (enumerate_from 0 (zip design.writes memory.writes))
    && list_all (λ (k, (w, port)). read_fits r c entry k w port) (enumerate_from 0 (zip design.reads memory.reads))

abbrev pub memory_fits : Parts → Results → ℕ → MemMap → EmuMemory → Bool
memory_fits p r c entry memory =
    option_map_or (λ design. memory_ports_fit r c entry design memory) (slice_get p.memories entry.of.place) false
