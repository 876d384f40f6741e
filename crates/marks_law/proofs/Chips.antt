-- Offered to the crates above: what nets of chips stand for, and which of them no gate drives, where parts
-- fit.
use Rattle.std.proofs.Common.{◌≡◌, ℕ, zero, suc, ◌<◌, arith, Bool, true, false, List, [], ◌∷◌, length, map, refl, subst, sym, ap, ◌∙◌, inl, inr}
use Rattle.std.specs.Prelude.{◌⊎◌, Option, Some, None, slice_get, unwrap_or, option_map, count_by, zip, flat_map, is_some, if◌then◌else◌, ◌&&◌}
use Rattle.std.specs.List.{enumerate_from}
use Rattle.std.specs.Option.{option_map_or}
use Rattle.std.proofs.lemmas.Option.{none-some, same_Some, slice_get_within}
use Rattle.id_arena.specs.declared.keys.NetId.{NetId}
use Rattle.id_arena.specs.declared.keys.ChipNetId.{ChipNetId}
use Rattle.design_core.specs.declared.element.Driver.{Driver}
use Rattle.design_core.specs.declared.element.Driver.TheVariants as driven
use Rattle.design_core.specs.declared.element.Edge.{Edge}
use Rattle.design_core.specs.declared.element.Memory.{Memory}
use Rattle.design_core.specs.declared.element.ReadPort.{ReadPort}
use Rattle.design_core.specs.declared.parts.Parts.{Parts}
use Rattle.design_core.specs.Design.{IsDesign, net_count, driver}
use Rattle.emu_machine.specs.declared.netlist.Chip.{Chip}
use Rattle.emu_machine.specs.declared.netlist.EmuGate.{EmuGate}
use Rattle.emu_machine.specs.declared.netlist.EmuMemory.{EmuMemory}
use Rattle.emu_machine.specs.declared.netlist.EmuRead.{EmuRead}
use Rattle.emu_machine.specs.declared.netlist.EmuRegister.{EmuRegister}
use Rattle.emu_machine.specs.declared.map.Subject.{Subject}
use Rattle.emu_machine.specs.declared.map.Subject.TheVariants.{Net, Up, Down, Take, Next, TakeWrite, Old, TakeRead}
use Rattle.emu_machine.specs.declared.map.ChipMap.{ChipMap}
use Rattle.emu_machine.specs.declared.map.MemMap.{MemMap}
use Rattle.emu_machine.specs.Results.{Results}
use Rattle.emu_machine.specs.Netlist.{chip_at, is_chip_net, read_nets, net_drivers, gate_of, on_net}
use Rattle.emu_machine.specs.Mapped.{no_chip_map, chip_map, subject, memory_of}
use Rattle.emu_machine.specs.Origins.{same_subject, has_subject, have_subjects, origin_of, net_origin, has_origin, gate_fits, is_design_net, is_net_subject, driver_loading, loading_of, loading_fits, register_pins_fit, register_fits, read_subjects, keeps_read, read_fits, memory_ports_fit, memory_fits}
use Rattle.emu_machine.specs.Acceptance.{Case, register_at, is_kept_read, mapped_memory_fits}
use Rattle.emu_machine.specs.Results.{MapFits, ChipEntryFits}
use Rattle.emu_machine.specs.Law.{IsCase}
use Rattle.facts.proofs.Counting.{counted, counted_found, not_found}
use Rattle.facts.proofs.Tests.{no, left, right, below, number_same, not_true, same_number, mapped}
use Rattle.marks_law.proofs.Inputs.{same_subject_is}
use Rattle.facts.proofs.Lists.{Has, Under, has_under, under_has}
use Rattle.history_law.proofs.Naming.{element_is_driver, driver_is_element, read_bit_is_driver, driver_is_read_bit}
use Rattle.facts.proofs.Places.{all_at, zip_at, at_same_place, at_map, one_of}
use Rattle.marks_law.proofs.FrameActions.{at_own_number}

-- ## The entries of the map

module _ (r : Results) (fits : MapFits r) where
  -- a chip and its entry stand at the same number, or neither is there
  entry_beside : (c : ℕ) (entry : ChipMap) → slice_get r.map.chips c ≡ Some entry → (chip : Chip) × (slice_get r.net c ≡ Some chip) × ChipEntryFits chip entry
  entry_beside c entry at =
      let there = at_same_place r.map.chips r.net c entry fits.count at in
      (there.0, there.1, fits.chips c there.0 entry there.1 at)

  -- the same by the entry of the chip in the map
  net_of_entry : (c n : ℕ) (what : Subject) → (o : Option ChipMap) → slice_get r.map.chips c ≡ o → slice_get (unwrap_or o no_chip_map).nets n ≡ Some what → n < (chip_at r.net c).nets
  net_of_entry c n what None e h = absurd (none-some what h)
  net_of_entry c n what (Some entry) e h =
      let there = entry_beside c entry e in
      let low : n < length entry.nets = slice_get_within entry.nets n what h in
      let same : length entry.nets ≡ there.0.nets = there.2.nets in
      let short : n < there.0.nets = subst (λ (k : ℕ). n < k) same low in
      subst (λ (o : Option Chip). n < (unwrap_or o (chip_at [] 0)).nets) (sym there.1) short

  -- a net with a subject is a net of its chip
  pub subject_in_range : (chip net : ℕ) (what : Subject) → subject r chip net ≡ Some what → net < (chip_at r.net chip).nets
  subject_in_range c n what h = net_of_entry c n what (slice_get r.map.chips c) refl h

  -- the same for memories
  memory_of_entry : (c m of : ℕ) → (o : Option ChipMap) → slice_get r.map.chips c ≡ o → option_map (λ (entry : MemMap). entry.of.place) (slice_get (unwrap_or o no_chip_map).memories m) ≡ Some of
      → (memory : EmuMemory) × (slice_get (chip_at r.net c).memories m ≡ Some memory)
  memory_of_entry c m of None e h = absurd (none-some of h)
  memory_of_entry c m of (Some entry) e h =
      let there = entry_beside c entry e in
      let named = mapped (λ (entry : MemMap). entry.of.place) (slice_get entry.memories m) of h in
      let same : length entry.memories ≡ length there.0.memories = there.2.memories in
      let memory = at_same_place entry.memories there.0.memories m named.0 same named.1 in
      (memory.0, ap (λ (o : Option Chip). slice_get (unwrap_or o (chip_at [] 0)).memories m) there.1 ∙ memory.1)

  -- a memory that the map names is there
  pub memory_stands : (chip mem of : ℕ) → memory_of r chip mem ≡ Some of → (memory : EmuMemory) × (slice_get (chip_at r.net chip).memories mem ≡ Some memory)
  memory_stands c m of h = memory_of_entry c m of (slice_get r.map.chips c) refl h

-- ## The subjects of what registers and read ports drive

-- a subject is a net that the design has
abbrev pub IsDesignNet : Parts → Option Subject → Type 0
IsDesignNet p o = (m : NetId) × (o ≡ Some (Net m)) × (m.place < net_count p)

-- a test that an option passes is passed by what is there
map_or_true : {X : Type 0} (f : X → Bool) (o : Option X) → option_map_or f o false ≡ true → (x : X) × (o ≡ Some x) × (f x ≡ true)
map_or_true f None h = no h
map_or_true f (Some x) h = (x, refl, h)

-- a net that has a subject stands for it
has_subject_is : (r : Results) (c : ℕ) (n : ChipNetId) (what : Subject) → has_subject r c n what ≡ true → subject r c n.place ≡ Some what
has_subject_is r c n what h =
    let f = map_or_true (same_subject what) (subject r c n.place) h in
    f.1 ∙ ap Some (sym (same_subject_is what f.0 f.2))

-- one by one, nets have the subjects that are demanded
pub have_subjects_at : (r : Results) (chip : ℕ) (nets : List ChipNetId) (subjects : List Subject) (bit : ℕ) (net : ChipNetId) → have_subjects r chip nets subjects ≡ true → slice_get nets bit ≡ Some net
    → (what : Subject) × (slice_get subjects bit ≡ Some what) × (subject r chip net.place ≡ Some what)
have_subjects_at r c [] subjects b n h at = absurd (none-some n at)
have_subjects_at r c (m ∷ nets) [] b n h at = no h
have_subjects_at r c (m ∷ nets) (what ∷ subjects) zero n h at =
    (what, refl, ap (λ (k : ChipNetId). subject r c k.place) (sym (same_Some m n at)) ∙ has_subject_is r c m what (left _ _ h))
have_subjects_at r c (m ∷ nets) (what ∷ subjects) (suc b) n h at = have_subjects_at r c nets subjects b n (right _ _ h) at

-- whether a subject is a net of the design
abbrev is_net_of : Subject → Bool
is_net_of (Net n) = true
is_net_of (Up n) = false
is_net_of (Down n) = false
is_net_of (Take e) = false
is_net_of (Next e) = false
is_net_of (TakeWrite m k) = false
is_net_of (Old m k b) = false
is_net_of (TakeRead m k) = false

-- a net that is named is the one that the design has
named_net : (p : Parts) (o : Option Subject) (m : NetId) → o ≡ Some (Net m) → IsDesignNet p o → m.place < net_count p
named_net p o m e h = go (same_Some _ _ (sym e ∙ h.1)) h.2
  where
    number : Subject → ℕ
    number (Net k) = k.place
    number other = 0

    go : Net m ≡ Net h.0 → h.0.place < net_count p → m.place < net_count p
    go e low = subst (λ (k : ℕ). k < net_count p) (sym (ap number e)) low

module _ (p : Parts) (d : IsDesign p) (r : Results) (chip : ℕ) where
  -- a gate that fits has no output but a net that the design has, where that is a net
  gate_net : (gate : EmuGate) (m : NetId) → gate_fits p r chip gate ≡ true → subject r chip gate.output.place ≡ Some (Net m) → m.place < net_count p
  gate_net gate m h e =
      go (is_design_net p m) refl (ap (λ o. option_map_or (λ what. has_origin r chip gate (origin_of p what)) o false) (sym e) ∙ h)
    where
      go : (b : Bool) → is_design_net p m ≡ b → has_origin r chip gate (if b then net_origin p (driver p m.place) else None) ≡ true → m.place < net_count p
      go true e h = below _ _ e
      go false e h = no h

  -- a subject that is a net of the design
  is_net : (o : Option Subject) → is_net_subject p o ≡ true → IsDesignNet p o
  is_net None h = no h
  is_net (Some (Net n)) h = (n, refl, below _ _ h)
  is_net (Some (Up n)) h = no h
  is_net (Some (Down n)) h = no h
  is_net (Some (Take e)) h = no h
  is_net (Some (Next e)) h = no h
  is_net (Some (TakeWrite m k)) h = no h
  is_net (Some (Old m k b)) h = no h
  is_net (Some (TakeRead m k)) h = no h

  -- a net that is loaded under an enable is driven by something that is there
  loaded_net : (feed enable : ChipNetId) (m : NetId) (by : Driver) → driver p m.place ≡ by → loading_fits r chip feed enable (driver_loading p by) ≡ true → m.place < net_count p
  loaded_net feed enable m (driven.Constant b) e h = no h
  loaded_net feed enable m driven.Input e h = no h
  loaded_net feed enable m (driven.Elem k) e h =
      let f = driver_is_element p m.place k e in
      (element_is_driver p k.place m.place f.0 d f.1 f.2).0
  loaded_net feed enable m (driven.Read k i b) e h =
      let f = driver_is_read_bit p m.place k i b e in
      subst (λ (n : ℕ). n < net_count p) f.6 (read_bit_is_driver p k.place i b f.0 f.1 f.2 d f.3 f.4 f.5).0

  -- so the Q of a register with an enable stands for a net of the design
  of_loading : (feed enable : ChipNetId) (o : Option Subject) → loading_fits r chip feed enable (loading_of p o) ≡ true → IsDesignNet p o
  of_loading feed enable None h = no h
  of_loading feed enable (Some (Net n)) h = (n, refl, loaded_net feed enable n (driver p n.place) refl h)
  of_loading feed enable (Some (Up n)) h = no h
  of_loading feed enable (Some (Down n)) h = no h
  of_loading feed enable (Some (Take e)) h = no h
  of_loading feed enable (Some (Next e)) h = no h
  of_loading feed enable (Some (TakeWrite m k)) h = no h
  of_loading feed enable (Some (Old m k b)) h = no h
  of_loading feed enable (Some (TakeRead m k)) h = no h

  -- whatever pins a register has, its Q stands for a net of the design
  by_pins : (q : ChipNetId) (feed enable : Option ChipNetId) → register_pins_fit p r chip q feed enable ≡ true → IsDesignNet p (subject r chip q.place)
  by_pins q None None h = is_net (subject r chip q.place) h
  by_pins q None (Some enable) h = no h
  by_pins q (Some feed) None h = is_net (subject r chip q.place) (left _ _ h)
  by_pins q (Some feed) (Some enable) h = of_loading feed enable (subject r chip q.place) h

  -- the Q of a register stands for a net of the design
  register_net : (register : EmuRegister) → register_fits p r chip register ≡ true → IsDesignNet p (subject r chip register.q.place)
  register_net register h = by_pins register.q register.d register.enable h

  -- the design's port that a read port of a chip stands for
  record PortBeside (entry : MemMap) (i : ℕ) (port : EmuRead) : Type 0 where
    design : Memory
    original : ReadPort
    in_design : slice_get p.memories entry.of.place ≡ Some design
    in_reads : slice_get design.reads i ≡ Some original
    fits : read_fits r chip entry i original port ≡ true

  -- each read port of a chip has one beside it in the design
  port_beside : (entry : MemMap) (memory : EmuMemory) (i : ℕ) (port : EmuRead)
      → memory_fits p r chip entry memory ≡ true → slice_get memory.reads i ≡ Some port → PortBeside entry i port
  port_beside entry memory i port h at =
      let design = map_or_true (λ (design : Memory). memory_ports_fit r chip entry design memory) (slice_get p.memories entry.of.place) h in
      let long : length memory.reads ≡ length design.0.reads = number_same _ _ (right _ _ (left _ _ (left _ _ design.2))) in
      let original = at_same_place memory.reads design.0.reads i port long at in
      let zipped : slice_get (zip design.0.reads memory.reads) i ≡ Some (original.0, port) = zip_at design.0.reads memory.reads i original.0 port original.1 at in
      record {
        design = design.0;
        original = original.0;
        in_design = design.1;
        in_reads = original.1;
        fits = all_at (λ (k, (w, port)). read_fits r chip entry k w port) (enumerate_from 0 (zip design.0.reads memory.reads)) i (i, (original.0, port)) (right _ _ design.2)
            (at_own_number (zip design.0.reads memory.reads) i (original.0, port) zipped);
      }

  -- a net of the design's port without a clock stands for one that the design has, and one with a clock for no net
  module _ (entry : MemMap) (i b : ℕ) (port : EmuRead) (n : ChipNetId) (beside : PortBeside entry i port) (in_port : slice_get port.bits b ≡ Some n) where
    -- without a clock its nets stand for those of the port
    unclocked : beside.original.clock ≡ None → IsDesignNet p (subject r chip n.place)
    unclocked e =
        let subjects : read_subjects entry.of i beside.original ≡ map Net beside.original.bits =
        ap (λ o. option_map_or (λ (clock : Edge). map (λ (e : ℕ × NetId). Old entry.of i e.0) (enumerate_from 0 beside.original.bits)) o (map Net beside.original.bits)) e in
        let of = have_subjects_at r chip port.bits (read_subjects entry.of i beside.original) b n (right _ _ (left _ _ beside.fits)) in_port in
        let net = at_map Net beside.original.bits b of.0 (ap (λ (whats : List Subject). slice_get whats b) (sym subjects) ∙ of.1) in
        (net.0, of.2 ∙ ap Some net.2, (read_bit_is_driver p entry.of.place i b beside.design beside.original net.0 d beside.in_design beside.in_reads net.1).0)

    -- with a clock none of them stands for a net
    clocked : (clock : Edge) → beside.original.clock ≡ Some clock → (m : NetId) → subject r chip n.place ≡ Some (Net m) → ⊥
    clocked clock e m is =
        let subjects : read_subjects entry.of i beside.original ≡ map (λ (e : ℕ × NetId). Old entry.of i e.0) (enumerate_from 0 beside.original.bits) =
        ap (λ o. option_map_or (λ (clock : Edge). map (λ (e : ℕ × NetId). Old entry.of i e.0) (enumerate_from 0 beside.original.bits)) o (map Net beside.original.bits)) e in
        let of = have_subjects_at r chip port.bits (read_subjects entry.of i beside.original) b n (right _ _ (left _ _ beside.fits)) in_port in
        let old = at_map (λ (e : ℕ × NetId). Old entry.of i e.0) (enumerate_from 0 beside.original.bits) b of.0 (ap (λ (whats : List Subject). slice_get whats b) (sym subjects) ∙ of.1) in
        no (sym (ap is_net_of (same_Some (Net m) of.0 (sym is ∙ of.2)) ∙ ap is_net_of old.2))

    -- where one stands for a net, the design has that net
    net_below : (m : NetId) → subject r chip n.place ≡ Some (Net m) → m.place < net_count p
    net_below m is = go beside.original.clock refl
      where
        go : (o : Option Edge) → beside.original.clock ≡ o → m.place < net_count p
        go None e = named_net p (subject r chip n.place) m is (unclocked e)
        go (Some clock) e = absurd (clocked clock e m is)

    -- one of a kept port stands for a net, since a port with a clock is free
    kept_net : keeps_read entry i ≡ true → IsDesignNet p (subject r chip n.place)
    kept_net kept = go beside.original.clock refl
      where
        go : (o : Option Edge) → beside.original.clock ≡ o → IsDesignNet p (subject r chip n.place)
        go None e = unclocked e
        go (Some clock) e =
            let free : (is_some beside.original.clock && keeps_read entry i) ≡ false = not_true _ (right _ _ beside.fits) in
            no (sym free ∙ ap (λ o. is_some o && keeps_read entry i) e ∙ kept)

-- ## What drives a net

-- a net of a read port, by the places of its memory, its port and its bit
pub record ReadAt (chip : Chip) (n : ℕ) : Type 0 where
  pub mem : ℕ
  pub memory : EmuMemory
  pub place : ℕ
  pub port : EmuRead
  pub bit : ℕ
  pub net : ChipNetId
  pub at_memory : slice_get chip.memories mem ≡ Some memory
  pub at_port : slice_get memory.reads place ≡ Some port
  pub at_bit : slice_get port.bits bit ≡ Some net
  pub same : net.place ≡ n

-- the nets of all read ports of a memory
abbrev port_bits_of : EmuMemory → List ChipNetId
port_bits_of memory = flat_map (λ (port : EmuRead). port.bits) memory.reads

-- a net that read ports drive is a bit of one of them
read_at : (chip : Chip) (n : ℕ) → 0 < count_by (is_chip_net n) (read_nets chip) → ReadAt chip n
read_at chip n some =
    let f = counted_found (is_chip_net n) (read_nets chip) some in
    let m : Under port_bits_of chip.memories f.1 = under_has port_bits_of chip.memories f.1 (record { place = f.0; at = f.2 }) in
    let q : Under (λ (port : EmuRead). port.bits) m.item.reads f.1 = under_has (λ (port : EmuRead). port.bits) m.item.reads f.1 m.has in
    record { mem = m.place; memory = m.item; place = q.place; port = q.item; bit = q.has.place; net = f.1; at_memory = m.at; at_port = q.at; at_bit = q.has.at; same = number_same _ _ f.3 }

-- a bit of a read port is a net that read ports drive
read_counted : (chip : Chip) (n : ℕ) → ReadAt chip n → 0 < count_by (is_chip_net n) (read_nets chip)
read_counted chip n f =
    let inner : Has (port_bits_of f.memory) f.net = has_under (λ (port : EmuRead). port.bits) f.memory.reads f.net (record { place = f.place; item = f.port; at = f.at_port; has = record { place = f.bit; at = f.at_bit } }) in
    let whole : Has (read_nets chip) f.net = has_under port_bits_of chip.memories f.net (record { place = f.mem; item = f.memory; at = f.at_memory; has = inner }) in
    counted (is_chip_net n) (read_nets chip) whole.place f.net whole.at (same_number f.net.place n f.same)

module _ (c : Case) (is : IsCase c) where
  -- a net with a subject has one driver
  pub one_driver : (chip n : ℕ) (what : Subject) → subject c.results chip n ≡ Some what → net_drivers (chip_at c.results.net chip) n ≡ 1
  one_driver chip n what h = is.netlist chip n (subject_in_range c.results is.mapped chip n what h)

  -- the Q of a register has no gate
  pub no_gate_register : (chip n : ℕ) (what : Subject) → subject c.results chip n ≡ Some what
      → (k : ℕ) (register : EmuRegister) → slice_get (chip_at c.results.net chip).registers k ≡ Some register → register.q.place ≡ n
      → gate_of (chip_at c.results.net chip) n ≡ None
  no_gate_register chip n what h k register at same =
      let one : net_drivers (chip_at c.results.net chip) n ≡ 1 = one_driver chip n what h in
      let some : 0 < count_by (λ (r : EmuRegister). is_chip_net n r.q) (chip_at c.results.net chip).registers = counted (λ (r : EmuRegister). is_chip_net n r.q) (chip_at c.results.net chip).registers k register at (same_number register.q.place n same) in
      not_found (λ (g : EmuGate). is_chip_net n g.output) (chip_at c.results.net chip).gates (omega arith)

  -- no more has a net of a read port
  pub no_gate_read : (chip n : ℕ) (what : Subject) → subject c.results chip n ≡ Some what
      → ReadAt (chip_at c.results.net chip) n
      → gate_of (chip_at c.results.net chip) n ≡ None
  no_gate_read chip n what h f =
      let one : net_drivers (chip_at c.results.net chip) n ≡ 1 = one_driver chip n what h in
      let some : 0 < count_by (is_chip_net n) (read_nets (chip_at c.results.net chip)) = read_counted (chip_at c.results.net chip) n f in
      not_found (λ (g : EmuGate). is_chip_net n g.output) (chip_at c.results.net chip).gates (omega arith)

  module _ (gates : (chip k : ℕ) (gate : EmuGate) → slice_get (chip_at c.results.net chip).gates k ≡ Some gate → gate_fits c.design c.results chip gate ≡ true)
      (registers : (chip k : ℕ) (register : EmuRegister) → register_at c chip k ≡ Some register → register_fits c.design c.results chip register ≡ true)
      (memories : (chip m : ℕ) (memory : EmuMemory) → slice_get (chip_at c.results.net chip).memories m ≡ Some memory → mapped_memory_fits c chip m memory ≡ true) where
    -- the Q of a register stands for a net of the design
    pub register_net_stands : (chip k : ℕ) (register : EmuRegister) → register_at c chip k ≡ Some register → IsDesignNet c.design (subject c.results chip register.q.place)
    register_net_stands chip k register at = register_net c.design is.design c.results chip register (registers chip k register at)

    -- the entry of the map for the memory of a read port
    entry_of : (chip n : ℕ) (f : ReadAt (chip_at c.results.net chip) n)
        → (entry : MemMap) × (slice_get (chip_map c.results chip).memories f.mem ≡ Some entry) × (memory_fits c.design c.results chip entry f.memory ≡ true)
    entry_of chip n f =
        map_or_true (λ (entry : MemMap). memory_fits c.design c.results chip entry f.memory) (slice_get (chip_map c.results chip).memories f.mem) (memories chip f.mem f.memory f.at_memory)

    -- a net of a kept read port stands for a net of the design
    pub kept_read_stands : (chip n : ℕ) (f : ReadAt (chip_at c.results.net chip) n) → is_kept_read c.results chip f.mem f.place ≡ true → IsDesignNet c.design (subject c.results chip n)
    kept_read_stands chip n f kept =
        let entry = entry_of chip n f in
        let kept_here : keeps_read entry.0 f.place ≡ true = ap (λ o. option_map_or (λ (entry : MemMap). keeps_read entry f.place) o false) (sym entry.1) ∙ kept in
        subst (λ (i : ℕ). IsDesignNet c.design (subject c.results chip i)) f.same
        (kept_net c.design is.design c.results chip entry.0 f.place f.bit f.port f.net (port_beside c.design is.design c.results chip entry.0 f.memory f.place f.port entry.2 f.at_port) f.at_bit kept_here)

    -- where a net of a read port stands for a net, the design has that
    read_below : (chip n : ℕ) (f : ReadAt (chip_at c.results.net chip) n) (m : NetId) → subject c.results chip n ≡ Some (Net m) → m.place < net_count c.design
    read_below chip n f m h =
        let entry = entry_of chip n f in
        net_below c.design is.design c.results chip entry.0 f.place f.bit f.port f.net (port_beside c.design is.design c.results chip entry.0 f.memory f.place f.port entry.2 f.at_port) f.at_bit m
        (ap (subject c.results chip) f.same ∙ h)

    -- each subject that is a net is one that the design has
    pub subjects_stand : (chip n : ℕ) (m : NetId) → subject c.results chip n ≡ Some (Net m) → m.place < net_count c.design
    subjects_stand chip n m h = by_driver (one_of _ _ _ (one_driver chip n (Net m) h))
      where
        by_driver : (0 < count_by (λ (g : EmuGate). is_chip_net n g.output) (chip_at c.results.net chip).gates)
            ⊎ (0 < count_by (λ (r : EmuRegister). is_chip_net n r.q) (chip_at c.results.net chip).registers)
            ⊎ (0 < count_by (is_chip_net n) (read_nets (chip_at c.results.net chip)))
            → m.place < net_count c.design
        by_driver (inl some) =
            let f = counted_found (λ (g : EmuGate). is_chip_net n g.output) (chip_at c.results.net chip).gates some in
            gate_net c.design is.design c.results chip f.1 m (gates chip f.0 f.1 f.2) (ap (subject c.results chip) (number_same _ _ f.3) ∙ h)
        by_driver (inr (inl some)) =
            let f = counted_found (λ (r : EmuRegister). is_chip_net n r.q) (chip_at c.results.net chip).registers some in
            named_net c.design _ m (ap (subject c.results chip) (number_same _ _ f.3) ∙ h) (register_net_stands chip f.0 f.1 f.2)
        by_driver (inr (inr some)) = read_below chip n (read_at (chip_at c.results.net chip) n some) m h

-- ## What is shown where no gate is

-- where no gate drives a net, what comes to it is what is put on it
pub at_source : {A : Type 0} (chip : Chip) (source : ℕ → A) (combine : EmuGate → List A → A) (room n : ℕ) → gate_of chip n ≡ None → on_net chip source combine room n ≡ source n
at_source chip source combine zero n e = refl
at_source {A} chip source combine (suc room) n e =
    ap (λ (o : Option EmuGate). option_map_or (λ (gate : EmuGate). combine gate (map (λ (i : ChipNetId). on_net chip source combine room i.place) gate.inputs)) o (source n)) e
