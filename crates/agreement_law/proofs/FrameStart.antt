-- At the start of a frame the marks are true of a machine that is loaded.
use Rattle.std.proofs.Common.{◌≡◌, ℕ, zero, suc, ◌+◌, ◌<◌, arith, Bool, true, false, not, cond, List, [], ◌∷◌, map, refl, sym, ap, ◌∙◌, if◌then◌else◌}
use Rattle.std.specs.Prelude.{◌==◌, ◌&&◌, Option, Some, None, slice_get, unwrap_or, option_and_then, take, count_by}
use Rattle.std.specs.List.{enumerate_from}
use Rattle.std.specs.Option.{option_map_or}
use Rattle.std.proofs.Math.Seq.{take-nil}
use Rattle.std.proofs.lemmas.List.Sums.{sum_by-cons}
use Rattle.id_arena.specs.declared.keys.MemId.{MemId}
use Rattle.id_arena.specs.declared.wire.Wire.{Wire}
use Rattle.design_core.specs.declared.element.Memory.{Memory}
use Rattle.design_core.specs.declared.element.WritePort.{WritePort}
use Rattle.design_core.specs.declared.node.NodeId.{NodeId}
use Rattle.design_core.specs.declared.node.NodeId.TheVariants.{Write}
use Rattle.design_core.specs.declared.parts.Parts.{Parts}
use Rattle.design_core.specs.declared.values.PortBit.{PortBit}
use Rattle.design_core.specs.Design.{IsDesign}
use Rattle.design_core.specs.Valuation.{Valuation, shown_number}
use Rattle.design_core.specs.Event.{given, stores, written}
use Rattle.emu_machine.specs.declared.map.Subject.{Subject}
use Rattle.emu_machine.specs.declared.map.Subject.TheVariants.{Net, Up, Down, Take, Next, TakeWrite, Old, TakeRead}
use Rattle.emu_machine.specs.Results.{Results}
use Rattle.emu_machine.specs.State.{State, Timed, present}
use Rattle.emu_machine.specs.Mapped.{subject, memory_of, design_write, is_kept, IsValueOf, HoldsState, IsLoaded}
use Rattle.emu_machine.specs.Marks.{no_mark, only_before, design_writes, writes_of, start_marks, is_on_its_way}
use Rattle.emu_machine.specs.Acceptance.{Case}
use Rattle.marks_law.specs.Facts.{EventFacts}
use Rattle.marks_law.specs.Truth.{IsTrueOf}
use Rattle.facts.proofs.Counting.{counted_found}
use Rattle.facts.proofs.Tests.{no, left, below, not_true}
use Rattle.std.proofs.lemmas.Option.{none-some, same_Some}
use Rattle.history_law.proofs.Naming.{input_is_input_bit, input_bit_is_input}
use Rattle.marks_law.specs.Slots.{StateTrue}

-- ## The marks of what is kept

before_true : (p : Parts) (v w : Valuation) (o : Option Subject) (b : Bool) → IsValueOf v o b → IsTrueOf p v w o only_before b
before_true p v w None b h = tt
before_true p v w (Some (Net n)) b h = record { before = λ a. h; after = λ a. no a }
before_true p v w (Some (Up n)) b h = absurd h
before_true p v w (Some (Down n)) b h = absurd h
before_true p v w (Some (Take e)) b h = absurd h
before_true p v w (Some (Next e)) b h = absurd h
before_true p v w (Some (TakeWrite m k)) b h = absurd h
before_true p v w (Some (Old m k i)) b h = absurd h
before_true p v w (Some (TakeRead m k)) b h = absurd h

nothing_true : (p : Parts) (v w : Valuation) (o : Option Subject) (b : Bool) → IsTrueOf p v w o no_mark b
nothing_true p v w None b = tt
nothing_true p v w (Some what) b = record { before = λ a. no a; after = λ a. no a }

-- what is kept shows its value from before
pub kept_true : (p : Parts) (r : Results) (v w : Valuation) (x : State) → HoldsState p r v x → (chip net : ℕ) (b : Bool) → is_kept r chip net ≡ b → IsTrueOf p v w (subject r chip net) (if b then only_before else no_mark) (x.held chip net)
kept_true p r v w x state c n true e = before_true p v w (subject r c n) (x.held c n) (state.held c n e)
kept_true p r v w x state c n false e = nothing_true p v w (subject r c n) (x.held c n)

-- ## The writes that lie outside

module _ (p : Parts) (inside : NodeId → Bool) (v w : Valuation) (event : List PortBit) (facts : EventFacts p inside v event w) (m : MemId) where
  abbrev is_outside : NodeId → Bool
  is_outside a = not (inside a)

  abbrev nodes_from : ℕ → List WritePort → List NodeId
  nodes_from n ports = map (λ (k, port). Write m k) (enumerate_from n ports)

  -- the ports are those of the memory from the port of this number on
  abbrev Stand : ℕ → List WritePort → Type 0
  Stand n ports = (k i : ℕ) (port : WritePort) → slice_get ports k ≡ Some port → n + k ≡ i → design_write p m.place i ≡ Some port

  next_stand : (n : ℕ) (port : WritePort) (ports : List WritePort) → Stand n (port ∷ ports) → Stand (n + 1) ports
  next_stand n port ports stand k i other at e = let same : n + suc k ≡ i = omega arith in stand (suc k) i other at same

  -- a node of these ports is that of a port
  node_is : (n : ℕ) (ports : List WritePort) (k : ℕ) (a : NodeId) → slice_get (nodes_from n ports) k ≡ Some a → (i : ℕ) × (port : WritePort) × (slice_get ports k ≡ Some port) × (n + k ≡ i) × (Write m i ≡ a)
  node_is n [] k a at = absurd (none-some a at)
  node_is n (port ∷ ports) zero a at = let same : n + zero ≡ n = omega arith in (n, port, refl, same, same_Some (Write m n) a at)
  node_is n (port ∷ ports) (suc k) a at =
      let r = node_is (n + 1) ports k a at in
      let e : n + 1 + k ≡ r.0 = r.3 in
      let same : n + suc k ≡ r.0 = omega arith in
      (r.0, r.1, r.2, same, r.4)

  none_later : (n : ℕ) (port : WritePort) (ports : List WritePort) → Stand n (port ∷ ports) → inside (Write m n) ≡ true → count_by is_outside (nodes_from (n + 1) ports) ≡ 0
  none_later n port ports stand there = go (count_by is_outside (nodes_from (n + 1) ports)) refl
    where
      go : (k : ℕ) → count_by is_outside (nodes_from (n + 1) ports) ≡ k → count_by is_outside (nodes_from (n + 1) ports) ≡ 0
      go zero e = e
      go (suc k) e =
          let some : 0 < count_by is_outside (nodes_from (n + 1) ports) = omega arith in
          let f = counted_found is_outside (nodes_from (n + 1) ports) some in
          let r = node_is (n + 1) ports f.0 f.1 f.2 in
          let e : n + 1 + f.0 ≡ r.0 = r.3 in
          let less : n < r.0 = omega arith in
          let out : inside (Write m r.0) ≡ false = not_true _ (ap is_outside r.4 ∙ f.3) in
          no (sym (facts.in_order m n r.0 r.1 less (next_stand n port ports stand f.0 r.0 r.1 r.2 r.3) out) ∙ there)

  -- the ports that lie outside come first, and store nothing
  outside_idle : (n : ℕ) (ports : List WritePort) → Stand n ports → (a old : ℕ) → written v w (take (count_by is_outside (nodes_from n ports)) ports) a old ≡ old
  outside_idle n [] stand a old = ap (λ (ports : List WritePort). written v w ports a old) (take-nil (count_by is_outside (nodes_from n [])))
  outside_idle n (port ∷ ports) stand a old = go (inside (Write m n)) refl (outside_idle (n + 1) ports (next_stand n port ports stand) a old)
    where
      counts : count_by is_outside (nodes_from n (port ∷ ports)) ≡ cond {A = ℕ} (is_outside (Write m n)) 1 0 + count_by is_outside (nodes_from (n + 1) ports)
      counts = sum_by-cons (λ (a : NodeId). cond {A = ℕ} (is_outside a) 1 0) (Write m n) (nodes_from (n + 1) ports)

      go : (b : Bool) → inside (Write m n) ≡ b → written v w (take (count_by is_outside (nodes_from (n + 1) ports)) ports) a old ≡ old
          → written v w (take (count_by is_outside (nodes_from n (port ∷ ports))) (port ∷ ports)) a old ≡ old
      go true e rest =
          let none : count_by is_outside (nodes_from (n + 1) ports) ≡ 0 = none_later n port ports stand e in
          let plain : count_by is_outside (nodes_from n (port ∷ ports)) ≡ cond {A = ℕ} (not true) 1 0 + count_by is_outside (nodes_from (n + 1) ports) =
          counts ∙ ap (λ b. cond {A = ℕ} (not b) 1 0 + count_by is_outside (nodes_from (n + 1) ports)) e in
          let zeros : count_by is_outside (nodes_from n (port ∷ ports)) ≡ 0 = omega arith in
          ap (λ (k : ℕ). written v w (take k (port ∷ ports)) a old) zeros
      go false e rest =
          let plain : count_by is_outside (nodes_from n (port ∷ ports)) ≡ cond {A = ℕ} (not false) 1 0 + count_by is_outside (nodes_from (n + 1) ports) =
          counts ∙ ap (λ b. cond {A = ℕ} (not b) 1 0 + count_by is_outside (nodes_from (n + 1) ports)) e in
          let more : count_by is_outside (nodes_from n (port ∷ ports)) ≡ suc (count_by is_outside (nodes_from (n + 1) ports)) = omega arith in
          let first : n + 0 ≡ n = omega arith in
          let still : stores v w port ≡ false = facts.writes m n port (stand 0 n port refl first) e in
          ap (λ (k : ℕ). written v w (take k (port ∷ ports)) a old) more
          ∙ ap (λ (b : Bool). written v w (take (count_by is_outside (nodes_from (n + 1) ports)) ports) a (if b && (shown_number v port.address == a) then shown_number v port.feed else old)) still
          ∙ rest

module _ (p : Parts) (r : Results) (inside : NodeId → Bool) (v w : Valuation) (event : List PortBit) (facts : EventFacts p inside v event w) where
  standing_idle : (c m of a : ℕ) (memory : Memory) → memory_of r c m ≡ Some of → slice_get p.memories of ≡ Some memory → (old : ℕ)
      → written v w (take (count_by (λ a. not (inside a)) (writes_of p r c m)) memory.writes) a old ≡ old
  standing_idle c m of a memory at there old =
      let nodes : writes_of p r c m ≡ map (λ (k, port). Write (record { place = of }) k) (enumerate_from 0 memory.writes) =
      ap (λ o. option_map_or (design_writes p) o []) at ∙ ap (λ o. option_map_or (λ (memory : Memory). map (λ (k, port). Write (record { place = of }) k) (enumerate_from 0 memory.writes)) o []) there in
      ap (λ nodes. written v w (take (count_by (λ a. not (inside a)) nodes) memory.writes) a old) nodes
      ∙ outside_idle p inside v w event facts (record { place = of }) 0 memory.writes
      (λ k i port in_ports e.
      let same : k ≡ i = omega arith in
      ap (option_and_then (λ (memory : Memory). slice_get memory.writes i)) there ∙ ap (slice_get memory.writes) (sym same) ∙ in_ports)
      a old

-- no action is on its way as a frame starts
none_on_its_way : (wires : List Wire) (a : Timed) → is_on_its_way wires 0 a ≡ true → ⊥
none_on_its_way wires a h = let before : a.slot < 0 = below _ _ (left _ _ h) in omega arith

module _ (c : Case) (d : IsDesign c.design) (frame : ℕ) (inside : NodeId → Bool) (v w : Valuation) (event : List PortBit) (facts : EventFacts c.design inside v event w) (x : State) (loaded : IsLoaded c.design c.results v x) where
  pub start_true : StateTrue c frame 0 v w (start_marks c.design c.results inside) (present event x)
  start_true =
      record {
        sources = λ chip n. kept_true c.design c.results v w x loaded.state chip n (is_kept c.results chip n) refl;
        words = λ chip m of a memory at there address ok.
            loaded.state.words chip m of a at address ∙ sym (standing_idle c.design c.results inside v w event facts chip m of a memory at there (v.word of a));
        untouched = λ chip m of a at address ok. loaded.state.words chip m of a at address;
        outside = λ n e.
            let low = (input_bit_is_input c.design n d (input_is_input_bit c.design n e)).0 in
            ap (unwrap_or (given event n)) (loaded.outside n low e) ∙ sym (facts.follows.inputs n low e);
        flights = λ a wire net register ends has is at under_way. absurd (none_on_its_way c.board.wires a under_way);
      }
