-- The action `write`, which stores a word, and what a slot makes of the words of a memory.
use Rattle.std.proofs.Common.{◌≡◌, ℕ, zero, suc, ◌+◌, ◌<◌, arith, Bool, true, false, not, List, [], ◌∷◌, map, refl, subst, sym, ap, ◌∙◌, if◌then◌else◌}
use Rattle.std.specs.Prelude.{◌&&◌, ◌||◌, ◌==◌, nat_le, is_some, Option, Some, None, slice_get, unwrap_or, option_and_then, take}
use Rattle.std.specs.List.{list_any}
use Rattle.std.specs.Option.{option_or, option_map_or}
use Rattle.std.proofs.lemmas.Option.{none-some, same_Some}
use Rattle.std.proofs.lemmas.Bool.{and_from, or_parts, not-false}
use Rattle.std.proofs.lemmas.Bool.Decides.{nat_tests}
use Rattle.id_arena.specs.declared.keys.NetId.{NetId}
use Rattle.design_core.specs.declared.element.Memory.{Memory}
use Rattle.design_core.specs.declared.element.WritePort.{WritePort}
use Rattle.design_core.specs.declared.node.NodeId.{NodeId}
use Rattle.design_core.specs.Operation.{number}
use Rattle.design_core.specs.Valuation.{Valuation, values, shown_number, IsAddress}
use Rattle.design_core.specs.Event.{stores, written}
use Rattle.emu_machine.specs.declared.netlist.EmuWrite.{EmuWrite}
use Rattle.emu_machine.specs.declared.map.Subject.TheVariants.{Net, TakeWrite}
use Rattle.emu_machine.specs.declared.place.Thing.TheVariants as thing
use Rattle.emu_machine.specs.declared.schedule.Action.{Action}
use Rattle.emu_machine.specs.declared.schedule.Action.TheVariants as action
use Rattle.emu_machine.specs.State.{State, net_value, net_values, net_number, write_port, stored_word, action_word, first_given, timed}
use Rattle.emu_machine.specs.Mapped.{subject, memory_of}
use Rattle.emu_machine.specs.Marks.{MarkState, net_mark, net_marks, all_before, port_written, write_counts}
use Rattle.emu_machine.specs.Acceptance.{Case, slot_actions, used_if, same_thing, uses_thing}
use Rattle.marks_law.specs.Truth.{NetsTrue}
use Rattle.facts.proofs.Tests.{no, left, right, number_same, same_number}
use Rattle.marks_law.proofs.Inputs.{of_subject, inputs_true, before_values}
use Rattle.marks_law.specs.Slots.{StateTrue, PartsFit, FrameFits}
use Rattle.marks_law.proofs.Given.{none_given}
use Rattle.marks_law.proofs.FrameActions.{used_once_in}
use Rattle.slot_law.proofs.Targets.{memory_thing}
use Rattle.slot_law.proofs.Memories.{StandsForMemory, stands_for_memory, of_is, write_beside, write_port_at}

-- ## The first write of a slot is the only one

-- an action writes through no port of the memory, or through one, which stores what it stores
pub data IsWritten (word : ℕ → Option ℕ) (Own : Type 0) : Option ℕ → Option ℕ → Type 0 where
  idle : IsWritten word Own None None
  write : (k : ℕ) → Own → IsWritten word Own (Some k) (word k)

module _ (word : ℕ → Option ℕ) where
  -- what does not write stores nothing
  not_later : (Own : Type 0) (o q : Option ℕ) → IsWritten word Own o q → (Own → ⊥) → q ≡ None
  not_later Own _ _ idle h = refl
  not_later Own _ _ (write k own) h = absurd (h own)

  -- what is given first stands where nothing is given after it
  alone : (o q : Option ℕ) → q ≡ None → option_or o q ≡ o
  alone None q e = e
  alone (Some x) q e = refl

  module _ (ports words : Action → Option ℕ) (Own : Action → Type 0) where
    -- the first action writes, or those after it
    at_first : (a : Action) (actions : List Action) (o q : Option ℕ)
        → IsWritten word (Own a) o q
        → (Own a → first_given words actions ≡ None)
        → IsWritten word (Unit {0}) (first_given ports actions) (first_given words actions)
        → IsWritten word (Unit {0}) (option_or o (first_given ports actions)) (option_or q (first_given words actions))
    at_first a actions _ _ idle none rest = rest
    at_first a actions _ _ (write k own) none rest =
        subst (λ q. IsWritten word (Unit {0}) (Some k) q) (sym (alone (word k) (first_given words actions) (none own))) (write k tt)

    -- the first write is the only one, and stores what is stored
    first_written : (actions : List Action) → ((j : ℕ) (a : Action) → slice_get actions j ≡ Some a → IsWritten word (Own a) (ports a) (words a))
        → ((i j : ℕ) (a b : Action) → i < j → slice_get actions i ≡ Some a → slice_get actions j ≡ Some b → Own a → Own b → ⊥)
        → IsWritten word (Unit {0}) (first_given ports actions) (first_given words actions)
    first_written [] each apart = idle
    first_written (a ∷ actions) each apart =
        at_first a actions (ports a) (words a) (each 0 a refl)
        (λ own.
        none_given words actions
        (λ j b at.
        let less : 0 < suc j = omega arith in
        not_later (Own b) (ports b) (words b) (each (suc j) b at) (λ other. apart 0 (suc j) a b less refl at own other)))
        (first_written actions (λ j. each (suc j)) (λ i j b d less. let more : suc i < suc j = omega arith in apart (suc i) (suc j) b d more))

-- an action of one slot ends in the slot in which it stands
ends_at_once : (t : ℕ) → (nat_le t t && (t + 1 == t + 1)) ≡ true
ends_at_once t =
    let first : nat_le t t ≡ true = grind (arith, nat_tests) in
    let last : (t + 1 == t + 1) ≡ true = grind (arith, nat_tests) in
    and_from (nat_le t t) (t + 1 == t + 1) first last

module _ (c : Case) (x : State) (chip m a : ℕ) where
  -- what a write through a port stores at an address
  abbrev word_of : ℕ → Option ℕ
  word_of k = option_and_then (λ w. stored_word c.results.net x chip w a) (write_port c.results.net chip m k)

  -- an action of a slot uses the memory in it
  abbrev Uses : ℕ → Action → Type 0
  Uses t act = uses_thing c.board.wires t (memory_thing chip m) (timed t act) ≡ true

  -- an action that writes to the memory uses it
  by_action : (t : ℕ) (act : Action) → IsWritten word_of (Uses t act) (port_written chip m act) (action_word c.results.net x act chip m a)
  by_action t (action.Input on register net) = idle
  by_action t (action.Load on register) = idle
  by_action t (action.Send wire net register) = idle
  by_action t (action.Read on mem port) = idle
  by_action t (action.Write on mem port) = go ((on.place == chip) && (mem.place == m)) refl
    where
      go : (b : Bool) → ((on.place == chip) && (mem.place == m)) ≡ b
          → IsWritten word_of (Uses t (action.Write on mem port)) (if b then Some port else None) (if b then word_of port else None)
      go false e = idle
      go true e =
          write port
          (subst (λ last. list_any (same_thing (memory_thing chip m)) (used_if last (thing.Memory on mem)) ≡ true) (sym (ends_at_once t))
          (ap (λ b. b || false)
          (and_from (chip == on.place) (m == mem.place)
          (same_number chip on.place (sym (number_same on.place chip (left (on.place == chip) (mem.place == m) e))))
          (same_number m mem.place (sym (number_same mem.place m (right (on.place == chip) (mem.place == m) e)))))))

  -- a slot writes at most once to a memory
  pub words_written : (frame slot : ℕ) → FrameFits c frame
      → IsWritten word_of (Unit {0}) (first_given (port_written chip m) (slot_actions c frame slot)) (first_given (λ act. action_word c.results.net x act chip m a) (slot_actions c frame slot))
  words_written k t fit =
      first_written word_of (port_written chip m) (λ act. action_word c.results.net x act chip m a) (Uses t) (slot_actions c k t)
      (λ j act at. by_action t act)
      (λ i j act other less at_i at_j in_i in_j. used_once_in c k fit t t (memory_thing chip m) i j act other less at_i at_j in_i in_j)

-- ## One more write port is done

module _ (v w : Valuation) where
  -- what a write port of the design makes of a word
  abbrev put : WritePort → ℕ → ℕ → ℕ
  put port a old = if stores v w port && (shown_number v port.address == a) then shown_number v port.feed else old

  -- one more port acts after those before it
  written_more : (ports : List WritePort) (k : ℕ) (port : WritePort) (a old : ℕ) → slice_get ports k ≡ Some port
      → written v w (take (suc k) ports) a old ≡ put port a (written v w (take k ports) a old)
  written_more [] k port a old at = absurd (none-some port at)
  written_more (q ∷ ports) zero port a old at = ap (λ r. put r a old) (same_Some q port at)
  written_more (q ∷ ports) (suc k) port a old at = written_more ports k port a (put q a old) at

-- a word that may be stored, or stays
stored_or : (b : Bool) (y old : ℕ) → unwrap_or (if b then Some y else None) old ≡ (if b then y else old)
stored_or true y old = refl
stored_or false y old = refl

-- ## Words at the end of a slot

module _ (c : Case) (parts : PartsFit c) (inside : NodeId → Bool) (v w : Valuation) (frame t : ℕ) (s : MarkState) (x : State)
    (old : StateTrue c frame t v w s x) (nets : NetsTrue c.design c.results inside v w s x)
    (chip m of a : ℕ) (memory : Memory) (at : memory_of c.results chip m ≡ Some of) (in_design : slice_get c.design.memories of ≡ Some memory) (address : IsAddress c.design of a) where
  -- a write through a port counts
  abbrev counts : ℕ → Bool
  counts k = write_counts c.design c.results inside s chip m k

  -- its nets bear the marks that it wants
  abbrev bears : EmuWrite → Bool
  bears port =
      (net_mark c.design c.results inside s chip port.enable.place).after
      && all_before (net_marks c.design c.results inside s chip port.address)
      && all_before (net_marks c.design c.results inside s chip port.feed)

  -- a write that counts stores just what the design's port stores
  stored_is : (k : ℕ) (port : EmuWrite) → write_port c.results.net chip m k ≡ Some port → bears port ≡ true
      → (d : WritePort) × (slice_get memory.writes k ≡ Some d) × (unwrap_or (stored_word c.results.net x chip port a) (x.word chip m a) ≡ put v w d a (x.word chip m a))
  stored_is k port in_chip e =
      let there = write_port_at c chip m k port in_chip in
      let h : StandsForMemory c chip m there.0 = stands_for_memory c parts chip m there.0 there.1 in
      let beside = write_beside c parts chip m there.0 h k port there.2 in
      let d : WritePort = beside.0 in
      let place : h.entry.of.place ≡ of = same_Some _ _ (sym (of_is c parts chip m there.0 h) ∙ at) in
      let same : h.design ≡ memory = same_Some _ _ (sym h.in_design ∙ ap (slice_get c.design.memories) place ∙ in_design) in
      let enable : net_value c.results.net x chip port.enable.place ≡ stores v w d =
      (of_subject c.design v w (TakeWrite h.entry.of k) _ _ (subject c.results chip port.enable.place) (left _ _ (left _ _ beside.2)) (nets chip port.enable.place)).after (left _ _ (left _ _ e))
      ∙ ap (λ o. option_map_or (stores v w) o false) (ap (option_and_then (λ (memory : Memory). slice_get memory.writes k)) h.in_design ∙ beside.1) in
      let addresses : net_values c.results.net x chip port.address ≡ values v d.address =
      before_values c.design v w (λ (n : NetId). n) d.address _ _
      (inputs_true c.design v w c.results chip (net_mark c.design c.results inside s chip) (net_value c.results.net x chip) (nets chip) port.address (map Net d.address) (right _ _ (left _ _ beside.2)))
      (right _ _ (left _ _ e)) in
      let feeds : net_values c.results.net x chip port.feed ≡ values v d.feed =
      before_values c.design v w (λ (n : NetId). n) d.feed _ _
      (inputs_true c.design v w c.results chip (net_mark c.design c.results inside s chip) (net_value c.results.net x chip) (nets chip) port.feed (map Net d.feed) (right _ _ beside.2))
      (right _ _ e) in (
        d,
        subst (λ (o : Memory). slice_get o.writes k ≡ Some d) same beside.1,
        (stored_or (net_value c.results.net x chip port.enable.place && (net_number c.results.net x chip port.address == a)) (net_number c.results.net x chip port.feed) (x.word chip m a)
            ∙ ap (λ b. if b && (net_number c.results.net x chip port.address == a) then net_number c.results.net x chip port.feed else x.word chip m a) enable
            ∙ ap (λ bs. if stores v w d && (number bs == a) then net_number c.results.net x chip port.feed else x.word chip m a) addresses
            ∙ ap (λ bs. if stores v w d && (shown_number v d.address == a) then number bs else x.word chip m a) feeds),
      )

  -- after a write that counts the words are those after one more port
  word_more : s.broken chip m ≡ false → (k : ℕ) → k ≡ s.standing chip m → (o : Option EmuWrite) → write_port c.results.net chip m k ≡ o → option_map_or bears o false ≡ true
      → unwrap_or (option_and_then (λ w. stored_word c.results.net x chip w a) o) (x.word chip m a) ≡ written v w (take (s.standing chip m + 1) memory.writes) a (v.word of a)
  word_more whole k next None in_chip e = no e
  word_more whole k next (Some port) in_chip e =
      let d = stored_is k port in_chip e in
      let more : suc k ≡ s.standing chip m + 1 = omega arith in
      d.2
      ∙ ap (put v w d.0 a) (old.words chip m of a memory at in_design address whole ∙ ap (λ j. written v w (take j memory.writes) a (v.word of a)) (sym next))
      ∙ sym (written_more v w memory.writes k d.0 a (v.word of a) d.1)
      ∙ ap (λ j. written v w (take j memory.writes) a (v.word of a)) more

  -- the standing tells of the words at the end of the slot as it did at its start
  pub word_kept : (o q : Option ℕ) → IsWritten (word_of c x chip m a) (Unit {0}) o q
      → (s.broken chip m || option_map_or (λ k. not (counts k)) o false) ≡ false
      → unwrap_or q (x.word chip m a)
      ≡ written v w (take (option_map_or (λ k. if counts k then s.standing chip m + 1 else s.standing chip m) o (s.standing chip m)) memory.writes) a (v.word of a)
  word_kept _ _ idle e = old.words chip m of a memory at in_design address (or_parts (s.broken chip m) false e).0
  word_kept _ _ (write k own) e =
      let both = or_parts (s.broken chip m) (not (counts k)) e in
      let good : counts k ≡ true = not-false (counts k) both.1 in
      word_more both.0 k (number_same _ _ (left _ _ good)) (write_port c.results.net chip m k) refl (right _ _ good)
      ∙ ap (λ b. written v w (take (if b then s.standing chip m + 1 else s.standing chip m) memory.writes) a (v.word of a)) (sym good)

-- a memory that no write has touched keeps its words
pub word_untouched : (c : Case) (x : State) (chip m a : ℕ) (wrote : Bool) (word : ℕ) (o q : Option ℕ) → IsWritten (word_of c x chip m a) (Unit {0}) o q
    → (wrote || is_some o) ≡ false
    → (wrote ≡ false → x.word chip m a ≡ word)
    → unwrap_or q (x.word chip m a) ≡ word
word_untouched c x chip m a wrote word _ _ idle e h = h (or_parts wrote false e).0
word_untouched c x chip m a wrote word _ _ (write k own) e h = no (sym (or_parts wrote true e).1)
