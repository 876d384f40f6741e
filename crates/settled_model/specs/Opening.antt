-- What may be given to a design, and what an opening gives to all nets, elements and words.
-- The rules are told in docs/RULES.md, "Opened" and "After an event".
use Rattle.std.specs.Prelude.{◌≡◌, ◌<◌, ◌^◌, ◌==◌, ◌&&◌, ℕ, Bool, false, if◌then◌else◌, Option, Some, None, List, [], ◌∷◌, length, unwrap_or, slice_get, Contains}
use Rattle.std.specs.Option.{option_or}
use Rattle.std.specs.List.{list_any}
use Rattle.id_arena.specs.declared.keys.ElemId.{ElemId}
use Rattle.design_core.specs.declared.element.Memory.{Memory}
use Rattle.design_core.specs.declared.parts.Parts.{Parts}
use Rattle.design_core.specs.declared.values.PortBit.{PortBit}
use Rattle.design_core.specs.Design.{port_bits}
use Rattle.design_core.specs.Event.{given}
use Rattle.design_core.specs.Settled as settled
use Rattle.settled_model.specs.declared.opening.OpenWord.{OpenWord}
use Rattle.settled_model.specs.declared.opening.Opening.{Opening}

-- values are given to bits of input ports alone
abbrev pub AreInputs : Parts → List PortBit → Type 0
AreInputs p values = (b : PortBit) → Contains values b → Contains (port_bits p.inputs) b.net

-- these elements are there
abbrev pub AreElements : Parts → List ElemId → Type 0
AreElements p ids = (id : ElemId) → Contains ids id → id.place < length p.elements

-- the memory of a word is there, and address and value are within its size
abbrev pub IsWord : Parts → OpenWord → Type 0
IsWord p w =
    (memory : Memory) × (slice_get p.memories w.mem.place ≡ Some memory)
    × (w.address < 2 ^ memory.address_bits)
    × (w.value < 2 ^ memory.width)

abbrev pub AreWords : Parts → List OpenWord → Type 0
AreWords p words = (w : OpenWord) → Contains words w → IsWord p w

-- an opening is one of this design
pub record Opens (p : Parts) (o : Opening) : Type 0 where
  pub inputs : AreInputs p o.inputs
  pub ones : AreElements p o.ones
  pub words : AreWords p o.words

-- whether an element is among these
abbrev pub is_among : List ElemId → ℕ → Bool
is_among ids k = list_any (λ id. id.place == k) ids

-- the word that is given to an address of a memory, if one is; where several are, the last counts
abbrev pub word_given : List OpenWord → ℕ → ℕ → Option ℕ
word_given [] m a = None
word_given (w ∷ ws) m a =
    option_or (word_given ws m a) (if (w.mem.place == m) && (w.address == a) then Some w.value else None)

-- What an opening gives to everything; what it does not name is 0. It names no bit of a read port with a
-- clock.
abbrev pub stands_for : Opening → settled.Opening
stands_for o =
    record {
      inputs = λ n. unwrap_or (given o.inputs n) false;
      states = λ k. is_among o.ones k;
      reads = λ m r b. false;
      words = λ m a. unwrap_or (word_given o.words m a) 0;
    }
