-- An opening by plain numbers, and that its states are flip-flops and latches.
-- The rule is told in docs/FORMATS.md, "Openings and events".
use Rattle.std.specs.Prelude.{◌≡◌, ℕ, List, Some, map, slice_get, Contains}
use Rattle.id_arena.specs.declared.keys.ElemId.{ElemId}
use Rattle.design_core.specs.declared.element.Element.{Element}
use Rattle.design_core.specs.declared.parts.Parts.{Parts}
use Rattle.settled_model.specs.declared.opening.OpenWord.{OpenWord}
use Rattle.settled_model.specs.declared.opening.Opening.{Opening}
use Rattle.domain_groups.specs.Openings.{PlainOpening, PlainWord, state_number}

abbrev pub plain_word_of : OpenWord → PlainWord
plain_word_of w = record { mem = w.mem.place; address = w.address; value = w.value }

abbrev pub plain : Opening → PlainOpening
plain o = record { inputs = o.inputs; ones = map (λ id. id.place) o.ones; words = map plain_word_of o.words }

-- each of these elements is a flip-flop or a latch of the design
abbrev pub AreStates : Parts → List ElemId → Type 0
AreStates p ids =
    (id : ElemId) → Contains ids id → (e : Element) × (slice_get p.elements id.place ≡ Some e) × (state_number id.place e ≡ Some id.place)
