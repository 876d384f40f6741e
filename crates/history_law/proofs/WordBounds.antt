-- Words stay below 2 to the width of their memory.
use Rattle.std.proofs.Common.{◌≡◌, ℕ, zero, suc, ◌^◌, ◌<◌, Bool, true, false, List, [], ◌∷◌, refl, subst, sym, if◌then◌else◌}
use Rattle.std.specs.Prelude.{◌==◌, ◌&&◌, Some, slice_get}
use Rattle.std.proofs.lemmas.Option.{none-some, same_Some}
use Rattle.design_core.specs.declared.element.Memory.{Memory}
use Rattle.design_core.specs.declared.element.WritePort.{WritePort}
use Rattle.design_core.specs.declared.parts.Parts.{Parts}
use Rattle.design_core.specs.declared.values.PortBit.{PortBit}
use Rattle.design_core.specs.Design.{IsDesign, memory_fits}
use Rattle.design_core.specs.Valuation.{Valuation, WordsFit, shown_number}
use Rattle.design_core.specs.Event.{Follow, stores, written}
use Rattle.facts.proofs.Places.{all_at}
use Rattle.facts.proofs.Tests.{left, right, number_same}
use Rattle.history_law.specs.Words.{OpenedWordsFit, EventsKeepWordsFit, HistoryWordsFit}
use Rattle.history_law.proofs.Afterwards.{shown_bound}

pub opened_words_fit : OpenedWordsFit
opened_words_fit p o v fits h m a memory at low =
    subst (λ (x : ℕ). x < 2 ^ memory.width) (sym (h.words m a (memory, at, low))) (fits m a memory at low)

-- the data of a write port is a word of the memory
feed_bound : (p : Parts) (v : Valuation) (m k : ℕ) (memory : Memory) (port : WritePort) → IsDesign p → slice_get p.memories m ≡ Some memory → slice_get memory.writes k ≡ Some port → shown_number v port.feed < 2 ^ memory.width
feed_bound p v m k memory port d at in_port =
    let fits : memory_fits memory ≡ true = all_at memory_fits p.memories m memory d.memories_fit at in
    let both = all_at _ memory.writes k port (right _ _ (left _ _ fits)) in_port in
    shown_bound v port.feed memory.width (number_same _ _ (right _ _ both))

module _ (v w : Valuation) (bound : ℕ) where
  chosen : (b : Bool) (x y : ℕ) → x < bound → y < bound → (if b then x else y) < bound
  chosen true x y h g = h
  chosen false x y h g = g

  written_bound : (ports : List WritePort) (a old : ℕ) → ((k : ℕ) (port : WritePort) → slice_get ports k ≡ Some port → shown_number v port.feed < bound) → old < bound → written v w ports a old < bound
  written_bound [] a old h low = low
  written_bound (port ∷ ports) a old h low =
      written_bound ports a _ (λ k. h (suc k))
      (chosen (stores v w port && (shown_number v port.address == a)) (shown_number v port.feed) old (h 0 port refl) low)

pub events_keep_words_fit : EventsKeepWordsFit
events_keep_words_fit p v e w d fits h m a memory at low =
    subst (λ (x : ℕ). x < 2 ^ memory.width) (sym (h.words m a memory at (memory, at, low)))
    (written_bound v w (2 ^ memory.width) memory.writes a (v.word m a) (λ k port in_port. feed_bound p v m k memory port d at in_port) (fits m a memory at low))

follow_fits : (p : Parts) (events : List (List PortBit)) (v : Valuation) (vs : List Valuation) → IsDesign p → WordsFit p v.word → Follow p v events vs → (k : ℕ) (u : Valuation) → slice_get vs k ≡ Some u → WordsFit p u.word
follow_fits p [] v [] d fits h k u at = absurd (none-some u at)
follow_fits p [] v (x ∷ vs) d fits h k u at = absurd h
follow_fits p (e ∷ es) v [] d fits h k u at = absurd h
follow_fits p (e ∷ es) v (x ∷ vs) d fits h zero u at =
    subst (λ (y : Valuation). WordsFit p y.word) (same_Some x u at) (events_keep_words_fit p v e x d fits h.0)
follow_fits p (e ∷ es) v (x ∷ vs) d fits h (suc k) u at =
    follow_fits p es x vs d (events_keep_words_fit p v e x d fits h.0) h.1 k u at

pub history_words_fit : HistoryWordsFit
history_words_fit p o events [] d fits h k u at = absurd h
history_words_fit p o events (v ∷ vs) d fits h zero u at =
    subst (λ (y : Valuation). WordsFit p y.word) (same_Some v u at) (opened_words_fit p o v fits h.0)
history_words_fit p o events (v ∷ vs) d fits h (suc k) u at =
    follow_fits p events v vs d (opened_words_fit p o v fits h.0) h.1 k u at
