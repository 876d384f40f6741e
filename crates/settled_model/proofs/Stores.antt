-- What a write port makes of the table of words.
use Rattle.std.proofs.Common.{◌≡◌, ◌<◌, ◌+◌, ◌^◌, ℕ, Bool, true, false, List, [], ◌∷◌, ◌++◌, take, length, refl, sym, ap, subst, ◌∙◌, if◌then◌else◌}
use Rattle.std.specs.Prelude.{◌==◌, ◌&&◌, Some, slice_get, slice_set}
use Rattle.std.proofs.lemmas.List.{length-set, take_more}
use Rattle.std.proofs.lemmas.Option.{slice_get_within, get_or_from_slice_get}
use Rattle.design_core.specs.declared.element.Memory.{Memory}
use Rattle.design_core.specs.declared.element.WritePort.{WritePort}
use Rattle.design_core.specs.declared.parts.Parts.{Parts}
use Rattle.design_core.specs.Design.{IsDesign}
use Rattle.design_core.specs.Limits.{word_count}
use Rattle.design_core.specs.Valuation.{Valuation, shown_number, IsAddress}
use Rattle.design_core.specs.Event.{stores, written}
use Rattle.facts.proofs.Tests.{same_number, number_same}
use Rattle.history_law.proofs.Afterwards.{written_same}
use Rattle.settled_model.specs.declared.turn.Turn.{Turn}
use Rattle.settled_model.specs.declared.turn.Turn.TheVariants.{Opening, Event}
use Rattle.settled_model.specs.Held.{shown, first_word, word_in}
use Rattle.settled_model.specs.Passing.{stored_in, written_in}
use Rattle.settled_model.proofs.Numbers.{shown_low}
use Rattle.settled_model.proofs.Places.{word_put}
use Rattle.settled_model.proofs.Sizes.{write_sizes, fits_at}

-- ## Words, as ports have written them

written_last : (v w : Valuation) (ports : List WritePort) (port : WritePort) (a old : ℕ)
    → written v w (ports ++ port ∷ []) a old ≡ (if stores v w port && (shown_number v port.address == a) then shown_number v port.feed else written v w ports a old)
written_last v w [] port a old = refl
written_last v w (x ∷ ports) port a old = written_last v w ports port a _

-- only the clocks count of what stands after
pub written_clocks : (turn : Turn) (v u w : Valuation) (ports : List WritePort) (a old : ℕ)
    → ((j : ℕ) (port : WritePort) → slice_get ports j ≡ Some port → u.net port.clock.place ≡ w.net port.clock.place)
    → written_in turn v u ports a old ≡ written_in turn v w ports a old
written_clocks Opening v u w ports a old h = refl
written_clocks Event v u w ports a old h = written_same v u w ports a old h

module _ (p : Parts) (d : IsDesign p) (old new : List Bool) (words : List ℕ) (size : length words ≡ word_count p)
    (m k : ℕ) (memory : Memory) (port : WritePort) (at : slice_get p.memories m ≡ Some memory) (in_port : slice_get memory.writes k ≡ Some port) where
  abbrev target : ℕ
  target = shown_number (shown old) port.address

  abbrev feed : ℕ
  feed = shown_number (shown old) port.feed

  in_memory : IsAddress p m target
  in_memory =
      let wide : length port.address ≡ memory.address_bits = (write_sizes memory (fits_at p d m memory at) k port in_port).address in
      (memory, at, subst (λ (j : ℕ). target < 2 ^ j) wide (shown_low old port.address))

  -- the words that a port leaves, where it stores or not
  stored_word : (b : Bool) (l a : ℕ) → IsAddress p l a
      → word_in p (if b then slice_set words (first_word p m + target) feed else words) l a ≡ (if b && ((m == l) && (target == a)) then feed else word_in p words l a)
  stored_word true l a address = word_put p words l m a target feed size address in_memory
  stored_word false l a address = refl

  other_memory : (b : Bool) (l a : ℕ) → (m ≡ l → ⊥) → (if b && ((m == l) && (target == a)) then feed else word_in p words l a) ≡ word_in p words l a
  other_memory b l a differ = go b (m == l) refl
    where
      go : (b t : Bool) → (m == l) ≡ t → (if b && (t && (target == a)) then feed else word_in p words l a) ≡ word_in p words l a
      go false t e = refl
      go true false e = refl
      go true true e = absurd (differ (number_same m l e))

  -- a port leaves the words of other memories as they are
  pub stored_other : (turn : Turn) (rest : List ℕ) (l a : ℕ) → IsAddress p l a → (m ≡ l → ⊥) → rest ≡ stored_in turn (shown old) (shown new) port (first_word p m) words → word_in p words l a ≡ word_in p rest l a
  stored_other Opening rest l a address differ e = ap (λ (ws : List ℕ). word_in p ws l a) (sym e)
  stored_other Event rest l a address differ e =
      sym
      (ap (λ (ws : List ℕ). word_in p ws l a) e
      ∙ stored_word (stores (shown old) (shown new) port) l a address
      ∙ other_memory (stores (shown old) (shown new) port) l a differ)

  pub stored_size : (turn : Turn) (rest : List ℕ) → rest ≡ stored_in turn (shown old) (shown new) port (first_word p m) words → length rest ≡ word_count p
  stored_size Opening rest e = ap length e ∙ size
  stored_size Event rest e = ap length e ∙ go (stores (shown old) (shown new) port)
    where
      go : (b : Bool) → length (if b then slice_set words (first_word p m + target) feed else words) ≡ word_count p
      go true = length-set words (first_word p m + target) feed ∙ size
      go false = size

  one_more : take (k + 1) memory.writes ≡ take k memory.writes ++ port ∷ []
  one_more =
      take_more memory.writes k port (slice_get_within memory.writes k port in_port)
      ∙ ap (λ (x : WritePort). take k memory.writes ++ x ∷ []) (get_or_from_slice_get memory.writes k port port in_port)

  this_memory : (b : Bool) (a x : ℕ) → (if b && ((m == m) && (target == a)) then feed else x) ≡ (if b && (target == a) then feed else x)
  this_memory b a x = ap (λ t. if b && (t && (target == a)) then feed else x) (same_number m m refl)

  -- the words of its own memory are what one more port makes of them
  pub stored_more : (turn : Turn) (rest : List ℕ) (a begun : ℕ) → a < 2 ^ memory.address_bits
      → rest ≡ stored_in turn (shown old) (shown new) port (first_word p m) words
      → word_in p words m a ≡ written_in turn (shown old) (shown new) (take k memory.writes) a begun
      → word_in p rest m a ≡ written_in turn (shown old) (shown new) (take (k + 1) memory.writes) a begun
  stored_more Opening rest a begun low e h = ap (λ (ws : List ℕ). word_in p ws m a) e ∙ h
  stored_more Event rest a begun low e h =
      ap (λ (ws : List ℕ). word_in p ws m a) e
      ∙ stored_word (stores (shown old) (shown new) port) m a (memory, at, low)
      ∙ this_memory (stores (shown old) (shown new) port) a (word_in p words m a)
      ∙ ap (λ (x : ℕ). if stores (shown old) (shown new) port && (target == a) then feed else x) h
      ∙ sym (ap (λ ports. written (shown old) (shown new) ports a begun) one_more
      ∙ written_last (shown old) (shown new) (take k memory.writes) port a begun)
