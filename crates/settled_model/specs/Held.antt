-- How tables of values of nets and of words stand for a valuation.
-- The rule is told in docs/RULES.md, "Values and valuations".
use Rattle.std.specs.Prelude.{◌≡◌, ◌+◌, ◌≤◌, ◌^◌, ℕ, Bool, false, List, take, length, get_or, slice_index}
use Rattle.std.specs.List.{sum_by}
use Rattle.design_core.specs.declared.element.Memory.{Memory}
use Rattle.design_core.specs.declared.parts.Parts.{Parts}
use Rattle.design_core.specs.Settled.{IsSettled}
use Rattle.design_core.specs.Valuation.{Valuation, WordsFit}

-- the valuation that a table of values of nets shows, where no word counts
abbrev pub shown : List Bool → Valuation
shown nets = record { net = λ n. get_or nets n false; word = λ m a. 0 }

abbrev pub size_of : Memory → ℕ
size_of memory = 2 ^ memory.address_bits

-- where the words of a memory begin, in a table of the words of all memories, one after the other
abbrev pub first_word : Parts → ℕ → ℕ
first_word p m = sum_by size_of (take m p.memories)

abbrev pub word_in : Parts → List ℕ → ℕ → ℕ → ℕ
word_in p words m a = slice_index words (first_word p m + a)

-- the valuation that the two tables show
abbrev pub holding : Parts → List Bool → List ℕ → Valuation
holding p nets words = record { net = λ n. get_or nets n false; word = λ m a. word_in p words m a }

-- where the words of each memory begin, and in the end where those of one more would
pub record AreBases (p : Parts) (bases : List ℕ) : Type 0 where
  pub size : length bases ≡ length p.memories + 1
  pub each : (m : ℕ) → m ≤ length p.memories → slice_index bases m ≡ first_word p m

-- the parts of a design, the value of each net, and the words of all memories, one after the other
pub record Held : Type 0 where
  pub parts : Parts
  pub nets : List Bool
  pub words : List ℕ

abbrev pub valuation : Held → Valuation
valuation h = holding h.parts h.nets h.words

-- the valuation is settled, and its words are below 2 to the width of their memory
pub record Stands (p : Parts) (v : Valuation) : Type 0 where
  pub settled : IsSettled p v
  pub words_fit : WordsFit p v.word
