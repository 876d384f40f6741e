-- How many write ports there are.
use Rattle.std.proofs.Common.{◌≡◌, ◌<◌, ◌≤◌, ◌+◌, ◌*◌, ◌^◌, ℕ, zero, suc, Bool, true, ◌&&◌, List, [], ◌∷◌, Some, length, arith}
use Rattle.std.specs.Prelude.{slice_get, nat_lt, nat_le}
use Rattle.std.specs.List.{list_all, sum_by}
use Rattle.std.proofs.lemmas.Bool.{and_parts, leb-true}
use Rattle.std.proofs.lemmas.List.Sums.{sum_by-cons}
use Rattle.std.proofs.lemmas.Nat.{pow_pos}
use Rattle.std.proofs.lemmas.Option.{slice_get_within}
use Rattle.design_core.specs.declared.element.Memory.{Memory}
use Rattle.design_core.specs.declared.parts.Parts.{Parts}
use Rattle.design_core.specs.Design.{IsDesign, memory_fits}
use Rattle.design_core.specs.Limits.{IsWithin}
use Rattle.clock_rank.specs.Numbers.{writes_before, first_write, AreStarts}

pub before_more : (ms : List Memory) (m : ℕ) (memory : Memory) → slice_get ms m ≡ Some memory
    → writes_before (suc m) ms ≡ writes_before m ms + length memory.writes
before_more [] m memory at = absurd (cc)
before_more (x ∷ ms) zero memory at = let same : x ≡ memory = cc in rw same (omega arith)
before_more (x ∷ ms) (suc m) memory at = let rest = before_more ms m memory at in omega arith

pub before_grows : (ms : List Memory) (m n : ℕ) → m ≤ n → writes_before m ms ≤ writes_before n ms
before_grows ms zero n below = omega arith
before_grows ms (suc m) zero below = absurd (omega arith)
before_grows [] (suc m) (suc n) below = omega arith
before_grows (x ∷ ms) (suc m) (suc n) below = let rest = before_grows ms m n (omega arith) in omega arith

few_ports : (a b c d e f : Bool) → (a && b && c && d && e && f) ≡ true → d ≡ true
few_ports a b c d e f all =
    let four = and_parts (a && b && c && d) e (and_parts (a && b && c && d && e) f all).0 in
    (and_parts (a && b && c) d four.0).1

pub ports_few : (memory : Memory) → memory_fits memory ≡ true → length memory.writes ≤ 16
ports_few memory fits =
    let few = leb-true _ _ (few_ports (nat_le memory.address_bits 16) (nat_lt 0 memory.width) (nat_le memory.width 128)
    (nat_le (length memory.writes + length memory.reads) 16) _ _ fits) in
    omega arith

before_few : (ms : List Memory) (m : ℕ) → list_all memory_fits ms ≡ true → writes_before m ms ≤ 16 * length ms
before_few ms zero all = omega arith
before_few [] (suc m) all = omega arith
before_few (x ∷ ms) (suc m) all =
    let parts = and_parts (memory_fits x) (list_all memory_fits ms) all in
    let here = ports_few x parts.0 in
    let rest = before_few ms m parts.1 in
    omega arith

-- each memory has a word
some_words : (ms : List Memory) → length ms ≤ sum_by (λ (memory : Memory). 2 ^ memory.address_bits) ms
some_words [] = omega arith
some_words (x ∷ ms) =
    let rest = some_words ms in
    let e = sum_by-cons (λ (memory : Memory). 2 ^ memory.address_bits) x ms in
    let one : 0 < 2 ^ x.address_bits = pow_pos x.address_bits in
    omega arith

pub few_nodes : (p : Parts) (m : ℕ) → IsDesign p → IsWithin p → first_write p m ≤ 67508864
few_nodes p m d w =
    let writes = before_few p.memories m d.memories_fit in
    let words = some_words p.memories in
    let most = w.words in
    let nets = w.nets in
    omega arith

-- the number of a write node fits
pub start_fits : (p : Parts) (n : ℕ) (starts : List ℕ) → AreStarts p n starts → (m : ℕ) (memory : Memory) → slice_get p.memories m ≡ Some memory
    → first_write p m + length memory.writes ≤ 4294967295
start_fits p n starts s m memory at =
    let within = slice_get_within p.memories m memory at in
    let next = before_more p.memories m memory at in
    let grown = before_grows p.memories (suc m) (length p.memories) (omega arith) in
    let small = s.small in
    omega arith
