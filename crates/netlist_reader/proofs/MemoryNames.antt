-- The names of forms of memories, number by number.
use Rattle.std.proofs.Common.{◌≡◌, ◌≢◌, ◌<◌, ◌^◌, ℕ, List, [], ◌∷◌, ◌++◌, refl, sym, ap, ◌∙◌, subst, arith}
use Rattle.std.specs.Prelude.{codes, decimal}
use Rattle.std.proofs.lemmas.Fmt.{decimal_injective}
use Rattle.std.proofs.lemmas.List.{append_assoc, append_cancel_left}
use Rattle.netlist_reader.specs.Forms.{IsPossible, memory_text}
use Rattle.netlist_reader.specs.declared.shape.MemoryShape.{MemoryShape}
use Rattle.netlist_reader.proofs.Names.{same_bar}

-- what the numbers and the texts behind them are, where the name is that of a form
regroup : (a w p r : List ℕ) → a ++ 95 ∷ [] ++ w ++ 95 ∷ [] ++ p ++ 95 ∷ [] ++ r ≡ a ++ 95 ∷ (w ++ 95 ∷ (p ++ 95 ∷ r))
regroup a w p r = simp append_assoc refl

pub text_is : (shape : MemoryShape) → memory_text shape ≡ codes "EMEM_" ++ (decimal shape.address_bits ++ 95 ∷ (decimal shape.width ++ 95 ∷ (decimal shape.writes ++ 95 ∷ decimal shape.reads)))
text_is shape =
    ap (λ ds. codes "EMEM_" ++ ds) (regroup (decimal shape.address_bits) (decimal shape.width) (decimal shape.writes) (decimal shape.reads))

second : (shape : MemoryShape) → IsPossible shape → (a : ℕ) (bytes numbers n1 : List ℕ) → a < 2 ^ 32 → bytes ≡ codes "EMEM_" ++ numbers → numbers ≡ decimal a ++ 95 ∷ n1 → bytes ≡ memory_text shape
    → (a ≡ shape.address_bits) × (n1 ≡ decimal shape.width ++ 95 ∷ (decimal shape.writes ++ 95 ∷ decimal shape.reads))
second shape is a bytes numbers n1 small e f g =
    let limit = is.address_bits in
    let tails : numbers ≡ decimal shape.address_bits ++ 95 ∷ (decimal shape.width ++ 95 ∷ (decimal shape.writes ++ 95 ∷ decimal shape.reads)) = append_cancel_left (codes "EMEM_") numbers _ (sym e ∙ g ∙ text_is shape) in
    same_bar a shape.address_bits n1 _ small (omega arith) (sym f ∙ tails)

pub no_second : (bytes numbers n1 : List ℕ) (a : ℕ) → a < 2 ^ 32 → bytes ≡ codes "EMEM_" ++ numbers → numbers ≡ decimal a ++ 95 ∷ n1 → ((n : ℕ) (rest : List ℕ) → n < 2 ^ 32 → n1 ≢ decimal n ++ 95 ∷ rest) → (shape : MemoryShape) → IsPossible shape → bytes ≢ memory_text shape
no_second bytes numbers n1 a small e f none shape is g =
    let limit = is.width in
    none shape.width (decimal shape.writes ++ 95 ∷ decimal shape.reads) (omega arith) (second shape is a bytes numbers n1 small e f g).1

third : (shape : MemoryShape) → IsPossible shape → (a w : ℕ) (bytes numbers n1 n2 : List ℕ) → a < 2 ^ 32 → w < 2 ^ 32 → bytes ≡ codes "EMEM_" ++ numbers → numbers ≡ decimal a ++ 95 ∷ n1 → n1 ≡ decimal w ++ 95 ∷ n2 → bytes ≡ memory_text shape
    → (w ≡ shape.width) × (n2 ≡ decimal shape.writes ++ 95 ∷ decimal shape.reads)
third shape is a w bytes numbers n1 n2 small small-2 e f h g =
    let limit = is.width in
    same_bar w shape.width n2 (decimal shape.writes ++ 95 ∷ decimal shape.reads) small-2 (omega arith) (sym h ∙ (second shape is a bytes numbers n1 small e f g).1)

pub no_third : (bytes numbers n1 n2 : List ℕ) (a w : ℕ) → a < 2 ^ 32 → w < 2 ^ 32 → bytes ≡ codes "EMEM_" ++ numbers → numbers ≡ decimal a ++ 95 ∷ n1 → n1 ≡ decimal w ++ 95 ∷ n2 → ((n : ℕ) (rest : List ℕ) → n < 2 ^ 32 → n2 ≢ decimal n ++ 95 ∷ rest) → (shape : MemoryShape) → IsPossible shape → bytes ≢ memory_text shape
no_third bytes numbers n1 n2 a w small small-2 e f h none shape is g =
    let limit = is.ports in
    none shape.writes (decimal shape.reads) (omega arith) (third shape is a w bytes numbers n1 n2 small small-2 e f h g).1

fourth : (shape : MemoryShape) → IsPossible shape → (a w p : ℕ) (bytes numbers n1 n2 n3 : List ℕ) → a < 2 ^ 32 → w < 2 ^ 32 → p < 2 ^ 32 → bytes ≡ codes "EMEM_" ++ numbers → numbers ≡ decimal a ++ 95 ∷ n1 → n1 ≡ decimal w ++ 95 ∷ n2 → n2 ≡ decimal p ++ 95 ∷ n3 → bytes ≡ memory_text shape
    → (p ≡ shape.writes) × (n3 ≡ decimal shape.reads)
fourth shape is a w p bytes numbers n1 n2 n3 small small-2 small-3 e f h k g =
    let limit = is.ports in
    same_bar p shape.writes n3 (decimal shape.reads) small-3 (omega arith) (sym k ∙ (third shape is a w bytes numbers n1 n2 small small-2 e f h g).1)

pub no_fourth : (bytes numbers n1 n2 n3 : List ℕ) (a w p : ℕ) → a < 2 ^ 32 → w < 2 ^ 32 → p < 2 ^ 32 → bytes ≡ codes "EMEM_" ++ numbers → numbers ≡ decimal a ++ 95 ∷ n1 → n1 ≡ decimal w ++ 95 ∷ n2 → n2 ≡ decimal p ++ 95 ∷ n3 → ((n : ℕ) → n < 2 ^ 32 → n3 ≢ decimal n) → (shape : MemoryShape) → IsPossible shape → bytes ≢ memory_text shape
no_fourth bytes numbers n1 n2 n3 a w p small small-2 small-3 e f h k none shape is g =
    let limit = is.ports in
    none shape.reads (omega arith) (fourth shape is a w p bytes numbers n1 n2 n3 small small-2 small-3 e f h k g).1

pub not_possible : (bytes numbers n1 n2 n3 : List ℕ) (a w p r : ℕ) → a < 2 ^ 32 → w < 2 ^ 32 → p < 2 ^ 32 → r < 2 ^ 32 → bytes ≡ codes "EMEM_" ++ numbers → numbers ≡ decimal a ++ 95 ∷ n1 → n1 ≡ decimal w ++ 95 ∷ n2 → n2 ≡ decimal p ++ 95 ∷ n3 → n3 ≡ decimal r → (IsPossible (record { address_bits = a; width = w; writes = p; reads = r }) → ⊥) → (shape : MemoryShape) → IsPossible shape → bytes ≢ memory_text shape
not_possible bytes numbers n1 n2 n3 a w p r small small-2 small-3 small-4 e f h k l none shape is g =
    let limit = is.ports in
    let bits = (second shape is a bytes numbers n1 small e f g).0 in
    let ws = (third shape is a w bytes numbers n1 n2 small small-2 e f h g).0 in
    let fourths = fourth shape is a w p bytes numbers n1 n2 n3 small small-2 small-3 e f h k g in
    let rs = decimal_injective r shape.reads (omega arith) (omega arith) (sym l ∙ fourths.1) in
    none (subst IsPossible (λ i. record { address_bits = sym bits i; width = sym ws i; writes = sym fourths.0 i; reads = sym rs i }) is)

-- the names of two forms
pub same_form : (a b : MemoryShape) → IsPossible a → IsPossible b → memory_text a ≡ memory_text b → a ≡ b
same_form a b is is-2 e =
    let limit = is.ports in
    let limit-2 = is.address_bits in
    let limit-3 = is.width in
    let limit-4 = is-2.ports in
    let numbers = decimal a.address_bits ++ 95 ∷ (decimal a.width ++ 95 ∷ (decimal a.writes ++ 95 ∷ decimal a.reads)) in
    let bits = (second b is-2 a.address_bits (memory_text a) numbers _ (omega arith) (text_is a) refl e).0 in
    let ws = (third b is-2 a.address_bits a.width (memory_text a) numbers _ _ (omega arith) (omega arith) (text_is a) refl refl e).0 in
    let fourths = fourth b is-2 a.address_bits a.width a.writes (memory_text a) numbers _ _ _ (omega arith) (omega arith) (omega arith) (text_is a) refl refl refl e in
    let rs = decimal_injective a.reads b.reads (omega arith) (omega arith) fourths.1 in
    λ i. record { address_bits = bits i; width = ws i; writes = fourths.0 i; reads = rs i }
