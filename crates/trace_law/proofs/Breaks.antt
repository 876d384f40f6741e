-- A trace that breaks off is some first bytes of the whole.
use Rattle.std.proofs.Common.{◌≡◌, ℕ, suc, ◌+◌, ◌≤◌, Bool, List, [], ◌∷◌, ◌++◌, take, drop, length, refl, sym, ap, subst, ◌∙◌, arith, take-append-drop, append_assoc, length-append}
use Rattle.std.specs.Prelude.{flat_map}
use Rattle.std.specs.List.{enumerate_from}
use Rattle.std.proofs.lemmas.List.{take-append-le}
use Rattle.design_core.specs.declared.parts.Port.{Port}
use Rattle.emu_io.specs.Sink.{AppendsWhereTold}
use Rattle.domain_groups.specs.Traces.{trace_line_of, trace_of}
use Rattle.trace_law.specs.Traces.{BrokenTraces}

module _ (outputs : List Port) where
  -- the lines from a number on
  abbrev lines_from : ℕ → List (List Bool) → List ℕ
  lines_from n shown = flat_map (λ (number, bits). trace_line_of number outputs bits) (enumerate_from n shown)

  -- the lines before one, that line, and the lines after it
  parted : (n k : ℕ) (before : List (List Bool)) (last : List Bool) (rest : List (List Bool)) → k ≡ length before + n → lines_from n (before ++ last ∷ rest) ≡ lines_from n before ++ (trace_line_of k outputs last ++ lines_from (k + 1) rest)
  parted n k [] last rest at =
      let here : n ≡ k = omega (arith, at) in
      ap (λ number. trace_line_of number outputs last ++ lines_from (number + 1) rest) here
  parted n k (b ∷ bs) last rest at =
      let later : k ≡ length bs + (n + 1) = omega (arith, at) in
      ap (λ bytes. trace_line_of n outputs b ++ bytes) (parted (n + 1) k bs last rest later)
      ∙ sym (append_assoc (trace_line_of n outputs b) (lines_from (n + 1) bs) (trace_line_of k outputs last ++ lines_from (k + 1) rest))

-- first bytes that reach into the second of two texts
take_into : (xs ys : List ℕ) (n : ℕ) → take (length xs + n) (xs ++ ys) ≡ xs ++ take n ys
take_into [] ys n = let none : 0 + n ≡ n = omega arith in ap (λ k. take k ys) none
take_into (x ∷ xs) ys n =
    let more : suc (length xs) + n ≡ suc (length xs + n) = omega arith in
    ap (λ k. take k (x ∷ (xs ++ ys))) more ∙ ap (λ bytes. x ∷ bytes) (take_into xs ys n)

-- some first bytes of a line, after all lines before it
cut : (before line rest : List ℕ) (count : ℕ) → count ≤ length line → take (length before + count) (before ++ (line ++ rest)) ≡ before ++ take count line
cut before line rest count some =
    take_into before (line ++ rest) count ∙ ap (λ bytes. before ++ bytes) (take-append-le count line rest some)

within : (before line rest : List ℕ) (count : ℕ) → count ≤ length line → length before + count ≤ length (before ++ (line ++ rest))
within before line rest count some = omega (arith, length-append before (line ++ rest), length-append line rest)

pub broken_traces : BrokenTraces
broken_traces outputs shown count old new b =
    let before : List ℕ = trace_of outputs b.before in
    let line : List ℕ = trace_line_of (length b.before + 1) outputs b.last in
    let rest : List ℕ = lines_from outputs (length b.before + 1 + 1) (drop count shown) in
    let all : shown ≡ b.before ++ b.last ∷ drop count shown =
    sym (take-append-drop count shown)
    ∙ ap (λ first. first ++ drop count shown) b.are
    ∙ append_assoc b.before (b.last ∷ []) (drop count shown) in
    let whole : trace_of outputs shown ≡ before ++ (line ++ rest) =
    ap (trace_of outputs) all ∙ parted outputs 1 (length b.before + 1) b.before b.last (drop count shown) refl in (
      length before + b.count,
      subst (λ bytes. length before + b.count ≤ length bytes) (sym whole) (within before line rest b.count b.some),
      subst (λ more. AppendsWhereTold old more new) (sym (ap (take (length before + b.count)) whole ∙ cut before line rest b.count b.some)) b.text,
    )
