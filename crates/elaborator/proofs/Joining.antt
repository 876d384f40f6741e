-- Elements that are put behind others, some and then more.
use Rattle.std.proofs.Common.{◌≡◌, ◌+◌, ℕ, zero, suc, List, [], ◌∷◌, drop, length, refl, arith, append-nil}
use Rattle.std.proofs.Common.{◌∙◌, min}
use Rattle.std.proofs.lemmas.Slice.Zip.{length-zip}
use Rattle.design_core.specs.declared.element.Element.TheVariants as element
use Rattle.design_core.specs.declared.operation.Op.TheVariants.{Buf}
use Rattle.std.specs.List.{zip}
use Rattle.std.proofs.lemmas.List.{length-map}
use Rattle.flattening.specs.declared.made.Made.{Made}
use Rattle.id_arena.specs.declared.keys.NetId.{NetId}
use Rattle.flattening.specs.Pieces.{buffers, elements_in, joined}

pub zero_more : (n : ℕ) → n + 0 ≡ n
zero_more n = omega arith

-- no elements change nothing
pub joined_none : (made : Made) (scope : ℕ) → joined made (elements_in scope []) ≡ made
joined_none made scope =
    rw (
      append-nil made.net_names,
      append-nil made.scopes,
      append-nil made.elements,
      append-nil made.paths,
      append-nil made.memories,
      zero_more made.modules,
    ) refl

-- behind the last pair there are no buffers
pub buffers_end : (from to : List NetId) (n : ℕ) → n ≡ min (length from) (length to) → buffers (drop n from) (drop n to) ≡ []
buffers_end [] to n all = grind arith
buffers_end (source ∷ from) [] n all = grind arith
buffers_end (source ∷ from) (target ∷ to) zero all = absurd (omega (arith, all))
buffers_end (source ∷ from) (target ∷ to) (suc n) all = buffers_end from to n (omega (arith, all))

-- a buffer for each pair
pub buffers_count : (from to : List NetId) → length (buffers from to) ≡ min (length from) (length to)
buffers_count from to = length-map (zip from to) (λ (p : NetId × NetId). element.Gate Buf (p.0 ∷ []) p.1) ∙ length-zip from to
