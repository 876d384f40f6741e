-- Hexadecimal digits put down from the last.
use Rattle.std.proofs.Common.{◌≡◌, ◌<◌, ◌≤◌, ◌+◌, ◌-◌, ◌*◌, ◌/◌, ◌%◌, ◌^◌, ◌==◌, ℕ, zero, suc, Bool, true, false, List, [], ◌∷◌, length, take, drop, if◌then◌else◌, refl, sym, ap, ◌∙◌, subst, arith}
use Rattle.std.proofs.Math.Nat.{pow-suc}
use Rattle.std.specs.Prelude.{slice_set, nat_eq, Result, OnOk, ◌++◌}
use Rattle.std.specs.Fmt.{digits, digits_onto, digit_glyph}
use Rattle.std.proofs.lemmas.List.{drop-set, length-set, length-drop}
use Rattle.std.proofs.lemmas.Bool.Decides.{nat_tests}
use Rattle.netlist_writer.specs.NetlistText.{hex}
use Rattle.netlist_writer.specs.HexDigits.{HexLeft}

none_left : (xs : List ℕ) (k : ℕ) → length xs ≡ k → drop k xs ≡ []
none_left [] zero e = refl
none_left [] (suc k) e = cc
none_left (x ∷ xs) zero e = cc
none_left (x ∷ xs) (suc k) e = none_left xs k (omega arith)

-- nothing put down yet
pub hex_start : (ds : List ℕ) (number : ℕ) → length ds ≡ 16 → number < 2 ^ 64 → HexLeft ds 16 number number
unfolding digits
hex_start ds number size small = record {
  size = size;
  some = omega arith;
  within = omega arith;
  small = small;
  left = rw (none_left ds 16 size) refl;
}

-- the step of one digit
step : (k rest : ℕ) (rest_of text : List ℕ) → digits_onto (suc k) 16 false rest rest_of ≡ text → (if rest / 16 == 0 then digit_glyph false (rest % 16) ∷ rest_of else digits_onto k 16 false (rest / 16) (digit_glyph false (rest % 16) ∷ rest_of)) ≡ text
step k rest rest_of text e = e

taken : {A : Type 0} (b : Bool) (x y z : A) → (if b then x else y) ≡ z → b ≡ true → x ≡ z
taken true x y z e is = e
taken false x y z e is = cc

passed : {A : Type 0} (b : Bool) (x y z : A) → (if b then x else y) ≡ z → b ≡ false → y ≡ z
passed true x y z e is = cc
passed false x y z e is = e

module _ (ds : List ℕ) (f rest number glyph : ℕ) (left : HexLeft ds (suc f) rest number) (is : glyph ≡ digit_glyph false (rest % 16)) where
  put_down : drop f (slice_set ds f glyph) ≡ digit_glyph false (rest % 16) ∷ drop (suc f) ds
  put_down =
      let size = left.size in
      let within = left.within in
      let next : f + 1 ≡ suc f = omega arith in
      drop-set ds f glyph (omega arith) ∙ ap (λ g. g ∷ drop (f + 1) ds) is ∙ ap (λ n. digit_glyph false (rest % 16) ∷ drop n ds) next

  stepped : (if rest / 16 == 0 then digit_glyph false (rest % 16) ∷ drop (suc f) ds else digits_onto (48 + f) 16 false (rest / 16) (digit_glyph false (rest % 16) ∷ drop (suc f) ds)) ≡ hex number
  stepped =
      let count : 48 + suc f ≡ suc (48 + f) = omega arith in
      step (48 + f) rest (drop (suc f) ds) (hex number)
      (subst (λ n. digits_onto n 16 false rest (drop (suc f) ds) ≡ hex number) count left.left)

  end_at : rest / 16 ≡ 0 → drop f (slice_set ds f glyph) ≡ hex number
  end_at none =
      put_down ∙ taken (rest / 16 == 0) _ _ _ stepped (grind (arith, nat_tests))

  next_at : (rest / 16 ≡ 0 → ⊥) → HexLeft (slice_set ds f glyph) f (rest / 16) number
  next_at more =
      let size = left.size in
      let within = left.within in
      let small = left.small in
      let power = pow-suc 16 f in
      let below : rest / 16 < 16 ^ f = omega (arith, power) in
      let test : (rest / 16 == 0) ≡ false = grind (arith, nat_tests) in
      record {
        size = length-set ds f glyph ∙ size;
        some = some_left f below;
        within = omega arith;
        small = below;
        left = subst (λ ts. digits_onto (48 + f) 16 false (rest / 16) ts ≡ hex number) (sym put_down) (passed (rest / 16 == 0) _ _ _ stepped test);
      } where
        some_left : (k : ℕ) → rest / 16 < 16 ^ k → 0 < k
        some_left zero lt = absurd (more (omega arith))
        some_left (suc k) lt = omega arith

pub hex_end : (ds : List ℕ) (first rest number glyph : ℕ) → HexLeft ds first rest number → glyph ≡ digit_glyph false (rest % 16) → rest / 16 ≡ 0 → drop (first - 1) (slice_set ds (first - 1) glyph) ≡ hex number
hex_end ds zero rest number glyph left is none = let some = left.some in absurd (omega arith)
hex_end ds (suc f) rest number glyph left is none =
    let back : suc f - 1 ≡ f = omega arith in
    subst (λ n. drop n (slice_set ds n glyph) ≡ hex number) (sym back) (end_at ds f rest number glyph left is none)

pub hex_next : (ds : List ℕ) (first rest number glyph : ℕ) → HexLeft ds first rest number → glyph ≡ digit_glyph false (rest % 16) → (rest / 16 ≡ 0 → ⊥) → HexLeft (slice_set ds (first - 1) glyph) (first - 1) (rest / 16) number
hex_next ds zero rest number glyph left is more = let some = left.some in absurd (omega arith)
hex_next ds (suc f) rest number glyph left is more =
    let back : suc f - 1 ≡ f = omega arith in
    subst (λ n. HexLeft (slice_set ds n glyph) n (rest / 16) number) (sym back) (next_at ds f rest number glyph left is more)

-- what was appended is the text that is wanted
pub appended : {X E : Type 0} (r : Result X E) (new old part text : List ℕ) → part ≡ text → OnOk r (new ≡ old ++ part) → OnOk r (new ≡ old ++ text)
appended r new old part text same = subst (λ t. OnOk r (new ≡ old ++ t)) same

take_all : {A : Type 0} (xs : List A) (k : ℕ) → length xs ≡ k → take k xs ≡ xs
take_all [] zero e = refl
take_all [] (suc k) e = refl
take_all (x ∷ xs) zero e = cc
take_all (x ∷ xs) (suc k) e = ap (λ ys. x ∷ ys) (take_all xs k (omega arith))

-- what is taken of the digits from one on is all of them
pub rest_taken : (ds : List ℕ) (k : ℕ) → length ds ≡ 16 → take (16 - k) (drop k ds) ≡ drop k ds
rest_taken ds k size = take_all (drop k ds) (16 - k) (length-drop k ds ∙ ap (λ n. n - k) size)

pub hex_size : (ds : List ℕ) (first rest number glyph at : ℕ) → HexLeft ds first rest number → length (slice_set ds at glyph) ≡ 16
hex_size ds first rest number glyph at left = length-set ds at glyph ∙ left.size
