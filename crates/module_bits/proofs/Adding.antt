-- What is added to the bits and faults that were read.
use Rattle.std.proofs.Common.{◌≡◌, ◌+◌, ◌*◌, ◌≤◌, ℕ, ◌-◌, ◌^◌, zero, suc, Bool, true, false, not, ◌||◌, Option, Some, None, List, [], ◌++◌, ap, sym, ◌∙◌, refl, subst, arith, append-nil, append_assoc, drop, length, length-append, min, replicate, slice_get}
use Rattle.std.specs.Prelude.{nat_lt, OnOk, Result, Ok, Err}
use Rattle.std.specs.Option.{option_or}
use Rattle.std.proofs.Math.Seq.{drop-append_seam}
use native.Mathlib.Nat.{mul_comm}
use Rattle.std.proofs.lemmas.List.{length-drop}
use Rattle.std.proofs.lemmas.List.Concat.{length-flat_map}
use Rattle.std.proofs.lemmas.List.Folds.{sum_by-replicate}
use Rattle.std.proofs.lemmas.Option.{slice_get_past}
use Rattle.verilog_lex.specs.declared.token.Token.{Token}
use Rattle.facts.proofs.Tests.{must_not, not_true}
use Rattle.std.proofs.lemmas.Bool.{false_from_ne_true, le-ltb, lt-ltb, ltb-false, ltb-true}
use Rattle.id_arena.specs.declared.keys.NetId.{NetId}
use Rattle.module_nets.specs.Declarations.{most_bits}
use Rattle.module_bits.specs.declared.reading.Reading.{Reading}
use Rattle.module_bits.specs.Bits.{bits_of_kind, constant_bits, times}
use Rattle.module_bits.specs.Readings.{AddsBits, too_many}

-- too many bits stay too many with more of them
or_more : (wide : Bool) (few more : ℕ) → few ≤ more → (wide || nat_lt most_bits few) ≡ true → (wide || nat_lt most_bits more) ≡ true
or_more true few more less e = refl
or_more false few more less e = (let past = ltb-true most_bits few e in lt-ltb most_bits more (omega (arith, past, less)))

-- where they are not too many, there is room for them
room_for : (r : Reading) (more : List NetId) → too_many r more ≡ false → (r.wide ≡ false) × (length r.bits + length more ≤ most_bits)
room_for r more e = go r.wide refl e
  where
    go : (w : Bool) → r.wide ≡ w → (w || nat_lt most_bits (length r.bits + length more)) ≡ false → (r.wide ≡ false) × (length r.bits + length more ≤ most_bits)
    go true is bad = cc
    go false is fit = (is, ltb-false most_bits (length r.bits + length more) fit)

-- nothing is added, or a fault alone
pub adds_nothing : (old : Reading) (u m : Option ℕ) → AddsBits old (record old { unknown = option_or u old.unknown; misplaced = option_or m old.misplaced }) [] u m
adds_nothing old u m = record {
  unknown = refl;
  misplaced = refl;
  wide = λ few. same old.wide _ (let none : nat_lt most_bits (length old.bits + 0) ≡ false = le-ltb most_bits (length old.bits + 0) (omega (arith, few)) in none);
  few = λ few. few;
  bits = λ no. sym (append-nil old.bits);
  kept = λ yes. (yes, refl);
}
  where
    same : (wide b : Bool) → b ≡ false → wide ≡ (wide || b)
    same true b e = refl
    same false b e = sym e

-- bits for which there is room
pub adds_bits : (old : Reading) (more : List NetId) → too_many old more ≡ false → AddsBits old (record old { bits = old.bits ++ more }) more None None
adds_bits old more room = record {
  unknown = refl;
  misplaced = refl;
  wide = λ few. (room_for old more room).0 ∙ sym room;
  few = λ few. (let fit = (room_for old more room).1 in omega (arith, length-append old.bits more, fit));
  bits = λ no. refl;
  kept = λ yes. (let no : true ≡ false = sym yes ∙ (room_for old more room).0 in cc);
}

-- bits for which there is none
pub adds_none : (old : Reading) (more : List NetId) → too_many old more ≡ true → AddsBits old (record old { wide = true }) more None None
adds_none old more full = record {
  unknown = refl;
  misplaced = refl;
  wide = λ few. sym full;
  few = λ few. few;
  bits = λ no. (let no : true ≡ false = no in cc);
  kept = λ yes. (refl, refl);
}

-- one thing is added after another
pub adds_both : (a b c : Reading) (more further : List NetId) (u v m n : Option ℕ) → AddsBits a b more u m → AddsBits b c further v n → AddsBits a c (more ++ further) (option_or v u) (option_or n m)
adds_both a b c more further u v m n x y = record {
  unknown = y.unknown ∙ ap (option_or v) x.unknown ∙ first v u a.unknown;
  misplaced = y.misplaced ∙ ap (option_or n) x.misplaced ∙ first n m a.misplaced;
  wide = λ few. y.wide (x.few few) ∙ wide few b.wide refl;
  few = λ few. y.few (x.few few);
  bits = λ no. (let still = before no in y.bits no ∙ ap (λ l. l ++ further) (x.bits still) ∙ append_assoc a.bits more further);
  kept = λ yes. (let early = x.kept yes in let late = y.kept early.0 in (late.0, late.1 ∙ early.1));
}
  where
    first : (o p q : Option ℕ) → option_or o (option_or p q) ≡ option_or (option_or o p) q
    first None p q = refl
    first (Some k) p q = refl

    before : c.wide ≡ false → b.wide ≡ false
    before none = false_from_ne_true b.wide (λ some. let bad : true ≡ false = sym (y.kept some).0 ∙ none in cc)

    wide : length a.bits ≤ most_bits → (w : Bool) → b.wide ≡ w → too_many b further ≡ too_many a (more ++ further)
    wide few true e =
        ap (λ w. w || nat_lt most_bits (length b.bits + length further)) e
        ∙ sym (or_more a.wide (length a.bits + length more) (length a.bits + length (more ++ further)) (omega (arith, length-append more further)) (sym (x.wide few) ∙ e))
    wide few false e =
        ap (λ w. w || nat_lt most_bits (length b.bits + length further)) (e ∙ sym (room_for a more (sym (x.wide few) ∙ e)).0)
        ∙ ap (λ k. a.wide || nat_lt most_bits k) (let long : length b.bits + length further ≡ length a.bits + length (more ++ further) = omega (arith, ap (λ l. length l) (x.bits e), length-append a.bits more, length-append more further) in long)

-- parts that are repeated: they are added once, and their bits so many times again
pub adds_repeat : (a b c : Reading) (more : List NetId) (u m : Option ℕ) (n : ℕ) → AddsBits a b more u m → AddsBits b c (times n (drop (length a.bits) b.bits)) None None → AddsBits a c (times (suc n) more) u m
adds_repeat a b c more u m n x y = go b.wide refl
  where
    all : AddsBits a c (more ++ times n (drop (length a.bits) b.bits)) u m
    all = adds_both a b c more (times n (drop (length a.bits) b.bits)) u None m None x y

    go : (w : Bool) → b.wide ≡ w → AddsBits a c (times (suc n) more) u m
    go false e =
        let same : drop (length a.bits) b.bits ≡ more = ap (λ l. drop (length a.bits) l) (x.bits e) ∙ drop-append_seam a.bits more in
        subst (λ l. AddsBits a c (more ++ times n l) u m) same all
    go true e = record {
      unknown = all.unknown;
      misplaced = all.misplaced;
      wide = λ few.
          (y.kept e).0
          ∙ sym (or_more a.wide (length a.bits + length more) (length a.bits + length (more ++ times n more)) (omega (arith, length-append more (times n more))) (sym (x.wide few) ∙ e));
      few = all.few;
      bits = λ no. (let bad : true ≡ false = sym (y.kept e).0 ∙ no in cc);
      kept = all.kept;
    }

-- the answer of the test for room, and what was noted of it
pub full_noted : (old mid : Reading) (more : List NetId) (full : Bool) → full ≡ too_many old more → mid ≡ record old { wide = full } → not full ≡ false → AddsBits old mid more None None
full_noted old mid more full is noted none =
    let some : full ≡ true = must_not full (λ t. let bad : true ≡ false = sym t ∙ none in cc) in
    subst (λ r. AddsBits old r more None None) (ap {A = Bool} (λ w. record old { wide = w }) (sym some) ∙ sym noted) (adds_none old more (sym is ∙ some))

pub room_noted : (old mid : Reading) (more out : List NetId) (full : Bool) → full ≡ too_many old more → mid ≡ record old { wide = full } → not full ≡ true → out ≡ mid.bits ++ more → AddsBits old (record mid { bits = out }) more None None
room_noted old mid more out full is noted some made =
    let none : full ≡ false = not_true full some in
    let same : full ≡ old.wide = none ∙ sym (room_for old more (sym is ∙ none)).0 in
    let mid_is : mid ≡ old = noted ∙ ap {A = Bool} (λ w. record old { wide = w }) same in
    let out_is : out ≡ old.bits ++ more = made ∙ ap {A = Reading} (λ r. r.bits ++ more) mid_is in
    let all : record mid { bits = out } ≡ record old { bits = old.bits ++ more } = ap {A = Reading} (λ r. record r { bits = out }) mid_is ∙ ap {A = List NetId} (λ l. record old { bits = l }) out_is in
    subst (λ r. AddsBits old r more None None) (sym all)
    (adds_bits old more (sym is ∙ none))

-- the number of the bits, as the program has it
pub same_count : (old : Reading) (more : List NetId) (count : ℕ) → length more ≡ count → (old.wide || nat_lt most_bits (length old.bits + count)) ≡ too_many old more
same_count old more count e = ap (λ n. old.wide || nat_lt most_bits (length old.bits + n)) (sym e)

-- so many times so many bits, where the product ends at its type's end
pub length_times : (n : ℕ) (items : List NetId) → length (times n items) ≡ n * length items
length_times n items = length-flat_map (λ part. part) (replicate n items) ∙ sum_by-replicate (λ part. length part) n items

pub same_count_times : (old : Reading) (start count n most : ℕ) → count ≡ length old.bits - start → most ≡ min (count * n) (2 ^ 64 - 1) → (old.wide || nat_lt most_bits (length old.bits + most)) ≡ too_many old (times n (drop start old.bits))
same_count_times old start count n most is least =
    let all = length (times n (drop start old.bits)) in
    let product : all ≡ count * n = length_times n (drop start old.bits) ∙ ap (λ k. n * k) (length-drop start old.bits ∙ sym is) ∙ mul_comm n count in
    let end : most ≡ min all (2 ^ 64 - 1) = least ∙ ap (λ k. min k (2 ^ 64 - 1)) (sym product) in
    ap (λ b. old.wide || b) (same_test (length old.bits) most all end)
  where
    same_test : (len most all : ℕ) → most ≡ min all (2 ^ 64 - 1) → nat_lt most_bits (len + most) ≡ nat_lt most_bits (len + all)
    same_test len most all e = go (nat_lt most_bits (len + all)) refl
      where
        go : (b : Bool) → nat_lt most_bits (len + all) ≡ b → nat_lt most_bits (len + most) ≡ b
        go true t = (let past = ltb-true most_bits (len + all) t in lt-ltb most_bits (len + most) (omega (arith, past, e)))
        go false t = (let past = ltb-false most_bits (len + all) t in le-ltb most_bits (len + most) (omega (arith, past, e)))

-- a place without token is no constant
pub adds_past : (old : Reading) (tokens : List Token) (token : ℕ) → length tokens ≤ token → AddsBits old old (constant_bits tokens token) None None
adds_past old tokens token past =
    let none : slice_get tokens token ≡ None = slice_get_past tokens token past in
    let same : constant_bits tokens token ≡ [] = ap {A = Option Token} (λ o. elim o [ None ↦ [] | Some t ↦ bits_of_kind t.kind ]) none in
    subst (λ more. AddsBits old old more None None) (sym same) (adds_nothing old None None)

-- the same of a call that adds the copies
pub adds_repeated : {X E : Type 0} (a b c : Reading) (more : List NetId) (u m : Option ℕ) (start count n : ℕ) (r : Result X E) → start ≡ length a.bits → n ≡ count - 1 → (count ≡ 0 → ⊥) → AddsBits a b more u m → OnOk r (AddsBits b c (times n (drop start b.bits)) None None) → OnOk r (AddsBits a c (times count more) u m)
adds_repeated a b c more u m start count n (Err e) from less some x y = tt
adds_repeated a b c more u m start zero n (Ok k) from less some x y = absurd (some refl)
adds_repeated a b c more u m start (suc count) n (Ok k) from less some x y =
    let same : n ≡ count = omega (arith, less) in
    adds_repeat a b c more u m count x (subst (λ k. AddsBits b c (times k (drop (length a.bits) b.bits)) None None) same (subst (λ k. AddsBits b c (times n (drop k b.bits)) None None) from y))
