-- A trace grows by the line of one more event, and breaks off where that line could not be put.
use Rattle.std.proofs.Common.{◌≡◌, ◌<◌, ◌≤◌, ◌+◌, ℕ, suc, Bool, List, [], ◌∷◌, ◌++◌, take, length, get_or, refl, sym, ap, subst, ◌∙◌, arith}
use Rattle.std.specs.Prelude.{Option, Some, None, Err, flat_map, slice_get}
use Rattle.std.specs.List.{enumerate_from}
use Rattle.std.proofs.lemmas.Grind.{flat_map-append}
use Rattle.std.proofs.lemmas.List.{append-nil, append_assoc}
use Rattle.std.proofs.lemmas.Option.{slice_get_within, slice_get-get_or, same_Some}
use Rattle.std.proofs.Math.Seq.{take-suc}
use Rattle.design_core.specs.declared.parts.Port.{Port}
use Rattle.emu_io.specs.declared.files.StoreFault.{StoreFault}
use Rattle.emu_io.specs.declared.files.StoreFault.TheVariants as store
use Rattle.emu_io.specs.Faults.{Rose}
use Rattle.emu_io.specs.Sink.{AppendsWhereTold, PutMeans}
use Rattle.settled_model.specs.Runs.{last_of}
use Rattle.domain_groups.specs.Traces.{BreaksOff, trace_line_of, trace_of}
use Rattle.event_replay.specs.Runs.{Leaves, Shows}

enumerate_more : {X : Type 0} (n : ℕ) (xs : List X) (x : X) → enumerate_from n (xs ++ x ∷ []) ≡ enumerate_from n xs ++ (n + length xs, x) ∷ []
enumerate_more n [] x = let same : n ≡ n + 0 = omega arith in ap (λ k. (k, x) ∷ []) same
enumerate_more n (y ∷ xs) x =
    let same : (n + 1) + length xs ≡ n + length (y ∷ xs) = omega arith in
    ap (λ rest. (n, y) ∷ rest) (enumerate_more (n + 1) xs x ∙ ap (λ k. enumerate_from (n + 1) xs ++ (k, x) ∷ []) same)

-- the trace with one more line
trace_more : (outputs : List Port) (shown : List (List Bool)) (bits : List Bool) → trace_of outputs (shown ++ bits ∷ []) ≡ trace_of outputs shown ++ trace_line_of (length shown + 1) outputs bits
trace_more outputs shown bits =
    let line : ℕ × List Bool → List ℕ = λ (number, bits). trace_line_of number outputs bits in
    let same : 1 + length shown ≡ length shown + 1 = omega arith in
    ap (flat_map line) (enumerate_more 1 shown bits)
    ∙ flat_map-append line (enumerate_from 1 shown) ((1 + length shown, bits) ∷ [])
    ∙ ap (λ text. trace_of outputs shown ++ text) (append-nil (trace_line_of (1 + length shown) outputs bits))
    ∙ ap (λ number. trace_of outputs shown ++ trace_line_of number outputs bits) same

-- what comes at the end in two pieces
appends_both : (old mid new : Option (List ℕ)) (first second : List ℕ) → AppendsWhereTold old first mid → AppendsWhereTold mid second new → AppendsWhereTold old (first ++ second) new
appends_both None mid new first second one two = tt
appends_both (Some text) mid new first second one two =
    let told : AppendsWhereTold (Some (text ++ first)) second new = subst (λ m. AppendsWhereTold m second new) one two in
    told ∙ ap Some (append_assoc text first second)

pub appends_nothing : (old new : Option (List ℕ)) → new ≡ old → AppendsWhereTold old [] new
appends_nothing None new same = tt
appends_nothing (Some text) new same = same ∙ ap Some (sym (append-nil text))

module _ (outputs : List Port) (shown : List (List Bool)) (bits : List Bool) (old mid new : Option (List ℕ)) (told : AppendsWhereTold old (trace_of outputs shown) mid) where
  -- one more line is put
  pub line_put : AppendsWhereTold mid (trace_line_of (length shown + 1) outputs bits) new → AppendsWhereTold old (trace_of outputs (shown ++ bits ∷ [])) new
  line_put put =
      subst (λ text. AppendsWhereTold old text new) (sym (trace_more outputs shown bits))
      (appends_both old mid new (trace_of outputs shown) (trace_line_of (length shown + 1) outputs bits) told put)

  -- the trace breaks off in a line of which some first bytes are put
  breaks : (count : ℕ) → count ≤ length (trace_line_of (length shown + 1) outputs bits) → AppendsWhereTold mid (take count (trace_line_of (length shown + 1) outputs bits)) new → BreaksOff outputs (shown ++ bits ∷ []) old new
  breaks count some put = record {
    before = shown;
    last = bits;
    are = refl;
    count = count;
    some = some;
    text = appends_both old mid new (trace_of outputs shown) (take count (trace_line_of (length shown + 1) outputs bits)) told put;
  }

  -- after a fault in one more line
  pub line_broken : (X : Type 0) (start before after : ℕ) (fault : StoreFault) → start ≤ before → PutMeans {X = X} mid new before after (trace_line_of (length shown + 1) outputs bits) (Err fault)
      → Shows fault start after × ((broken : BreaksOff outputs (shown ++ bits ∷ []) old new) × Leaves fault broken.count)
  unfolding breaks
  line_broken X start before after store.Failed less means =
      let rose : Rose before after = means.0 in
      let still : Rose start after = omega (arith, rose, less) in
      (still, (breaks means.1.0 means.1.1 means.1.2, tt))
  line_broken X start before after store.NoMemory less means =
      (tt, (breaks 0 (omega arith) (appends_nothing mid new means.0), refl))

-- the last of some things and one more
pub last_more : {A : Type 0} (x : A) (xs : List A) (y : A) → last_of x (xs ++ y ∷ []) ≡ y
last_more x [] y = refl
last_more x (z ∷ xs) y = last_more z xs y

-- the events before the end of the next one
pub take_next : {X : Type 0} (xs : List X) (k : ℕ) (x : X) → slice_get xs k ≡ Some x → take (k + 1) xs ≡ take k xs ++ x ∷ []
take_next xs k x at =
    let within : k < length xs = slice_get_within xs k x at in
    let number : k + 1 ≡ suc k = omega arith in
    let item : get_or xs k x ≡ x = same_Some (get_or xs k x) x (sym (slice_get-get_or xs k x within) ∙ at) in
    ap (λ n. take n xs) number ∙ take-suc xs k x within ∙ ap (λ y. take k xs ++ y ∷ []) item
