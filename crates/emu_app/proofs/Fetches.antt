-- The fetches of a command's texts, one after the other.
use Rattle.std.proofs.Common.{ℕ, zero, suc, ◌≡◌, ◌<◌, ◌≤◌, ◌+◌, ◌++◌, ◌∷◌, [], List, length, get_or, slice_get, Option, Some, None, IfSome, MatchOption, refl, sym, ◌∙◌, ap, subst, inl, inr, arith}
use Rattle.std.proofs.lemmas.List.{length-append}
use Rattle.std.proofs.lemmas.Bool.{cases_eq, cases_lt}
use Rattle.std.proofs.lemmas.Option.{slice_get-get_or, slice_get_past}
use Rattle.std.proofs.Math.ListN.{get_or-append}
use Rattle.std.proofs.Math.Seq.{get_or-append_seam}
use Rattle.emu_io.specs.Files.{Held}
use Rattle.case_texts.specs.declared.what.What.{What}
use Rattle.case_texts.specs.declared.what.What.TheVariants.{Design, Cells, Groups, Board, Netlist, Schedule, Map, Opening, Events}
use Rattle.emu_app.specs.declared.command.Command.{Command}
use Rattle.emu_app.specs.declared.command.Command.TheVariants.{Check, Settle, Replay}
use Rattle.case_texts.specs.What.{limit}
use Rattle.emu_app.specs.Command.{CommandWords, Reads, name_of, place_of, text_at, text_count}
use Rattle.emu_io.specs.Faults.{Rose}
use Rattle.emu_app.specs.declared.fetch.Stop.{Stop}
use Rattle.emu_app.specs.declared.fetch.Stop.TheVariants as stop
use Rattle.emu_app.specs.Fetching.{AreWithin, EarlierAreHeld, EarlierAreThere, FetchFailed, FirstTooLarge, IsHeld, IsTooLarge, LargeMeans, NotThere, ReadFails, TextFails, TextsFail, texts_of}

-- the first texts, so many, are held and within their limits
abbrev pub FirstAreHeld : Held → CommandWords → ℕ → List (List ℕ) → Type 0
FirstAreHeld held n place texts =
    (what : What) → place_of n.command what < place → IsHeld held (name_of n what) what (texts_of n.command texts what)

-- the first texts, so many, are within their limits, whatever the files tell
abbrev pub FirstAreWithin : Command → ℕ → List (List ℕ) → Type 0
FirstAreWithin command place texts = (what : What) → place_of command what < place → length (texts_of command texts what) ≤ limit what

-- what holds when so many texts were fetched: `old` is the time before the first fetch
pub record SoFar (told told-old : Option Held) (now before stores stores-old : ℕ) (n : CommandWords) (place : ℕ) (texts : List (List ℕ)) : Type 0 where
  pub count : length texts ≡ place
  pub held : IfSome told-old (λ held. FirstAreHeld held n place texts)
  pub within : FirstAreWithin n.command place texts
  pub later : before ≤ now
  pub held_same : told ≡ told-old
  pub stores_same : stores ≡ stores-old

-- a text within the list is the entry at its place
texts_at : (command : Command) (texts : List (List ℕ)) (what : What) → place_of command what < length texts → texts_of command texts what ≡ get_or texts (place_of command what) []
texts_at command texts what within = rw (slice_get-get_or texts (place_of command what) [] within) refl

-- a text within the list stays where a further one is pushed
texts_stay : (command : Command) (texts : List (List ℕ)) (bytes : List ℕ) (what : What) → place_of command what < length texts → texts_of command (texts ++ bytes ∷ []) what ≡ texts_of command texts what
texts_stay command texts bytes what within =
    texts_at command (texts ++ bytes ∷ []) what (rw (length-append texts (bytes ∷ [])) (omega arith))
    ∙ get_or-append texts (bytes ∷ []) [] (place_of command what) within ∙ sym (texts_at command texts what within)

-- the one pushed last is the text of that place
texts_last : (command : Command) (texts : List (List ℕ)) (bytes : List ℕ) (what : What) → length texts ≡ place_of command what → texts_of command (texts ++ bytes ∷ []) what ≡ bytes
texts_last command texts bytes what here =
    texts_at command (texts ++ bytes ∷ []) what (rw (length-append texts (bytes ∷ [])) (omega arith))
    ∙ subst (λ k. get_or (texts ++ bytes ∷ []) k [] ≡ bytes) here (get_or-append_seam texts bytes [] [])

-- a text that a command reads is the one at its own place
text_at_place : (command : Command) (what : What) → Reads command what → text_at command (place_of command what) ≡ what
text_at_place Check Design reads = refl
text_at_place Check Cells reads = refl
text_at_place Check Groups reads = refl
text_at_place Check Board reads = refl
text_at_place Check Netlist reads = refl
text_at_place Check Schedule reads = refl
text_at_place Check Map reads = refl
text_at_place Check Opening reads = refl
text_at_place Check Events reads = refl
text_at_place Replay Design reads = refl
text_at_place Replay Cells reads = refl
text_at_place Replay Groups reads = refl
text_at_place Replay Board reads = refl
text_at_place Replay Netlist reads = refl
text_at_place Replay Schedule reads = refl
text_at_place Replay Map reads = refl
text_at_place Replay Opening reads = refl
text_at_place Replay Events reads = refl
text_at_place Settle Design reads = refl
text_at_place Settle Cells reads = refl
text_at_place Settle Groups reads = refl
text_at_place Settle Opening reads = refl
text_at_place Settle Events reads = refl
text_at_place Settle Board reads = absurd (omega (arith, reads))
text_at_place Settle Netlist reads = absurd (omega (arith, reads))
text_at_place Settle Schedule reads = absurd (omega (arith, reads))
text_at_place Settle Map reads = absurd (omega (arith, reads))

-- the text at a place of the words has that place
place_is : (command : Command) (place : ℕ) (what : What) → what ≡ text_at command place → place < text_count command → place_of command what ≡ place
place_is command place what is within = subst (λ w. place_of command w ≡ place) (sym is) (go command place within)
  where
    all : (k : ℕ) → k < 9 → place_of Replay (text_at Replay k) ≡ k
    all zero below = refl
    all (suc zero) below = refl
    all (suc (suc zero)) below = refl
    all (suc (suc (suc zero))) below = refl
    all (suc (suc (suc (suc zero)))) below = refl
    all (suc (suc (suc (suc (suc zero))))) below = refl
    all (suc (suc (suc (suc (suc (suc zero)))))) below = refl
    all (suc (suc (suc (suc (suc (suc (suc zero))))))) below = refl
    all (suc (suc (suc (suc (suc (suc (suc (suc zero)))))))) below = refl
    all (suc (suc (suc (suc (suc (suc (suc (suc (suc k))))))))) below = absurd (omega (arith, below))

    few : (k : ℕ) → k < 5 → place_of Settle (text_at Settle k) ≡ k
    few zero below = refl
    few (suc zero) below = refl
    few (suc (suc zero)) below = refl
    few (suc (suc (suc zero))) below = refl
    few (suc (suc (suc (suc zero)))) below = refl
    few (suc (suc (suc (suc (suc k))))) below = absurd (omega (arith, below))

    go : (c : Command) (k : ℕ) → k < text_count c → place_of c (text_at c k) ≡ k
    go Check k below = all k (omega (arith, below))
    go Replay k below = all k below
    go Settle k below = few k below

-- with the text of the next place, one more is held
first_more : (held : Held) (n : CommandWords) (place : ℕ) (texts : List (List ℕ)) (bytes : List ℕ) (what : What)
    → length texts ≡ place → what ≡ text_at n.command place → place < text_count n.command
    → FirstAreHeld held n place texts → IsHeld held (name_of n what) what bytes
    → FirstAreHeld held n (place + 1) (texts ++ bytes ∷ [])
first_more held n place texts bytes what count is inside first new other below =
    elim (cases_eq (place_of n.command other) place) [
      | inl same ↦
          let reads : Reads n.command other = omega (arith, same, inside) in
          let it : other ≡ what = sym (text_at_place n.command other reads) ∙ ap (text_at n.command) same ∙ sym is in
          let last : texts_of n.command (texts ++ bytes ∷ []) other ≡ bytes = texts_last n.command texts bytes other (count ∙ sym same) in
          subst (λ b. IsHeld held (name_of n other) other b) (sym last)
          (subst (λ w. IsHeld held (name_of n w) w bytes) (sym it) new)
      | inr differs ↦
          let within : place_of n.command other < length texts = omega (arith, count, below, differs) in
          subst (λ b. IsHeld held (name_of n other) other b) (sym (texts_stay n.command texts bytes other within))
          (first other (omega (arith, below, differs)))
    ]

-- with the text of the next place, one more is within its limit
within_more : (command : Command) (place : ℕ) (texts : List (List ℕ)) (bytes : List ℕ) (what : What)
    → length texts ≡ place → what ≡ text_at command place → place < text_count command
    → FirstAreWithin command place texts → length bytes ≤ limit what
    → FirstAreWithin command (place + 1) (texts ++ bytes ∷ [])
within_more command place texts bytes what count is inside first new other below =
    elim (cases_eq (place_of command other) place) [
      | inl same ↦
          let reads : Reads command other = omega (arith, same, inside) in
          let it : other ≡ what = sym (text_at_place command other reads) ∙ ap (text_at command) same ∙ sym is in
          let last : texts_of command (texts ++ bytes ∷ []) other ≡ bytes = texts_last command texts bytes other (count ∙ sym same) in
          subst (λ b. length b ≤ limit other) (sym last) (subst (λ w. length bytes ≤ limit w) (sym it) new)
      | inr differs ↦
          let within : place_of command other < length texts = omega (arith, count, below, differs) in
          subst (λ b. length b ≤ limit other) (sym (texts_stay command texts bytes other within))
          (first other (omega (arith, below, differs)))
    ]

-- the fetch of the next text keeps what holds
pub one_more : (told told-mid told-old : Option Held) (now mid before stores stores-mid stores-old : ℕ) (n : CommandWords) (place : ℕ) (texts texts-new : List (List ℕ)) (pushed bytes name : List ℕ) (what : What)
    → SoFar told-mid told-old mid before stores-mid stores-old n place texts
    → place < text_count n.command
    → what ≡ text_at n.command place
    → texts-new ≡ texts ++ pushed ∷ []
    → pushed ≡ bytes → name ≡ name_of n what
    → IfSome told-mid (λ held. IsHeld held name what bytes) → length bytes ≤ limit what
    → mid ≤ now → told ≡ told-mid → stores ≡ stores-mid
    → SoFar told told-old now before stores stores-old n (place + 1) texts-new
one_more told told-mid told-old now mid before stores stores-mid stores-old n place texts texts-new pushed bytes name what so inside is new same named means bounded later held_same stores_same =
    let all : texts-new ≡ texts ++ bytes ∷ [] = subst (λ b. texts-new ≡ texts ++ b ∷ []) same new in
    let it : IfSome told-mid (λ held. IsHeld held (name_of n what) what bytes) = subst (λ w. IfSome told-mid (λ held. IsHeld held w what bytes)) named means in
    record {
      count = rw all (length-append texts (bytes ∷ []) ∙ ap (λ k. k + 1) so.count);
      held = subst (λ ts. IfSome told-old (λ held. FirstAreHeld held n (place + 1) ts)) (sym all)
          (go told-old so.held (subst (λ t. IfSome t (λ held. IsHeld held (name_of n what) what bytes)) so.held_same it));
      within = subst (λ ts. FirstAreWithin n.command (place + 1) ts) (sym all) (within_more n.command place texts bytes what so.count is inside so.within bounded);
      later = omega (arith, so.later, later);
      held_same = held_same ∙ so.held_same;
      stores_same = stores_same ∙ so.stores_same;
    }
  where
    go : (t : Option Held) → IfSome t (λ held. FirstAreHeld held n place texts) → IfSome t (λ held. IsHeld held (name_of n what) what bytes) → IfSome t (λ held. FirstAreHeld held n (place + 1) (texts ++ bytes ∷ []))
    go None first last = tt
    go (Some held) first last = first_more held n place texts bytes what so.count is inside first last

-- once all texts that the command reads are within their limits, all are, since the others have no bytes
pub all_within : (command : Command) (texts : List (List ℕ)) → length texts ≡ text_count command → FirstAreWithin command (text_count command) texts → AreWithin (texts_of command texts)
all_within command texts count first what =
    elim (cases_lt (place_of command what) (text_count command)) [
      | inl within ↦ first what within
      | inr beyond ↦
          let none : slice_get texts (place_of command what) ≡ None = slice_get_past texts (place_of command what) (omega (arith, count, beyond)) in
          rw none (omega arith)
    ]

-- a fetch that fails blames its name also where the count before is an earlier one
failed_since : (before mid now : ℕ) (blamed : Option (List ℕ)) (name : List ℕ) → before ≤ mid → FetchFailed mid now blamed name → FetchFailed before now blamed name
failed_since before mid now blamed name since (inl (rose, blames)) = inl (omega (arith, since, rose), blames)
failed_since before mid now blamed name since (inr most) = inr most

not_there_since : (told : Option Held) (before mid now : ℕ) (blamed : Option (List ℕ)) (name : List ℕ) → before ≤ mid → NotThere told mid now blamed name → NotThere told before now blamed name
not_there_since None before mid now blamed name since failed = failed_since before mid now blamed name since failed
not_there_since (Some held) before mid now blamed name since (inl none) = inl none
not_there_since (Some held) before mid now blamed name since (inr failed) = inr (failed_since before mid now blamed name since failed)

-- where a text cannot be fetched, those before it are there
pub text_stops : (told-mid told-old : Option Held) (before mid now : ℕ) (blamed : Option (List ℕ)) (stores stores-old : ℕ) (n : CommandWords) (place : ℕ) (texts : List (List ℕ)) (what : What) (why : Stop) (name : List ℕ)
    → SoFar told-mid told-old mid before stores stores-old n place texts
    → place < text_count n.command
    → what ≡ text_at n.command place
    → name ≡ name_of n what
    → TextFails told-mid mid now blamed name what why
    → TextsFail told-old before now blamed n why
text_stops told-mid told-old before mid now blamed stores stores-old n place texts what (stop.NotThere other) name so inside is named means =
    let here : place_of n.command what ≡ place = place_is n.command place what is inside in
    let reads : Reads n.command what = omega (arith, here, inside) in
    let cause : NotThere told-old mid now blamed (name_of n what) = subst (λ t. NotThere t mid now blamed (name_of n what)) so.held_same (subst (λ w. NotThere told-mid mid now blamed w) named means.1) in
    subst (ReadFails told-old before now blamed n) (sym means.0)
    (record { reads = reads; earlier = go told-old so.held here; cause = not_there_since told-old before mid now blamed (name_of n what) so.later cause })
  where
    go : (t : Option Held) → IfSome t (λ held. FirstAreHeld held n place texts) → place_of n.command what ≡ place → EarlierAreThere t n what
    go None first here = tt
    go (Some held) first here = λ other earlier. (texts_of n.command texts other, first other (omega (arith, here, earlier)))
text_stops told-mid told-old before mid now blamed stores stores-old n place texts what (stop.TooLarge other) name so inside is named means =
    let here : place_of n.command what ≡ place = place_is n.command place what is inside in
    let reads : Reads n.command what = omega (arith, here, inside) in
    let large : LargeMeans told-old mid now (name_of n what) what = subst (λ t. LargeMeans t mid now (name_of n what) what) so.held_same (subst (λ w. LargeMeans told-mid mid now w what) named means.1) in
    subst (FirstTooLarge told-old before now n) (sym means.0) (reads, go told-old so.held large here)
  where
    go : (t : Option Held) → IfSome t (λ held. FirstAreHeld held n place texts) → LargeMeans t mid now (name_of n what) what → place_of n.command what ≡ place
        → MatchOption t (Rose before now) (λ held. IsTooLarge held (name_of n what) what × EarlierAreHeld held n what)
    go None first rose here = omega (arith, so.later, rose)
    go (Some held) first large here = (large, λ other earlier. (texts_of n.command texts other, first other (omega (arith, here, earlier))))
text_stops told-mid told-old before mid now blamed stores stores-old n place texts what stop.NoMemory name so inside is named means = tt
