-- Lists whose entries say values, entry by entry.
use Rattle.std.proofs.Common.{◌≡◌, ◌+◌, ◌<◌, ℕ, List, [], ◌∷◌, ◌++◌, Some, length, map, take, get_or, Err, slice_get, zero, suc, refl, sym, subst}
use Rattle.serde_json.specs.View.{view}
use Rattle.serde_json.specs.declared.value.Value.{Value}
use Rattle.result_files.specs.Faults.{Answers}
use Rattle.result_files.specs.declared.fault.FormFault.{FormFault}
use Rattle.result_files.specs.declared.fault.FormFault.TheVariants.{NotYet, NoMemory}
use Rattle.std.proofs.lemmas.List.{map-append, take_more, take-map}
use Rattle.std.proofs.lemmas.Option.{same_Some, slice_get-map, slice_get_read}
use Rattle.serde_json.specs.Data.{Data}
use Rattle.result_files.specs.Lists.{SayEach, FirstBad}
use Rattle.result_files.specs.Printed.{AreAll}

-- one item more at the end
pub all_more : {A : Type 0} (Is : A → Type 0) (items : List A) (item : A) → AreAll Is items → Is item → AreAll Is (items ++ item ∷ [])
all_more Is [] item before here zero x at = subst Is (same_Some item x at) here
all_more Is [] item before here (suc k) x at = cc
all_more Is (y ∷ ys) item before here zero x at = before zero x at
all_more Is (y ∷ ys) item before here (suc k) x at = all_more Is ys item (λ j. before (suc j)) here k x at

-- one entry more at the end
pub say_more : {X A : Type 0} (Says : X → A → Type 0) (trees : List X) (values : List A) (tree : X) (value : A) → SayEach Says trees values → Says tree value → SayEach Says (trees ++ tree ∷ []) (values ++ value ∷ [])
say_more Says [] [] tree value before here = (here, tt)
say_more Says [] (v ∷ vs) tree value before here = absurd before
say_more Says (t ∷ ts) [] tree value before here = absurd before
say_more Says (t ∷ ts) (v ∷ vs) tree value before here = (before.0, say_more Says ts vs tree value before.1 here)

-- an entry says something
pub says_at : {X A : Type 0} (Says : X → A → Type 0) (trees : List X) (values : List A) (k : ℕ) (tree : X) → SayEach Says trees values → slice_get trees k ≡ Some tree → (value : A) × Says tree value
says_at Says [] vs k tree each at-tree = cc
says_at Says (t ∷ ts) [] k tree each at-tree = absurd each
says_at Says (t ∷ ts) (v ∷ vs) zero tree each at-tree = (v, subst (λ d. Says d v) (same_Some _ _ at-tree) each.0)
says_at Says (t ∷ ts) (v ∷ vs) (suc k) tree each at-tree = says_at Says ts vs k tree each.1 at-tree

-- the same trees say the same values
pub says_same : {X A : Type 0} (Says : X → A → Type 0) → ((tree : X) (v w : A) → Says tree v → Says tree w → v ≡ w) → (trees : List X) (vs ws : List A) → SayEach Says trees vs → SayEach Says trees ws → vs ≡ ws
says_same Says one [] [] [] a b = refl
says_same Says one [] [] (w ∷ ws) a b = absurd b
says_same Says one [] (v ∷ vs) ws a b = absurd a
says_same Says one (t ∷ ts) [] ws a b = absurd a
says_same Says one (t ∷ ts) (v ∷ vs) [] a b = absurd b
says_same Says one (t ∷ ts) (v ∷ vs) (w ∷ ws) a b =
    let head = one t v w a.0 b.0 in
    let rest = says_same Says one ts vs ws a.1 b.1 in
    cc

-- a value among those that are said is said by a tree
pub said : {X A : Type 0} (Says : X → A → Type 0) (trees : List X) (values : List A) (k : ℕ) (value : A) → SayEach Says trees values → slice_get values k ≡ Some value → (tree : X) × Says tree value
said Says ts [] k value each at-value = cc
said Says [] (v ∷ vs) k value each at-value = absurd each
said Says (t ∷ ts) (v ∷ vs) zero value each at-value = (t, subst (λ x. Says t x) (same_Some _ _ at-value) each.0)
said Says (t ∷ ts) (v ∷ vs) (suc k) value each at-value = said Says ts vs k value each.1 at-value

-- the value of one more entry
pub say_next : {A : Type 0} (Says : Data → A → Type 0) (entries : List Value) (values : List A) (k : ℕ) (entry : Value) (value : A) → k < length entries → entry ≡ get_or entries k entry → SayEach Says (map view (take k entries)) values → Says (view entry) value → SayEach Says (map view (take (k + 1) entries)) (values ++ value ∷ [])
say_next Says entries values k entry value within at-entry before here =
    let more = say_more Says (map view (take k entries)) values (view entry) value before here in
    let item : get_or entries k entry ≡ entry = sym at-entry in
    let same : map view (take (k + 1) entries) ≡ map view (take k entries) ++ view entry ∷ [] = rw (take_more entries k entry within, map-append, item) refl in
    subst (λ trees. SayEach Says trees (values ++ value ∷ [])) (sym same) more

-- where one entry says nothing, all do not
pub not_each : {A : Type 0} (Says : Data → A → Type 0) (entries : List Value) (k : ℕ) (entry : Value) (fault : FormFault) → k < length entries → entry ≡ get_or entries k entry → Answers (Says (view entry)) (Err fault) → Answers (SayEach Says (map view entries)) (Err fault)
not_each Says entries k entry NotYet within at-entry none = λ values each.
    let item = slice_get_read entries (length entries) k entry refl within at-entry in
    let tree : slice_get (map view entries) k ≡ Some (view entry) = rw (slice_get-map, item) refl in
    let found = says_at Says (map view entries) values k (view entry) each tree in
    none found.0 found.1
not_each Says entries k entry NoMemory within at-entry none = tt

-- where an entry is bad and those before it say values, it is the first bad one
pub bad_at : {A : Type 0} (Says : Data → A → Type 0) (IsBad : Data → Type 0) (entries : List Value) (values : List A) (k : ℕ) (entry : Value) → k < length entries → entry ≡ get_or entries k entry → SayEach Says (map view (take k entries)) values → IsBad (view entry) → FirstBad Says IsBad (map view entries) k
bad_at Says IsBad entries values k entry within at-entry before bad =
    let item = slice_get_read entries (length entries) k entry refl within at-entry in
    record {
      values = values;
      before = subst (λ trees. SayEach Says trees values) (sym (take-map view k entries)) before;
      thing = view entry;
      there = rw (slice_get-map, item) refl;
      bad = bad;
    }
