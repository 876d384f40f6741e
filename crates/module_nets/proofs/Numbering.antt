-- Names of nets among all names of a module, and the rows of nets.
use Rattle.std.proofs.Common.{◌≡◌, ◌+◌, ◌<◌, ◌≤◌, ℕ, zero, suc, subst, Bool, true, false, ◌&&◌, ◌||◌, cond, Option, Some, None, List, [], ◌∷◌, ◌++◌, ap, is_some, min, sym, ◌∙◌, refl, arith, append_assoc, append-nil, length, length-append, drop-cons, add-one, get_or, slice_get, take, drop}
use Rattle.std.specs.Prelude.{bytes_eq, unwrap_or}
use Rattle.std.specs.List.{sum_by}
use Rattle.std.proofs.lemmas.Bool.{false_from_ne_true}
use Rattle.std.proofs.lemmas.List.{get_or_append_left, get_or-take, length-take, length-take-le, take-append-drop, take_at}
use Rattle.std.proofs.lemmas.List.Quantifiers.{position-Some}
use Rattle.std.proofs.lemmas.List.Sums.{sum_by-cons}
use Rattle.std.proofs.lemmas.Option.{get_or_from_slice_get, slice_get_read, slice_get_within}
use Rattle.std.proofs.lemmas.List.Folds.{list_any-append, list_any_at}
use Rattle.std.proofs.lemmas.Slice.Eq.{bytes_eq-Decides}
use Rattle.std.proofs.Math.Seq.{get_or-append_seam}
use Rattle.id_arena.specs.Names.{place_among, with_name}
use Rattle.id_arena.proofs.FirstPlaces.{position-is}
use Rattle.verilog_tree.specs.declared.source.IndexRange.{IndexRange}
use Rattle.verilog_lex.specs.declared.token.Token.{Token}
use Rattle.verilog_tree.specs.declared.source.Module.{Module}
use Rattle.module_nets.specs.declared.table.Table.{Table}
use Rattle.module_nets.specs.declared.mention.Class.{Class}
use Rattle.module_nets.specs.declared.mention.Class.TheVariants.{Head, Other, Use, Own}
use Rattle.module_nets.specs.declared.mention.Mention.{Mention}
use Rattle.module_nets.specs.declared.mention.Role.{Role}
use Rattle.module_nets.specs.declared.mention.Role.TheVariants.{Bare, Headed, Directed, Wired, Supplied, Owned, Used}
use Rattle.module_nets.specs.declared.nets.Net.{Net}
use Rattle.module_nets.specs.declared.seen.Seen.{Seen}
use Rattle.module_nets.specs.Declarations.{IsFaultless, counted, first_given, is_of, named, net_names, range_in, width_of}
use Rattle.module_nets.specs.Nets.{AreNets, IsNet, counted_in}
use Rattle.module_nets.specs.Rows.{IsTable, all_names, net_from, rows_from}
use Rattle.module_nets.specs.Seen.{fresh}
use Rattle.module_nets.specs.Surveys.{AreSeen, IsSeen}
use Rattle.module_nets.proofs.OfKinds.{head_use, named_counted, named_has, other_use}
use Rattle.module_nets.specs.Names.{AreDifferent, Name, first_uses, is_among, text_of, with_names}
use Rattle.module_nets.proofs.Uses.{first_uses-all, first_uses-append, is_among-first_uses, is_some-place, pushed, twice, with_name-is}

-- names that are interned after others are still all different
pub with_different : (names more : List Name) → AreDifferent names → AreDifferent (with_names names more)
with_different names [] d = d
with_different names (name ∷ more) d = with_different (with_name names name) more (go (is_among names name) refl)
  where
    go : (b : Bool) → is_among names name ≡ b → AreDifferent (with_name names name)
    go true e = subst AreDifferent (sym (with_name-is names name ∙ ap (λ b. cond b names (names ++ name ∷ [])) e)) d
    go false e = subst AreDifferent (sym (with_name-is names name ∙ ap (λ b. cond b names (names ++ name ∷ [])) e)) (pushed names name d e)

none_different : AreDifferent []
unfolding AreDifferent
none_different = tt

pub uses_different : (names : List Name) → AreDifferent (first_uses names)
uses_different names = subst AreDifferent (first_uses-all names) (with_different [] names none_different)

-- names that are interned after others begin with these
pub with_front : (names more : List Name) → take (length names) (with_names names more) ≡ names
with_front names more = (let r = grown names more in ap (take (length names)) r.1 ∙ take_at names r.0 (length names) refl)
  where
    one : (names : List Name) (name : Name) (b : Bool) → (rest : List Name) × (cond b names (names ++ name ∷ []) ≡ names ++ rest)
    one names name true = ([], sym (append-nil names))
    one names name false = (name ∷ [], refl)

    grown : (names more : List Name) → (rest : List Name) × (with_names names more ≡ names ++ rest)
    grown names [] = ([], sym (append-nil names))
    grown names (name ∷ more) =
        let first = one names name (is_among names name) in
        let rest = grown (with_name names name) more in
        (first.0 ++ rest.0, rest.1 ∙ ap (λ l. l ++ rest.0) (with_name-is names name ∙ first.1) ∙ append_assoc names first.0 rest.0)

-- among different names each stands first where it stands
pub place_there : (front rest : List Name) (name : Name) → AreDifferent (front ++ name ∷ rest) → place_among (front ++ name ∷ rest) name ≡ Some (length front)
place_there front rest name different =
    let all : List Name = front ++ name ∷ rest in
    let new : is_among front name ≡ false = false_from_ne_true (is_among front name) (λ among. twice front rest name among different) in
    let long : length all ≡ length front + length (name ∷ rest) = length-append front (name ∷ rest) in
    position-is (bytes_eq name) all (length front) []
    (omega (arith, long))
    (λ k less. ap (bytes_eq name) (get_or_append_left front (name ∷ rest) [] k less) ∙ false_from_ne_true (bytes_eq name (get_or front k [])) (λ same. let among : is_among front name ≡ true = list_any_at (bytes_eq name) front k [] less same in let no : true ≡ false = sym among ∙ new in cc))
    (ap (bytes_eq name) (get_or-append_seam front name rest []) ∙ (bytes_eq-Decides name name).1 refl)

pub place_at : (names : List Name) (k : ℕ) (name : Name) → AreDifferent names → slice_get names k ≡ Some name → place_among names name ≡ Some k
place_at names k name d at =
    let within : k < length names = slice_get_within names k name at in
    let here : name ≡ get_or names k name = sym (get_or_from_slice_get names k name name at) in
    let later : drop k names ≡ name ∷ drop (k + 1) names = rw (drop-cons names k name within, ← here, add-one) in
    let split : take k names ++ name ∷ drop (k + 1) names ≡ names = ap (λ l. take k names ++ l) (sym later) ∙ take-append-drop k names in
    let long : length (take k names) ≡ k = length-take-le k names (omega (arith, within)) in
    ap (λ l. place_among l name) (sym split) ∙ place_there (take k names) (drop (k + 1) names) name (subst AreDifferent (sym split) d) ∙ ap Some long

-- what is found among the first names, and what is not
pub found_front : (names : List Name) (n p : ℕ) (text : Name) → n ≤ length names → place_among names text ≡ Some p → p < n → Some p ≡ place_among (take n names) text
found_front names n p text all at less =
    let here = position-Some (bytes_eq text) names p [] at in
    let long : length (take n names) ≡ n = length-take-le n names all in
    let within : p < length (take n names) = omega (arith, less, long) in
    sym (position-is (bytes_eq text) (take n names) p [] within
    (λ k before. let early : k < n = omega (arith, before, less) in ap (bytes_eq text) (get_or-take n names k [] early) ∙ here.2 k before)
    (ap (bytes_eq text) (get_or-take n names p [] less) ∙ here.1))

not_found : (names : List Name) (text : Name) → is_among names text ≡ false → None ≡ place_among names text
not_found names text gone = go (place_among names text) refl
  where
    go : (found : Option ℕ) → place_among names text ≡ found → None ≡ found
    go None e = refl
    go (Some q) e = (let no : true ≡ false = ap (λ o. is_some o) (sym e) ∙ is_some-place names text ∙ gone in cc)

absent_among : (names : List Name) (n : ℕ) (text : Name) → n ≤ length names → ((q : ℕ) → q < n → bytes_eq text (get_or names q []) ≡ false) → is_among (take n names) text ≡ false
absent_among names n text all none = false_from_ne_true (is_among (take n names) text) (λ among. go (place_among (take n names) text) refl among)
  where
    go : (found : Option ℕ) → place_among (take n names) text ≡ found → is_among (take n names) text ≡ true → ⊥
    go None e among = (let no : false ≡ true = ap (λ o. is_some o) (sym e) ∙ is_some-place (take n names) text ∙ among in cc)
    go (Some q) e among =
        let here = position-Some (bytes_eq text) (take n names) q [] e in
        let long : length (take n names) ≡ n = length-take-le n names all in
        let within : q < length (take n names) = here.0 in
        let less : q < n = omega (arith, within, long) in
        let no : true ≡ false = sym here.1 ∙ ap (bytes_eq text) (get_or-take n names q [] less) ∙ none q less in cc

pub absent_front : (names : List Name) (n p : ℕ) (text : Name) → n ≤ length names → place_among names text ≡ Some p → n ≤ p → None ≡ place_among (take n names) text
absent_front names n p text all at past =
    let here = position-Some (bytes_eq text) names p [] at in
    not_found (take n names) text (absent_among names n text all (λ q less. here.2 q (omega (arith, less, past))))

pub absent_all : (names : List Name) (n : ℕ) (text : Name) → n ≤ length names → place_among names text ≡ None → None ≡ place_among (take n names) text
absent_all names n text all at =
    not_found (take n names) text (absent_among names n text all (λ q less. false_from_ne_true (bytes_eq text (get_or names q [])) (λ same.
    let within : q < length names = omega (arith, less, all) in
    let among : is_among names text ≡ true = list_any_at (bytes_eq text) names q [] within same in
    let no : false ≡ true = ap (λ o. is_some o) (sym at) ∙ is_some-place names text ∙ among in cc)))

-- each mention's name is among all names
or_right : (a b : Bool) → b ≡ true → (a || b) ≡ true
or_right true b e = refl
or_right false b e = e

or_first : (a b : Bool) → a ≡ true → (a || b) ≡ true
or_first true b e = refl
or_first false b e = cc

in_back : (xs ys : List Name) (name : Name) → is_among ys name ≡ true → is_among (xs ++ ys) name ≡ true
in_back xs ys name e = list_any-append (bytes_eq name) xs ys ∙ or_right (is_among xs name) (is_among ys name) e

in_front : (xs ys : List Name) (name : Name) → is_among xs name ≡ true → is_among (xs ++ ys) name ≡ true
in_front xs ys name e = list_any-append (bytes_eq name) xs ys ∙ or_first (is_among xs name) (is_among ys name) e

has_named : (text : ℕ → Name) (class : Class) (ms : List Mention) (k : ℕ) (m : Mention) → slice_get ms k ≡ Some m → is_of class m.role ≡ true → is_among (named text class ms) (text m.token) ≡ true
has_named text class ms k m at of =
    named_has text class ms (text m.token)
    ∙ list_any_at (λ e. is_of class e.role && bytes_eq (text m.token) (text e.token)) ms k m (slice_get_within ms k m at)
    (ap (λ e. is_of class e.role && bytes_eq (text m.token) (text e.token)) (get_or_from_slice_get ms k m m at)
    ∙ ap (λ b. b && bytes_eq (text m.token) (text m.token)) of
    ∙ (bytes_eq-Decides (text m.token) (text m.token)).1 refl)

pub all_named : (text : ℕ → Name) (ms : List Mention) (names : List Name) → names ≡ all_names text ms → (k : ℕ) (m : Mention) → slice_get ms k ≡ Some m → is_among names (text m.token) ≡ true
all_named text ms names e k m at = ap (λ l. is_among l (text m.token)) e ∙ is_among-first_uses _ (text m.token) ∙ go m.role refl
  where
    heads : List Name
    heads = named text Head ms

    others : List Name
    others = named text Other ms

    uses : List Name
    uses = named text Use ms

    own : List Name
    own = named text Own ms

    of : (class : Class) (role : Role) → m.role ≡ role → is_of class role ≡ true → is_among (named text class ms) (text m.token) ≡ true
    of class role same is = has_named text class ms k m at (ap (is_of class) same ∙ is)

    other : (role : Role) → m.role ≡ role → is_of Other role ≡ true → is_among (heads ++ (others ++ (uses ++ own))) (text m.token) ≡ true
    other role same is = in_back heads _ (text m.token) (in_front others _ (text m.token) (of Other role same is))

    go : (role : Role) → m.role ≡ role → is_among (heads ++ (others ++ (uses ++ own))) (text m.token) ≡ true
    go Bare same = in_front heads _ (text m.token) (of Head Bare same refl)
    go (Headed d r) same = in_front heads _ (text m.token) (of Head (Headed d r) same refl)
    go (Directed d r) same = other (Directed d r) same refl
    go (Wired r) same = other (Wired r) same refl
    go (Supplied r) same = other (Supplied r) same refl
    go Owned same = in_back heads _ (text m.token) (in_back others _ (text m.token) (in_back uses _ (text m.token) (of Own Owned same refl)))
    go Used same = in_back heads _ (text m.token) (in_back others _ (text m.token) (in_front uses _ (text m.token) (of Use Used same refl)))

-- the names of nets, and all names, as they are put into the table
module _ (text : ℕ → Name) (implicit : ℕ → Bool) (all : List Mention) (names between new : List Name) (mentions : List Mention)
    (declared : names ≡ first_uses (named text Head all ++ named text Other all))
    (count : mentions ≡ counted text implicit all)
    (used : between ≡ with_names names (named text Use mentions))
    (owned : new ≡ with_names between (named text Own mentions)) where
  heads : named text Head all ≡ named text Head mentions
  heads = sym (ap (named text Head) count ∙ named_counted text implicit Head all head_use)

  others : named text Other all ≡ named text Other mentions
  others = sym (ap (named text Other) count ∙ named_counted text implicit Other all other_use)

  pub nets_first : between ≡ net_names text mentions
  nets_first =
      used ∙ ap (λ l. with_names l (named text Use mentions)) declared
      ∙ first_uses-append (named text Head all ++ named text Other all) (named text Use mentions)
      ∙ ap first_uses (append_assoc (named text Head all) (named text Other all) (named text Use mentions))
      ∙ (λ i. first_uses (heads i ++ (others i ++ named text Use mentions)))

  pub names_all : new ≡ all_names text mentions
  names_all =
      owned ∙ ap (λ l. with_names l (named text Own mentions)) nets_first
      ∙ first_uses-append (named text Head mentions ++ (named text Other mentions ++ named text Use mentions)) (named text Own mentions)
      ∙ ap first_uses (append_assoc (named text Head mentions) (named text Other mentions ++ named text Use mentions) (named text Own mentions) ∙ ap (λ l. named text Head mentions ++ l) (append_assoc (named text Other mentions) (named text Use mentions) (named text Own mentions)))

  pub nets_front : (n : ℕ) → n ≡ length between → take n new ≡ net_names text mentions
  nets_front n e = (λ i. take (e i) (owned i)) ∙ with_front between (named text Own mentions) ∙ nets_first

  pub nets_within : (n : ℕ) → n ≡ length between → n ≤ length new
  nets_within n e =
      let front : take n new ≡ between = (λ i. take (e i) (owned i)) ∙ with_front between (named text Own mentions) in
      let long : min n (length new) ≡ length between = sym (length-take n new) ∙ ap length front in
      omega (arith, long, e)

-- the rows of nets
rows_length : (first : ℕ) (seen : List Seen) → length (rows_from first seen) ≡ length seen
rows_length first [] = refl
rows_length first (s ∷ rest) = ap (λ n. suc n) (rows_length (first + width_of (unwrap_or s.range None)) rest)

rows_at : (first : ℕ) (seen : List Seen) (k : ℕ) (net : Net) → slice_get (rows_from first seen) k ≡ Some net → net ≡ net_from (first + sum_by (λ n. width_of n.range) (take k (rows_from first seen))) (get_or seen k fresh)
rows_at first [] k net at = cc
rows_at first (s ∷ rest) zero net at = (let e : net_from first s ≡ net = cc in let f : first ≡ first + 0 = omega arith in sym e ∙ ap (λ n. net_from n s) f)
rows_at first (s ∷ rest) (suc k) net at =
    let w = width_of (unwrap_or s.range None) in
    let later = rows_at (first + w) rest k net at in
    let total = sum_by (λ n. width_of n.range) (take k (rows_from (first + w) rest)) in
    let sums : sum_by (λ n. width_of n.range) (net_from first s ∷ take k (rows_from (first + w) rest)) ≡ w + total = sum_by-cons (λ n. width_of n.range) (net_from first s) (take k (rows_from (first + w) rest)) in
    let f : (first + w) + total ≡ first + sum_by (λ n. width_of n.range) (net_from first s ∷ take k (rows_from (first + w) rest)) = omega (arith, sums) in
    later ∙ ap (λ n. net_from n (get_or rest k fresh)) f

-- what was seen of the names gives the nets
range_is : (o : Option (Option IndexRange)) → unwrap_or o None ≡ (elim o [ None ↦ None | Some range ↦ range ])
range_is None = refl
range_is (Some r) = refl

pub nets_are : (text : ℕ → Name) (ms : List Mention) (names : List Name) (seen : List Seen) (n : ℕ) (rows : List Net) → names ≡ all_names text ms → take n names ≡ net_names text ms → n ≤ length names → AreSeen text names ms seen → rows ≡ rows_from 0 (take n seen) → AreNets text ms (record { names = take (length rows) names; rows = rows })
nets_are text ms names seen n rows e front all are f =
    record {
      names = ap (λ k. take k names) count ∙ front;
      sized = count ∙ sym (ap (λ k. length (take k names)) count ∙ length-take-le n names all);
      each = λ k name net at row. one k name net (ap (λ j. slice_get (take j names) k) (sym count) ∙ at) row;
    }
  where
    count : length rows ≡ n
    count = ap length f ∙ rows_length 0 (take n seen) ∙ length-take-le n seen (omega (arith, all, are.sized))

    different : AreDifferent names
    different = subst AreDifferent (sym e) (uses_different _)

    one : (k : ℕ) (name : Name) (net : Net) → slice_get (take n names) k ≡ Some name → slice_get rows k ≡ Some net → IsNet text ms rows k name net
    one k name net at row =
        let less : k < n = (let w = slice_get_within (take n names) k name at in let l : length (take n names) ≡ n = length-take-le n names all in omega (arith, w, l)) in
        let within : k < length names = omega (arith, less, all) in
        let there : slice_get names k ≡ Some name = slice_get_read names (length names) k name refl within (sym (sym (get_or-take n names k name less) ∙ get_or_from_slice_get (take n names) k name name at)) in
        let is : IsSeen text ms name (get_or seen k fresh) = are.each k name (place_at names k name different there) in
        let held : get_or (take n seen) k fresh ≡ get_or seen k fresh = get_or-take n seen k fresh less in
        let made = rows_at 0 (take n seen) k net (ap (λ l. slice_get l k) (sym f) ∙ row) in
        record {
          dir = ap (λ r. r.dir) made ∙ ap (λ s. s.dir) held ∙ is.dir;
          range = ap (λ r. r.range) made ∙ ap (λ s. unwrap_or s.range None) held ∙ ap (λ o. unwrap_or o None) is.range ∙ range_is (first_given text range_in ms name);
          first =
              (let total = sum_by (λ n. width_of n.range) (take k (rows_from 0 (take n seen))) in
              let zero-first : 0 + total ≡ total = omega arith in
              ap (λ r. r.first) made ∙ zero-first ∙ ap (λ l. sum_by (λ n. width_of n.range) (take k l)) (sym f));
        }

-- a table whose mentions have no fault, and rows made of what was seen of its names
module _ (source : List ℕ) (tokens : List Token) (m : Module) (t : Table) (ms : List Mention) (seen copy : List Seen) (rows : List Net)
    (is : IsTable source tokens m t)
    (same : ms ≡ t.mentions)
    (judged : IsFaultless (text_of source tokens) ms × AreSeen (text_of source tokens) t.names ms seen)
    (copied : copy ≡ seen)
    (made : rows ≡ rows_from 0 (take t.count copy)) where
  rows_made : rows ≡ rows_from 0 (take t.count seen)
  rows_made = made ∙ ap (λ s. rows_from 0 (take t.count s)) copied

  pub rows_within : length rows ≤ length t.names
  rows_within =
      let sized : length seen ≡ length t.names = judged.1.sized in
      let few : length (take t.count seen) ≡ t.count = length-take-le t.count seen (let w = is.within in omega (arith, w, sized)) in
      let count : length rows ≡ t.count = ap length rows_made ∙ rows_length 0 (take t.count seen) ∙ few in
      let w = is.within in omega (arith, count, w)

  pub nets_made : IsFaultless (text_of source tokens) (counted_in source tokens m) × AreNets (text_of source tokens) (counted_in source tokens m) (record { names = take (length rows) t.names; rows = rows })
  nets_made =
      let nets = nets_are (text_of source tokens) t.mentions t.names seen t.count rows is.names is.front is.within (subst (λ l. AreSeen (text_of source tokens) t.names l seen) same judged.1) rows_made in
      subst (λ l. IsFaultless (text_of source tokens) l × AreNets (text_of source tokens) l (record { names = take (length rows) t.names; rows = rows })) is.mentions
      (subst (λ l. IsFaultless (text_of source tokens) l) same judged.0, nets)
