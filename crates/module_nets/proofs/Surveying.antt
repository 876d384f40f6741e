-- What is seen of all names, one mention after another, and what faults mentions have.
use Rattle.std.proofs.Common.{◌≡◌, ◌+◌, ◌<◌, ◌≤◌, ℕ, zero, suc, subst, Bool, true, false, not, ◌&&◌, ◌||◌, cond, Option, Some, None, inl, inr, List, [], ◌∷◌, ◌++◌, ap, sym, ◌∙◌, refl, arith, length, get_or, slice_get, slice_set, take, replicate, take_all, length-set, get_or-set_same, get_or-set_other}
use Rattle.std.specs.Prelude.{bytes_eq, if◌then◌else◌}
use Rattle.std.specs.List.{list_any}
use Rattle.std.specs.Option.{option_or}
use Rattle.std.proofs.lemmas.Bool.{cases_eq, false_from_ne_true}
use Rattle.std.proofs.lemmas.List.{length-replicate, take_more}
use Rattle.std.proofs.lemmas.List.Folds.{list_any-append}
use Rattle.std.proofs.lemmas.List.Quantifiers.{position-Some}
use Rattle.std.proofs.lemmas.Option.{get_or_from_slice_get, slice_get-get_or, slice_get_cases}
use Rattle.std.proofs.lemmas.Slice.Eq.{bytes_eq-Decides}
use Rattle.id_arena.specs.Names.{place_among}
use Rattle.module_nets.specs.declared.fault.Cause.{Cause}
use Rattle.module_nets.specs.declared.mention.Class.TheVariants.{Head, Direction}
use Rattle.module_nets.specs.declared.mention.Mention.{Mention}
use Rattle.module_nets.specs.declared.mention.Role.{Role}
use Rattle.module_nets.specs.declared.mention.Role.TheVariants.{Bare, Headed, Directed, Wired, Supplied, Owned, Used}
use Rattle.module_nets.specs.declared.seen.Seen.{Seen}
use Rattle.module_nets.specs.Declarations.{IsFaultless, IsFirstFault, agrees, cause_at, cause_of, dir_in, first_given, is_taken, is_unknown, is_wide, range_in}
use Rattle.module_nets.specs.Names.{Name, is_among, start_of}
use Rattle.module_nets.specs.Seen.{clash, fresh, noted}
use Rattle.module_nets.specs.Surveys.{AreSeen, IsSeen, IsSurvey, Survey, cause_by, text_in, unknown_by}
use Rattle.module_nets.proofs.Judging.{fresh_clash, noted_clash, noted_dir, noted_range}
use Rattle.module_nets.proofs.OfKinds.{named_has}
use Rattle.module_nets.proofs.Uses.{is_among-first_uses}

or_assoc : {A : Type 0} (a b c : Option A) → option_or a (option_or b c) ≡ option_or (option_or a b) c
or_assoc None b c = refl
or_assoc (Some a) b c = refl

or_none : {A : Type 0} (o : Option A) → option_or o None ≡ o
or_none None = refl
or_none (Some a) = refl

-- what is given first, with one mention more
given_last : {A : Type 0} (text : ℕ → Name) (f : Role → Option A) (ms : List Mention) (e : Mention) (name : Name) → first_given text f (ms ++ e ∷ []) name ≡ option_or (first_given text f ms name) (cond (bytes_eq name (text e.token)) (f e.role) None)
given_last text f [] e name = or_none (cond (bytes_eq name (text e.token)) (f e.role) None)
given_last text f (m ∷ ms) e name =
    let here = cond (bytes_eq name (text m.token)) (f m.role) None in
    ap (λ o. option_or here o) (given_last text f ms e name)
    ∙ or_assoc here (first_given text f ms name) (cond (bytes_eq name (text e.token)) (f e.role) None)

or_last : (a b : Bool) → (a || (b || false)) ≡ (a || b)
or_last true b = refl
or_last false true = refl
or_last false false = refl

-- any, with one mention more
any_last : (p : Mention → Bool) (ms : List Mention) (e : Mention) → list_any p (ms ++ e ∷ []) ≡ (list_any p ms || p e)
any_last p ms e = list_any-append p ms (e ∷ []) ∙ or_last (list_any p ms) (p e)

-- a mention of the name, where it has no fault
pub seen_more : (text : ℕ → Name) (ms : List Mention) (e : Mention) (name : Name) (s : Seen) → IsSeen text ms name s → bytes_eq name (text e.token) ≡ true → clash s e.role ≡ false → IsSeen text (ms ++ e ∷ []) name (noted s e.role)
seen_more text ms e name s is same fine =
    record {
      clashes = λ role.
          noted_clash s e.role role fine
          ∙ ap (λ b. b || not (agrees e.role role)) (is.clashes role)
          ∙ ap (λ b. list_any (λ e. bytes_eq name (text e.token) && not (agrees e.role role)) ms || (b && not (agrees e.role role))) (sym same)
          ∙ sym (any_last (λ e. bytes_eq name (text e.token) && not (agrees e.role role)) ms e);
      dir =
          noted_dir s e.role
          ∙ ap (λ o. option_or o (dir_in e.role)) is.dir
          ∙ ap (λ b. option_or (first_given text dir_in ms name) (cond b (dir_in e.role) None)) (sym same)
          ∙ sym (given_last text dir_in ms e name);
      range =
          noted_range s e.role
          ∙ ap (λ o. option_or o (range_in e.role)) is.range
          ∙ ap (λ b. option_or (first_given text range_in ms name) (cond b (range_in e.role) None)) (sym same)
          ∙ sym (given_last text range_in ms e name);
    }

or_nothing : (a : Bool) → a ≡ (a || false)
or_nothing true = refl
or_nothing false = refl

-- a mention of another name
pub seen_other : (text : ℕ → Name) (ms : List Mention) (e : Mention) (name : Name) (s : Seen) → IsSeen text ms name s → bytes_eq name (text e.token) ≡ false → IsSeen text (ms ++ e ∷ []) name s
seen_other text ms e name s is apart =
    record {
      clashes = λ role.
          is.clashes role
          ∙ or_nothing (list_any (λ e. bytes_eq name (text e.token) && not (agrees e.role role)) ms)
          ∙ ap (λ b. list_any (λ e. bytes_eq name (text e.token) && not (agrees e.role role)) ms || (b && not (agrees e.role role))) (sym apart)
          ∙ sym (any_last (λ e. bytes_eq name (text e.token) && not (agrees e.role role)) ms e);
      dir =
          is.dir
          ∙ sym (or_none (first_given text dir_in ms name))
          ∙ ap (λ b. option_or (first_given text dir_in ms name) (cond b (dir_in e.role) None)) (sym apart)
          ∙ sym (given_last text dir_in ms e name);
      range =
          is.range
          ∙ sym (or_none (first_given text range_in ms name))
          ∙ ap (λ b. option_or (first_given text range_in ms name) (cond b (range_in e.role) None)) (sym apart)
          ∙ sym (given_last text range_in ms e name);
    }

-- names with one place are the same
one_place : (names : List Name) (a b : Name) (q : ℕ) → place_among names a ≡ Some q → place_among names b ≡ Some q → a ≡ b
one_place names a b q e f =
    let here = position-Some (bytes_eq a) names q [] e in
    let there = position-Some (bytes_eq b) names q [] f in
    (bytes_eq-Decides a (get_or names q [])).0 here.1 ∙ sym ((bytes_eq-Decides b (get_or names q [])).0 there.1)

same_bytes : (a b : Name) → a ≡ b → bytes_eq a b ≡ true
same_bytes a b e = (bytes_eq-Decides a b).1 e

-- what is seen of all names, after one mention more
pub all_more : (text : ℕ → Name) (names : List Name) (ms : List Mention) (seen : List Seen) (e : Mention) (q : ℕ) → AreSeen text names ms seen → place_among names (text e.token) ≡ Some q → clash (get_or seen q fresh) e.role ≡ false → AreSeen text names (ms ++ e ∷ []) (slice_set seen q (noted (get_or seen q fresh) e.role))
all_more text names ms seen e q are placed fine =
    record {
      sized = length-set seen q (noted (get_or seen q fresh) e.role) ∙ are.sized;
      each = λ p name at. elim (cases_eq p q) [ inl same ↦ here p name at same | inr apart ↦ there p name at apart ];
    }
  where
    within : q < length seen
    within = (let w = position-Some (bytes_eq (text e.token)) names q [] placed in let l : q < length names = w.0 in omega (arith, l, are.sized))

    here : (p : ℕ) (name : Name) → place_among names name ≡ Some p → p ≡ q → IsSeen text (ms ++ e ∷ []) name (get_or (slice_set seen q (noted (get_or seen q fresh) e.role)) p fresh)
    here p name at same =
        let at-q : place_among names name ≡ Some q = at ∙ ap Some same in
        let is : IsSeen text ms name (get_or seen q fresh) = are.each q name at-q in
        let now = seen_more text ms e name (get_or seen q fresh) is (same_bytes name (text e.token) (one_place names name (text e.token) q at-q placed)) fine in
        subst (λ k. IsSeen text (ms ++ e ∷ []) name (get_or (slice_set seen q (noted (get_or seen q fresh) e.role)) k fresh)) (sym same)
        (subst (λ s. IsSeen text (ms ++ e ∷ []) name s) (sym (get_or-set_same seen q (noted (get_or seen q fresh) e.role) fresh within)) now)

    there : (p : ℕ) (name : Name) → place_among names name ≡ Some p → (p ≡ q → ⊥) → IsSeen text (ms ++ e ∷ []) name (get_or (slice_set seen q (noted (get_or seen q fresh) e.role)) p fresh)
    there p name at apart =
        let other : bytes_eq name (text e.token) ≡ false =
        false_from_ne_true (bytes_eq name (text e.token)) (λ same. let equal : name ≡ text e.token = (bytes_eq-Decides name (text e.token)).0 same in let places : Some p ≡ Some q = sym at ∙ ap (place_among names) equal ∙ placed in apart cc) in
        subst (λ s. IsSeen text (ms ++ e ∷ []) name s) (sym (get_or-set_other seen q p (noted (get_or seen q fresh) e.role) fresh apart))
        (seen_other text ms e name (get_or seen p fresh) (are.each p name at) other)

-- nothing is seen before the first mention
fresh_at : (n p : ℕ) → get_or (replicate n fresh) p fresh ≡ fresh
fresh_at zero p = refl
fresh_at (suc n) zero = refl
fresh_at (suc n) (suc p) = fresh_at n p

pub none_seen : (text : ℕ → Name) (names : List Name) (seen : List Seen) (n : ℕ) → seen ≡ replicate n fresh → n ≡ length names → AreSeen text names [] seen
none_seen text names seen n e f =
    record {
      sized = ap length e ∙ length-replicate n fresh ∙ f;
      each = λ p name at. subst (λ s. IsSeen text [] name s) (sym (ap (λ l. get_or l p fresh) e ∙ fresh_at n p)) (record { clashes = fresh_clash; dir = refl; range = refl });
    }

-- the tables tell what mentions have no fellow
unknown_is : (s : Survey) (ms : List Mention) (token : ℕ) (role : Role) → IsSurvey s ms → unknown_by s (record { token = token; role = role }) ≡ is_unknown (text_in s) ms (record { token = token; role = role })
unknown_is s ms token Bare is = ap not (ap (λ l. is_among l (text_in s token)) is.directed ∙ is_among-first_uses _ (text_in s token) ∙ named_has (text_in s) Direction ms (text_in s token))
unknown_is s ms token (Headed d t) is = refl
unknown_is s ms token (Directed d t) is = ap not (ap (λ l. is_among l (text_in s token)) is.heads ∙ is_among-first_uses _ (text_in s token) ∙ named_has (text_in s) Head ms (text_in s token))
unknown_is s ms token (Wired t) is = refl
unknown_is s ms token (Supplied t) is = refl
unknown_is s ms token Owned is = refl
unknown_is s ms token Used is = refl

-- so the fault that is found is the fault of the mention
pub cause_is : (s : Survey) (ms : List Mention) (k : ℕ) (m : Mention) (seen : Seen) → IsSurvey s ms → slice_get ms k ≡ Some m → IsSeen (text_in s) (take k ms) (text_in s m.token) seen → cause_by s seen m ≡ cause_at (text_in s) ms k
cause_is s ms k m seen is here seems =
    (λ i. if unknown_is s ms m.token m.role is i then Some Cause.NotDeclared else if seems.clashes m.role i then Some Cause.NameTwice else if is_wide m.role then Some Cause.Width else None)
    ∙ sym (ap (λ o. elim o [ None ↦ None | Some m ↦ cause_of (text_in s) ms (take k ms) m ]) here)

-- what is behind the last mention has no fault
pub past_none : (text : ℕ → Name) (ms : List Mention) (n : ℕ) → length ms ≤ n → ((k : ℕ) → k < n → cause_at text ms k ≡ None) → IsFaultless text ms
past_none text ms n all fine k =
    elim (slice_get_cases ms k).1 [
      | inl s ↦ (let within : k < length ms = s.1 in fine k (omega (arith, within, all)))
      | inr s ↦ ap (λ o. elim o [ None ↦ None | Some m ↦ cause_of text ms (take k ms) m ]) s.1
    ]

pub all_taken : (text : ℕ → Name) (names : List Name) (ms : List Mention) (n : ℕ) (seen : List Seen) → length ms ≤ n → AreSeen text names (take n ms) seen → AreSeen text names ms seen
all_taken text names ms n seen all are = subst (λ l. AreSeen text names l seen) (take_all n ms all) are

-- at one mention: what was seen of its name, and the fault that it has
module _ (s : Survey) (ms : List Mention) (d : Mention) (k p place : ℕ) (seen : List Seen) (before : Seen) (is : IsSurvey s ms) (within : k < length ms) (are : AreSeen (text_in s) s.names (take k ms) seen) (fine : (j : ℕ) → j < k → cause_at (text_in s) ms j ≡ None) (placed : place_among s.names (text_in s (get_or ms k d).token) ≡ Some place) (same : p ≡ place) (at : slice_get seen p ≡ Some before) where
  here : slice_get ms k ≡ Some (get_or ms k d)
  here = slice_get-get_or ms k d within

  held : get_or seen place fresh ≡ before
  held = ap (λ q. get_or seen q fresh) (sym same) ∙ get_or_from_slice_get seen p before fresh at

  seems : IsSeen (text_in s) (take k ms) (text_in s (get_or ms k d).token) before
  seems = subst (λ b. IsSeen (text_in s) (take k ms) (text_in s (get_or ms k d).token) b) held (are.each place (text_in s (get_or ms k d).token) placed)

  judged : cause_by s before (get_or ms k d) ≡ cause_at (text_in s) ms k
  judged = cause_is s ms k (get_or ms k d) before is here seems

  pub first_fault : (cause : Cause) (byte : ℕ) → cause_by s before (get_or ms k d) ≡ Some cause → byte ≡ start_of s.tokens (get_or ms k d).token → IsFirstFault s.tokens (text_in s) ms cause byte
  first_fault cause byte found e = record { place = k; faulty = get_or ms k d; here = here; why = sym judged ∙ found; byte = e; first = fine }

  no_clash : cause_by s before (get_or ms k d) ≡ None → clash before (get_or ms k d).role ≡ false
  no_clash none = go (unknown_by s (get_or ms k d)) (clash before (get_or ms k d).role) none
    where
      go : (u c : Bool) → (if u then Some Cause.NotDeclared else if c then Some Cause.NameTwice else if is_wide (get_or ms k d).role then Some Cause.Width else None) ≡ None → c ≡ false
      go true c e = cc
      go false true e = cc
      go false false e = refl

  pub next_seen : (new : List Seen) → cause_by s before (get_or ms k d) ≡ None → new ≡ slice_set seen p (noted before (get_or ms k d).role) → AreSeen (text_in s) s.names (take (k + 1) ms) new × ((j : ℕ) → j < k + 1 → cause_at (text_in s) ms j ≡ None)
  next_seen new none e = (
    let clear : clash (get_or seen place fresh) (get_or ms k d).role ≡ false = ap (λ b. clash b (get_or ms k d).role) held ∙ no_clash none in
        let all = all_more (text_in s) s.names (take k ms) seen (get_or ms k d) place are placed clear in
        let lists : take (k + 1) ms ≡ take k ms ++ get_or ms k d ∷ [] = take_more ms k d within in
        let news : new ≡ slice_set seen place (noted (get_or seen place fresh) (get_or ms k d).role) = e ∙ (λ i. slice_set seen (same i) (noted ((sym held) i) (get_or ms k d).role)) in
        subst (λ l. AreSeen (text_in s) s.names l new) (sym lists) (subst (λ n. AreSeen (text_in s) s.names (take k ms ++ get_or ms k d ∷ []) n) (sym news) all),
    λ j within. elim (cases_eq j k) [ inl here ↦ ap (λ j. cause_at (text_in s) ms j) here ∙ sym judged ∙ none | inr apart ↦ fine j (omega (arith, within, apart)) ],
  )
