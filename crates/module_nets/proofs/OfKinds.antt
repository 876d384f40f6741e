-- Mentions of one kind, among all mentions and among those that count.
use Rattle.std.proofs.Common.{◌≡◌, ◌+◌, ◌<◌, ℕ, Bool, true, false, not, ◌&&◌, ◌||◌, cond, List, [], ◌∷◌, ◌++◌, ap, sym, ◌∙◌, refl, map}
use Rattle.std.specs.Prelude.{filter, bytes_eq}
use Rattle.std.specs.List.{list_any}
use Rattle.std.proofs.lemmas.List.Folds.{list_any-append}
use Rattle.module_nets.specs.declared.mention.Class.{Class}
use Rattle.module_nets.specs.declared.mention.Class.TheVariants.{Head, Direction, Other, Use, Own}
use Rattle.module_nets.specs.declared.mention.Mention.{Mention}
use Rattle.module_nets.specs.declared.mention.Role.{Role}
use Rattle.module_nets.specs.declared.mention.Role.TheVariants.{Bare, Headed, Directed, Wired, Supplied, Owned, Used}
use Rattle.module_nets.specs.Declarations.{counted, counts, has_role, is_declared, is_of, named}
use Rattle.module_nets.specs.Mentions.{Sieve, is_kept, role_counts}
use Rattle.verilog_lex.specs.declared.token.Token.{Token}
use Rattle.module_nets.specs.Names.{Name, first_uses, is_among, is_implicit, text_of, with_names}
use Rattle.module_nets.proofs.Uses.{first_uses-append, is_among-first_uses}

-- the names of a kind are those of its mentions
pub named_has : (text : ℕ → Name) (class : Class) (ms : List Mention) (name : Name) → is_among (named text class ms) name ≡ has_role text class ms name
named_has text class [] name = refl
named_has text class (m ∷ ms) name = go (is_of class m.role) (named_has text class ms name)
  where
    go : (b : Bool) → is_among (named text class ms) name ≡ has_role text class ms name
        → is_among (map (λ m. text m.token) (cond b (m ∷ filter (λ m. is_of class m.role) ms) (filter (λ m. is_of class m.role) ms))) name
        ≡ ((b && bytes_eq name (text m.token)) || has_role text class ms name)
    go true same = ap (λ r. bytes_eq name (text m.token) || r) same
    go false same = same

-- what is kept has all names of a kind, where all of this kind is kept
pub named_kept : (text : ℕ → Name) (class : Class) (keep : Mention → Bool) (ms : List Mention) → ((m : Mention) → is_of class m.role ≡ true → keep m ≡ true) → named text class (filter keep ms) ≡ named text class ms
named_kept text class keep [] all = refl
named_kept text class keep (m ∷ ms) all = go (is_of class m.role) (keep m) refl refl (named_kept text class keep ms all)
  where
    go : (b k : Bool) → is_of class m.role ≡ b → keep m ≡ k → named text class (filter keep ms) ≡ named text class ms
        → named text class (cond k (m ∷ filter keep ms) (filter keep ms))
        ≡ map (λ m. text m.token) (cond b (m ∷ filter (λ m. is_of class m.role) ms) (filter (λ m. is_of class m.role) ms))
    go true true e f same =
        ap (λ b. map (λ m. text m.token) (cond b (m ∷ filter (λ m. is_of class m.role) (filter keep ms)) (filter (λ m. is_of class m.role) (filter keep ms)))) e
        ∙ ap (λ l. text m.token ∷ l) same
    go true false e f same = (let no : true ≡ false = sym (all m e) ∙ f in cc)
    go false true e f same =
        ap (λ b. map (λ m. text m.token) (cond b (m ∷ filter (λ m. is_of class m.role) (filter keep ms)) (filter (λ m. is_of class m.role) (filter keep ms)))) e
        ∙ same
    go false false e f same = same

-- all but uses is looked at, and all but uses counts
use_only : (class : Class) → (class ≡ Use → ⊥) → is_of class Used ≡ true → ⊥
use_only Head other e = (let no : false ≡ true = e in cc)
use_only Direction other e = (let no : false ≡ true = e in cc)
use_only Other other e = (let no : false ≡ true = e in cc)
use_only Use other e = other refl
use_only Own other e = (let no : false ≡ true = e in cc)

is_use : Class → Bool
is_use Use = true
is_use _ = false

pub head_use : Head ≡ Use → ⊥
unfolding is_use
head_use e = (let no : false ≡ true = ap is_use e in cc)

pub other_use : Other ≡ Use → ⊥
unfolding is_use
other_use e = (let no : false ≡ true = ap is_use e in cc)

pub kind_kept : (s : Sieve) (class : Class) (token : ℕ) (role : Role) → (class ≡ Use → ⊥) → is_of class role ≡ true → role_counts s token role ≡ true
kind_kept s class token Bare other e = refl
kind_kept s class token (Headed dir range) other e = refl
kind_kept s class token (Directed dir range) other e = refl
kind_kept s class token (Wired range) other e = refl
kind_kept s class token (Supplied range) other e = refl
kind_kept s class token Owned other e = refl
kind_kept s class token Used other e = absurd (use_only class other e)

pub kind_counts : (text : ℕ → Name) (implicit : ℕ → Bool) (all : List Mention) (class : Class) (token : ℕ) (role : Role) → (class ≡ Use → ⊥) → is_of class role ≡ true → counts text implicit all (record { token = token; role = role }) ≡ true
kind_counts text implicit all class token Bare other e = refl
kind_counts text implicit all class token (Headed dir range) other e = refl
kind_counts text implicit all class token (Directed dir range) other e = refl
kind_counts text implicit all class token (Wired range) other e = refl
kind_counts text implicit all class token (Supplied range) other e = refl
kind_counts text implicit all class token Owned other e = refl
kind_counts text implicit all class token Used other e = absurd (use_only class other e)

-- the names of one kind among those that count
pub named_counted : (text : ℕ → Name) (implicit : ℕ → Bool) (class : Class) (ms : List Mention) → (class ≡ Use → ⊥) → named text class (counted text implicit ms) ≡ named text class ms
named_counted text implicit class ms other =
    named_kept text class (counts text implicit ms) ms (λ m e. kind_counts text implicit ms class m.token m.role other e)

-- the names that are declared
pub declared_has : (text : ℕ → Name) (ms : List Mention) (name : Name) → is_among (first_uses (named text Head ms ++ named text Other ms)) name ≡ is_declared text ms name
declared_has text ms name =
    is_among-first_uses (named text Head ms ++ named text Other ms) name
    ∙ list_any-append (bytes_eq name) (named text Head ms) (named text Other ms)
    ∙ (λ i. named_has text Head ms name i || named_has text Other ms name i)

-- a mention is kept where it counts
keeps_counts : (source : List ℕ) (tokens : List Token) (declared : List Name) (all : List Mention) (token : ℕ) (role : Role)
    → declared ≡ first_uses (named (text_of source tokens) Head all ++ named (text_of source tokens) Other all)
    → role_counts (record { source = source; tokens = tokens; declared = declared; uses = true }) token role
    ≡ counts (text_of source tokens) (is_implicit tokens) all (record { token = token; role = role })
keeps_counts source tokens declared all token Bare e = refl
keeps_counts source tokens declared all token (Headed dir range) e = refl
keeps_counts source tokens declared all token (Directed dir range) e = refl
keeps_counts source tokens declared all token (Wired range) e = refl
keeps_counts source tokens declared all token (Supplied range) e = refl
keeps_counts source tokens declared all token Owned e = refl
keeps_counts source tokens declared all token Used e =
    ap (λ b. is_implicit tokens token && not b)
    (ap (λ names. is_among names (text_of source tokens token)) e ∙ declared_has (text_of source tokens) all (text_of source tokens token))

pub kept_counted : (source : List ℕ) (tokens : List Token) (declared : List Name) (all : List Mention)
    → declared ≡ first_uses (named (text_of source tokens) Head all ++ named (text_of source tokens) Other all)
    → filter (is_kept (record { source = source; tokens = tokens; declared = declared; uses = true })) all ≡ counted (text_of source tokens) (is_implicit tokens) all
kept_counted source tokens declared all e = λ i. filter (λ m. keeps_counts source tokens declared all m.token m.role e i) all

-- the names that a module declares, read off what is gathered without uses
pub declared_kept : (text : ℕ → Name) (s : Sieve) (names new : List Name) (ms heads others : List Mention) → heads ≡ filter (is_kept s) ms → others ≡ filter (is_kept s) ms → names ≡ first_uses (named text Head heads) → new ≡ with_names names (named text Other others) → new ≡ first_uses (named text Head ms ++ named text Other ms)
declared_kept text s names new ms heads others d e f g =
    let first : named text Head heads ≡ named text Head ms =
    ap (named text Head) d ∙ named_kept text Head (is_kept s) ms (λ m is. kind_kept s Head m.token m.role head_use is) in
    let second : named text Other others ≡ named text Other ms =
    ap (named text Other) e ∙ named_kept text Other (is_kept s) ms (λ m is. kind_kept s Other m.token m.role other_use is) in
    g ∙ ap (λ l. with_names l (named text Other others)) f
    ∙ first_uses-append (named text Head heads) (named text Other others)
    ∙ (λ i. first_uses (first i ++ second i))
