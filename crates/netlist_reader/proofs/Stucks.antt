-- Parts within larger parts.
use Rattle.std.proofs.Common.{◌≡◌, ◌↔◌, Bool, true, false, IsTrue, List, [], ◌∷◌, ◌++◌, Result, Ok, Err, refl, sym, ap, ◌∙◌, subst, append_assoc}
use Rattle.std.specs.Prelude.{IsErr}
use Rattle.std.specs.Result.{IsErrAnd}
use Rattle.std.proofs.lemmas.List.{append_cancel_left}
use Rattle.token_words.specs.Word.{Word}
use Rattle.netlist_reader.specs.Inside.{Begins, Follows, Anything, NoMore, Stuck, Reads}
use Rattle.netlist_reader.specs.declared.fault.Stop.{Stop}
use Rattle.netlist_reader.specs.declared.fault.Stop.TheVariants as stop

-- words that go on alike go on alike behind what was passed over
pub follows_more : (seen after words : List Word) → Follows after words → Follows (seen ++ after) (seen ++ words)
follows_more [] after words f = f
follows_more (w ∷ seen) after words f = (seen ++ words, refl)

pub follows_split : (before seen after words : List Word) → before ≡ seen ++ after → Follows after words → Follows before (seen ++ words)
follows_split before seen after words e f = subst (λ b. Follows b (seen ++ words)) (sym e) (follows_more seen after words f)

-- where no such word begins, none begins in words that go on alike
pub no_more : (F : Word → Type 0) (words others : List Word) → Follows words others → NoMore F words → NoMore F others
no_more F [] others f none = λ b. subst (Begins F) f b
no_more F (w ∷ ws) others f none = λ b. none (subst (Begins F) f.1 b)

pub begins_alike : (F : Word → Type 0) (words others : List Word) → Follows words others → Begins F words → Begins F others
begins_alike F [] others f b = absurd b
begins_alike F (w ∷ ws) others f b = subst (Begins F) (sym f.1) b

-- where a part of a larger part is stuck, the larger part is
pub within : {A B : Type 0} (IsA : A → Type 0) (IsB : B → Type 0) (MayA MayB : List Word → Type 0) (line_a : A → List Word) (line_b : B → List Word) (front before mid after : List Word)
    → before ≡ front ++ mid
    → Stuck IsB MayB line_b mid after
    → ((b : B) → IsB b → (a : A) × (rest : List Word) × IsA a × (line_a a ≡ front ++ (line_b b ++ rest)))
    → ((a : A) (more words : List Word) → IsA a → MayA more → Follows mid words → line_a a ++ more ≡ front ++ words → (b : B) × (rest : List Word) × IsB b × MayB rest × (words ≡ line_b b ++ rest))
    → Stuck IsA MayA line_a before after
within IsA IsB MayA MayB line_a line_b front before mid after split s up down =
    let found = up s.item s.is in record {
      seen = front ++ s.seen;
      split = split ∙ ap (λ ws. front ++ ws) s.split ∙ sym (append_assoc front s.seen after);
      item = found.0;
      is = found.2;
      tail = s.tail ++ found.1;
      begun =
          found.3 ∙ ap (λ ws. front ++ (ws ++ found.1)) s.begun ∙ ap (λ ws. front ++ ws) (append_assoc s.seen s.tail found.1)
          ∙ sym (append_assoc front s.seen (s.tail ++ found.1));
      none = λ other more words is may follows e.
          let parts = down other more (s.seen ++ words) is may (follows_split mid s.seen after words s.split follows) (e ∙ append_assoc front s.seen words) in
          s.none parts.0 parts.1 words parts.2 parts.3 follows (sym parts.4);
    }

-- a part stands behind `front` in a larger part: each such part can, and nothing else does
pub record Holds {A B : Type 0} (IsA : A → Type 0) (IsB : B → Type 0) (line_a : A → List Word) (line_b : B → List Word) (front mid : List Word) : Type 0 where
  pub up : (b : B) → IsB b → (a : A) × (rest : List Word) × IsA a × (line_a a ≡ front ++ (line_b b ++ rest))
  pub down : (a : A) (more words : List Word) → IsA a → Follows mid words → line_a a ++ more ≡ front ++ words → (b : B) × (rest : List Word) × IsB b × (words ≡ line_b b ++ rest)

pub stuck_in : {A B : Type 0} (IsA : A → Type 0) (IsB : B → Type 0) (line_a : A → List Word) (line_b : B → List Word) (front before mid after : List Word)
    → before ≡ front ++ mid → Stuck IsB Anything line_b mid after → Holds IsA IsB line_a line_b front mid → Stuck IsA Anything line_a before after
stuck_in IsA IsB line_a line_b front before mid after split s holds =
    within IsA IsB Anything Anything line_a line_b front before mid after split s holds.up
    (λ a more words is may follows e. (let d = holds.down a more words is follows e in (d.0, d.1, d.2, tt, d.3)))

-- where reading stops in a part, it stops in the larger part
pub stops : {A B : Type 0} (IsA : A → Type 0) (IsB : B → Type 0) (line_a : A → List Word) (line_b : B → List Word) (front before mid after : List Word) (r : Result A Stop) (s : Stop)
    → IsErr r × IsErrAnd r (λ e. e ≡ s) → before ≡ front ++ mid → Holds IsA IsB line_a line_b front mid → Reads IsB line_b mid after (Err s) → Reads IsA line_a before after r
stops IsA IsB line_a line_b front before mid after (Ok a) s is split holds part = absurd is.1
stops IsA IsB line_a line_b front before mid after (Err e) s is split holds part =
    subst (λ f. Reads IsA line_a before after (Err f)) (sym is.1) (go s part)
  where
    go : (t : Stop) → Reads IsB line_b mid after (Err t) → Reads IsA line_a before after (Err t)
    go stop.Stuck stuck = stuck_in IsA IsB line_a line_b front before mid after split stuck holds
    go stop.NoMemory none = tt

-- words that are due
pub due : {A : Type 0} (IsA : A → Type 0) (line_a : A → List Word) (front line mid : List Word)
    → ((a : A) × (rest : List Word) × IsA a × (line_a a ≡ front ++ (line ++ rest)))
    → ((a : A) (more words : List Word) → IsA a → Follows mid words → line_a a ++ more ≡ front ++ words → (rest : List Word) × (words ≡ line ++ rest))
    → Holds {B = Unit {0}} IsA (λ u. Unit {0}) line_a (λ u. line) front mid
due IsA line_a front line mid there only = record {
  up = λ b is. there;
  down = λ a more words is follows e. (let d = only a more words is follows e in (tt, d.0, tt, d.1));
}

-- some of the words of a line that is always the same
pub fixed : (whole front line tail mid : List Word) → whole ≡ front ++ (line ++ tail) → Holds {A = Unit {0}} {B = Unit {0}} (λ u. Unit {0}) (λ u. Unit {0}) (λ u. whole) (λ u. line) front mid
fixed whole front line tail mid e =
    due {A = Unit {0}} (λ u. Unit {0}) (λ u. whole) front line mid (tt, tail, tt, e) (λ a more words is follows f. (
      tail ++ more,
      append_cancel_left front words (line ++ (tail ++ more))
          (sym f ∙ ap (λ ws. ws ++ more) e ∙ append_assoc front (line ++ tail) more ∙ ap (λ ws. front ++ ws) (append_assoc line tail more)),
    ))

-- a test that failed
pub not_so : (b : Bool) (P : Type 0) → b ≡ false → (IsTrue b ↔ P) → P → ⊥
not_so b P off tells p = (let wrong : false ≡ true = sym off ∙ tells.1 p in cc)
