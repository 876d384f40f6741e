-- The first brace for which no room is left.
use Prim.Native.Nat.{zero}
use Rattle.std.proofs.Common.{◌≡◌, ℕ, suc, ◌+◌, ◌-◌, ◌≤◌, ◌<◌, List, [], ◌∷◌, Option, Some, None, slice_get, length, take, drop, refl, sym, ◌∙◌, ap, subst, add-one, length-drop, map, arith}
use Rattle.std.proofs.lemmas.List.{length-map, take_all, drop_all}
use Rattle.std.proofs.lemmas.Option.{slice_get_within}
use Rattle.verilog_lex.specs.declared.token.Token.{Token}
use Rattle.verilog_tree.specs.Terminal.{terminal_at}
use Rattle.verilog_tree.specs.declared.terminal.Terminal.{Terminal}
use Rattle.verilog_tree.specs.declared.terminal.Terminal.TheVariants.{OpenBrace, CloseBrace}
use Rattle.verilog_tree.specs.Source.{dives, room_after}
use Rattle.verilog_tree.proofs.Due.{drop_here, drop_end}

-- what the scan makes of a terminal
abbrev pub scan : Option ℕ → Terminal → List Terminal → Option (List Terminal)
scan o t ts = elim o [ None ↦ Some (t ∷ ts) | Some later ↦ dives later ts ]

-- where nothing dives, nothing dives before any place
pub dives_none : (ts : List Terminal) (room p : ℕ) → dives room ts ≡ None → dives room (take p ts) ≡ None
dives_none [] room zero e = refl
dives_none [] room (suc p) e = refl
dives_none (t ∷ ts) room zero e = refl
dives_none (t ∷ ts) room (suc p) e = go (room_after room t) e (λ later h. dives_none ts later p h)
  where
    go : (o : Option ℕ) → scan o t ts ≡ None → ((later : ℕ) → dives later ts ≡ None → dives later (take p ts) ≡ None) → scan o t (take p ts) ≡ None
    go None f rec = absurd (let no : ⊥ = cc in no)
    go (Some later) f rec = rec later f

-- nothing dives before the first brace that does
pub dives_before : (ts : List Terminal) (room p q : ℕ) → dives room ts ≡ Some (drop q ts) → q < length ts → p ≤ q → dives room (take p ts) ≡ None
dives_before [] room p q e w h = absurd (let f : q < 0 = w in omega arith)
dives_before (t ∷ ts) room zero q e w h = refl
dives_before (t ∷ ts) room (suc p) zero e w h = absurd (omega arith)
dives_before (t ∷ ts) room (suc p) (suc q) e w h = go (room_after room t) e (λ later f. dives_before ts later p q f (omega arith) (omega arith))
  where
    go : (o : Option ℕ) → scan o t ts ≡ Some (drop q ts) → ((later : ℕ) → dives later ts ≡ Some (drop q ts) → dives later (take p ts) ≡ None) → scan o t (take p ts) ≡ None
    go None f rec =
        (let same : t ∷ ts ≡ drop q ts = cc in
        let long : suc (length ts) ≡ length ts - q = ap (λ (l : List Terminal). length l) same ∙ length-drop q ts in absurd (omega arith))
    go (Some later) f rec = rec later f

-- one step of the scan
pub dives_step : (ts : List Terminal) (room later k : ℕ) (t : Terminal) → slice_get ts k ≡ Some t → room_after room t ≡ Some later →
    dives room (drop k ts) ≡ dives later (drop (k + 1) ts)
dives_step ts room later k t e f = ap (dives room) (drop_here ts k t e) ∙ ap (λ o. scan o t (drop (k + 1) ts)) f

pub dives_stop : (ts : List Terminal) (k : ℕ) → slice_get ts k ≡ Some OpenBrace → dives 0 (drop k ts) ≡ Some (drop k ts)
dives_stop ts k e = ap (dives 0) (drop_here ts k OpenBrace e) ∙ ap Some (sym (drop_here ts k OpenBrace e))

-- the scan has come to place k with this room left
pub record Scans (ts : List Terminal) (k room : ℕ) : Type 0 where
  pub goes : dives 64 ts ≡ dives room (drop k ts)
  pub few : room ≤ 64 + k

-- what a reader of all tokens sees
pub seen : (tokens : List Token) (us : List Terminal) (n k : ℕ) → us ≡ take n (map terminal_at tokens) → n ≡ length tokens →
    slice_get us k ≡ slice_get (map terminal_at tokens) k
seen tokens us n k e f =
    ap (λ l. slice_get l k)
    (e ∙ take_all n (map terminal_at tokens) (let g : length (map terminal_at tokens) ≡ length tokens = length-map tokens terminal_at in omega arith))

-- a brace for which no room is left
pub scan_stops : (ts : List Terminal) (k room : ℕ) → Scans ts k room → slice_get ts k ≡ Some OpenBrace → room ≡ 0 →
    (k < length ts) × (dives 64 ts ≡ Some (drop k ts))
scan_stops ts k room s e z =
    (slice_get_within ts k OpenBrace e, s.goes ∙ ap (λ (r : ℕ). dives r (drop k ts)) z ∙ dives_stop ts k e)

pub scan_open : (ts : List Terminal) (k room : ℕ) → Scans ts k room → slice_get ts k ≡ Some OpenBrace → (room ≡ 0 → ⊥) → Scans ts (k + 1) (room - 1)
scan_open ts k zero s e z = absurd (z refl)
scan_open ts k (suc room) s e z =
    let same : suc room - 1 ≡ room = omega arith in
    record {
      goes = s.goes ∙ dives_step ts (suc room) room k OpenBrace e refl ∙ ap (λ (r : ℕ). dives r (drop (k + 1) ts)) (sym same);
      few = (let f = s.few in omega arith);
    }

close_after : (room : ℕ) → room_after room CloseBrace ≡ Some (room + 1)
close_after zero = refl
close_after (suc room) = refl

pub scan_close : (ts : List Terminal) (k room : ℕ) → Scans ts k room → slice_get ts k ≡ Some CloseBrace → Scans ts (k + 1) (room + 1)
scan_close ts k room s e = record {
  goes = s.goes ∙ dives_step ts room (room + 1) k CloseBrace e (close_after room);
  few = (let f = s.few in omega arith);
}

other_after : (room : ℕ) (t : Terminal) → (t ≡ OpenBrace → ⊥) → (t ≡ CloseBrace → ⊥) → room_after room t ≡ Some room
other_after zero OpenBrace f g = absurd (f refl)
other_after zero CloseBrace f g = absurd (g refl)
other_after zero _ f g = refl
other_after (suc room) OpenBrace f g = absurd (f refl)
other_after (suc room) CloseBrace f g = absurd (g refl)
other_after (suc room) _ f g = refl

pub scan_other : (ts : List Terminal) (k room : ℕ) → Scans ts k room → (slice_get ts k ≡ Some OpenBrace → ⊥) → (slice_get ts k ≡ Some CloseBrace → ⊥) → Scans ts (k + 1) room
scan_other ts k room s not_open not_close = record { goes = s.goes ∙ go (slice_get ts k) refl; few = (let f = s.few in omega arith) }
  where
    go : (o : Option Terminal) → slice_get ts k ≡ o → dives room (drop k ts) ≡ dives room (drop (k + 1) ts)
    go None e =
        (let empty : drop k ts ≡ [] = drop_end ts k e in
        let size : length ts - k ≡ 0 = sym (length-drop k ts) ∙ ap (λ (l : List Terminal). length l) empty in
        let later : drop (k + 1) ts ≡ [] = drop_all (k + 1) ts (omega arith) in
        ap (dives room) (empty ∙ sym later))
    go (Some t) e = dives_step ts room room k t e (other_after room t (λ f. not_open (e ∙ ap (λ x. Some x) f)) (λ f. not_close (e ∙ ap (λ x. Some x) f)))
