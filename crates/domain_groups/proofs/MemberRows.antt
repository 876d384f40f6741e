-- The rows of a table in which the nets of each group are set, one by one.
use Rattle.std.proofs.Common.{◌≡◌, ℕ, zero, suc, ◌+◌, ◌<◌, ◌≤◌, arith, Bool, true, false, List, [], ◌∷◌, ◌++◌, get_or, map, length, inl, inr, refl, subst, sym, ap, ◌∙◌, length-append}
use Rattle.std.specs.Prelude.{◌⊎◌, Some, Contains, slice_get, option_map, codes}
use Rattle.std.proofs.lemmas.Bool.{cases_lt}
use Rattle.std.proofs.lemmas.List.{length-map}
use Rattle.std.proofs.lemmas.Option.{slice_get_within, slice_get-map, same_Some}
use Rattle.facts.proofs.Places.{at_map}
use Rattle.id_arena.specs.declared.keys.NetId.{NetId}
use Rattle.design_core.specs.Design.{includes}
use Rattle.design_core.specs.Influence.{Group}
use Rattle.link_rows.specs.BitRows.{BitTable, bits_at, is_set, clear_table, IsRectangular}
use Rattle.domain_groups.specs.declared.groups.NamedGroup.{NamedGroup}
use Rattle.domain_groups.specs.Groups.{InputGroups, frames, AreGroups}
use Rattle.domain_groups.specs.Members.{seen, all_seen, AreBelow, SetsNets, HasMembers}
use Rattle.domain_groups.proofs.TableBits.{clear_bits, other_row, this_row}

-- the first rows, so many, have the nets of their groups, and the others are clear
pub record FirstRows (groups : List NamedGroup) (nets : ℕ) (table : BitTable) (count : ℕ) : Type 0 where
  pub rows : length table.rows ≡ length groups + 1
  pub width : table.width ≡ nets
  pub full : (k n : ℕ) (g : NamedGroup) → k < count → slice_get groups k ≡ Some g → is_set (bits_at table k) n ≡ includes g.nets n
  pub clear : (k n : ℕ) → count ≤ k → is_set (bits_at table k) n ≡ false

replicated : (rows width : ℕ) → length (clear_table rows width).rows ≡ rows
replicated zero width = refl
replicated (suc rows) width = ap suc (replicated rows width)

pub no_rows : (groups : List NamedGroup) (nets rows : ℕ) (table : BitTable) → table ≡ clear_table rows nets → rows ≡ length groups + 1 → FirstRows groups nets table 0
no_rows groups nets rows table is size = rw is (record {
  rows = replicated rows nets ∙ size;
  width = refl;
  full = λ k n g less at. absurd (omega arith);
  clear = λ k n past. clear_bits rows nets k n;
})

pub row_more : (groups : List NamedGroup) (nets : ℕ) (old new : BitTable) (count row : ℕ) (g : NamedGroup) → FirstRows groups nets old count → row ≡ count
    → slice_get groups count ≡ Some g → SetsNets old new row g.nets → FirstRows groups nets new (count + 1)
row_more groups nets old new count row g f is here s = record {
  rows = s.count ∙ f.rows;
  width = s.width ∙ f.width;
  full = λ k n h less at. full k n h less at (cases_lt k count);
  clear = λ k n past. other_row old new row g.nets k n s (λ e. omega arith) ∙ f.clear k n (omega arith);
}
  where
    full : (k n : ℕ) (h : NamedGroup) → k < count + 1 → slice_get groups k ≡ Some h → (k < count) ⊎ (count ≤ k) → is_set (bits_at new k) n ≡ includes h.nets n
    full k n h less at (inl before) = other_row old new row g.nets k n s (λ e. omega arith) ∙ f.full k n h before at
    full k n h less at (inr past) =
        let last : k ≡ row = omega arith in
        let last-2 : k ≡ count = omega arith in
        let at-2 : slice_get groups count ≡ Some h = subst (λ (i : ℕ). slice_get groups i ≡ Some h) last-2 at in
        let same : g ≡ h = same_Some g h (sym here ∙ at-2) in
        let clear : is_set (bits_at old row) n ≡ false = f.clear row n (omega arith) in
        subst (λ (i : ℕ). is_set (bits_at new i) n ≡ includes h.nets n) (sym last)
        (this_row old new row g.nets n s clear ∙ ap (λ (x : NamedGroup). includes x.nets n) same)

-- one of the groups, or the last
pub at_frames : (groups : List Group) (last g : Group) (k : ℕ) → slice_get (groups ++ last ∷ []) k ≡ Some g → (slice_get groups k ≡ Some g) ⊎ ((k ≡ length groups) × (last ≡ g))
at_frames [] last g zero at = inr (refl, same_Some last g at)
at_frames [] last g (suc k) at = absurd (let within = slice_get_within {A = Group} [] k g at in omega arith)
at_frames (x ∷ groups) last g zero at = inl at
at_frames (x ∷ groups) last g (suc k) at =
    elim (at_frames groups last g k at) [
      | inl there ↦ inl there
      | inr end ↦ inr (ap suc end.0, end.1)
    ]

pub frame_before : (groups : List Group) (last : Group) (k : ℕ) → k < length groups → slice_get (groups ++ last ∷ []) k ≡ slice_get groups k
frame_before [] last k less = absurd (omega arith)
frame_before (x ∷ groups) last zero less = refl
frame_before (x ∷ groups) last (suc k) less = let lower : k < length groups = omega arith in frame_before groups last k lower

pub frame_last : (groups : List Group) (last : Group) (k : ℕ) → k ≡ length groups → slice_get (groups ++ last ∷ []) k ≡ Some last
frame_last groups last k is = rw is (go groups)
  where
    go : (groups : List Group) → slice_get (groups ++ last ∷ []) (length groups) ≡ Some last
    go [] = refl
    go (x ∷ groups) = go groups

-- the nets of a group have bits in a row
pub member_below : (groups : List NamedGroup) (inputs : List NetId) (nets : ℕ) → AreGroups (all_seen groups inputs) → AreBelow nets inputs
    → (k : ℕ) (g : NamedGroup) → slice_get groups k ≡ Some g → (n : NetId) → Contains g.nets n → n.place < nets
member_below groups inputs nets s low k g at n c =
    low n (s.inside k (seen g) n (slice_get-map seen groups k ∙ ap (option_map seen) at) c)

-- behind the end of a row no net has a bit
past_end : (bits : List Bool) (n : ℕ) → length bits ≤ n → get_or bits n false ≡ false
past_end [] n few = refl
past_end (b ∷ bits) zero few = absurd (omega arith)
past_end (b ∷ bits) (suc n) few = let less : length bits ≤ n = omega arith in past_end bits n less

frame_at : (groups : List Group) (last : Group) (k : ℕ) → k ≤ length groups → (g : Group) × (slice_get (groups ++ last ∷ []) k ≡ Some g)
frame_at [] last zero within = (last, refl)
frame_at [] last (suc k) within = absurd (omega arith)
frame_at (x ∷ groups) last zero within = (x, refl)
frame_at (x ∷ groups) last (suc k) within = let less : k ≤ length groups = omega arith in frame_at groups last k less

pub has_beyond : (v : InputGroups) (table : BitTable) → HasMembers v table → IsRectangular table → (k n : ℕ) → k ≤ length v.groups → table.width ≤ n
    → option_map (λ (group : Group). includes group.nets n) (slice_get (frames v) k) ≡ Some false
has_beyond v table m r k n within past =
    let g = frame_at v.groups (record { name = codes "*"; nets = v.inputs }) k within in
    let size = length-append v.groups (record { name = codes "*"; nets = v.inputs } ∷ []) in
    let count = m.count in
    let wide : length (bits_at table k) ≡ table.width = r k (omega arith) in
    ap (option_map (λ (group : Group). includes group.nets n)) g.1
    ∙ ap Some (sym (m.bits k n g.0 g.1) ∙ past_end (bits_at table k) n (omega arith))

-- all rows are there
pub all_rows : (groups : List NamedGroup) (inputs : List NetId) (nets : ℕ) (old new : BitTable) (count row : ℕ) → FirstRows groups nets old count → length groups ≤ count → count ≤ length groups → row ≡ length groups
    → SetsNets old new row inputs → HasMembers (all_seen groups inputs) new
all_rows groups inputs nets old new count row f all most is s = record {
  count = s.count ∙ f.rows ∙ sym (length-append (map seen groups) (star ∷ []) ∙ ap (λ (n : ℕ). n + 1) (length-map groups seen));
  bits = λ k n g at. bits k n g (at_frames (map seen groups) star g k at);
}
  where
    star : Group
    star = record { name = codes "*"; nets = inputs }

    bits : (k n : ℕ) (g : Group) → (slice_get (map seen groups) k ≡ Some g) ⊎ ((k ≡ length (map seen groups)) × (star ≡ g)) → is_set (bits_at new k) n ≡ includes g.nets n
    bits k n g (inl at) =
        let w = at_map seen groups k g at in
        let within = slice_get_within groups k w.0 w.1 in
        other_row old new row inputs k n s (λ e. omega arith) ∙ f.full k n w.0 (omega arith) w.1 ∙ ap (λ (x : Group). includes x.nets n) (sym w.2)
    bits k n g (inr end) =
        let size = length-map groups seen in
        let last : k ≡ row = omega (arith, end.0) in
        let clear : is_set (bits_at old row) n ≡ false = f.clear row n (omega arith) in
        absurd_or last clear
      where
        absurd_or : k ≡ row → is_set (bits_at old row) n ≡ false → is_set (bits_at new k) n ≡ includes g.nets n
        absurd_or last clear =
            subst (λ (i : ℕ). is_set (bits_at new i) n ≡ includes g.nets n) (sym last)
            (this_row old new row inputs n s clear ∙ ap (λ (x : Group). includes x.nets n) end.1)
