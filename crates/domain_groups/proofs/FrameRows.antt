-- The influences of the first frames, row by row.
use Rattle.std.proofs.Common.{◌≡◌, ℕ, zero, suc, ◌+◌, ◌<◌, ◌≤◌, arith, Bool, true, false, List, [], ◌∷◌, ◌++◌, length, inl, inr, refl, subst, sym, ap, ◌∙◌, length-append}
use Rattle.std.specs.Prelude.{◌⊎◌, ◌↔◌, Some, Contains, slice_get, codes, option_map}
use Rattle.std.proofs.lemmas.Bool.{cases_lt}
use Rattle.std.proofs.lemmas.Option.{slice_get_within, same_Some}
use Rattle.facts.proofs.Tests.{mapped}
use Rattle.id_arena.specs.declared.keys.NetId.{NetId}
use Rattle.design_core.specs.declared.node.NodeId.{NodeId}
use Rattle.design_core.specs.declared.parts.Parts.{Parts}
use Rattle.design_core.specs.Design.{port_bits}
use Rattle.design_core.specs.Influence.{Group, all_groups, IsInfluence, IsReached}
use Rattle.link_rows.specs.BitRows.{BitTable, bits_at, is_set, clear_table}
use Rattle.clock_rank.specs.Numbers.{all_nodes}
use Rattle.domain_groups.specs.Groups.{InputGroups, frames, AreOf, AreGroups}
use Rattle.domain_groups.specs.Influences.{AreInfluences, is_marked}
use Rattle.domain_groups.specs.Reaching.{HasRow, Reaches}
use Rattle.domain_groups.proofs.MemberRows.{at_frames}
use Rattle.domain_groups.proofs.NodeMarks.{marks_same}
use Rattle.domain_groups.proofs.TableBits.{clear_bits}

-- the first rows, so many, are the influences of their groups, and in the others nothing is marked
pub record FirstReached (p : Parts) (v : InputGroups) (table : BitTable) (count : ℕ) : Type 0 where
  pub rows : length table.rows ≡ length v.groups + 1
  pub width : table.width ≡ length (all_nodes p)
  pub done : (k : ℕ) (g : Group) → k < count → slice_get (frames v) k ≡ Some g → IsInfluence p g (is_marked p table k)
  pub clear : (k n : ℕ) → count ≤ k → is_set (bits_at table k) n ≡ false

replicated : (rows width : ℕ) → length (clear_table rows width).rows ≡ rows
replicated zero width = refl
replicated (suc rows) width = ap suc (replicated rows width)

module _ (p : Parts) (v : InputGroups) where
  pub none_reached : (rows width : ℕ) (table : BitTable) → table ≡ clear_table rows width → rows ≡ length v.groups + 1 → width ≡ length (all_nodes p) → FirstReached p v table 0
  none_reached rows width table is size wide = rw is (record {
    rows = replicated rows width ∙ size;
    width = wide;
    done = λ k g less at. absurd (omega arith);
    clear = λ k n past. clear_bits rows width k n;
  })

  pub row_of_frame : (table : BitTable) (count : ℕ) → FirstReached p v table count → count < length v.groups + 1 → HasRow p table count
  row_of_frame table count f less = record { there = rw f.rows less; width = f.width }

  -- the nets of a frame are input bits
  pub frame_inputs : AreGroups v → AreOf p v → (k : ℕ) (nets : List NetId) → option_map (λ (group : Group). group.nets) (slice_get (frames v) k) ≡ Some nets
      → (n : NetId) → Contains nets n → Contains (port_bits p.inputs) n
  frame_inputs groups of k nets at n c = go h.0 (at_frames v.groups star h.0 k h.1) (subst (λ (xs : List NetId). Contains xs n) (sym h.2) c)
    where
      star : Group
      star = record { name = codes "*"; nets = v.inputs }

      h : (g : Group) × (slice_get (frames v) k ≡ Some g) × (g.nets ≡ nets)
      h = mapped (λ (group : Group). group.nets) (slice_get (frames v) k) nets at

      go : (g : Group) → (slice_get v.groups k ≡ Some g) ⊎ ((k ≡ length v.groups) × (star ≡ g)) → Contains g.nets n → Contains (port_bits p.inputs) n
      go g (inl there) c = subst (λ (xs : List NetId). Contains xs n) of (groups.inside k g n there c)
      go g (inr end) c = subst (λ (xs : List NetId). Contains xs n) of (subst (λ (x : Group). Contains x.nets n) (sym end.1) c)

  pub reached_more : (old new : BitTable) (count : ℕ) (nets : List NetId) → FirstReached p v old count → option_map (λ (group : Group). group.nets) (slice_get (frames v) count) ≡ Some nets
      → Reaches p old new count nets → FirstReached p v new (count + 1)
  reached_more old new count nets f at r = record {
    rows = r.size.count ∙ f.rows;
    width = r.size.width ∙ f.width;
    done = λ k g less there. done k g less there (cases_lt k count);
    clear = λ k n past. r.others k n (λ e. omega arith) ∙ f.clear k n (omega arith);
  }
    where
      h : (g : Group) × (slice_get (frames v) count ≡ Some g) × (g.nets ≡ nets)
      h = mapped (λ (group : Group). group.nets) (slice_get (frames v) count) nets at

      done : (k : ℕ) (g : Group) → k < count + 1 → slice_get (frames v) k ≡ Some g → (k < count) ⊎ (count ≤ k) → IsInfluence p g (is_marked p new k)
      done k g less there (inl before) a =
          subst (λ b. (b ≡ true) ↔ IsReached p g.nets a) (sym (marks_same p new old k k a (λ n. r.others k n (λ e. omega arith)))) (f.done k g before there a)
      done k g less there (inr past) a =
          let last : k ≡ count = omega arith in
          let there-2 : slice_get (frames v) count ≡ Some g = subst (λ (i : ℕ). slice_get (frames v) i ≡ Some g) last there in
          let same : h.0 ≡ g = same_Some h.0 g (sym h.1 ∙ there-2) in
          let nets_are : nets ≡ g.nets = sym h.2 ∙ ap (λ (x : Group). x.nets) same in
          subst (λ (i : ℕ). (is_marked p new i a ≡ true) ↔ IsReached p g.nets a) (sym last)
          (subst (λ (xs : List NetId). (is_marked p new count a ≡ true) ↔ IsReached p xs a) nets_are (r.here a))

  pub all_reached : AreOf p v → (table : BitTable) (count : ℕ) → FirstReached p v table count → length v.groups + 1 ≤ count → AreInfluences p v.groups table
  all_reached of table count f all = record {
    count = f.rows ∙ sym (length-append v.groups (star ∷ []));
    width = f.width;
    each = λ k g at a. each k g (subst (λ (xs : List NetId). slice_get (v.groups ++ record { name = codes "*"; nets = xs } ∷ []) k ≡ Some g) (sym of) at) a;
  }
    where
      star : Group
      star = record { name = codes "*"; nets = port_bits p.inputs }

      each : (k : ℕ) (g : Group) → slice_get (frames v) k ≡ Some g → IsInfluence p g (is_marked p table k)
      each k g at =
          let within = slice_get_within (frames v) k g at in
          let size = length-append v.groups (record { name = codes "*"; nets = v.inputs } ∷ []) in
          f.done k g (omega arith) at
