-- The marks of nodes in a row of a table.
use Rattle.std.proofs.Common.{◌≡◌, ℕ, zero, suc, ◌+◌, ◌<◌, ◌≤◌, arith, Bool, true, false, ◌&&◌, ◌||◌, inl, inr, List, [], ◌∷◌, length, refl, subst, sym, ap, ◌∙◌}
use Rattle.std.specs.Prelude.{◌==◌, nat_lt, ◌⊎◌, Option, Some, None, Contains, slice_get}
use Rattle.std.specs.List.{list_any}
use Rattle.std.specs.Option.{option_map_or}
use Rattle.std.proofs.lemmas.Bool.{lt-ltb}
use Rattle.facts.proofs.Tests.{no, left, right, below, number_same, same_number, either}
use Rattle.facts.proofs.Places.{any_found, at_contains, contains_at}
use Rattle.facts.proofs.Lists.{any_at}
use Rattle.id_arena.specs.declared.keys.NetId.{NetId}
use Rattle.id_arena.specs.declared.keys.MemId.{MemId}
use Rattle.design_core.specs.declared.element.Memory.{Memory}
use Rattle.design_core.specs.declared.node.NodeId.{NodeId}
use Rattle.design_core.specs.declared.node.NodeId.TheVariants.{Net, Write}
use Rattle.design_core.specs.declared.parts.Parts.{Parts}
use Rattle.design_core.specs.Design.{net_count, includes, is_net}
use Rattle.design_core.specs.Dependency.{IsNode}
use Rattle.link_rows.specs.BitRows.{BitTable, bits_at, is_set, with_bit, clear_table}
use Rattle.clock_rank.specs.Numbers.{all_nodes, number_of, first_write}
use Rattle.clock_rank.proofs.Numbering.{number_at, same_number as same_node}
use Rattle.domain_groups.specs.Influences.{has_write, is_node, is_marked}
use Rattle.domain_groups.specs.Members.{AreBelow, SetsNets}
use Rattle.domain_groups.proofs.TableBits.{bit_set, or_false, other_row, this_row}

-- a net is among nets exactly where its number is
pub includes_at : (nets : List NetId) (n : NetId) → Contains nets n → includes nets n.place ≡ true
includes_at nets n c =
    let at = at_contains nets n c in
    any_at (is_net n.place) nets at.0 n at.1 (same_number n.place n.place refl)

pub at_includes : (nets : List NetId) (n : NetId) → includes nets n.place ≡ true → Contains nets n
at_includes nets n e =
    let f = any_found (is_net n.place) nets e in
    let same : f.1.place ≡ n.place = number_same f.1.place n.place f.3 in
    contains_at nets f.0 n (f.2 ∙ ap (λ (i : ℕ). Some (record { place = i })) same)

module _ (p : Parts) where
  write_there : (k : ℕ) (o : Option Memory) → option_map_or (λ (memory : Memory). nat_lt k (length memory.writes)) o false ≡ true
      → (memory : Memory) × (o ≡ Some memory) × (k < length memory.writes)
  write_there k None e = no e
  write_there k (Some memory) e = (memory, refl, below k (length memory.writes) e)

  pub node_there : (a : NodeId) → is_node p a ≡ true → IsNode p a
  node_there (Net n) e = below n.place (net_count p) e
  node_there (Write m k) e = write_there k (slice_get p.memories m.place) e

  pub there_node : (a : NodeId) → IsNode p a → is_node p a ≡ true
  there_node (Net n) h = lt-ltb n.place (net_count p) h
  there_node (Write m k) (memory, at, within) =
      ap (λ (o : Option Memory). option_map_or (λ (memory : Memory). nat_lt k (length memory.writes)) o false) at ∙ lt-ltb k (length memory.writes) within

  -- a node is marked where its bit is set
  pub mark_is : (t : BitTable) (row : ℕ) (a : NodeId) → IsNode p a → is_marked p t row a ≡ is_set (bits_at t row) (number_of p a)
  mark_is t row a h = ap (λ b. b && is_set (bits_at t row) (number_of p a)) (there_node a h)

  -- tables with the same bits in a row have the same marks in it
  pub marks_same : (t u : BitTable) (j k : ℕ) (a : NodeId) → ((n : ℕ) → is_set (bits_at t j) n ≡ is_set (bits_at u k) n) → is_marked p t j a ≡ is_marked p u k a
  marks_same t u j k a same = ap (λ b. is_node p a && b) (same (number_of p a))

  -- the mark of one node is set
  module _ (t : BitTable) (row at : ℕ) (a : NodeId) (node : IsNode p a) (number : at ≡ number_of p a) (there : row < length t.rows) (room : at < length (bits_at t row)) where
    bits : (k n : ℕ) → is_set (bits_at (with_bit t row at true) k) n ≡ (is_set (bits_at t k) n || ((k == row) && (at == n)))
    bits = bit_set t row at there room

    pub set_here : is_marked p (with_bit t row at true) row a ≡ true
    set_here =
        mark_is (with_bit t row at true) row a node
        ∙ bits row (number_of p a)
        ∙ ap (λ b. is_set (bits_at t row) (number_of p a) || (b && (at == number_of p a))) (same_number row row refl)
        ∙ ap (λ b. is_set (bits_at t row) (number_of p a) || b) (same_number at (number_of p a) number)
        ∙ always (is_set (bits_at t row) (number_of p a))
      where
        always : (b : Bool) → (b || true) ≡ true
        always true = refl
        always false = refl

    keeps : (x y z : Bool) → (x && y) ≡ true → (x && (y || z)) ≡ true
    keeps true true z e = refl
    keeps true false z e = no e
    keeps false y z e = no e

    pub set_keeps : (k : ℕ) (b : NodeId) → is_marked p t k b ≡ true → is_marked p (with_bit t row at true) k b ≡ true
    set_keeps k b e =
        ap (λ c. is_node p b && c) (bits k (number_of p b))
        ∙ keeps (is_node p b) (is_set (bits_at t k) (number_of p b)) ((k == row) && (at == number_of p b)) e

    parted : (x y z w : Bool) → (x && (y || (z && w))) ≡ true → ((x && y) ≡ true) ⊎ ((x ≡ true) × (w ≡ true))
    parted true true z w e = inl refl
    parted true false true true e = inr (refl, refl)
    parted true false true false e = no e
    parted true false false w e = no e
    parted false y z w e = no e

    pub set_only : (k : ℕ) (b : NodeId) → is_marked p (with_bit t row at true) k b ≡ true → (is_marked p t k b ≡ true) ⊎ (a ≡ b)
    set_only k b e = go (parted (is_node p b) (is_set (bits_at t k) (number_of p b)) (k == row) (at == number_of p b) (sym (ap (λ c. is_node p b && c) (bits k (number_of p b))) ∙ e))
      where
        go : (is_marked p t k b ≡ true) ⊎ ((is_node p b ≡ true) × ((at == number_of p b) ≡ true)) → (is_marked p t k b ≡ true) ⊎ (a ≡ b)
        go (inl old) = inl old
        go (inr new) = inr (same_node p a b node (node_there b new.0) (sym number ∙ number_same at (number_of p b) new.1))

    pub set_others : (k n : ℕ) → (k ≡ row → ⊥) → is_set (bits_at (with_bit t row at true) k) n ≡ is_set (bits_at t k) n
    set_others k n differ = bits k n ∙ go (k == row) refl
      where
        go : (c : Bool) → (k == row) ≡ c → (is_set (bits_at t k) n || (c && (at == n))) ≡ is_set (bits_at t k) n
        go true e = absurd (differ (number_same k row e))
        go false e = or_false (is_set (bits_at t k) n)

  -- nets are set in a row that was clear
  module _ (old new : BitTable) (row : ℕ) (seeds : List NetId) (s : SetsNets old new row seeds) (clear : (n : ℕ) → is_set (bits_at old row) n ≡ false) where
    pub seeds_set : (n : NodeId) → is_marked p new row n ≡ (is_node p n && includes seeds (number_of p n))
    seeds_set a = ap (λ b. is_node p a && b) (this_row old new row seeds (number_of p a) s (clear (number_of p a)))

    pub seed_set : (n : NetId) → n.place < net_count p → Contains seeds n → is_marked p new row (Net n) ≡ true
    seed_set n there c = seeds_set (Net n) ∙ ap (λ b. b && includes seeds n.place) (there_node (Net n) there) ∙ includes_at seeds n c

    -- each node that is marked is one of the nets
    pub set_seed : ((n : NetId) → Contains seeds n → n.place < net_count p) → (a : NodeId) → is_marked p new row a ≡ true → (n : NetId) × (a ≡ Net n) × Contains seeds n
    set_seed low a e = go a (sym (seeds_set a) ∙ e)
      where
        go : (a : NodeId) → (is_node p a && includes seeds (number_of p a)) ≡ true → (n : NetId) × (a ≡ Net n) × Contains seeds n
        go (Net n) h = (n, refl, at_includes seeds n (right (is_node p (Net n)) (includes seeds n.place) h))
        go (Write m k) h =
            let f = any_found (is_net (number_of p (Write m k))) seeds (right (is_node p (Write m k)) (includes seeds (number_of p (Write m k))) h) in
            let same : f.1.place ≡ number_of p (Write m k) = number_same f.1.place (number_of p (Write m k)) f.3 in
            let less : f.1.place < net_count p = low f.1 (contains_at seeds f.0 f.1 f.2) in
            absurd (omega arith)

-- a node has a bit
pub node_room : (p : Parts) (a : NodeId) (n width : ℕ) → IsNode p a → n ≡ number_of p a → width ≡ length (all_nodes p) → n < width
node_room p a n width h is wide = let low = (number_at p a h).0 in omega arith

-- the nets of a design have numbers of nodes
pub net_room : (p : Parts) (n : NetId) → n.place < net_count p → n.place < length (all_nodes p)
net_room p n h = (number_at p (Net n) h).0
