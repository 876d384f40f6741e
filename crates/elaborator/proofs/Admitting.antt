-- Entering an instance: its declarations, the limit on nets, and the numbers of its nets.
use Rattle.std.proofs.Common.{◌≡◌, ◌≢◌, ◌+◌, ◌≤◌, ◌∙◌, ℕ, Bool, true, false, cond, Option, Some, None, List, [], ◌∷◌, ◌++◌, Ok, Err, ap, arith, length, min, refl, subst, sym}
use Rattle.std.specs.Prelude.{nat_lt}
use Rattle.std.specs.Option.{option_or}
use Rattle.std.specs.List.{range_with_len}
use Rattle.std.proofs.lemmas.Bool.Decides.{nat_tests}
use Rattle.std.proofs.lemmas.List.{length-append, length-map}
use Rattle.std.proofs.lemmas.List.FromFn.{length-map-range_with_len}
use Rattle.std.proofs.lemmas.List.Sums.{sum_by-cons}
use Rattle.verilog_tree.specs.declared.source.IndexRange.{IndexRange}
use Rattle.design_core.specs.declared.parts.NetName.{NetName}
use Rattle.module_nets.specs.declared.nets.Net.{Net}
use Rattle.module_nets.specs.declared.fault.NetFault.{NetFault}
use Rattle.module_nets.specs.declared.fault.NetFault.TheVariants as wanting
use Rattle.module_nets.specs.Declarations.{width_of}
use Rattle.module_nets.specs.Names.{Name}
use Rattle.module_nets.specs.Nets.{Nets}
use Rattle.verilog_tree.specs.declared.source.Module.{Module}
use Rattle.flattening.specs.declared.fault.ElabFault.{ElabFault}
use Rattle.flattening.specs.declared.fault.ElabFault.TheVariants.{NoMemory}
use Rattle.flattening.specs.declared.made.Made.{Made}
use Rattle.flattening.specs.Faults.{declaration_tests}
use Rattle.flattening.specs.Instances.{entering}
use Rattle.flattening.specs.Pieces.{joined}
use Rattle.flattening.specs.Places.{Given, Inside, bit_names, index_at, indices, nets_of, own_names, start_in}
use Rattle.flattening.specs.Steps.{first_fault}
use Rattle.elaborator.specs.Room.{limits}
use Rattle.flattening.specs.Laws.{AreTold}
use Rattle.elaborator.specs.Walk.{bit_count, declared_as, entry_piece, instance_at, names_in}
use Rattle.elaborator.proofs.Performing.{failed, fits, full}

-- a net has as many names as bits
bits_named : (scope : ℕ) (name : Name) (range : Option IndexRange) → length (bit_names scope name range) ≡ width_of range
bits_named scope name None = refl
bits_named scope name (Some r) = length-map (indices (Some r)) (λ (i : Option ℕ). record { scope = scope; name = name; index = i }) ∙ length-map-range_with_len (λ bit. Some (index_at r bit)) 0 (width_of (Some r))

pub names_count : (scope : ℕ) (names : List Name) (rows : List Net) → length rows ≡ length names → length (names_in scope names rows) ≡ bit_count rows
names_count scope [] [] same = refl
names_count scope [] (row ∷ rows) same = absurd (omega (arith, same))
names_count scope (name ∷ names) [] same = absurd (omega (arith, same))
names_count scope (name ∷ names) (row ∷ rows) same =
    length-append (bit_names scope name row.range) (names_in scope names rows)
    ∙ ap (λ n. n + length (names_in scope names rows)) (bits_named scope name row.range)
    ∙ ap (λ n. width_of row.range + n) (names_count scope names rows (omega (arith, same)))
    ∙ sym (sum_by-cons (λ (n : Net). width_of n.range) row rows)

-- more than the most are as good as one more than the most
clamped : (have more : ℕ) → nat_lt 400000 (have + min more 400001) ≡ nat_lt 400000 (have + more)
clamped have more = grind (arith, nat_tests)

limits_same : (at : ℕ) (made : Made) (more count : ℕ) → count ≡ min more 400001 → first_fault (limits at made count 0 0) ≡ first_fault (limits at made more 0 0)
limits_same at made more count is = rw (is, clamped (length made.net_names) more) refl

pub not_declared : (g : Given) (m : Module) (parent : Option ℕ) (name : Name) (child : Inside) (made : Made) (fault : NetFault) → child.module_of ≡ m →
    AreTold g m (Err fault) → declared_as fault ≢ NoMemory → entering g parent name child made ≡ Err (declared_as fault)
unfolding entering
not_declared g m parent name child made (wanting.Refused cause at) is told free =
    failed (start_in g child.module_of.name) (declaration_tests g child.module_of) (entry_piece parent name child) made (declared_as (wanting.Refused cause at)) (ap (λ (k : Module). first_fault (declaration_tests g k)) is ∙ told)
not_declared g m parent name child made wanting.NoMemory is told free = absurd (free refl)

module _ (g : Given) (parent : Option ℕ) (name : Name) (child : Inside) (made : Made) (at count : ℕ) (starts : at ≡ start_in g child.module_of.name)
    (none : first_fault (declaration_tests g child.module_of) ≡ None) (counted : count ≡ min (length (own_names child)) 400001) where
  pub entry_full : (fault : ElabFault) → first_fault (limits at made count 0 0) ≡ Some fault → entering g parent name child made ≡ Err fault
  unfolding entering
  entry_full fault is =
      full (start_in g child.module_of.name) (declaration_tests g child.module_of) (entry_piece parent name child) made (length (own_names child)) 0 0 fault none refl refl refl
      (ap (λ a. first_fault (limits a made (length (own_names child)) 0 0)) (sym starts) ∙ sym (limits_same at made (length (own_names child)) count counted) ∙ is)

  pub entry_fits : first_fault (limits at made count 0 0) ≡ None → entering g parent name child made ≡ Ok (joined made (entry_piece parent name child))
  unfolding entering
  entry_fits is =
      fits (start_in g child.module_of.name) (declaration_tests g child.module_of) (entry_piece parent name child) made (length (own_names child)) 0 0 none refl refl refl
      (ap (λ a. first_fault (limits a made (length (own_names child)) 0 0)) (sym starts) ∙ sym (limits_same at made (length (own_names child)) count counted) ∙ is)

-- where the limits hold, nets are not too many
not_beyond : (b : Bool) (f : ElabFault) (rest : Option ElabFault) → option_or (cond {A = Option ElabFault} b (Some f) None) rest ≡ None → b ≡ false
not_beyond true f rest is = cc
not_beyond false f rest is = refl

below_most : (n : ℕ) → nat_lt 400000 n ≡ false → n ≤ 400000
below_most n is = grind (arith, nat_tests)

pub room_small : (at : ℕ) (made : Made) (count : ℕ) → first_fault (limits at made count 0 0) ≡ None → length made.net_names + count ≤ 400000
room_small at made count is = below_most (length made.net_names + count) (not_beyond (nat_lt 400000 (length made.net_names + count)) _ _ is)

pub bits_small : (have count bits : ℕ) → count ≡ min bits 400001 → have + count ≤ 400000 → have + bits ≤ 400000
bits_small have count bits is small = omega (arith, is, small)

pub counted_own : (g : Given) (m : Module) (around : List ℕ) (made : Made) (nets : Nets) (count : ℕ) → nets ≡ nets_of g m → length nets.rows ≡ length nets.names → count ≡ min (bit_count nets.rows) 400001 →
    count ≡ min (length (own_names (instance_at g around m made))) 400001
counted_own g m around made nets count are sized is =
    is ∙ ap (λ (n : ℕ). min n 400001) (sym (names_count (length made.scopes) nets.names nets.rows sized) ∙ ap (λ (n : Nets). length (names_in (length made.scopes) n.names n.rows)) are)

pub same_entry : (g : Given) (m : Module) (around : List ℕ) (made : Made) (parent : Option ℕ) (name : Name) (scope base : ℕ) (nets : Nets) → scope ≡ length made.scopes → nets ≡ nets_of g m →
    entry_piece parent name (instance_at g around m made) ≡ entry_piece parent name (record { scope = scope; base = base; around = around; module_of = m; nets = nets })
same_entry g m around made parent name scope base nets s n = rw (s, n) refl
