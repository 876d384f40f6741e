-- Reading an item.
use Rattle.std.proofs.Common.{◌≡◌, ℕ, ◌+◌, ◌≤◌, ◌<◌, List, [], ◌∷◌, ◌++◌, Some, Result, Ok, Err, IfOk, Bool, slice_get, length, append-nil, refl, sym, ◌∙◌, ap, subst, arith}
use Rattle.verilog_tree.specs.declared.terminal.Terminal.{Terminal}
use Rattle.verilog_tree.specs.declared.terminal.Terminal.TheVariants.{Name, EndModule, Direction, Wire, Supply, Assign, Gate}
use Rattle.verilog_tree.specs.declared.reader.Read.{Read}
use Rattle.verilog_tree.specs.declared.reader.Stop.{Stop as StopOf}
use Rattle.verilog_tree.specs.declared.reader.Stop.TheVariants as Stop
use Rattle.verilog_tree.specs.declared.source.Dir.{Dir}
use Rattle.verilog_tree.specs.declared.source.Item.{Item}
use Rattle.verilog_tree.specs.Grammar.{Is, IsItem, Many, none}
use Rattle.verilog_tree.specs.Predict.{Symbol, Begins, Wrong, after, after_item, item, items, Leads, Fails, Reads, Closed, Answers}
use Rattle.verilog_tree.proofs.Pushing.{another}
use Rattle.verilog_tree.proofs.Due.{begins, wrong, answers_from, further, here_within, passes, follow}
use Rattle.verilog_tree.proofs.Begins.{items_item, items_end}

-- the word of an item, and what follows it
pub item_reads : (ts : List Terminal) (k : ℕ) (t : Terminal) (parts : List Symbol) (r : Result (Read Item) StopOf) → slice_get ts k ≡ Some t → after_item t ≡ Begins parts →
    Answers ts parts (λ _ n i. IsItem ts k n i) (k + 1) r → Answers ts (item ∷ []) (IsItem ts) k r × IfOk r (λ x. k < x.next)
item_reads ts k t parts r e b f =
    let begun : Leads ts (item ∷ []) k parts (k + 1) = subst (λ p. Leads ts (item ∷ []) k p (k + 1)) (append-nil parts) (begins parts [] e b) in
    (answers_from (λ _ n i. IsItem ts k n i) (IsItem ts) r begun (omega arith) (λ n x h. h) f, further ts parts (λ _ n i. IsItem ts k n i) k r f)

pub item_wrong : (ts : List Terminal) (k : ℕ) → k ≤ length ts → ((d : Dir) → slice_get ts k ≡ Some (Direction d) → ⊥) → (slice_get ts k ≡ Some Wire → ⊥) →
    ((o : Bool) → slice_get ts k ≡ Some (Supply o) → ⊥) → (slice_get ts k ≡ Some Assign → ⊥) → (slice_get ts k ≡ Some Gate → ⊥) → (slice_get ts k ≡ Some Name → ⊥) →
    Fails ts (item ∷ []) k (Stop.Stuck k)
item_wrong ts k w not_direction not_wire not_supply not_assign not_gate not_name = wrong ts k item [] w refl go
  where
    go : (t : Terminal) → slice_get ts k ≡ Some t → after_item t ≡ Wrong
    go (Direction d) e = absurd (not_direction d e)
    go Wire e = absurd (not_wire e)
    go (Supply o) e = absurd (not_supply o e)
    go Assign e = absurd (not_assign e)
    go Gate e = absurd (not_gate e)
    go Name e = absurd (not_name e)
    go _ e = refl

-- while items are read
pub record Gathered (ts : List Terminal) (k n : ℕ) (is : List Item) : Type 0 where
  pub stands : Many (IsItem ts) k n is
  pub goes : Leads ts (items ∷ []) k (items ∷ []) n
  pub forward : k ≤ n
  pub inside : n ≤ length ts

pub items_start : (ts : List Terminal) (k : ℕ) (is : List Item) → k ≤ length ts → is ≡ [] → Gathered ts k k is
items_start ts k is w e = record {
  stands = subst (λ l. Many (IsItem ts) k k l) (sym e) (none k);
  goes = record { leads = λ below. refl };
  forward = omega arith;
  inside = w;
}

pub items_next : {ts : List Terminal} {k m n : ℕ} {i : Item} {is later : List Item} → later ≡ is ++ i ∷ [] → (slice_get ts m ≡ Some EndModule → ⊥) →
    Gathered ts k m is → Reads ts (item ∷ []) (IsItem ts) m n i → Gathered ts k n later
items_next {ts} {k} {m} {n} {i} {is} {later} e not_end g r = record {
  stands = subst (λ l. Many (IsItem ts) k n l) (sym e) (another k m n is i g.stands r.stands);
  goes = passes (follow g.goes (items_item ts m not_end)) r.goes;
  forward = (let f = g.forward in let h = r.forward in omega arith);
  inside = r.inside;
}

pub items_read : {ts : List Terminal} {k m : ℕ} {is : List Item} → slice_get ts m ≡ Some EndModule → Gathered ts k m is →
    Reads ts (items ∷ []) (Closed ts (Many (IsItem ts)) EndModule) k (m + 1) is
items_read {ts} {k} {m} e g = record {
  stands = record { place = m; stands = g.stands; ends = record { here = e; after = refl } };
  goes = follow g.goes (items_end e);
  forward = (let f = g.forward in omega arith);
  inside = here_within ts m EndModule e;
}
