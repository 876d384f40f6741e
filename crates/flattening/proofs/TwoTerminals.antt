-- Each primitive of a tree has two terminals at least.
use Rattle.std.proofs.Common.{◌≤◌, ℕ, List, length}
use Rattle.verilog_tree.specs.declared.terminal.Terminal.{Terminal}
use Rattle.verilog_tree.specs.declared.source.GatePart.{GatePart}
use Rattle.verilog_tree.specs.declared.source.Item.{Item}
use Rattle.verilog_tree.specs.declared.source.Item.TheVariants as item
use Rattle.verilog_tree.specs.declared.source.Module.{Module}
use Rattle.verilog_tree.specs.declared.source.Source.{Source}
use Rattle.verilog_tree.specs.Grammar.{Commas, IsItem, IsModule, IsPrim, IsSource, IsTerminals, Many}
use Rattle.flattening.proofs.Everywhere.{Every}

abbrev pub HasTwo : GatePart → Type 0
HasTwo prim = 2 ≤ length prim.terminals

abbrev pub HaveTwo : Item → Type 0
HaveTwo (item.Ports at dir range names) = Unit {0}
HaveTwo (item.Nets at range nets) = Unit {0}
HaveTwo (item.Supply at one range names) = Unit {0}
HaveTwo (item.Assign at pairs) = Unit {0}
HaveTwo (item.Gates at prims) = Every HasTwo prims
HaveTwo (item.Instances at insts) = Unit {0}

abbrev pub AreTwofold : Module → Type 0
AreTwofold m = Every HaveTwo m.items

commas_each : {A : Type 0} (ts : List Terminal) (X : ℕ → ℕ → A → Type 0) (P : A → Type 0) → ((k n : ℕ) (a : A) → X k n a → P a) → (k n : ℕ) (xs : List A) → Commas ts X k n xs → Every P xs
commas_each ts X P each k n xs (Commas.first_item k2 n2 a is) = (each k2 n2 a is, tt)
commas_each ts X P each k n xs (Commas.more_items k2 a b n2 x rest is comma more) = (each k2 a x is, commas_each ts X P each b n2 rest more)

many_each : {A : Type 0} (X : ℕ → ℕ → A → Type 0) (P : A → Type 0) → ((k n : ℕ) (a : A) → X k n a → P a) → (k n : ℕ) (xs : List A) → Many X k n xs → Every P xs
many_each X P each k n xs (Many.none k2) = tt
many_each X P each k n xs (Many.and_more k2 a n2 x rest is more) = (each k2 a x is, many_each X P each a n2 rest more)

prim_two : (ts : List Terminal) (k n : ℕ) (prim : GatePart) → IsPrim ts k n prim → HasTwo prim
prim_two ts k n prim (IsPrim.prim k2 a b c n2 label es named opens (IsTerminals.terminals k3 n3 es3 commas two) closes) = two

item_two : (ts : List Terminal) (k n : ℕ) (i : Item) → IsItem ts k n i → HaveTwo i
item_two ts k n i (IsItem.ports_item k2 a b c d n2 dir r names x1 x2 x3 x4 x5) = tt
item_two ts k n i (IsItem.nets_item k2 a b c n2 r nets x1 x2 x3 x4) = tt
item_two ts k n i (IsItem.supply_item k2 a b c n2 one r names x1 x2 x3 x4) = tt
item_two ts k n i (IsItem.assign_item k2 a b n2 pairs x1 x2 x3) = tt
item_two ts k n i (IsItem.gates_item k2 a b n2 prims x1 x2 x3) = commas_each ts (IsPrim ts) HasTwo (prim_two ts) a b prims x2
item_two ts k n i (IsItem.instances_item k2 a b n2 insts x1 x2 x3) = tt

module_two : (ts : List Terminal) (k n : ℕ) (m : Module) → IsModule ts k n m → AreTwofold m
module_two ts k n m (IsModule.module_ k2 a b c d e n2 ps is x1 x2 x3 x4 x5 x6) = many_each (IsItem ts) HaveTwo (item_two ts) d e is x5

pub source_two : (ts : List Terminal) (tree : Source) → IsSource ts tree → Every AreTwofold tree.modules
source_two ts tree is = many_each (IsModule ts) AreTwofold (module_two ts) 0 (length ts) tree.modules is
