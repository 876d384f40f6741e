-- What ranking a design comes to, and the names that a cycle is told by.
-- The rules are told in docs/RULES.md, "Dependencies and rank", and docs/FORMATS.md, "Printed texts".
use Rattle.std.specs.Prelude.{◌≡◌, ℕ, List, [], ◌∷◌, ◌++◌, codes, decimal, Result, Ok, Err}
use Rattle.id_arena.specs.declared.keys.ElemId.{ElemId}
use Rattle.clock_rank.specs.Cycles.{IsCycle}
use Rattle.clock_rank.specs.Orders.{RankedDesign, IsInOrder}
use Rattle.design_core.specs.declared.node.NodeId.{NodeId}
use Rattle.design_core.specs.declared.node.NodeId.TheVariants.{Net, Write}
use Rattle.design_core.specs.declared.parts.Parts.{Parts}
use Rattle.design_core.specs.Names.{IsElementPath, IsNetText}
use Rattle.design_core.specs.Tables.{IsMemoryAt}
use Rattle.case_texts.specs.declared.refusal.Refusal.TheVariants as refusal
use Rattle.case_texts.specs.declared.refusal.Unread.{Unread}
use Rattle.case_texts.specs.declared.refusal.Unread.TheVariants as unread

-- the text of a write port: the path of its memory, a colon, and the port
pub record IsWriteText (p : Parts) (m k : ℕ) (text : List ℕ) : Type 0 where
  pub element : ElemId
  pub is_memory : IsMemoryAt p m element
  pub path : List ℕ
  pub is_path : IsElementPath p element.place path
  pub is : text ≡ path ++ codes ":" ++ decimal k

-- the text that names a node
abbrev pub IsNodeText : Parts → NodeId → List ℕ → Type 0
IsNodeText p (Net n) text = IsNetText p n.place text
IsNodeText p (Write m k) text = IsWriteText p m.place k text

-- the texts that name some nodes, one by one
abbrev pub AreNodeTexts : Parts → List NodeId → List (List ℕ) → Type 0
AreNodeTexts p [] [] = Unit {0}
AreNodeTexts p (a ∷ nodes) (text ∷ texts) = IsNodeText p a text × AreNodeTexts p nodes texts
AreNodeTexts p [] (text ∷ texts) = ⊥
AreNodeTexts p (a ∷ nodes) [] = ⊥

-- the design has a cycle, and these texts name its nodes
pub record HasCycle (p : Parts) (texts : List (List ℕ)) : Type 0 where
  pub nodes : List NodeId
  pub is_cycle : IsCycle p nodes
  pub named : AreNodeTexts p nodes texts

-- by the answer of ranking a design
abbrev pub RankMeans : Parts → Result RankedDesign Unread → Type 0
RankMeans p (Ok r) = (r.design ≡ p) × IsInOrder p r.order
RankMeans p (Err (unread.Refused (refusal.Cycle texts))) = HasCycle p texts
RankMeans p (Err (unread.Refused other)) = ⊥
RankMeans p (Err unread.NoMemory) = Unit {0}
