-- Inside: what the reader has still to see at a place, and what may begin it.
use Rattle.std.specs.Prelude.{◌≡◌, ℕ, ◌+◌, ◌≤◌, Bool, true, false, if◌then◌else◌, ◌==◌, ◌&&◌, List, [], ◌∷◌, ◌++◌, Option, Some, None, Result, Ok, Err, length, drop}
use Rattle.verilog_tree.specs.declared.source.PortName.{PortName}
use Rattle.verilog_tree.specs.declared.source.Source.{Source}
use Rattle.verilog_tree.specs.declared.terminal.Terminal.{Terminal}
use Rattle.verilog_tree.specs.declared.terminal.Terminal.TheVariants.{Name, Number, Constant, Module, EndModule, Direction, Wire, Supply, Assign, Gate, OpenParen, CloseParen, OpenBracket, CloseBracket, OpenBrace, CloseBrace, Comma, Semicolon, Colon, Equals, Dot}
use Rattle.verilog_tree.specs.declared.reader.Stop.{Stop as StopOf}
use Rattle.verilog_tree.specs.declared.reader.Stop.TheVariants as Stop
use Rattle.verilog_tree.specs.declared.reader.Read.{Read}
use Rattle.verilog_tree.specs.Grammar.{Commas, Is, IsOne, IsSource}
use Rattle.verilog_tree.specs.Terminal.{code_of}

-- What may come next in a text, read from the left: the parts that are still due are a stack, and
-- each terminal either begins the first of them, or is passed on to the next, or cannot stand.

-- a part of the text that is due
pub data Symbol : Type 0 where
  source : Symbol
  module_ : Symbol
  ports : Symbol
  header : Symbol
  one : Symbol
  port : Symbol
  items : Symbol
  item : Symbol
  number : Symbol
  due : Terminal → Symbol
  wire : Symbol
  range : Symbol
  select : Symbol
  select_end : Symbol
  expr : Symbol
  brace : Symbol
  left : Symbol
  place : Symbol
  value : Symbol
  net : Symbol
  pair : Symbol
  label : Symbol
  prim : Symbol
  inst : Symbol
  links : Symbol
  link : Symbol
  -- { "," x } and then this terminal
  more : Symbol → Terminal → Symbol

-- what a terminal does to the first part that is due: begin it, so that these parts of it are due,
-- show that it is absent, or show that the text is wrong
pub data Choice : Type 0 where
  Begins : List Symbol → Choice
  Skips : Choice
  Wrong : Choice

-- the same, with these parts due after it
abbrev pub then_due : Choice → List Symbol → Choice
then_due (Begins parts) more_parts = Begins (parts ++ more_parts)
then_due Skips more_parts = Skips
then_due Wrong more_parts = Wrong

-- the same, for a part that may be absent
abbrev pub or_absent : Choice → Choice
or_absent (Begins parts) = Begins parts
or_absent Skips = Skips
or_absent Wrong = Skips

-- whether a terminal is the one that is due
abbrev pub is_same : Terminal → Terminal → Bool
is_same t due_one = code_of t == code_of due_one

abbrev pub after_expr : Terminal → Choice
after_expr Name = Begins (select ∷ [])
after_expr Constant = Begins []
after_expr OpenBrace = Begins (brace ∷ [])
after_expr _ = Wrong

abbrev pub after_left : Terminal → Choice
after_left Name = Begins (select ∷ [])
after_left OpenBrace = Begins (left ∷ more left CloseBrace ∷ [])
after_left _ = Wrong

abbrev pub after_number : Terminal → Choice
after_number (Number _) = Begins []
after_number _ = Wrong

abbrev pub after_due : Terminal → Terminal → Choice
after_due u t = if is_same t u then Begins [] else Wrong

abbrev pub after_ports : Terminal → Choice
after_ports OpenParen = Begins (header ∷ [])
after_ports _ = Skips

abbrev pub after_one : Terminal → Choice
after_one (Direction _) = Begins (wire ∷ range ∷ due Name ∷ [])
after_one _ = Wrong

abbrev pub after_header : Terminal → Choice
after_header CloseParen = Begins []
after_header (Direction dir) = then_due (after_one (Direction dir)) (more port CloseParen ∷ [])
after_header t = then_due (after_due Name t) (more (due Name) CloseParen ∷ [])

abbrev pub after_port : Terminal → Choice
after_port Name = Begins []
after_port t = after_one t

abbrev pub after_item : Terminal → Choice
after_item (Direction _) = Begins (wire ∷ range ∷ due Name ∷ more (due Name) Semicolon ∷ [])
after_item Wire = Begins (range ∷ net ∷ more net Semicolon ∷ [])
after_item (Supply _) = Begins (range ∷ due Name ∷ more (due Name) Semicolon ∷ [])
after_item Assign = Begins (pair ∷ more pair Semicolon ∷ [])
after_item Gate = Begins (prim ∷ more prim Semicolon ∷ [])
after_item Name = Begins (inst ∷ more inst Semicolon ∷ [])
after_item _ = Wrong

abbrev pub after_items : Terminal → Choice
after_items EndModule = Begins []
after_items t = then_due (after_item t) (items ∷ [])

abbrev pub after_wire : Terminal → Choice
after_wire Wire = Begins []
after_wire _ = Skips

abbrev pub after_range : Terminal → Choice
after_range OpenBracket =
    Begins (number ∷ due Colon ∷ number ∷ due CloseBracket ∷ [])
after_range _ = Skips

abbrev pub after_select : Terminal → Choice
after_select OpenBracket = Begins (number ∷ select_end ∷ [])
after_select _ = Skips

abbrev pub after_select_end : Terminal → Choice
after_select_end Colon = Begins (number ∷ due CloseBracket ∷ [])
after_select_end CloseBracket = Begins []
after_select_end _ = Wrong

abbrev pub after_brace : Terminal → Choice
after_brace (Number _) =
    Begins (due OpenBrace ∷ expr ∷ more expr CloseBrace ∷ due CloseBrace ∷ [])
after_brace t = then_due (after_expr t) (more expr CloseBrace ∷ [])

abbrev pub after_value : Terminal → Choice
after_value Equals = Begins (expr ∷ [])
after_value _ = Skips

abbrev pub after_label : Terminal → Choice
after_label Name = Begins []
after_label _ = Skips

abbrev pub after_prim : Terminal → Choice
after_prim Name =
    Begins (due OpenParen ∷ expr ∷ due Comma ∷ expr ∷ more expr CloseParen ∷ [])
after_prim OpenParen = Begins (expr ∷ due Comma ∷ expr ∷ more expr CloseParen ∷ [])
after_prim _ = Wrong

abbrev pub after_link : Terminal → Choice
after_link t = then_due (after_due Dot t) (due Name ∷ due OpenParen ∷ place ∷ due CloseParen ∷ [])

abbrev pub after_links : Terminal → Choice
after_links CloseParen = Begins []
after_links Comma = Begins (place ∷ more place CloseParen ∷ [])
after_links Dot = then_due (after_link Dot) (more link CloseParen ∷ [])
after_links t = then_due (after_expr t) (more place CloseParen ∷ [])

abbrev pub after_more : Symbol → Terminal → Terminal → Choice
after_more x end Comma = Begins (x ∷ more x end ∷ [])
after_more x end t = if is_same t end then Begins [] else Wrong

-- what a terminal does to each part
abbrev pub after : Symbol → Terminal → Choice
after source t =
    then_due (after_due Module t) (due Name ∷ ports ∷ due Semicolon ∷ items ∷ source ∷ [])
after module_ t = then_due (after_due Module t) (due Name ∷ ports ∷ due Semicolon ∷ items ∷ [])
after ports t = after_ports t
after header t = after_header t
after one t = after_one t
after port t = after_port t
after items t = after_items t
after item t = after_item t
after number t = after_number t
after (due u) t = after_due u t
after wire t = after_wire t
after range t = after_range t
after select t = after_select t
after select_end t = after_select_end t
after expr t = after_expr t
after brace t = after_brace t
after left t = after_left t
after place t = or_absent (after_expr t)
after value t = after_value t
after net t = then_due (after_due Name t) (value ∷ [])
after pair t = then_due (after_left t) (due Equals ∷ expr ∷ [])
after label t = after_label t
after prim t = after_prim t
after inst t = then_due (after_due Name t) (due OpenParen ∷ links ∷ [])
after links t = after_links t
after link t = after_link t
after (more x end) t = after_more x end t

-- what is due after one choice, where the parts below would come to `skipped` by the same terminal
abbrev pub onward : Choice → List Symbol → Option (List Symbol) → Option (List Symbol)
onward (Begins parts) below skipped = Some (parts ++ below)
onward Skips below skipped = skipped
onward Wrong below skipped = None

-- what is due after a terminal
abbrev pub next : List Symbol → Terminal → Option (List Symbol)
next [] t = None
next (s ∷ below) t = onward (after s t) below (next below t)

-- whether a part may be absent where the text ends
abbrev pub may_vanish : Symbol → Bool
may_vanish source = true
may_vanish ports = true
may_vanish wire = true
may_vanish range = true
may_vanish label = true
may_vanish select = true
may_vanish place = true
may_vanish value = true
may_vanish _ = false

-- whether the text may end where these parts are due
abbrev pub is_end : List Symbol → Bool
is_end [] = true
is_end (s ∷ below) = may_vanish s && is_end below

-- the rest of the terminals from the first that cannot stand; the empty rest where they end too
-- early, and none where they are all that is due
abbrev pub fault : List Symbol → List Terminal → Option (List Terminal)
fault parts [] = if is_end parts then None else Some []
fault parts (t ∷ ts) = elim (next parts t) [ None ↦ Some (t ∷ ts) | Some later ↦ fault later ts ]

-- with the parts `from` due at place k, reading comes to the parts `to` due at place n, whatever is
-- due after them
pub record Leads (ts : List Terminal) (from : List Symbol) (k : ℕ) (to : List Symbol) (n : ℕ) : Type 0 where
  pub leads : (below : List Symbol) → fault (from ++ below) (drop k ts) ≡ fault (to ++ below) (drop n ts)

-- with these parts due at place k, the text is wrong at place p
pub record Sticks (ts : List Terminal) (parts : List Symbol) (k p : ℕ) : Type 0 where
  pub stuck : (below : List Symbol) → fault (parts ++ below) (drop k ts) ≡ Some (drop p ts)
  pub inside : p ≤ length ts

-- the same of the reason why reading stopped, unless it is want of memory
pub record Fails (ts : List Terminal) (parts : List Symbol) (k : ℕ) (stop : StopOf) : Type 0 where
  pub sticks : (p : ℕ) → stop ≡ Stop.Stuck p → Sticks ts parts k p

-- reading these parts at place k gave a tree that stands there and ends before place n
pub record Reads {A : Type 0} (ts : List Terminal) (parts : List Symbol) (X : ℕ → ℕ → A → Type 0) (k n : ℕ) (a : A) : Type 0 where
  pub stands : X k n a
  pub goes : Leads ts parts k [] n
  pub forward : k ≤ n
  pub inside : n ≤ length ts

-- what reading these parts at place k answers
abbrev pub Answers : {A : Type 0} → List Terminal → List Symbol → (ℕ → ℕ → A → Type 0) → ℕ → Result (Read A) StopOf → Type 0
Answers ts parts X k (Ok r) = Reads ts parts X k r.next r.node
Answers ts parts X k (Err stop) = Fails ts parts k stop

-- reading one terminal, which was due, gave the place after it
pub record Passes (ts : List Terminal) (t : Terminal) (k n : ℕ) : Type 0 where
  pub is : Is ts k t n
  pub forward : k ≤ n
  pub goes : Leads ts (due t ∷ []) k [] n
  pub inside : n ≤ length ts

-- what reading this one terminal answers
abbrev pub Meets : List Terminal → Terminal → ℕ → Result ℕ StopOf → Type 0
Meets ts t k (Ok n) = Passes ts t k n
Meets ts t k (Err stop) = Fails ts (due t ∷ []) k stop

-- after an item of a list that ends with this terminal stands a comma, and so another item is due
pub record Separates (ts : List Terminal) (end : Terminal) (k : ℕ) : Type 0 where
  pub is : Is ts k Comma (k + 1)
  pub goes : (x : Symbol) → Leads ts (more x end ∷ []) k (x ∷ more x end ∷ []) (k + 1)
  pub inside : k + 1 ≤ length ts

-- or that terminal
pub record Closes (ts : List Terminal) (end : Terminal) (k : ℕ) : Type 0 where
  pub is : Is ts k end (k + 1)
  pub goes : (x : Symbol) → Leads ts (more x end ∷ []) k [] (k + 1)
  pub inside : k + 1 ≤ length ts

-- what a look at the place after an item of a list answers: whether another item is due
abbrev pub Continues : List Terminal → Terminal → ℕ → Result Bool StopOf → Type 0
Continues ts end k (Ok true) = Separates ts end k
Continues ts end k (Ok false) = Closes ts end k
Continues ts end k (Err stop) = (x : Symbol) → Fails ts (more x end ∷ []) k stop

-- a part and then this terminal
pub record Closed {A : Type 0} (ts : List Terminal) (X : ℕ → ℕ → A → Type 0) (end : Terminal) (k n : ℕ) (a : A) : Type 0 where
  pub place : ℕ
  pub stands : X k place a
  pub ends : Is ts place end n

-- while a list is read, for which these parts were due at place k: its items up to place n, after
-- which another may follow
pub record Gathers {A : Type 0} (ts : List Terminal) (parts : List Symbol) (x : Symbol) (end : Terminal) (X : ℕ → ℕ → A → Type 0) (k n : ℕ) (a : A) : Type 0 where
  pub stands : X k n a
  pub goes : Leads ts parts k (more x end ∷ []) n
  pub forward : k ≤ n
  pub inside : n ≤ length ts

-- how a list may go on from some items that end before place k
pub record Extends {A : Type 0} (ts : List Terminal) (X : ℕ → ℕ → A → Type 0) (first : List A) (k n : ℕ) (later : List A) : Type 0 where
  pub goes_on : (j : ℕ) → Commas ts X j k first → Commas ts X j n later
  pub longer : length first ≤ length later

-- whether an expression begins with this terminal
abbrev pub starts : Option Terminal → Bool
starts (Some Name) = true
starts (Some Constant) = true
starts (Some OpenBrace) = true
starts _ = false

-- a part that may be absent, and is of no interest, ends before place n
pub record Passed (ts : List Terminal) (s : Symbol) (X : ℕ → ℕ → Type 0) (k n : ℕ) : Type 0 where
  pub stands : X k n
  pub goes : Leads ts (s ∷ []) k [] n
  pub forward : k ≤ n
  pub inside : n ≤ length ts

-- a later port of a header: with a direction, or a name with the direction and range of the port
-- before it
pub data IsLater (ts : List Terminal) (before : PortName) : ℕ → ℕ → PortName → Type 0 where
  with_direction : (k n : ℕ) (p : PortName) → IsOne ts k n p → IsLater ts before k n p
  bare : (k n : ℕ) → Is ts k Name n → IsLater ts before k n (record { name = k; dir = before.dir; range = before.range })

-- what reading the whole text answers
abbrev pub SourceAnswers : List Terminal → Result Source StopOf → Type 0
SourceAnswers ts (Ok tree) = IsSource ts tree × (fault (source ∷ []) ts ≡ None)
SourceAnswers ts (Err stop) = Fails ts (source ∷ []) 0 stop
