-- Reading the header of a module.
use Rattle.std.proofs.Common.{◌≡◌, ℕ, ◌+◌, ◌≤◌, List, [], ◌∷◌, ◌++◌, Some, None, Result, slice_get, length, refl, sym, ◌∙◌, ap, subst, arith}
use Rattle.verilog_tree.specs.declared.terminal.Terminal.{Terminal}
use Rattle.verilog_tree.specs.declared.terminal.Terminal.TheVariants.{Name, Direction, OpenParen, CloseParen, Comma}
use Rattle.verilog_tree.specs.declared.reader.Read.{Read}
use Rattle.verilog_tree.specs.declared.reader.Stop.{Stop as StopOf}
use Rattle.verilog_tree.specs.declared.reader.Stop.TheVariants as Stop
use Rattle.verilog_tree.specs.declared.source.Dir.{Dir}
use Rattle.verilog_tree.specs.declared.source.PortName.{PortName}
use Rattle.verilog_tree.specs.Grammar as grammar
use Rattle.verilog_tree.specs.Grammar.{Is, Commas, IsPlainPort, IsOne, IsPorts, IsHeader, IsHead}
use Rattle.verilog_tree.specs.Predict.{Wrong, after_one, ports, header, one, port, due, more, Leads, Fails, Reads, Separates, Closes, Closed, Gathers, Answers, IsLater, with_direction, bare}
use Rattle.verilog_tree.proofs.Due.{wrong, answers_from, passes, follow, here_within, stays}
use Rattle.verilog_tree.proofs.Begins.{ports_begin, ports_absent, header_end, header_directions, header_names, port_one, port_name}
use Rattle.verilog_tree.proofs.Gathering.{gathers_end}

pub head_absent : (ts : List Terminal) (k : ℕ) (ps : List PortName) → k ≤ length ts → ps ≡ [] → (slice_get ts k ≡ Some OpenParen → ⊥) →
    Reads ts (ports ∷ []) (IsHead ts) k k ps
head_absent ts k ps w e not_open = record {
  stands = subst (λ l. IsHead ts k k l) (sym e) (grammar.no_head k);
  goes = ports_absent ts k not_open;
  forward = omega arith;
  inside = w;
}

pub head_answers : (ts : List Terminal) (k : ℕ) (r : Result (Read (List PortName)) StopOf) → slice_get ts k ≡ Some OpenParen →
    Answers ts (header ∷ []) (Closed ts (IsHeader ts) CloseParen) (k + 1) r → Answers ts (ports ∷ []) (IsHead ts) k r
head_answers ts k r e f =
    answers_from (Closed ts (IsHeader ts) CloseParen) (IsHead ts) r (ports_begin e) (omega arith)
    (λ n ps h. grammar.head k (k + 1) h.place n ps (record { here = e; after = refl }) h.stands h.ends) f

pub header_none : (ts : List Terminal) (k : ℕ) (ps : List PortName) → ps ≡ [] → slice_get ts k ≡ Some CloseParen →
    Reads ts (header ∷ []) (Closed ts (IsHeader ts) CloseParen) k (k + 1) ps
header_none ts k ps e close = record {
  stands = record { place = k; stands = subst (λ l. IsHeader ts k k l) (sym e) (grammar.no_header k); ends = record { here = close; after = refl } };
  goes = header_end close;
  forward = omega arith;
  inside = here_within ts k CloseParen close;
}

pub header_of_directions : (ts : List Terminal) (k : ℕ) (d : Dir) (r : Result (Read (List PortName)) StopOf) → slice_get ts k ≡ Some (Direction d) →
    Answers ts (one ∷ more port CloseParen ∷ []) (Closed ts (IsHeader ts) CloseParen) k r → Answers ts (header ∷ []) (Closed ts (IsHeader ts) CloseParen) k r
header_of_directions ts k d r e f =
    answers_from (Closed ts (IsHeader ts) CloseParen) (Closed ts (IsHeader ts) CloseParen) r (header_directions {d = d} e) (omega arith) (λ n ps h. h) f

pub header_of_names : (ts : List Terminal) (k : ℕ) (r : Result (Read (List PortName)) StopOf) → (slice_get ts k ≡ Some CloseParen → ⊥) →
    ((d : Dir) → slice_get ts k ≡ Some (Direction d) → ⊥) →
    Answers ts (due Name ∷ more (due Name) CloseParen ∷ []) (Closed ts (Commas ts (IsPlainPort ts)) CloseParen) k r →
    Answers ts (header ∷ []) (Closed ts (IsHeader ts) CloseParen) k r
header_of_names ts k r not_close not_direction f =
    answers_from (Closed ts (Commas ts (IsPlainPort ts)) CloseParen) (Closed ts (IsHeader ts) CloseParen) r (header_names ts k not_close not_direction) (omega arith)
    (λ n ps h. record { place = h.place; stands = grammar.names k h.place ps h.stands; ends = h.ends }) f

pub one_wrong : (ts : List Terminal) (k : ℕ) → k ≤ length ts → ((d : Dir) → slice_get ts k ≡ Some (Direction d) → ⊥) → Fails ts (one ∷ []) k (Stop.Stuck k)
one_wrong ts k w not_direction = wrong ts k one [] w refl go
  where
    go : (t : Terminal) → slice_get ts k ≡ Some t → after_one t ≡ Wrong
    go (Direction d) e = absurd (not_direction d e)
    go _ e = refl

pub port_bare : (ts : List Terminal) (k : ℕ) (before : PortName) → slice_get ts k ≡ Some Name →
    Reads ts (port ∷ []) (IsLater ts before) k (k + 1) (record { name = k; dir = before.dir; range = before.range })
port_bare ts k before e = record {
  stands = bare k (k + 1) (record { here = e; after = refl });
  goes = port_name e;
  forward = omega arith;
  inside = here_within ts k Name e;
}

pub port_answers : (ts : List Terminal) (k : ℕ) (before : PortName) (r : Result (Read PortName) StopOf) → (slice_get ts k ≡ Some Name → ⊥) →
    Answers ts (one ∷ []) (IsOne ts) k r → Answers ts (port ∷ []) (IsLater ts before) k r
port_answers ts k before r not_name f =
    answers_from (IsOne ts) (IsLater ts before) r (port_one ts k not_name) (omega arith) (λ n p h. with_direction k n p h) f

-- ports with directions, up to the last so far
abbrev pub PortsSo : List Terminal → ℕ → ℕ → PortName → List PortName → Type 0
PortsSo ts k n last ps = Gathers ts (one ∷ more port CloseParen ∷ []) port CloseParen (λ j m qs. IsPorts ts j m last qs) k n ps

pub ports_first : {ts : List Terminal} {k n : ℕ} {p : PortName} {none ps : List PortName} → none ≡ [] → ps ≡ none ++ p ∷ [] →
    Reads ts (one ∷ []) (IsOne ts) k n p → PortsSo ts k n p ps
ports_first {ts} {k} {n} {p} {none} {ps} e f r = record {
  stands = subst (λ l. IsPorts ts k n p l) (sym (f ∙ ap (λ l. l ++ p ∷ []) e)) (grammar.first_port k n p r.stands);
  goes = passes stays r.goes;
  forward = r.forward;
  inside = r.inside;
}

later : (ts : List Terminal) (k m n : ℕ) (q p : PortName) (ps : List PortName) → IsPorts ts k m q ps → Is ts m Comma (m + 1) → IsLater ts q (m + 1) n p → IsPorts ts k n p (ps ++ p ∷ [])
later ts k m n q p ps s c l = go (m + 1) n p l c
  where
    go : (b n : ℕ) (p : PortName) → IsLater ts q b n p → Is ts m Comma b → IsPorts ts k n p (ps ++ p ∷ [])
    go _ _ _ (with_direction b n p d) i = grammar.next_one k m b n p q ps s i d
    go _ _ _ (bare b n d) i = grammar.next_name k m b n q ps s i d

pub ports_next : {ts : List Terminal} {k m n : ℕ} {q p : PortName} {ps more_ps : List PortName} → more_ps ≡ ps ++ p ∷ [] →
    PortsSo ts k m q ps → Separates ts CloseParen m → Reads ts (port ∷ []) (IsLater ts q) (m + 1) n p → PortsSo ts k n p more_ps
ports_next {ts} {k} {m} {n} {q} {p} {ps} e g s r = record {
  stands = subst (λ l. IsPorts ts k n p l) (sym e) (later ts k m n q p ps g.stands s.is r.stands);
  goes = passes (follow g.goes (s.goes port)) r.goes;
  forward = (let f = g.forward in let h = r.forward in omega arith);
  inside = r.inside;
}

pub ports_read : {ts : List Terminal} {k m : ℕ} {q : PortName} {ps : List PortName} → PortsSo ts k m q ps → Closes ts CloseParen m →
    Reads ts (one ∷ more port CloseParen ∷ []) (Closed ts (IsHeader ts) CloseParen) k (m + 1) ps
ports_read {ts} {k} {m} {q} {ps} g c = let r = gathers_end g c in record {
  stands = record { place = r.stands.place; stands = grammar.directions k r.stands.place q ps r.stands.stands; ends = r.stands.ends };
  goes = r.goes;
  forward = r.forward;
  inside = r.inside;
}
