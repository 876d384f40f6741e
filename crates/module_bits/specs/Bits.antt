-- What an expression of a module stands for: its bits, or its first fault.
-- The rule is told in docs/FORMATS.md, "Names and widths" and "Faults of flattening".
use Rattle.std.specs.Prelude.{◌-◌, ◌≡◌, ℕ, Bool, true, false, if◌then◌else◌, Option, Some, None, List, [], ◌∷◌, ◌++◌, Result, Ok, Err, flat_map, get_or, length, map, nat_lt, replicate, slice_get}
use Rattle.std.specs.Int.{bit_at}
use Rattle.std.specs.List.{range_with_len}
use Rattle.std.specs.Option.{option_or}
use Rattle.id_arena.specs.declared.keys.NetId.{NetId}
use Rattle.verilog_lex.specs.declared.token.Token.{Token}
use Rattle.verilog_lex.specs.declared.token.TokenKind.{TokenKind}
use Rattle.verilog_lex.specs.declared.token.TokenKind.TheVariants as kind
use Rattle.verilog_tree.specs.declared.source.Expr.{Expr}
use Rattle.verilog_tree.specs.declared.source.Expr.TheOpen.{Expr-F, Whole, Bit, Part, Constant, Join, Repeat}
use Rattle.verilog_tree.specs.declared.source.Expr.TheFolds.{fold-Expr}
use Rattle.verilog_tree.specs.declared.source.IndexRange.{IndexRange}
use Rattle.module_nets.specs.declared.fault.Cause.TheVariants.{NotDeclared, BadIndex, Width}
use Rattle.module_nets.specs.declared.fault.NetFault.{NetFault}
use Rattle.module_nets.specs.declared.fault.NetFault.TheVariants.{Refused, NoMemory}
use Rattle.module_nets.specs.Declarations.{most_bits}
use Rattle.module_nets.specs.Names.{start_of}
use Rattle.module_bits.specs.declared.target.Target.{Target}
use Rattle.module_bits.specs.declared.target.Target.TheVariants.{NoNet, NoBits, Bits}
use Rattle.module_bits.specs.Names.{Context, target_at}

-- a select of one index
abbrev pub one_index : ℕ → Option IndexRange
one_index index = Some (record { left = index; right = index })

-- a select of two indices
abbrev pub two_indices : ℕ → ℕ → Option IndexRange
two_indices left right = Some (record { left = left; right = right })

-- the net of a number
abbrev pub net_at : ℕ → NetId
net_at place = record { place = place }

-- the bits of a name, the least significant first
abbrev pub target_bits : Target → List NetId
target_bits NoNet = []
target_bits NoBits = []
target_bits (Bits low count) = map net_at (range_with_len low count)

-- the bits of a constant: as many as its size says, each net 0 or net 1
abbrev pub bits_of_kind : TokenKind → List NetId
bits_of_kind (kind.Constant size value) = map (λ i. net_at (bit_at value i)) (range_with_len 0 size)
bits_of_kind _ = []

-- the bits of the constant at a token
abbrev pub constant_bits : List Token → ℕ → List NetId
constant_bits tokens token = elim (slice_get tokens token) [ None ↦ [] | Some t ↦ bits_of_kind t.kind ]

-- parts that are joined: the last part is lowest
abbrev pub joined : List (List NetId) → List NetId
joined [] = []
joined (part ∷ rest) = joined rest ++ part

-- the same bits so many times
abbrev pub times : ℕ → List NetId → List NetId
times count bits = flat_map (λ part. part) (replicate count bits)

-- the bits of an expression, by those of its parts
abbrev pub bits_step : Context → Expr-F (List NetId) → List NetId
bits_step c (Whole name) = target_bits (target_at c name None)
bits_step c (Bit name index) = target_bits (target_at c name (one_index index))
bits_step c (Part name left right) = target_bits (target_at c name (two_indices left right))
bits_step c (Constant token) = constant_bits c.tokens token
bits_step c (Join parts) = joined parts
bits_step c (Repeat count parts) = times count (joined parts)

-- the bits of an expression, the least significant first; a name that stands for none has no bits here
abbrev pub bits : Context → Expr → List NetId
bits c = fold-Expr (List NetId) (bits_step c)

-- the first that is there
abbrev pub first_some : List (Option ℕ) → Option ℕ
first_some [] = None
first_some (o ∷ rest) = option_or o (first_some rest)

-- a name, where the test says so of it and its select
abbrev pub name_where : (ℕ → Option IndexRange → Bool) → ℕ → Option IndexRange → Option ℕ
name_where test name select = if test name select then Some name else None

-- the first name of an expression, by those of its parts
abbrev pub name_step : (ℕ → Option IndexRange → Bool) → Expr-F (Option ℕ) → Option ℕ
name_step test (Whole name) = name_where test name None
name_step test (Bit name index) = name_where test name (one_index index)
name_step test (Part name left right) = name_where test name (two_indices left right)
name_step test (Constant token) = None
name_step test (Join parts) = first_some parts
name_step test (Repeat count parts) = first_some parts

-- the first name in an expression of which the test says so, also in parts that are repeated no times
abbrev pub first_name : (ℕ → Option IndexRange → Bool) → Expr → Option ℕ
first_name test = fold-Expr (Option ℕ) (name_step test)

-- a name that is no net
abbrev pub is_no_net : Target → Bool
is_no_net NoNet = true
is_no_net NoBits = false
is_no_net (Bits low count) = false

-- a name whose net does not have the select
abbrev pub is_no_bits : Target → Bool
is_no_bits NoNet = false
is_no_bits NoBits = true
is_no_bits (Bits low count) = false

-- the first name in an expression that is no net
abbrev pub unknown : Context → Expr → Option ℕ
unknown c = first_name (λ name select. is_no_net (target_at c name select))

-- the first name in an expression with a select that its net does not have
abbrev pub misplaced : Context → Expr → Option ℕ
misplaced c = first_name (λ name select. is_no_bits (target_at c name select))

-- a brace stands before the first part that is joined; a brace, the count and a brace before the first that is repeated
abbrev pub first_token_step : Expr-F ℕ → ℕ
first_token_step (Whole name) = name
first_token_step (Bit name index) = name
first_token_step (Part name left right) = name
first_token_step (Constant token) = token
first_token_step (Join parts) = get_or parts 0 0 - 1
first_token_step (Repeat count parts) = get_or parts 0 0 - 3

-- the token at which an expression begins
abbrev pub first_token : Expr → ℕ
first_token = fold-Expr ℕ first_token_step

-- an expression as a whole, by its first name that is no net and its first with a bad select: the former is its fault, else
-- the latter, else that it has too many bits; else it has its bits
abbrev pub verdict : Context → Expr → Option ℕ → Option ℕ → Result (List NetId) NetFault
verdict c e (Some name) select = Err (Refused NotDeclared (start_of c.tokens name))
verdict c e None (Some name) = Err (Refused BadIndex (start_of c.tokens name))
verdict c e None None =
    if nat_lt most_bits (length (bits c e)) then Err (Refused Width (start_of c.tokens (first_token e))) else Ok (bits c e)

-- what an expression stands for
abbrev pub meaning : Context → Expr → Result (List NetId) NetFault
meaning c e = verdict c e (unknown c e) (misplaced c e)

-- the answer is what the expression stands for, unless memory is wanting
abbrev pub TellsBits : Result (List NetId) NetFault → Result (List NetId) NetFault → Type 0
TellsBits given (Ok bits) = given ≡ Ok bits
TellsBits given (Err (Refused cause at)) = given ≡ Err (Refused cause at)
TellsBits given (Err NoMemory) = Unit {0}
