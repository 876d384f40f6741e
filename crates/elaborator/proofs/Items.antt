-- The deeds of items, by what their expressions were found to be.
use Rattle.std.proofs.Common.{◌≡◌, ◌∙◌, ℕ, Bool, Option, Some, None, List, [], ◌∷◌, Err, ap, sym, length, map}
use Rattle.id_arena.specs.declared.keys.NetId.{NetId}
use Rattle.verilog_tree.specs.declared.source.AssignPair.{AssignPair}
use Rattle.verilog_tree.specs.declared.source.Expr.{Expr}
use Rattle.verilog_tree.specs.declared.source.NetPart.{NetPart}
use Rattle.design_core.specs.declared.element.Element.TheVariants as element
use Rattle.design_core.specs.declared.operation.Op.TheVariants.{Buf}
use Rattle.flattening.specs.declared.fault.ElabFault.{ElabFault}
use Rattle.flattening.specs.declared.made.Made.{Made}
use Rattle.flattening.specs.Faults.{bits_here, expression_test, width_here}
use Rattle.flattening.specs.Items.{constant_net, net_bits, net_deed, pair_deed, supply_deed, value_deed}
use Rattle.flattening.specs.Pieces.{buffers, elements_in, performed}
use Rattle.flattening.specs.Places.{Given, Inside}
use Rattle.flattening.specs.Steps.{Test}
use Rattle.elaborator.specs.Room.{elements_alone}
use Rattle.elaborator.proofs.Performing.{fails, passes}

abbrev pub right_test : Given → Inside → AssignPair → Test
right_test g here pair = expression_test g here (Some (width_here g here pair.left)) pair.right

abbrev pub pair_piece : Given → Inside → AssignPair → Made
pair_piece g here pair = elements_in here.scope (buffers (bits_here g here pair.right) (bits_here g here pair.left))

abbrev pub value_test : Given → Inside → NetPart → Expr → Test
value_test g here net e = expression_test g here (Some (length (net_bits g here net.name))) e

abbrev pub value_piece : Given → Inside → NetPart → Expr → Made
value_piece g here net e = elements_in here.scope (buffers (bits_here g here e) (net_bits g here net.name))

pub pair_left : (g : Given) (here : Inside) (pair : AssignPair) (at : ℕ) (made : Made) (fault : ElabFault) → expression_test g here None pair.left ≡ Some fault → performed at (pair_deed g here pair) made ≡ Err fault
unfolding pair_deed
pair_left g here pair at made fault some = fails at (expression_test g here None pair.left) (right_test g here pair ∷ []) (pair_piece g here pair) made fault some

pub pair_right : (g : Given) (here : Inside) (pair : AssignPair) (at : ℕ) (made : Made) (left : List NetId) (fault : ElabFault) → expression_test g here None pair.left ≡ None → left ≡ bits_here g here pair.left → expression_test g here (Some (length left)) pair.right ≡ Some fault → performed at (pair_deed g here pair) made ≡ Err fault
unfolding pair_deed
pair_right g here pair at made left fault none is some =
    passes at (expression_test g here None pair.left) (right_test g here pair ∷ []) (pair_piece g here pair) made none
    ∙ fails at (right_test g here pair) [] (pair_piece g here pair) made fault (ap (λ (bits : List NetId). expression_test g here (Some (length bits)) pair.right) (sym is) ∙ some)

pub pair_both : (g : Given) (here : Inside) (pair : AssignPair) (at : ℕ) (made : Made) (left right : List NetId) → expression_test g here None pair.left ≡ None → left ≡ bits_here g here pair.left → expression_test g here (Some (length left)) pair.right ≡ None → right ≡ bits_here g here pair.right → performed at (pair_deed g here pair) made ≡ performed at (elements_alone here.scope (buffers right left)) made
unfolding pair_deed
pair_both g here pair at made left right none is none-2 is-2 =
    passes at (expression_test g here None pair.left) (right_test g here pair ∷ []) (pair_piece g here pair) made none
    ∙ passes at (right_test g here pair) [] (pair_piece g here pair) made (ap (λ (bits : List NetId). expression_test g here (Some (length bits)) pair.right) (sym is) ∙ none-2)
    ∙ ap (λ (bits : List NetId). performed at (elements_alone here.scope (buffers bits (bits_here g here pair.left))) made) (sym is-2)
    ∙ ap (λ (bits : List NetId). performed at (elements_alone here.scope (buffers right bits)) made) (sym is)

pub net_none : (g : Given) (here : Inside) (net : NetPart) (at : ℕ) (made : Made) → net.value ≡ None → performed at (net_deed g here net) made ≡ performed at (elements_alone here.scope (buffers [] [])) made
unfolding net_deed
net_none g here net at made none = ap (λ (value : Option Expr). performed at (value_deed g here net.name value) made) none

pub net_value : (g : Given) (here : Inside) (net : NetPart) (at : ℕ) (made : Made) (e : Expr) (bits : List NetId) (fault : ElabFault) → net.value ≡ Some e → bits ≡ net_bits g here net.name → expression_test g here (Some (length bits)) e ≡ Some fault → performed at (net_deed g here net) made ≡ Err fault
unfolding net_deed
net_value g here net at made e bits fault is are some =
    ap (λ (value : Option Expr). performed at (value_deed g here net.name value) made) is
    ∙ fails at (value_test g here net e) [] (value_piece g here net e) made fault (ap (λ (nets : List NetId). expression_test g here (Some (length nets)) e) (sym are) ∙ some)

pub net_both : (g : Given) (here : Inside) (net : NetPart) (at : ℕ) (made : Made) (e : Expr) (bits value : List NetId) → net.value ≡ Some e → bits ≡ net_bits g here net.name → expression_test g here (Some (length bits)) e ≡ None → value ≡ bits_here g here e → performed at (net_deed g here net) made ≡ performed at (elements_alone here.scope (buffers value bits)) made
unfolding net_deed
net_both g here net at made e bits value is are none are-2 =
    ap (λ (v : Option Expr). performed at (value_deed g here net.name v) made) is
    ∙ passes at (value_test g here net e) [] (value_piece g here net e) made (ap (λ (nets : List NetId). expression_test g here (Some (length nets)) e) (sym are) ∙ none)
    ∙ ap (λ (nets : List NetId). performed at (elements_alone here.scope (buffers nets (net_bits g here net.name))) made) (sym are-2)
    ∙ ap (λ (nets : List NetId). performed at (elements_alone here.scope (buffers value nets)) made) (sym are)

pub supply_all : (g : Given) (here : Inside) (one : Bool) (name at : ℕ) (made : Made) (bits : List NetId) → bits ≡ net_bits g here name → performed at (supply_deed g here one name) made ≡ performed at (elements_alone here.scope (map (element.Gate Buf (constant_net one ∷ [])) bits)) made
unfolding supply_deed
supply_all g here one name at made bits are =
    ap (λ (nets : List NetId). performed at (elements_alone here.scope (map (element.Gate Buf (constant_net one ∷ [])) nets)) made) (sym are)
