-- The code of an operator, put together from that of its sides.
use Rattle.std.proofs.Common.{◌≡◌, ℕ, ◌+◌, ◌&&◌, Bool, true, false, List, Option, None, refl, sym, ap, ap₂, ◌∙◌}
use Rattle.std.specs.Prelude.{not}
use Rattle.kernel_tree.specs.declared.ops.Ty.{Ty}
use Rattle.kernel_tree.specs.declared.ops.BinaryOp.{BinaryOp}
use Rattle.kernel_tree.specs.Plain.{Term, Operation}
use Rattle.kernel_tree.specs.Items.{term_size}
use Rattle.kernel_tree.specs.Typing.{Scope}
use Rattle.label_fix.specs.DraftRun.{DraftEntry}
use Rattle.scalar_words.specs.Layout.{Layout, Homes, reg_of}
use Rattle.scalar_words.specs.Words.{at_type}
use Rattle.value_code.specs.declared.extent.Extent.{Extent}
use Rattle.value_code.specs.Leaving.{binary_asks, binary_settles}
use Rattle.value_code.specs.ItemWords.{Side, operator_code}
use Rattle.value_code.specs.Code.{labels, added_number, is_fused, side_code, is_led, taken_side, other_home, parts_code, loose_code, sides_code}
use Rattle.value_code.proofs.Fused.{led_is, alone_code}

pub two_is : (L : Layout) (hs : Homes) (s : Scope) (w asked : Extent) (want : Option Ty) (b n : ℕ) (op : BinaryOp) (x y : Term) (side : Side) (leaves : Bool) (d a : ℕ) (rest : List DraftEntry) → asked ≡ binary_asks s want op x y w
    → side ≡ taken_side L hs s op asked want b x y → leaves ≡ binary_settles s want op x y w → d ≡ reg_of L (b + term_size s.index x + term_size s.index y) → a ≡ other_home L hs s op asked want b x y
    → sides_code L hs s asked want b n op x y (at_type want (λ t. operator_code side leaves op t d a rest) rest) ≡ loose_code L hs s w want b n (Operation op x y) rest
two_is L hs s w asked want b n op x y side leaves d a rest e1 e2 e3 e4 e5 = rw (e2, e3, e4, e5, e1) refl

-- the code of both sides, by whether the left one stands in the word
pub led_sides : (L : Layout) (hs : Homes) (s : Scope) (w : Extent) (want : Option Ty) (b n item labels1 : ℕ) (op : BinaryOp) (x y : Term) (rest : List DraftEntry) → is_led L hs s op w want b x y ≡ true → item ≡ b + term_size s.index x → labels1 ≡ n + labels s.index x
    → parts_code L hs s w want b n x (loose_code L hs s w want item labels1 y rest) ≡ sides_code L hs s w want b n op x y rest
led_sides L hs s w want b n item labels1 op x y rest e f g =
    let whole = loose_code L hs s w want (b + term_size s.index x) (n + labels s.index x) y in
    let parts = parts_code L hs s w want (b + term_size s.index x) (n + labels s.index x) y in
    let number = added_number op want y in
    let fused = is_fused s op w want y in
    ap₂ (λ i l. parts_code L hs s w want b n x (loose_code L hs s w want i l y rest)) f g
    ∙ ap (parts_code L hs s w want b n x) (sym (alone_code s op w want x y whole parts rest (led_is L hs s op w want b x y e).alone))
    ∙ ap (λ t. side_code None t (loose_code L hs s w want b n x) (parts_code L hs s w want b n x) (side_code number (not t && fused) whole parts rest)) (sym e)

pub straight_sides : (L : Layout) (hs : Homes) (s : Scope) (w : Extent) (want : Option Ty) (b n item labels1 : ℕ) (op : BinaryOp) (x y : Term) (rest : List DraftEntry) → is_led L hs s op w want b x y ≡ false → item ≡ b + term_size s.index x → labels1 ≡ n + labels s.index x
    → loose_code L hs s w want b n x (side_code (added_number op want y) (is_fused s op w want y) (loose_code L hs s w want item labels1 y) (parts_code L hs s w want item labels1 y) rest) ≡ sides_code L hs s w want b n op x y rest
straight_sides L hs s w want b n item labels1 op x y rest e f g =
    let last = λ (t : Bool) (i l : ℕ). side_code (added_number op want y) (not t && is_fused s op w want y) (loose_code L hs s w want i l y) (parts_code L hs s w want i l y) rest in
    ap₂ (λ i l. loose_code L hs s w want b n x (last false i l)) f g
    ∙ ap (λ t. side_code None t (loose_code L hs s w want b n x) (parts_code L hs s w want b n x) (last t (b + term_size s.index x) (n + labels s.index x))) (sym e)
