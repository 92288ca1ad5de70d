-- What is written to one of many registers by an operation or a width that was chosen before.
use Rattle.std.proofs.Common.{◌≡◌, ℕ, List, sym, ap, ◌∙◌}
use Rattle.guest_types.specs.declared.length.Width.{Width}
use Rattle.guest_types.specs.declared.register.ZReg.{ZReg}
use Rattle.guest_types.specs.declared.operation.LaneOp.{LaneOp}
use Rattle.guest_types.specs.declared.operation.LaneUnary.{LaneUnary}
use Rattle.guest_types.specs.declared.operation.ShiftOp.{ShiftOp}
use Rattle.guest_types.specs.Length.{lanes}
use Rattle.guest_types.specs.Lanes.{binary_at, merge_at, merge_one_at, select_at, shift_at}
use Rattle.lane_blocks.specs.Banks.{bytes_at, with_elements}

abbrev pub binary_into : (vl l r d : ℕ) → (zs : List ZReg) → LaneOp → Width → List ZReg
binary_into vl l r d zs op w = with_elements zs d w (binary_at op w (bytes_at zs l) (bytes_at zs r)) (lanes vl w)

pub binary-operation : (vl l r d : ℕ) (zs new : List ZReg) (w : Width) (op chosen : LaneOp) → op ≡ chosen → new ≡ binary_into vl l r d zs chosen w → new ≡ binary_into vl l r d zs op w
binary-operation vl l r d zs new w op chosen is e = e ∙ ap (λ o. binary_into vl l r d zs o w) (sym is)

pub binary-width : (vl l r d : ℕ) (zs new : List ZReg) (op : LaneOp) (w chosen : Width) → w ≡ chosen → new ≡ binary_into vl l r d zs op chosen → new ≡ binary_into vl l r d zs op w
binary-width vl l r d zs new op w chosen is e = e ∙ ap (binary_into vl l r d zs op) (sym is)

abbrev pub merge_into : (vl : ℕ) → (pg : List ℕ) → (r d : ℕ) → (zs : List ZReg) → LaneOp → Width → List ZReg
merge_into vl pg r d zs op w = with_elements zs d w (merge_at op w pg (bytes_at zs d) (bytes_at zs r)) (lanes vl w)

pub merge-operation : (vl : ℕ) (pg : List ℕ) (r d : ℕ) (zs new : List ZReg) (w : Width) (op chosen : LaneOp) → op ≡ chosen → new ≡ merge_into vl pg r d zs chosen w → new ≡ merge_into vl pg r d zs op w
merge-operation vl pg r d zs new w op chosen is e = e ∙ ap (λ o. merge_into vl pg r d zs o w) (sym is)

pub merge-width : (vl : ℕ) (pg : List ℕ) (r d : ℕ) (zs new : List ZReg) (op : LaneOp) (w chosen : Width) → w ≡ chosen → new ≡ merge_into vl pg r d zs op chosen → new ≡ merge_into vl pg r d zs op w
merge-width vl pg r d zs new op w chosen is e = e ∙ ap (merge_into vl pg r d zs op) (sym is)

abbrev pub merge_one_into : (vl : ℕ) → (pg : List ℕ) → (z d : ℕ) → (zs : List ZReg) → LaneUnary → Width → List ZReg
merge_one_into vl pg z d zs op w = with_elements zs d w (merge_one_at op w pg (bytes_at zs d) (bytes_at zs z)) (lanes vl w)

pub merge_one-operation : (vl : ℕ) (pg : List ℕ) (z d : ℕ) (zs new : List ZReg) (w : Width) (op chosen : LaneUnary) → op ≡ chosen → new ≡ merge_one_into vl pg z d zs chosen w → new ≡ merge_one_into vl pg z d zs op w
merge_one-operation vl pg z d zs new w op chosen is e = e ∙ ap (λ o. merge_one_into vl pg z d zs o w) (sym is)

pub merge_one-width : (vl : ℕ) (pg : List ℕ) (z d : ℕ) (zs new : List ZReg) (op : LaneUnary) (w chosen : Width) → w ≡ chosen → new ≡ merge_one_into vl pg z d zs op chosen → new ≡ merge_one_into vl pg z d zs op w
merge_one-width vl pg z d zs new op w chosen is e = e ∙ ap (merge_one_into vl pg z d zs op) (sym is)

abbrev pub select_into : (vl : ℕ) → (pg : List ℕ) → (l r d : ℕ) → (zs : List ZReg) → Width → List ZReg
select_into vl pg l r d zs w = with_elements zs d w (select_at w pg (bytes_at zs l) (bytes_at zs r)) (lanes vl w)

pub select-width : (vl : ℕ) (pg : List ℕ) (l r d : ℕ) (zs new : List ZReg) (w chosen : Width) → w ≡ chosen → new ≡ select_into vl pg l r d zs chosen → new ≡ select_into vl pg l r d zs w
select-width vl pg l r d zs new w chosen is e = e ∙ ap (select_into vl pg l r d zs) (sym is)

abbrev pub shift_into : (vl z count d : ℕ) → (zs : List ZReg) → ShiftOp → Width → List ZReg
shift_into vl z count d zs op w = with_elements zs d w (shift_at op w (bytes_at zs z) count) (lanes vl w)

pub shift-operation : (vl z count d : ℕ) (zs new : List ZReg) (w : Width) (op chosen : ShiftOp) → op ≡ chosen → new ≡ shift_into vl z count d zs chosen w → new ≡ shift_into vl z count d zs op w
shift-operation vl z count d zs new w op chosen is e = e ∙ ap (λ o. shift_into vl z count d zs o w) (sym is)

pub shift-width : (vl z count d : ℕ) (zs new : List ZReg) (op : ShiftOp) (w chosen : Width) → w ≡ chosen → new ≡ shift_into vl z count d zs op chosen → new ≡ shift_into vl z count d zs op w
shift-width vl z count d zs new op w chosen is e = e ∙ ap (shift_into vl z count d zs op) (sym is)
