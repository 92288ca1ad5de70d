use Rattle.std.proofs.Common.{IfSome, sym, subst}
use Rattle.a64_machine.specs.Prepared.{IsReady}
use Rattle.a64_machine.proofs.preparing.data.Goals as goal

pub returns-in-AddSubImmediate : goal.returns-in-AddSubImmediate
returns-in-AddSubImmediate c pc = subst (λ w. IfSome c.add_sub_immediate.result (IsReady w pc)) (sym c.in-AddSubImmediate.is) (c.add_sub_immediate.ensures pc)

pub returns-in-MoveWide : goal.returns-in-MoveWide
returns-in-MoveWide c pc = subst (λ w. IfSome c.move_wide.result (IsReady w pc)) (sym c.in-MoveWide.is) (c.move_wide.ensures pc)

pub returns-in-MultiplyAdd : goal.returns-in-MultiplyAdd
returns-in-MultiplyAdd c pc = subst (λ w. IfSome c.multiply_add.result (IsReady w pc)) (sym c.in-MultiplyAdd.is) (c.multiply_add.ensures pc)

pub returns-in-Bitfield : goal.returns-in-Bitfield
returns-in-Bitfield c pc = subst (λ w. IfSome c.bitfield.result (IsReady w pc)) (sym c.in-Bitfield.is) (c.bitfield.ensures pc)
