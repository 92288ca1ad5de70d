use Rattle.std.proofs.Common.{IfSome, sym, subst}
use Rattle.a64_machine.specs.Prepared.{IsReady}
use Rattle.a64_machine.proofs.preparing.access.Goals as goal

pub returns-in-LoadStoreByteImmediate : goal.returns-in-LoadStoreByteImmediate
returns-in-LoadStoreByteImmediate c pc = subst (λ w. IfSome c.byte_immediate.result (IsReady w pc)) (sym c.in-LoadStoreByteImmediate.is) (c.byte_immediate.ensures pc)

pub returns-in-LoadStoreByteRegister : goal.returns-in-LoadStoreByteRegister
returns-in-LoadStoreByteRegister c pc = subst (λ w. IfSome c.byte_register.result (IsReady w pc)) (sym c.in-LoadStoreByteRegister.is) (c.byte_register.ensures pc)

pub returns-in-LoadStoreImmediate : goal.returns-in-LoadStoreImmediate
returns-in-LoadStoreImmediate c pc = subst (λ w. IfSome c.wide_immediate.result (IsReady w pc)) (sym c.in-LoadStoreImmediate.is) (c.wide_immediate.ensures pc)

pub returns-in-LoadStoreRegister : goal.returns-in-LoadStoreRegister
returns-in-LoadStoreRegister c pc = subst (λ w. IfSome c.wide_register.result (IsReady w pc)) (sym c.in-LoadStoreRegister.is) (c.wide_register.ensures pc)
