-- Kinds of instructions.
use Rattle.a64_code.specs.declared.A64.{A64}
use Rattle.a64_code.specs.declared.A64.TheVariants.{AddSubImmediate, AddSubShifted, Bitfield, Branch, BranchConditional, CompareBranch, ConditionalSelect, Exception, LoadStoreByteImmediate, LoadStoreByteRegister, LoadStoreImmediate, LoadStoreRegister, LogicalShifted, MoveWide, MultiplyAdd, Nop, Ret, ShiftVariable, Umov}

-- it computes a register from registers
abbrev pub IsData : A64 → Type 0
IsData (AddSubImmediate a b c d e) = Unit {0}
IsData (AddSubShifted a b c d e f) = Unit {0}
IsData (LogicalShifted a b c d e f) = Unit {0}
IsData (MoveWide a b c d) = Unit {0}
IsData (MultiplyAdd a b c d e) = Unit {0}
IsData (ShiftVariable a b c d) = Unit {0}
IsData (Bitfield a b c d e) = Unit {0}
IsData (ConditionalSelect a b c d e) = Unit {0}
IsData (Branch a) = ⊥
IsData (BranchConditional a b) = ⊥
IsData (CompareBranch a b c) = ⊥
IsData (Ret a) = ⊥
IsData (Exception a b) = ⊥
IsData Nop = ⊥
IsData (Umov a b) = Unit {0}
IsData (LoadStoreByteImmediate a b c d) = ⊥
IsData (LoadStoreImmediate a b c d) = ⊥
IsData (LoadStoreByteRegister a b c d) = ⊥
IsData (LoadStoreRegister a b c d e) = ⊥

-- of these: it moves a number, a bit field or one of two registers
abbrev pub IsMove : A64 → Type 0
IsMove (AddSubImmediate a b c d e) = ⊥
IsMove (AddSubShifted a b c d e f) = ⊥
IsMove (LogicalShifted a b c d e f) = ⊥
IsMove (MoveWide a b c d) = Unit {0}
IsMove (MultiplyAdd a b c d e) = ⊥
IsMove (ShiftVariable a b c d) = ⊥
IsMove (Bitfield a b c d e) = Unit {0}
IsMove (ConditionalSelect a b c d e) = Unit {0}
IsMove (Branch a) = ⊥
IsMove (BranchConditional a b) = ⊥
IsMove (CompareBranch a b c) = ⊥
IsMove (Ret a) = ⊥
IsMove (Exception a b) = ⊥
IsMove Nop = ⊥
IsMove (Umov a b) = Unit {0}
IsMove (LoadStoreByteImmediate a b c d) = ⊥
IsMove (LoadStoreImmediate a b c d) = ⊥
IsMove (LoadStoreByteRegister a b c d) = ⊥
IsMove (LoadStoreRegister a b c d e) = ⊥

-- it is no load, no store and no exception
abbrev pub IsOnRegisters : A64 → Type 0
IsOnRegisters (AddSubImmediate a b c d e) = Unit {0}
IsOnRegisters (AddSubShifted a b c d e f) = Unit {0}
IsOnRegisters (LogicalShifted a b c d e f) = Unit {0}
IsOnRegisters (MoveWide a b c d) = Unit {0}
IsOnRegisters (MultiplyAdd a b c d e) = Unit {0}
IsOnRegisters (ShiftVariable a b c d) = Unit {0}
IsOnRegisters (Bitfield a b c d e) = Unit {0}
IsOnRegisters (ConditionalSelect a b c d e) = Unit {0}
IsOnRegisters (Branch a) = Unit {0}
IsOnRegisters (BranchConditional a b) = Unit {0}
IsOnRegisters (CompareBranch a b c) = Unit {0}
IsOnRegisters (Ret a) = Unit {0}
IsOnRegisters (Exception a b) = ⊥
IsOnRegisters Nop = Unit {0}
IsOnRegisters (Umov a b) = Unit {0}
IsOnRegisters (LoadStoreByteImmediate a b c d) = ⊥
IsOnRegisters (LoadStoreImmediate a b c d) = ⊥
IsOnRegisters (LoadStoreByteRegister a b c d) = ⊥
IsOnRegisters (LoadStoreRegister a b c d e) = ⊥
