-- Kinds of SVE instructions.
use Rattle.sve_code.specs.declared.Sve.{Sve}
use Rattle.sve_code.specs.declared.Sve.TheVariants.{Ptrue, Pfalse, Whilelo, Ptest, PredicateLogical, Break, Rdffr, RdffrPredicated, Setffr, Wrffr, ElementCount, Incp, Cntp, DupScalar, IndexScalarImmediate, Sel, AddSub, Bitwise, ShiftImmediate, BinaryPredicated, UnaryPredicated, ExtendByte, ExtendHalfword, ExtendWord, Reduction, CompareVectors, ContiguousLoad, FirstFaultLoad, NonFaultLoad, GatherLoad, ContiguousStore}

-- it computes a vector register
abbrev pub IsOnLanes : Sve → Type 0
IsOnLanes (DupScalar a b c) = Unit {0}
IsOnLanes (IndexScalarImmediate a b c d) = Unit {0}
IsOnLanes (Sel a b c d e) = Unit {0}
IsOnLanes (AddSub a b c d e) = Unit {0}
IsOnLanes (Bitwise a b c d) = Unit {0}
IsOnLanes (ShiftImmediate a b c d) = Unit {0}
IsOnLanes (BinaryPredicated a b c d e) = Unit {0}
IsOnLanes (UnaryPredicated a b c d e) = Unit {0}
IsOnLanes (ExtendByte a b c d e) = Unit {0}
IsOnLanes (ExtendHalfword a b c d e) = Unit {0}
IsOnLanes (ExtendWord a b c d) = Unit {0}
IsOnLanes (Reduction a b c d e) = Unit {0}
IsOnLanes (Ptrue a b) = ⊥
IsOnLanes (Pfalse a) = ⊥
IsOnLanes (Whilelo a b c d) = ⊥
IsOnLanes (Ptest a b) = ⊥
IsOnLanes (PredicateLogical a b c d e) = ⊥
IsOnLanes (Break a b c d) = ⊥
IsOnLanes (Rdffr a) = ⊥
IsOnLanes (RdffrPredicated a b) = ⊥
IsOnLanes Setffr = ⊥
IsOnLanes (Wrffr a) = ⊥
IsOnLanes (ElementCount a b) = ⊥
IsOnLanes (Incp a b c) = ⊥
IsOnLanes (Cntp a b c d) = ⊥
IsOnLanes (CompareVectors a b c d e f) = ⊥
IsOnLanes (ContiguousLoad a b c d e) = ⊥
IsOnLanes (FirstFaultLoad a b c d e) = ⊥
IsOnLanes (NonFaultLoad a b c d) = ⊥
IsOnLanes (GatherLoad a b c d e) = ⊥
IsOnLanes (ContiguousStore a b c d e) = ⊥

-- it computes the active elements of a vector register
abbrev pub IsOnActive : Sve → Type 0
IsOnActive (DupScalar a b c) = ⊥
IsOnActive (IndexScalarImmediate a b c d) = ⊥
IsOnActive (Sel a b c d e) = ⊥
IsOnActive (AddSub a b c d e) = ⊥
IsOnActive (Bitwise a b c d) = ⊥
IsOnActive (ShiftImmediate a b c d) = ⊥
IsOnActive (BinaryPredicated a b c d e) = Unit {0}
IsOnActive (UnaryPredicated a b c d e) = Unit {0}
IsOnActive (ExtendByte a b c d e) = Unit {0}
IsOnActive (ExtendHalfword a b c d e) = Unit {0}
IsOnActive (ExtendWord a b c d) = Unit {0}
IsOnActive (Reduction a b c d e) = Unit {0}
IsOnActive (Ptrue a b) = ⊥
IsOnActive (Pfalse a) = ⊥
IsOnActive (Whilelo a b c d) = ⊥
IsOnActive (Ptest a b) = ⊥
IsOnActive (PredicateLogical a b c d e) = ⊥
IsOnActive (Break a b c d) = ⊥
IsOnActive (Rdffr a) = ⊥
IsOnActive (RdffrPredicated a b) = ⊥
IsOnActive Setffr = ⊥
IsOnActive (Wrffr a) = ⊥
IsOnActive (ElementCount a b) = ⊥
IsOnActive (Incp a b c) = ⊥
IsOnActive (Cntp a b c d) = ⊥
IsOnActive (CompareVectors a b c d e f) = ⊥
IsOnActive (ContiguousLoad a b c d e) = ⊥
IsOnActive (FirstFaultLoad a b c d e) = ⊥
IsOnActive (NonFaultLoad a b c d) = ⊥
IsOnActive (GatherLoad a b c d e) = ⊥
IsOnActive (ContiguousStore a b c d e) = ⊥

-- it extends a part of each active element
abbrev pub IsExtension : Sve → Type 0
IsExtension (DupScalar a b c) = ⊥
IsExtension (IndexScalarImmediate a b c d) = ⊥
IsExtension (Sel a b c d e) = ⊥
IsExtension (AddSub a b c d e) = ⊥
IsExtension (Bitwise a b c d) = ⊥
IsExtension (ShiftImmediate a b c d) = ⊥
IsExtension (BinaryPredicated a b c d e) = ⊥
IsExtension (UnaryPredicated a b c d e) = ⊥
IsExtension (ExtendByte a b c d e) = Unit {0}
IsExtension (ExtendHalfword a b c d e) = Unit {0}
IsExtension (ExtendWord a b c d) = Unit {0}
IsExtension (Reduction a b c d e) = ⊥
IsExtension (Ptrue a b) = ⊥
IsExtension (Pfalse a) = ⊥
IsExtension (Whilelo a b c d) = ⊥
IsExtension (Ptest a b) = ⊥
IsExtension (PredicateLogical a b c d e) = ⊥
IsExtension (Break a b c d) = ⊥
IsExtension (Rdffr a) = ⊥
IsExtension (RdffrPredicated a b) = ⊥
IsExtension Setffr = ⊥
IsExtension (Wrffr a) = ⊥
IsExtension (ElementCount a b) = ⊥
IsExtension (Incp a b c) = ⊥
IsExtension (Cntp a b c d) = ⊥
IsExtension (CompareVectors a b c d e f) = ⊥
IsExtension (ContiguousLoad a b c d e) = ⊥
IsExtension (FirstFaultLoad a b c d e) = ⊥
IsExtension (NonFaultLoad a b c d) = ⊥
IsExtension (GatherLoad a b c d e) = ⊥
IsExtension (ContiguousStore a b c d e) = ⊥

-- it is no load and no store
abbrev pub IsOnRegisters : Sve → Type 0
IsOnRegisters (DupScalar a b c) = Unit {0}
IsOnRegisters (IndexScalarImmediate a b c d) = Unit {0}
IsOnRegisters (Sel a b c d e) = Unit {0}
IsOnRegisters (AddSub a b c d e) = Unit {0}
IsOnRegisters (Bitwise a b c d) = Unit {0}
IsOnRegisters (ShiftImmediate a b c d) = Unit {0}
IsOnRegisters (BinaryPredicated a b c d e) = Unit {0}
IsOnRegisters (UnaryPredicated a b c d e) = Unit {0}
IsOnRegisters (ExtendByte a b c d e) = Unit {0}
IsOnRegisters (ExtendHalfword a b c d e) = Unit {0}
IsOnRegisters (ExtendWord a b c d) = Unit {0}
IsOnRegisters (Reduction a b c d e) = Unit {0}
IsOnRegisters (Ptrue a b) = Unit {0}
IsOnRegisters (Pfalse a) = Unit {0}
IsOnRegisters (Whilelo a b c d) = Unit {0}
IsOnRegisters (Ptest a b) = Unit {0}
IsOnRegisters (PredicateLogical a b c d e) = Unit {0}
IsOnRegisters (Break a b c d) = Unit {0}
IsOnRegisters (Rdffr a) = Unit {0}
IsOnRegisters (RdffrPredicated a b) = Unit {0}
IsOnRegisters Setffr = Unit {0}
IsOnRegisters (Wrffr a) = Unit {0}
IsOnRegisters (ElementCount a b) = Unit {0}
IsOnRegisters (Incp a b c) = Unit {0}
IsOnRegisters (Cntp a b c d) = Unit {0}
IsOnRegisters (CompareVectors a b c d e f) = Unit {0}
IsOnRegisters (ContiguousLoad a b c d e) = ⊥
IsOnRegisters (FirstFaultLoad a b c d e) = ⊥
IsOnRegisters (NonFaultLoad a b c d) = ⊥
IsOnRegisters (GatherLoad a b c d e) = ⊥
IsOnRegisters (ContiguousStore a b c d e) = ⊥
