-- An instruction by the form that it is of.
use Rattle.std.proofs.Common.{◌≡◌, Bool, true, refl, sym, subst}
use Rattle.sve_code.specs.declared.Sve.{Sve}
use Rattle.sve_code.specs.declared.Sve.TheVariants.{DupScalar, IndexScalarImmediate, Sel, AddSub, Bitwise, ShiftImmediate, BinaryPredicated, UnaryPredicated, ExtendByte, ExtendHalfword, ExtendWord, Reduction, Ptrue, Pfalse, Whilelo, Ptest, PredicateLogical, Break, Rdffr, RdffrPredicated, Setffr, Wrffr, ElementCount, Incp, Cntp, CompareVectors, ContiguousLoad, FirstFaultLoad, NonFaultLoad, GatherLoad, ContiguousStore}
use Rattle.word_rows.specs.declared.Bits.{Bits}
use Rattle.sve_code.specs.declared.GatherOp.{GatherOp}
use Rattle.sve_code.specs.declared.parts.Dtype.{Dtype}
use Rattle.sve_code.specs.declared.parts.OffsetReg.{OffsetReg}
use Rattle.sve_code.specs.declared.parts.StoreSizes.{StoreSizes}
use Rattle.sve_code.specs.View.{instruction_view}
use Rattle.machine_model.specs.declared.outcome.Step.{Step as StepAnswer}
use Rattle.machine_model.specs.Machine.{State}
use Rattle.machine_model.specs.VectorEffects.{do_vector}
use Rattle.machine_model.specs.Answers.{IsAnswer}
use Rattle.a64_machine.specs.Cores.{VectorState}
use Rattle.a64_machine.specs.declared.core_state.Core.{Core}
use Rattle.a64_machine.specs.Cores.{said}
use Rattle.machine_model.specs.Machine.{Step, Went}
use Rattle.sve_machine.specs.Kinds.{IsOnRegisters}
use Rattle.sve_machine.specs.Rows.{RowLeaves}

pub as_word : (word form : Sve) (core : Core) (rest : VectorState) (after : Core) (left : VectorState) → word ≡ form → RowLeaves form core rest after left → RowLeaves word core rest after left
as_word word form core rest after left e h = subst (λ w. RowLeaves w core rest after left) (sym e) h

pub answer_as : (word form : Sve) (r : StepAnswer) (before after : State) → word ≡ form → IsAnswer (do_vector (instruction_view form) before) r before after → IsAnswer (do_vector (instruction_view word) before) r before after
answer_as word form r before after e h = subst (λ w. IsAnswer (do_vector (instruction_view w) before) r before after) (sym e) h

-- what is no load and no store is done in registers
pub in_registers : (word : Sve) → ((zt rn : Bits 5) (pg : Bits 3) (offset : OffsetReg) (dtype : Dtype) → word ≡ ContiguousLoad zt rn pg offset dtype → ⊥) → ((zt rn : Bits 5) (pg : Bits 3) (rm : Bits 5) (dtype : Dtype) → word ≡ FirstFaultLoad zt rn pg rm dtype → ⊥) → ((zt rn : Bits 5) (pg : Bits 3) (dtype : Dtype) → word ≡ NonFaultLoad zt rn pg dtype → ⊥) → ((op : GatherOp) (zt rn : Bits 5) (pg : Bits 3) (zm : Bits 5) → word ≡ GatherLoad op zt rn pg zm → ⊥) → ((zt rn : Bits 5) (pg : Bits 3) (offset : OffsetReg) (sizes : StoreSizes) → word ≡ ContiguousStore zt rn pg offset sizes → ⊥) → IsOnRegisters word
in_registers (DupScalar a b c) n1 n2 n3 n4 n5 = tt
in_registers (IndexScalarImmediate a b c d) n1 n2 n3 n4 n5 = tt
in_registers (Sel a b c d e) n1 n2 n3 n4 n5 = tt
in_registers (AddSub a b c d e) n1 n2 n3 n4 n5 = tt
in_registers (Bitwise a b c d) n1 n2 n3 n4 n5 = tt
in_registers (ShiftImmediate a b c d) n1 n2 n3 n4 n5 = tt
in_registers (BinaryPredicated a b c d e) n1 n2 n3 n4 n5 = tt
in_registers (UnaryPredicated a b c d e) n1 n2 n3 n4 n5 = tt
in_registers (ExtendByte a b c d e) n1 n2 n3 n4 n5 = tt
in_registers (ExtendHalfword a b c d e) n1 n2 n3 n4 n5 = tt
in_registers (ExtendWord a b c d) n1 n2 n3 n4 n5 = tt
in_registers (Reduction a b c d e) n1 n2 n3 n4 n5 = tt
in_registers (Ptrue a b) n1 n2 n3 n4 n5 = tt
in_registers (Pfalse a) n1 n2 n3 n4 n5 = tt
in_registers (Whilelo a b c d) n1 n2 n3 n4 n5 = tt
in_registers (Ptest a b) n1 n2 n3 n4 n5 = tt
in_registers (PredicateLogical a b c d e) n1 n2 n3 n4 n5 = tt
in_registers (Break a b c d) n1 n2 n3 n4 n5 = tt
in_registers (Rdffr a) n1 n2 n3 n4 n5 = tt
in_registers (RdffrPredicated a b) n1 n2 n3 n4 n5 = tt
in_registers Setffr n1 n2 n3 n4 n5 = tt
in_registers (Wrffr a) n1 n2 n3 n4 n5 = tt
in_registers (ElementCount a b) n1 n2 n3 n4 n5 = tt
in_registers (Incp a b c) n1 n2 n3 n4 n5 = tt
in_registers (Cntp a b c d) n1 n2 n3 n4 n5 = tt
in_registers (CompareVectors a b c d e f) n1 n2 n3 n4 n5 = tt
in_registers (ContiguousLoad a b c d e) n1 n2 n3 n4 n5 = n1 a b c d e refl
in_registers (FirstFaultLoad a b c d e) n1 n2 n3 n4 n5 = n2 a b c d e refl
in_registers (NonFaultLoad a b c d) n1 n2 n3 n4 n5 = n3 a b c d refl
in_registers (GatherLoad a b c d e) n1 n2 n3 n4 n5 = n4 a b c d e refl
in_registers (ContiguousStore a b c d e) n1 n2 n3 n4 n5 = n5 a b c d e refl

pub goes_by : (o : Step) (went : Bool) (answer : StepAnswer) (before after : State) → went ≡ true → o ≡ Went after → IsAnswer o (said went answer) before after
goes_by o went answer before after e h = subst (λ w. IsAnswer o (said w answer) before after) (sym e) h
