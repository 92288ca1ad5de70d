use Rattle.std.proofs.Common.{◌≡◌, [], ◌∷◌, codes, refl, sym, ap, ◌∙◌, lit≤}
use Rattle.a64_code.specs.View.{instruction_view, shift_number}
use Rattle.a64_code.specs.declared.A64.{A64}
use Rattle.a64_code.specs.declared.Shift.{Shift}
use Rattle.a64_code.specs.declared.Shift.TheVariants as shifts
use Rattle.a64_code.specs.contracts.Shift as ShiftKind
use denote.Enum.Declared.{tag_of}
use Rattle.list_text.specs.A64Text.{a64_text, shifted_register}
use Rattle.list_text.proofs.a64.logical_shifted.Goals as goal

-- the number of a shift is its place in the enumeration
tagged : (s : Shift) → tag_of ShiftKind.the_type s ≡ shift_number s
tagged shifts.Lsl = refl
tagged other = refl

pub shifted_register-requires : goal.shifted_register-requires
shifted_register-requires c = lit≤ tt

pub shifted_register-requires-in-Orr : goal.shifted_register-requires-in-Orr
shifted_register-requires-in-Orr c = lit≤ tt

pub shifted_register-requires-in-Eor : goal.shifted_register-requires-in-Eor
shifted_register-requires-in-Eor c = lit≤ tt

pub shifted_register-requires-in-Orn : goal.shifted_register-requires-in-Orn
shifted_register-requires-in-Orn c = lit≤ tt

pub returns-in-And : goal.returns-in-And
returns-in-And c =
    c.shifted_register.ensures
    ∙ ap (λ k. shifted_register (codes "and ") (c.args.rd.number ∷ c.args.rn.number ∷ c.args.imm6.number ∷ c.args.rm.number ∷ k ∷ [])) (tagged c.args.shift)
    ∙ ap (λ o. a64_text (instruction_view (A64.LogicalShifted o c.args.rd c.args.rn c.args.imm6 c.args.rm c.args.shift))) (sym c.in-And.is)

pub returns-in-Orr : goal.returns-in-Orr
returns-in-Orr c =
    c.shifted_register-in-Orr.ensures
    ∙ ap (λ k. shifted_register (codes "orr ") (c.args.rd.number ∷ c.args.rn.number ∷ c.args.imm6.number ∷ c.args.rm.number ∷ k ∷ [])) (tagged c.args.shift)
    ∙ ap (λ o. a64_text (instruction_view (A64.LogicalShifted o c.args.rd c.args.rn c.args.imm6 c.args.rm c.args.shift))) (sym c.in-Orr.is)

pub returns-in-Eor : goal.returns-in-Eor
returns-in-Eor c =
    c.shifted_register-in-Eor.ensures
    ∙ ap (λ k. shifted_register (codes "eor ") (c.args.rd.number ∷ c.args.rn.number ∷ c.args.imm6.number ∷ c.args.rm.number ∷ k ∷ [])) (tagged c.args.shift)
    ∙ ap (λ o. a64_text (instruction_view (A64.LogicalShifted o c.args.rd c.args.rn c.args.imm6 c.args.rm c.args.shift))) (sym c.in-Eor.is)

pub returns-in-Orn : goal.returns-in-Orn
returns-in-Orn c =
    c.shifted_register-in-Orn.ensures
    ∙ ap (λ k. shifted_register (codes "orn ") (c.args.rd.number ∷ c.args.rn.number ∷ c.args.imm6.number ∷ c.args.rm.number ∷ k ∷ [])) (tagged c.args.shift)
    ∙ ap (λ o. a64_text (instruction_view (A64.LogicalShifted o c.args.rd c.args.rn c.args.imm6 c.args.rm c.args.shift))) (sym c.in-Orn.is)
