use Rattle.std.proofs.Common.{◌≡◌, [], ◌∷◌, codes, refl, sym, ap, ◌∙◌, lit≤}
use Rattle.a64_code.specs.View.{instruction_view, add_sub_shift_number}
use Rattle.a64_code.specs.declared.A64.{A64}
use Rattle.a64_code.specs.declared.AddSubShift.{AddSubShift}
use Rattle.a64_code.specs.declared.AddSubShift.TheVariants as shifts
use Rattle.a64_code.specs.contracts.AddSubShift as AddSubShiftKind
use denote.Enum.Declared.{tag_of}
use Rattle.list_text.specs.A64Text.{a64_text, shifted_register}
use Rattle.list_text.proofs.a64.add_sub_shifted.Goals as goal

-- the number of a shift is its place in the enumeration
tagged : (s : AddSubShift) → tag_of AddSubShiftKind.the_type s ≡ add_sub_shift_number s
tagged shifts.Lsl = refl
tagged other = refl

pub shifted_register-requires : goal.shifted_register-requires
shifted_register-requires c = lit≤ tt

pub shifted_register-requires-in-Sub : goal.shifted_register-requires-in-Sub
shifted_register-requires-in-Sub c = lit≤ tt

pub shifted_register-requires-in-Subs : goal.shifted_register-requires-in-Subs
shifted_register-requires-in-Subs c = lit≤ tt

pub returns-in-Add : goal.returns-in-Add
returns-in-Add c =
    c.shifted_register.ensures
    ∙ ap (λ k. shifted_register (codes "add ") (c.args.rd.number ∷ c.args.rn.number ∷ c.args.imm6.number ∷ c.args.rm.number ∷ k ∷ [])) (tagged c.args.shift)
    ∙ ap (λ o. a64_text (instruction_view (A64.AddSubShifted o c.args.rd c.args.rn c.args.imm6 c.args.rm c.args.shift))) (sym c.in-Add.is)

pub returns-in-Sub : goal.returns-in-Sub
returns-in-Sub c =
    c.shifted_register-in-Sub.ensures
    ∙ ap (λ k. shifted_register (codes "sub ") (c.args.rd.number ∷ c.args.rn.number ∷ c.args.imm6.number ∷ c.args.rm.number ∷ k ∷ [])) (tagged c.args.shift)
    ∙ ap (λ o. a64_text (instruction_view (A64.AddSubShifted o c.args.rd c.args.rn c.args.imm6 c.args.rm c.args.shift))) (sym c.in-Sub.is)

pub returns-in-Subs : goal.returns-in-Subs
returns-in-Subs c =
    c.shifted_register-in-Subs.ensures
    ∙ ap (λ k. shifted_register (codes "subs ") (c.args.rd.number ∷ c.args.rn.number ∷ c.args.imm6.number ∷ c.args.rm.number ∷ k ∷ [])) (tagged c.args.shift)
    ∙ ap (λ o. a64_text (instruction_view (A64.AddSubShifted o c.args.rd c.args.rn c.args.imm6 c.args.rm c.args.shift))) (sym c.in-Subs.is)
