-- The words of results of 128 bits, and the address of an element.
use Rattle.std.proofs.Common.{◌≡◌, ◌+◌, ◌-◌, ◌*◌, ◌%◌, ◌^◌, refl, sym, ap, ◌∙◌}
use Rattle.std.specs.Prelude.{ℤ, pos, ◌+ℤ◌, ◌-ℤ◌, ◌*ℤ◌, FitsSigned}
use Rattle.std.specs.Int.{w128, int_wrapping_add, int_wrapping_sub}
use Rattle.std.proofs.lemmas.Int.{wrapping_add_is, wrapping_sub_is}
use Rattle.kernel_tree.specs.declared.ops.Ty.{Ty}
use Rattle.kernel_tree.specs.declared.ops.Ty.TheVariants as ty
use Rattle.kernel_tree.specs.Wrap.{byte_count}
use Rattle.kernel_meaning.specs.Operators.{word}
use Rattle.kernel_meaning.specs.Eval.{address}
use Rattle.kernel_meaning.proofs.Residues.{word-wide, word-add, word-mul}

pub word-wrapping_add : (a b : ℤ) → FitsSigned w128 a → FitsSigned w128 b → word (int_wrapping_add w128 a b) ≡ word (a +ℤ b)
word-wrapping_add a b f g = ap word (wrapping_add_is w128 a b f g) ∙ word-wide (a +ℤ b)

pub word-wrapping_sub : (a b : ℤ) → FitsSigned w128 a → FitsSigned w128 b → word (int_wrapping_sub w128 a b) ≡ word (a -ℤ b)
word-wrapping_sub a b f g = ap word (wrapping_sub_is w128 a b f g) ∙ word-wide (a -ℤ b)

few_bytes : (t : Ty) → word (pos (byte_count t)) ≡ byte_count t
few_bytes ty.I8 = refl
few_bytes ty.U8 = refl
few_bytes ty.I16 = refl
few_bytes ty.U16 = refl
few_bytes ty.I32 = refl
few_bytes ty.U32 = refl
few_bytes ty.I64 = refl
few_bytes ty.U64 = refl

pub address_is : (t : Ty) (base x : ℤ) → (word base + (byte_count t * word x) % 2 ^ 64) % 2 ^ 64 ≡ address t base x
address_is t base x = sym (word-add base (pos (byte_count t) *ℤ x) ∙ ap (λ m. (word base + m) % 2 ^ 64) (word-mul (pos (byte_count t)) x ∙ ap (λ k. (k * word x) % 2 ^ 64) (few_bytes t)))
