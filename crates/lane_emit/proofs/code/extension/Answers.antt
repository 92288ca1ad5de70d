use Rattle.std.proofs.Common.{◌≡◌, ℕ, ◌<◌, [], ◌∷◌, ◌⊎◌, inl, inr, sym, ap, ◌∙◌, subst}
use Rattle.guest_types.specs.declared.length.Width.{Width}
use Rattle.guest_types.specs.Length.{width_bits}
use Rattle.guest_types.proofs.Errors.{on_error}
use Rattle.kernel_tree.specs.declared.ops.Ty.{Ty}
use Rattle.kernel_tree.specs.declared.ops.Ty.TheVariants as ty
use Rattle.kernel_tree.specs.Wrap.{bits_of}
use Rattle.lane_emit.specs.LaneCode.{extension, z_copy}
use Rattle.lane_emit.proofs.Appended.{adds_as, adds_word, adds_last}
use Rattle.lane_emit.proofs.code.extension.Goals as goal

extension_of_64_bits : (t : Ty) (w : Width) (d a : ℕ) → (t ≡ ty.I64 ⊎ t ≡ ty.U64) → z_copy d a [] ≡ extension t w d a
extension_of_64_bits t w d a (inl e) = ap (λ u. extension u w d a) (sym e)
extension_of_64_bits t w d a (inr e) = ap (λ u. extension u w d a) (sym e)

pub extend_byte-requires : goal.extend_byte-requires
extend_byte-requires c = subst (λ t. bits_of t < width_bits c.args.width) c.in-I8.is c.requires

pub extend_byte-requires-in-U8 : goal.extend_byte-requires-in-U8
extend_byte-requires-in-U8 c = subst (λ t. bits_of t < width_bits c.args.width) c.in-U8.is c.requires

pub extend_halfword-requires : goal.extend_halfword-requires
extend_halfword-requires c = subst (λ t. bits_of t < width_bits c.args.width) c.in-I16.is c.requires

pub extend_halfword-requires-in-U16 : goal.extend_halfword-requires-in-U16
extend_halfword-requires-in-U16 c = subst (λ t. bits_of t < width_bits c.args.width) c.in-U16.is c.requires

pub returns-in_err-push-in-I8 : goal.returns-in_err-push-in-I8
returns-in_err-push-in-I8 c = on_error _ _ c.from_residual.ensures.0

pub returns-in_ok-push-in-I8 : goal.returns-in_ok-push-in-I8
returns-in_ok-push-in-I8 c =
    let code = ap (λ t. extension t c.args.width c.args.d.number c.args.a.number) (sym c.in-I8.is) in
    adds_word c.args.words.now.items c.push.new.self.items c.extend_byte.result _ c.in_ok-push-in-I8.ensures.items (ap (λ w. w ∷ []) c.extend_byte.ensures ∙ code)

pub returns-in_err-push-in-U8 : goal.returns-in_err-push-in-U8
returns-in_err-push-in-U8 c = on_error _ _ c.from_residual-in_err-push-in-U8.ensures.0

pub returns-in_ok-push-in-U8 : goal.returns-in_ok-push-in-U8
returns-in_ok-push-in-U8 c =
    let code = ap (λ t. extension t c.args.width c.args.d.number c.args.a.number) (sym c.in-U8.is) in
    adds_word c.args.words.now.items c.push-in-U8.new.self.items c.extend_byte-in-U8.result _ c.in_ok-push-in-U8.ensures.items (ap (λ w. w ∷ []) c.extend_byte-in-U8.ensures ∙ code)

pub returns-in_err-push-in-I16 : goal.returns-in_err-push-in-I16
returns-in_err-push-in-I16 c = on_error _ _ c.from_residual-in_err-push-in-I16.ensures.0

pub returns-in_ok-push-in-I16 : goal.returns-in_ok-push-in-I16
returns-in_ok-push-in-I16 c =
    let code = ap (λ t. extension t c.args.width c.args.d.number c.args.a.number) (sym c.in-I16.is) in
    adds_word c.args.words.now.items c.push-in-I16.new.self.items c.extend_halfword.result _ c.in_ok-push-in-I16.ensures.items (ap (λ w. w ∷ []) c.extend_halfword.ensures ∙ code)

pub returns-in_err-push-in-U16 : goal.returns-in_err-push-in-U16
returns-in_err-push-in-U16 c = on_error _ _ c.from_residual-in_err-push-in-U16.ensures.0

pub returns-in_ok-push-in-U16 : goal.returns-in_ok-push-in-U16
returns-in_ok-push-in-U16 c =
    let code = ap (λ t. extension t c.args.width c.args.d.number c.args.a.number) (sym c.in-U16.is) in
    adds_word c.args.words.now.items c.push-in-U16.new.self.items c.extend_halfword-in-U16.result _ c.in_ok-push-in-U16.ensures.items (ap (λ w. w ∷ []) c.extend_halfword-in-U16.ensures ∙ code)

pub returns-in_err-push-in-I32 : goal.returns-in_err-push-in-I32
returns-in_err-push-in-I32 c = on_error _ _ c.from_residual-in_err-push-in-I32.ensures.0

pub returns-in_ok-push-in-I32 : goal.returns-in_ok-push-in-I32
returns-in_ok-push-in-I32 c =
    let code = ap (λ t. extension t c.args.width c.args.d.number c.args.a.number) (sym c.in-I32.is) in
    adds_word c.args.words.now.items c.push-in-I32.new.self.items c.extend_word.result _ c.in_ok-push-in-I32.ensures.items (ap (λ w. w ∷ []) c.extend_word.ensures ∙ code)

pub returns-in_err-push-in-U32 : goal.returns-in_err-push-in-U32
returns-in_err-push-in-U32 c = on_error _ _ c.from_residual-in_err-push-in-U32.ensures.0

pub returns-in_ok-push-in-U32 : goal.returns-in_ok-push-in-U32
returns-in_ok-push-in-U32 c =
    let code = ap (λ t. extension t c.args.width c.args.d.number c.args.a.number) (sym c.in-U32.is) in
    adds_word c.args.words.now.items c.push-in-U32.new.self.items c.extend_word-in-U32.result _ c.in_ok-push-in-U32.ensures.items (ap (λ w. w ∷ []) c.extend_word-in-U32.ensures ∙ code)

pub returns-in_err-z_copy-in-I64 : goal.returns-in_err-z_copy-in-I64
returns-in_err-z_copy-in-I64 c = on_error _ _ c.from_residual-in_err-z_copy-in-I64.ensures.0

pub returns-in_ok-z_copy-in-I64 : goal.returns-in_ok-z_copy-in-I64
returns-in_ok-z_copy-in-I64 c =
    let d = c.args.d.number in
    let a = c.args.a.number in
    adds_as c.args.words.now.items c.z_copy.new.words.items (z_copy d a []) _ (extension_of_64_bits c.args.ty c.args.width d a c.in-I64.is) (adds_last c.args.words.now.items c.z_copy.new.words.items (z_copy d a) c.in_ok-z_copy-in-I64.ensures)
