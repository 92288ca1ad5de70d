use Rattle.std.proofs.Common.{[], ◌∷◌, sym, ap, ◌∙◌}
use Rattle.guest_types.proofs.Errors.{on_error}
use Rattle.sve_code.specs.Table.{z_add, z_sub, z_and, z_orr, z_eor, m_mul}
use Rattle.lane_emit.specs.Stretch.{word}
use Rattle.lane_emit.specs.LaneCode.{size_of, z_settle, merged, binary_code, binary_leaves}
use Rattle.lane_emit.proofs.Appended.{adds_as}
use Rattle.lane_emit.proofs.code.combine.Goals as goal

pub returns-in_err-settled_sum-in-Add : goal.returns-in_err-settled_sum-in-Add
returns-in_err-settled_sum-in-Add c = on_error _ _ c.from_residual.ensures.0

pub returns-in_ok-settled_sum-in-Add : goal.returns-in_ok-settled_sum-in-Add
returns-in_ok-settled_sum-in-Add c =
    let w = c.args.width in
    let d = c.args.d.number in
    let a = c.args.a.number in
    let b = c.args.b.number in
    let leaves = c.binary_leaves-leaves.ensures ∙ ap binary_leaves c.in-Add.is in
    adds_as c.args.words.now.items c.settled_sum.new.words.items _ _ ((λ i. word z_add (d ∷ a ∷ b ∷ size_of w ∷ []) ∷ z_settle (leaves i) w c.args.ty d) ∙ ap (λ o. binary_code w o c.args.ty d a b) (sym c.in-Add.is)) c.in_ok-settled_sum-in-Add.ensures

pub returns-in_err-settled_sum-in-Sub : goal.returns-in_err-settled_sum-in-Sub
returns-in_err-settled_sum-in-Sub c = on_error _ _ c.from_residual-in_err-settled_sum-in-Sub.ensures.0

pub returns-in_ok-settled_sum-in-Sub : goal.returns-in_ok-settled_sum-in-Sub
returns-in_ok-settled_sum-in-Sub c =
    let w = c.args.width in
    let d = c.args.d.number in
    let a = c.args.a.number in
    let b = c.args.b.number in
    let leaves = c.binary_leaves-leaves.ensures ∙ ap binary_leaves c.in-Sub.is in
    adds_as c.args.words.now.items c.settled_sum-in-Sub.new.words.items _ _ ((λ i. word z_sub (d ∷ a ∷ b ∷ size_of w ∷ []) ∷ z_settle (leaves i) w c.args.ty d) ∙ ap (λ o. binary_code w o c.args.ty d a b) (sym c.in-Sub.is)) c.in_ok-settled_sum-in-Sub.ensures

pub returns-in_err-merged-in-Mul : goal.returns-in_err-merged-in-Mul
returns-in_err-merged-in-Mul c = on_error _ _ c.from_residual-in_err-merged-in-Mul.ensures.0

pub returns-in_ok-merged-in-Mul : goal.returns-in_ok-merged-in-Mul
returns-in_ok-merged-in-Mul c =
    let w = c.args.width in
    let d = c.args.d.number in
    let a = c.args.a.number in
    let b = c.args.b.number in
    let leaves = c.binary_leaves-leaves.ensures ∙ ap binary_leaves c.in-Mul.is in
    adds_as c.args.words.now.items c.merged.new.words.items _ _ ((λ i. merged w m_mul d a b (z_settle (leaves i) w c.args.ty d)) ∙ ap (λ o. binary_code w o c.args.ty d a b) (sym c.in-Mul.is)) c.in_ok-merged-in-Mul.ensures

pub returns-in_err-settled_bits-in-And : goal.returns-in_err-settled_bits-in-And
returns-in_err-settled_bits-in-And c = on_error _ _ c.from_residual-in_err-settled_bits-in-And.ensures.0

pub returns-in_ok-settled_bits-in-And : goal.returns-in_ok-settled_bits-in-And
returns-in_ok-settled_bits-in-And c =
    let w = c.args.width in
    let d = c.args.d.number in
    let a = c.args.a.number in
    let b = c.args.b.number in
    let leaves = c.binary_leaves-leaves.ensures ∙ ap binary_leaves c.in-And.is in
    adds_as c.args.words.now.items c.settled_bits.new.words.items _ _ ((λ i. word z_and (d ∷ a ∷ b ∷ []) ∷ z_settle (leaves i) w c.args.ty d) ∙ ap (λ o. binary_code w o c.args.ty d a b) (sym c.in-And.is)) c.in_ok-settled_bits-in-And.ensures

pub returns-in_err-settled_bits-in-Or : goal.returns-in_err-settled_bits-in-Or
returns-in_err-settled_bits-in-Or c = on_error _ _ c.from_residual-in_err-settled_bits-in-Or.ensures.0

pub returns-in_ok-settled_bits-in-Or : goal.returns-in_ok-settled_bits-in-Or
returns-in_ok-settled_bits-in-Or c =
    let w = c.args.width in
    let d = c.args.d.number in
    let a = c.args.a.number in
    let b = c.args.b.number in
    let leaves = c.binary_leaves-leaves.ensures ∙ ap binary_leaves c.in-Or.is in
    adds_as c.args.words.now.items c.settled_bits-in-Or.new.words.items _ _ ((λ i. word z_orr (d ∷ a ∷ b ∷ []) ∷ z_settle (leaves i) w c.args.ty d) ∙ ap (λ o. binary_code w o c.args.ty d a b) (sym c.in-Or.is)) c.in_ok-settled_bits-in-Or.ensures

pub returns-in_err-settled_bits-in-Xor : goal.returns-in_err-settled_bits-in-Xor
returns-in_err-settled_bits-in-Xor c = on_error _ _ c.from_residual-in_err-settled_bits-in-Xor.ensures.0

pub returns-in_ok-settled_bits-in-Xor : goal.returns-in_ok-settled_bits-in-Xor
returns-in_ok-settled_bits-in-Xor c =
    let w = c.args.width in
    let d = c.args.d.number in
    let a = c.args.a.number in
    let b = c.args.b.number in
    let leaves = c.binary_leaves-leaves.ensures ∙ ap binary_leaves c.in-Xor.is in
    adds_as c.args.words.now.items c.settled_bits-in-Xor.new.words.items _ _ ((λ i. word z_eor (d ∷ a ∷ b ∷ []) ∷ z_settle (leaves i) w c.args.ty d) ∙ ap (λ o. binary_code w o c.args.ty d a b) (sym c.in-Xor.is)) c.in_ok-settled_bits-in-Xor.ensures

pub returns-in_err-merged-in-Min : goal.returns-in_err-merged-in-Min
returns-in_err-merged-in-Min c = on_error _ _ c.from_residual-in_err-merged-in-Min.ensures.0

pub returns-in_ok-merged-in-Min : goal.returns-in_ok-merged-in-Min
returns-in_ok-merged-in-Min c =
    let w = c.args.width in
    let d = c.args.d.number in
    let a = c.args.a.number in
    let b = c.args.b.number in
    let leaves = c.binary_leaves-leaves.ensures ∙ ap binary_leaves c.in-Min.is in
    adds_as c.args.words.now.items c.merged-in-Min.new.words.items _ _ ((λ i. merged w (c.minimum.ensures i) d a b (z_settle (leaves i) w c.args.ty d)) ∙ ap (λ o. binary_code w o c.args.ty d a b) (sym c.in-Min.is)) c.in_ok-merged-in-Min.ensures

pub returns-in_err-merged-in-Max : goal.returns-in_err-merged-in-Max
returns-in_err-merged-in-Max c = on_error _ _ c.from_residual-in_err-merged-in-Max.ensures.0

pub returns-in_ok-merged-in-Max : goal.returns-in_ok-merged-in-Max
returns-in_ok-merged-in-Max c =
    let w = c.args.width in
    let d = c.args.d.number in
    let a = c.args.a.number in
    let b = c.args.b.number in
    let leaves = c.binary_leaves-leaves.ensures ∙ ap binary_leaves c.in-Max.is in
    adds_as c.args.words.now.items c.merged-in-Max.new.words.items _ _ ((λ i. merged w (c.maximum.ensures i) d a b (z_settle (leaves i) w c.args.ty d)) ∙ ap (λ o. binary_code w o c.args.ty d a b) (sym c.in-Max.is)) c.in_ok-merged-in-Max.ensures
