use Rattle.std.proofs.Common.{◌∙◌, ap, sym, refl, w8, arith}
use Rattle.std.proofs.lemmas.Simd.{below_from_Fits}
use Rattle.guest_types.specs.Length.{width_bytes}
use Rattle.guest_types.specs.declared.length.Width.{Width}
use Rattle.guest_types.specs.declared.length.Width.TheVariants.{B, H, S, D}
use Rattle.lane_blocks.proofs.Lanes.{lanes-bytes, lanes-wide}
use Rattle.lane_arith.specs.Blocks.{bytes_fold}
use Rattle.lane_arith.proofs.Halves.{one-element}
use Rattle.lane_arith.proofs.reduce.first_element.Goals as goal

pub returns-in-B : goal.returns-in-B
returns-in-B c =
    let x = c.args.x in
    let small = below_from_Fits w8 x c.fits-x.1 in
    (lanes-bytes 32 x c.fits-x.0).lane 0 (omega arith) ∙ one-element c.args.op B x small ∙ ap (λ (w : Width). bytes_fold c.args.op w (width_bytes w) x) (sym c.in-B.is)

pub returns-in-H : goal.returns-in-H
returns-in-H c =
    let x = c.args.x in
    let small = below_from_Fits w8 x c.fits-x.1 in
    (lanes-wide 2 65536 16 x refl small).lane 0 (omega arith) ∙ one-element c.args.op H x small ∙ ap (λ (w : Width). bytes_fold c.args.op w (width_bytes w) x) (sym c.in-H.is)

pub returns-in-S : goal.returns-in-S
returns-in-S c =
    let x = c.args.x in
    let small = below_from_Fits w8 x c.fits-x.1 in
    (lanes-wide 4 4294967296 8 x refl small).lane 0 (omega arith) ∙ one-element c.args.op S x small ∙ ap (λ (w : Width). bytes_fold c.args.op w (width_bytes w) x) (sym c.in-S.is)

pub returns-in-D : goal.returns-in-D
returns-in-D c =
    let x = c.args.x in
    let small = below_from_Fits w8 x c.fits-x.1 in
    (lanes-wide 8 18446744073709551616 4 x refl small).lane 0 (omega arith) ∙ one-element c.args.op D x small ∙ ap (λ (w : Width). bytes_fold c.args.op w (width_bytes w) x) (sym c.in-D.is)
