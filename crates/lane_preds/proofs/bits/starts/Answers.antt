use Rattle.std.proofs.Common.{◌∙◌, ap, sym}
use Rattle.guest_types.specs.declared.length.Width.{Width}
use Rattle.guest_types.specs.declared.length.Width.TheVariants.{B, H, S, D}
use Rattle.guest_types.specs.Length.{width_bytes}
use Rattle.guest_types.specs.Elements.{bits_of}
use Rattle.lane_preds.specs.Bits.{starts}
use Rattle.lane_preds.proofs.Patterns.{starts-is}
use Rattle.lane_preds.proofs.bits.starts.Goals as goal
use Rattle.lane_preds.proofs.bits.starts.Goals.{in-B, in-H, in-S, in-D}

pub returns : goal.returns
returns c =
    let of = λ (w : Width). bits_of (starts (width_bytes w)) 32 in
    elim c.match-width.branch [
      | in-B w ↦ w.result-is ∙ starts-is B ∙ ap of (sym w.in-B.is)
      | in-H w ↦ w.result-is ∙ starts-is H ∙ ap of (sym w.in-H.is)
      | in-S w ↦ w.result-is ∙ starts-is S ∙ ap of (sym w.in-S.is)
      | in-D w ↦ w.result-is ∙ starts-is D ∙ ap of (sym w.in-D.is)
    ]
