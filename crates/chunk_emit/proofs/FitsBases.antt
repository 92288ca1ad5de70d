-- The address of an array that the loop uses is in the register of its parameter.
use Rattle.std.proofs.Common.{◌≡◌, ℕ, ◌≤◌, length, Some, arith}
use Rattle.kernel_tree.specs.declared.ops.Ty.{Ty}
use Rattle.kernel_tree.specs.Plain.{Program}
use Rattle.loop_form.specs.declared.loop_item.Operand.TheVariants.{Outer}
use Rattle.loop_form.specs.Streams.{type_of_place}
use Rattle.loop_form.proofs.Places.{typed_place-below}
use Rattle.chunk_emit.specs.Chunk.{Setting}
use Rattle.chunk_emit.specs.Fits.{FitsBase}
use Rattle.chunk_emit.specs.LoopFits.{FitsSetting}

pub base_fits : (k : Program) (f : Setting) (p : ℕ) (t : Ty) → FitsSetting k f → length k.params ≤ 8 → type_of_place k.params p ≡ Some t → FitsBase f (Outer p)
base_fits k f p t h few e = let r = typed_place-below k.params p t e in (omega (arith, r, few), h.bases p t e)
