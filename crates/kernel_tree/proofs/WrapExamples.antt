-- Values of types, worked out by hand.
use Rattle.std.proofs.Common.{◌≡◌, refl}
use Rattle.std.specs.Prelude.{pos, negsuc}
use Rattle.kernel_tree.specs.declared.ops.Ty.TheVariants as ty
use Rattle.kernel_tree.specs.Wrap.{wrap}

wrapped-byte : wrap ty.U8 (pos 300) ≡ pos 44
wrapped-byte = refl

wrapped-signed : wrap ty.I8 (pos 300) ≡ pos 44
wrapped-signed = refl

wrapped-low : wrap ty.I8 (pos 200) ≡ negsuc 55
wrapped-low = refl

wrapped-below : wrap ty.U8 (negsuc 0) ≡ pos 255
wrapped-below = refl

wrapped-least : wrap ty.I8 (negsuc 128) ≡ pos 127
wrapped-least = refl

wrapped-wide : wrap ty.I64 (pos 9223372036854775808) ≡ negsuc 9223372036854775807
wrapped-wide = refl

wrapped-word : wrap ty.U64 (negsuc 18446744073709551616) ≡ pos 18446744073709551615
wrapped-word = refl
