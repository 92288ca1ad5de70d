-- The values of a type, by their sign and size.
pub use Rattle.kernel_meaning.proofs.TypeRanges.{InBits, in_bits, is_of, widened, wrap-in, wrap-is_of, wrap-of, of-fits, of-cond, of-shr, flipped, flip-is, of-flip, abs-unsigned}
