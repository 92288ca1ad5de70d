-- Small offsets, as the code finds them.
use Rattle.std.proofs.Common.{◌≡◌, ℕ, zero, ℤ, pos, Option, Some, None, refl}
use Rattle.std.specs.Prelude.{neg_ℤ, unsigned_abs}
use Rattle.kernel_tree.specs.declared.ops.Ty.{Ty}
use Rattle.scalar_words.specs.Layout.{Layout}
use Rattle.kernel_tree.specs.Items.{index_size}
use Rattle.value_code.specs.Code.{place_of}

pub abs_neg : (z : ℤ) → unsigned_abs (neg_ℤ z) ≡ unsigned_abs z
abs_neg (pos zero) = refl
abs_neg other = refl

-- an index with a place has no items
pub no_items : (L : Layout) (q r : ℕ) (t : Option Ty) (o : Option ℤ) (n : ℕ) → place_of L q t o ≡ Some r → index_size o n ≡ 0
no_items L q r t (Some c) n e = refl
no_items L q r None None n e = absurd cc
no_items L q r (Some t) None n e = absurd cc
