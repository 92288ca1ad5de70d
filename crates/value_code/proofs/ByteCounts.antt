-- An offset in bytes is in range.
use Rattle.std.proofs.Common.{◌≡◌, ◌⊎◌, ⊎_elim, ℕ, ℤ, pos, negsuc, ◌*ℤ◌, sym, ap, ◌∙◌, subst, arith}
use Rattle.std.proofs.lemmas.Int.{ints, to_z-of_z}
use mir.Syntax.{w32, w128}
use mir.Val.{SFits, of_z, to_z}
use Rattle.kernel_tree.specs.declared.ops.Ty.{Ty}
use Rattle.kernel_tree.specs.Wrap.{byte_count}

wide : (z : ℤ) → SFits w32 z → SFits w128 z
wide z h = let e = h.sfits in record { sfits = omega (arith, e) }

once : (z : ℤ) → z ≡ pos 1 *ℤ z
once (pos n) = omega (arith, ints)
once (negsuc n) = omega (arith, ints)

twice : (z : ℤ) → SFits w32 z → SFits w128 (pos 2 *ℤ z)
twice (pos n) h = let e = h.sfits in record { sfits = omega (arith, ints, e) }
twice (negsuc n) h = let e = h.sfits in record { sfits = omega (arith, ints, e) }

four_times : (z : ℤ) → SFits w32 z → SFits w128 (pos 4 *ℤ z)
four_times (pos n) h = let e = h.sfits in record { sfits = omega (arith, ints, e) }
four_times (negsuc n) h = let e = h.sfits in record { sfits = omega (arith, ints, e) }

eight_times : (z : ℤ) → SFits w32 z → SFits w128 (pos 8 *ℤ z)
eight_times (pos n) h = let e = h.sfits in record { sfits = omega (arith, ints, e) }
eight_times (negsuc n) h = let e = h.sfits in record { sfits = omega (arith, ints, e) }

module _ (z : ℤ) (h : SFits w32 z) where
  -- as it is read twice
  read : to_z w128 (of_z w128 (to_z w32 (of_z w32 z))) ≡ z
  read = ap (λ y. to_z w128 (of_z w128 y)) (to_z-of_z w32 z h) ∙ to_z-of_z w128 z (wide z h)

  pub cast_fits : SFits w128 (to_z w32 (of_z w32 z))
  cast_fits = subst (SFits w128) (sym (to_z-of_z w32 z h)) (wide z h)

  times_fits : (k : ℤ) → SFits w128 (k *ℤ z) → SFits w128 (k *ℤ to_z w128 (of_z w128 (to_z w32 (of_z w32 z))))
  times_fits k f = subst (λ y. SFits w128 (k *ℤ y)) (sym read) f

  pub two_fits : SFits w128 (pos 2 *ℤ to_z w128 (of_z w128 (to_z w32 (of_z w32 z))))
  two_fits = times_fits (pos 2) (twice z h)

  pub four_fits : SFits w128 (pos 4 *ℤ to_z w128 (of_z w128 (to_z w32 (of_z w32 z))))
  four_fits = times_fits (pos 4) (four_times z h)

  pub eight_fits : SFits w128 (pos 8 *ℤ to_z w128 (of_z w128 (to_z w32 (of_z w32 z))))
  eight_fits = times_fits (pos 8) (eight_times z h)

  module _ (t a b : Ty) (is : (t ≡ a) ⊎ (t ≡ b)) where
    byte_count_of_either : (n : ℕ) → byte_count a ≡ n → byte_count b ≡ n → byte_count t ≡ n
    byte_count_of_either n e f = ⊎_elim (λ s. ap byte_count s ∙ e) (λ s. ap byte_count s ∙ f) is

    pub bytes_one : byte_count a ≡ 1 → byte_count b ≡ 1 → to_z w128 (of_z w128 (to_z w32 (of_z w32 z))) ≡ pos (byte_count t) *ℤ z
    bytes_one e f = read ∙ once z ∙ ap (λ n. pos n *ℤ z) (sym (byte_count_of_either 1 e f))

    pub bytes_times : (n : ℕ) → byte_count a ≡ n → byte_count b ≡ n → SFits w128 (pos n *ℤ to_z w128 (of_z w128 (to_z w32 (of_z w32 z)))) → to_z w128 (of_z w128 (pos n *ℤ to_z w128 (of_z w128 (to_z w32 (of_z w32 z))))) ≡ pos (byte_count t) *ℤ z
    bytes_times n e f g = to_z-of_z w128 (pos n *ℤ to_z w128 (of_z w128 (to_z w32 (of_z w32 z)))) g ∙ ap (λ y. pos n *ℤ y) read ∙ ap (λ n. pos n *ℤ z) (sym (byte_count_of_either n e f))
