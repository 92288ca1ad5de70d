-- The flags of a test of a predicate.
use Rattle.std.proofs.Common.{◌≡◌, ℕ, ◌+◌, ◌*◌, ◌%◌, ◌<◌, ◌≤◌, Bool, true, false, ◌&&◌, List, Option, refl, ap, ap₂, ◌∙◌, arith}
use Rattle.std.specs.Prelude.{is_none}
use Rattle.std.proofs.lemmas.Bool.{eq-eqb, lt-ltb, le-ltb}
use Rattle.std.proofs.Math.Nat.{mul-le-mul_left}
use Rattle.guest_types.specs.declared.length.Width.{Width}
use Rattle.guest_types.specs.declared.length.Width.TheVariants.{B, H, S, D}
use Rattle.guest_types.specs.Length.{IsLength, width_bytes, lanes}
use Rattle.guest_types.specs.Elements.{bit, both, first_true}
use Rattle.guest_types.specs.Lanes.{all_at, while_at}
use Rattle.guest_types.proofs.Widths.{some-bytes}
use Rattle.machine_model.proofs.StateSteps.{lanes_small}
use Rattle.chunk_emit.specs.Chunk.{IsTop}
use Rattle.first_fault.proofs.PrefixBits.{First, missing, found, first_is}

-- a register has elements
pub some_lanes : (vl : ℕ) (w : Width) → IsLength vl → 0 < lanes vl w
some_lanes vl B h = omega (arith, h.1)
some_lanes vl other h = omega (arith, h.1)

none_true : (test : ℕ → Bool) (n : ℕ) → ((j : ℕ) → j < n → test j ≡ false) → is_none (first_true test n 0) ≡ true
none_true test n h = by_first (first_true test n 0) (first_is test n 0)
  where
    by_first : (o : Option ℕ) → First test n 0 o → is_none o ≡ true
    by_first _ (missing g) = refl
    by_first _ (found v le lt yes' g) = let no' = h v (omega (arith, lt)) in absurd cc

some_true : (test : ℕ → Bool) (n j : ℕ) → j < n → test j ≡ true → is_none (first_true test n 0) ≡ false
some_true test n j lt h = by_first (first_true test n 0) (first_is test n 0)
  where
    by_first : (o : Option ℕ) → First test n 0 o → is_none o ≡ false
    by_first _ (missing g) = let no' = g j (omega arith) (omega (arith, lt)) in absurd cc
    by_first _ (found v le lt yes' g) = refl

-- ---- WHILELO

-- no lane is below the bound
pub while_none : (i limit n : ℕ) → limit ≤ i → is_none (first_true (both all_at (while_at i limit)) n 0) ≡ true
while_none i limit n le = none_true (both all_at (while_at i limit)) n (λ e lt. le-ltb (i + e) limit (omega (arith, le)))

pub while_some : (i limit n : ℕ) → 0 < n → i < limit → is_none (first_true (both all_at (while_at i limit)) n 0) ≡ false
while_some i limit n some lt = some_true (both all_at (while_at i limit)) n 0 some (lt-ltb (i + 0) limit (omega (arith, lt)))

-- ---- PTEST

module _ (vl : ℕ) (w : Width) (sized : IsLength vl) (p : List ℕ) (k : ℕ) (top : IsTop w k p) where
  pub top_none : k ≡ 0 → is_none (first_true (both (bit p) (bit p)) (lanes vl B) 0) ≡ true
  top_none none = none_true (both (bit p) (bit p)) (lanes vl B) (λ j lt. ap (λ b. b && b) (clear j lt))
    where
      last_false : (a b : Bool) → b ≡ false → (a && b) ≡ false
      last_false true b h = h
      last_false false b h = refl

      clear : (j : ℕ) → j < lanes vl B → bit p j ≡ false
      clear j lt = top j (let s = lanes_small vl B sized in omega (arith, lt, s)) ∙ last_false _ _ (le-ltb j (width_bytes w * k) (let e : width_bytes w * k ≡ width_bytes w * 0 = ap (λ k. width_bytes w * k) none in omega (arith, e)))

  pub top_some : 0 < k → is_none (first_true (both (bit p) (bit p)) (lanes vl B) 0) ≡ false
  top_some some = some_true (both (bit p) (bit p)) (lanes vl B) 0 (some_lanes vl B sized) (ap (λ b. b && b) set)
    where
      set : bit p 0 ≡ true
      set = top 0 (omega arith) ∙ ap₂ (λ a b. a && b) (eq-eqb (0 % width_bytes w) 0 (zero_mod w)) (lt-ltb 0 (width_bytes w * k) (let s = some-bytes w in pos (width_bytes w) k s some))
        where
          zero_mod : (w : Width) → 0 % width_bytes w ≡ 0
          zero_mod B = refl
          zero_mod H = refl
          zero_mod S = refl
          zero_mod D = refl

          pos : (a b : ℕ) → 0 < a → 0 < b → 0 < a * b
          pos a b x y = let up : a * 1 ≤ a * b = mul-le-mul_left a y in omega (arith, x, up)
