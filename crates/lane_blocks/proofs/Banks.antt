-- The vector registers as an array, of which one is written block by block.
use Rattle.std.proofs.Common.{◌≡◌, ◌≢◌, ℕ, ◌+◌, ◌-◌, ◌*◌, ◌/◌, ◌%◌, ◌<◌, ◌≤◌, List, [], ◌++◌, length, take, drop, refl, sym, ap, ◌∙◌, subst, arith, replicate, cond, inl, inr}
use Rattle.std.specs.Prelude.{slice_set}
use Rattle.std.proofs.lemmas.List.{drop-drop, drop_at, take-append-drop, drop-replicate, replicate-append-replicate, length-set, get_or-set_same, get_or-set_other, set-get_or, set-set}
use Rattle.std.proofs.lemmas.Bool.Decides.{eqb_tells}
use Rattle.guest_types.specs.declared.length.Width.{Width}
use Rattle.guest_types.specs.declared.register.ZReg.{ZReg}
use Rattle.guest_types.specs.Length.{IsLength, width_bytes, lanes}
use Rattle.guest_types.specs.Elements.{elements, register}
use Rattle.guest_types.proofs.Registers.{elements-ext}
use Rattle.lane_blocks.specs.Blocks.{block_lanes, block_of, with_block, cleared_above, cleared_half}
use Rattle.lane_blocks.specs.Banks.{bytes_at, with_elements, EndsAt}
use Rattle.lane_blocks.proofs.BlockSteps.{Begins, begins-none, begins-more, begins-cleared, written}

-- the first i blocks of register d are the elements f, and all else is as it was
pub record InBank (w : Width) (f : ℕ → ℕ) (d i : ℕ) (old now : List ZReg) : Type 0 where
  pub others : now ≡ slice_set old d (record { bytes = bytes_at now d })
  pub begins : Begins w f i (bytes_at now d)
  pub rest : drop (32 * i) (bytes_at now d) ≡ drop (32 * i) (bytes_at old d)

pub bank-none : (w : Width) (f : ℕ → ℕ) (d : ℕ) (zs : List ZReg) → InBank w f d 0 zs zs
bank-none w f d zs = record {
  others = sym (set-get_or zs d (record { bytes = [] }));
  begins = begins-none w f (bytes_at zs d);
  rest = refl;
}

other-at : (w : Width) (f : ℕ → ℕ) (d i : ℕ) (old now : List ZReg) (n : ℕ) → InBank w f d i old now → n ≢ d → bytes_at now n ≡ bytes_at old n
other-at w f d i old now n h apart =
    ap (λ zs. bytes_at zs n) h.others ∙ ap (λ (z : ZReg). z.bytes) (get_or-set_other old d n (record { bytes = bytes_at now d }) (record { bytes = [] }) apart)

-- block i of each register is as it was
pub block-kept : (w : Width) (f : ℕ → ℕ) (d i : ℕ) (old now : List ZReg) (n : ℕ) → InBank w f d i old now → block_of (bytes_at now n) i ≡ block_of (bytes_at old n) i
block-kept w f d i old now n h =
    elim (eqb_tells n d) [
      | inl t ↦ subst (λ m. block_of (bytes_at now m) i ≡ block_of (bytes_at old m) i) (sym t.1) (ap (take 32) h.rest)
      | inr o ↦ ap (λ z. block_of z i) (other-at w f d i old now n h o.1)
    ]

pub bank-more : (w : Width) (f g : ℕ → ℕ) (d i : ℕ) (old was now : List ZReg) (block : List ℕ) → d < length old → InBank w f d i old was → now ≡ slice_set was d (record { bytes = with_block (bytes_at was d) i block }) → block ≡ elements (width_bytes w) g (block_lanes w)
    → ((e : ℕ) → e < block_lanes w → g e ≡ f (block_lanes w * i + e)) → InBank w f d (i + 1) old now
bank-more w f g d i old was now block inside h put is each =
    let z = bytes_at was d in
    let k = width_bytes w in
    let q = block_lanes w in
    let made : ZReg = record { bytes = with_block z i block } in
    let long : length was ≡ length old = ap length h.others ∙ length-set old d (record { bytes = z }) in
    let there : bytes_at now d ≡ with_block z i block =
    ap (λ zs. bytes_at zs d) put ∙ ap (λ (r : ZReg). r.bytes) (get_or-set_same was d made (record { bytes = [] }) (omega (arith, long))) in
    let parts = written w f i z (bytes_at now d) block h.begins there (is ∙ elements-ext k g (λ e. f (q * i + e)) q each) in
    let next : 32 * i + 32 ≡ 32 * (i + 1) = omega arith in
    record {
      others = put ∙ ap (λ zs. slice_set zs d made) h.others ∙ set-set old d (record { bytes = z }) made ∙ ap (λ b. slice_set old d (record { bytes = b })) (sym there);
      begins = begins-more w f g i z (bytes_at now d) block h.begins there is each;
      rest = ap (drop (32 * (i + 1))) parts.0 ∙ drop_at (elements k f (q * (i + 1))) (drop 32 (drop (32 * i) z)) (32 * (i + 1)) parts.1
          ∙ ap (drop 32) h.rest ∙ drop-drop 32 (32 * i) (bytes_at old d) ∙ ap (λ j. drop j (bytes_at old d)) next;
    }

-- ---- past the length

zeros-joined : (m : ℕ) → 16 ≤ m → replicate {A = ℕ} 16 0 ++ drop 16 (replicate {A = ℕ} m 0) ≡ replicate {A = ℕ} m 0
zeros-joined m some =
    ap (λ l. replicate {A = ℕ} 16 0 ++ l) (drop-replicate {X = ℕ} 16 m 0) ∙ replicate-append-replicate {A = ℕ} 16 (m - 16) 0 ∙ ap (λ n. replicate {A = ℕ} n 0) (let e : 16 + (m - 16) ≡ m = omega arith in e)

half-above : (z old : List ℕ) (n i : ℕ) → n % 16 ≡ 0 → n ≤ 256 → i ≡ (n + 31) / 32 → drop (32 * i) z ≡ drop (32 * i) old → drop n old ≡ replicate (256 - n) 0 → cleared_half z n ≡ cleared_above z n
half-above z old n i halves inside last rest past =
    elim (eqb_tells (n % 32) 0) [
      | inl t ↦
          let all : 32 * i ≡ n = omega (arith, t.1) in
          ap (λ b. cond b z (take n z ++ (replicate 16 0 ++ drop 16 (drop n z)))) t.0
          ∙ sym (take-append-drop n z)
          ∙ ap (λ l. take n z ++ l) (ap (λ j. drop j z) (sym all) ∙ rest ∙ ap (λ j. drop j old) all ∙ past)
      | inr o ↦
          let all : n + 16 ≡ 32 * i = omega (arith, o.1) in
          ap (λ b. cond b z (take n z ++ (replicate 16 0 ++ drop 16 (drop n z)))) o.0
          ∙ ap (λ l. take n z ++ (replicate 16 0 ++ l)) (drop-drop 16 n z ∙ ap (λ j. drop j z) all ∙ rest ∙ ap (λ j. drop j old) (sym all) ∙ sym (drop-drop 16 n old) ∙ ap (drop 16) past)
          ∙ ap (λ l. take n z ++ l) (zeros-joined (256 - n) (omega (arith, o.1)))
    ]

-- the blocks of the length, where the register was zero past it
pub bank-end : (w : Width) (f : ℕ → ℕ) (vl d i : ℕ) (old was now : List ZReg) → IsLength vl → InBank w f d i old was → i ≡ (vl / 8 + 31) / 32 → EndsAt vl (bytes_at old d)
    → now ≡ slice_set was d (record { bytes = cleared_half (bytes_at was d) (vl / 8) }) → now ≡ with_elements old d w f (lanes vl w)
bank-end w f vl d i old was now valid h last ends put =
    let z = bytes_at was d in
    let halves : vl / 8 % 16 ≡ 0 = omega (arith, valid.0) in
    let made : cleared_half z (vl / 8) ≡ register (width_bytes w) f (lanes vl w) =
    half-above z (bytes_at old d) (vl / 8) i halves (omega (arith, valid.2)) last h.rest ends
    ∙ begins-cleared w f vl i z (cleared_above z (vl / 8)) valid h.begins (omega (arith, last)) refl in
    put ∙ ap (λ zs. slice_set zs d (record { bytes = cleared_half z (vl / 8) })) h.others ∙ set-set old d (record { bytes = z }) (record { bytes = cleared_half z (vl / 8) })
    ∙ ap (λ b. slice_set old d (record { bytes = b })) made
