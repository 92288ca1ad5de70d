-- The code of copies and extensions.
use Rattle.std.proofs.Common.{◌≡◌, ◌≢◌, ℕ, ◌<◌, ◌≤◌, ℤ, Bool, true, false, cond, List, [], ◌∷◌, refl, sym, ap, ◌∙◌, subst, arith}
use Rattle.std.specs.Prelude.{nat_eq, nat_le, if◌then◌else◌}
use Rattle.std.specs.Int.Bits.{or_self}
use Rattle.std.proofs.lemmas.Bool.{eqb-true, leb-true, leb-false}
use Rattle.guest_types.specs.declared.length.Width.{Width}
use Rattle.guest_types.specs.declared.length.Width.TheVariants.{B, H, S, D}
use Rattle.guest_types.specs.declared.operation.LaneOp.TheVariants as lane_ops
use Rattle.guest_types.specs.declared.operation.LaneUnary.{LaneUnary}
use Rattle.guest_types.specs.declared.operation.LaneUnary.TheVariants as unaries
use Rattle.guest_types.specs.Length.{width_bits, modulus}
use Rattle.guest_types.specs.Elements.{at, active}
use Rattle.guest_types.specs.Lanes.{unary, binary_at, merge_one_at}
use Rattle.kernel_tree.specs.declared.ops.Ty.{Ty}
use Rattle.kernel_tree.specs.declared.ops.Ty.TheVariants as ty
use Rattle.kernel_tree.specs.Wrap.{wrap, bits_of}
use Rattle.machine_model.specs.Machine.{State, z_at, p_at}
use Rattle.machine_model.specs.States.{IsState}
use Rattle.machine_model.specs.VectorEffects.{do_vector, put_lanes}
use Rattle.sve_code.specs.Table.{z_orr, sxtb, uxtb, sxth, uxth, sxtw, uxtw}
use Rattle.lane_emit.specs.Right.{ZRight}
use Rattle.lane_emit.specs.Stretch.{VectorInstruction, word, OnlyZ, Ready, MakesZ}
use Rattle.lane_emit.specs.LaneCode.{size_of, z_copy, extension, z_extend, z_settle}
use Rattle.lane_emit.proofs.Residues.{held}
use Rattle.lane_emit.proofs.ExtendedLanes.{held-wrap, sxtb-held, sxth-held, sxtw-held, uxtb-held, uxth-held, uxtw-held}
use Rattle.lane_emit.proofs.BitwiseLanes.{or-at}
use Rattle.lane_emit.proofs.Stretches.{width-size, only_same, small_at, small_made, done_z, renamed_z, first_z, lanes_z}

-- ---- copies

pub copy_then : {rest : List VectorInstruction} {s : State} (d a : ℕ) (w : Width) {n : ℕ} (u : ℕ → ℤ) {v : ℕ → ℤ} → Ready w n s → d < 32 → a < 32 → ZRight w n (z_at s a) u
    → ((t : State) → IsState t → OnlyZ d s t → ZRight w n (z_at t d) u → MakesZ rest t d w n v) → MakesZ (z_copy d a rest) s d w n v
copy_then {rest = rest} {s = s} d a w {n = n} u {v = v} r ld la right more = by (nat_eq d a) refl
  where
    by : (b : Bool) → nat_eq d a ≡ b → MakesZ (if b then rest else word z_orr (d ∷ a ∷ a ∷ []) ∷ rest) s d w n v
    by true e = more s r.is (only_same d s) (subst (λ k. ZRight w n (z_at s k) u) (sym (eqb-true d a e)) right)
    by false e =
        let z = z_at s a in
        let f = binary_at lane_ops.Or D z z in
        first_z w D f u r.is ld refl
        (λ e lt. or-at s.vl w z z e r.is.sized (small_at s a r.is la) (small_at s a r.is la) (small_made s.vl D f r.is.sized) (omega (arith, lt, r.few)) ∙ or_self (at w z e) ∙ right e lt)
        more

pub copy_z : {s : State} (d a : ℕ) (w : Width) {n : ℕ} (u : ℕ → ℤ) → Ready w n s → d < 32 → a < 32 → ZRight w n (z_at s a) u → MakesZ (z_copy d a []) s d w n u
copy_z d a w u r ld la right = copy_then d a w u r ld la right (λ t is only here. done_z is here)

-- ---- one operand under P1

merged_one : (op : LaneUnary) (w : Width) (p old z : List ℕ) (e : ℕ) (x y : ℤ) → active w p e ≡ true → at w z e ≡ held w x → unary op (modulus w) (held w x) ≡ held w y → merge_one_at op w p old z e ≡ held w y
merged_one op w p old z e x y on is law = ap (λ b. cond b (unary op (modulus w) (at w z e)) (at w old e)) on ∙ ap (unary op (modulus w)) is ∙ law

pub unary_then : {i : VectorInstruction} {rest : List VectorInstruction} {s : State} (op : LaneUnary) (d a : ℕ) (w : Width) {n : ℕ} (x u : ℕ → ℤ) {v : ℕ → ℤ} → Ready w n s → d < 32 → ZRight w n (z_at s a) x
    → do_vector i s ≡ put_lanes s d w (merge_one_at op w (p_at s 1) (z_at s d) (z_at s a)) → ((e : ℕ) → e < n → unary op (modulus w) (held w (x e)) ≡ held w (u e))
    → ((t : State) → IsState t → OnlyZ d s t → ZRight w n (z_at t d) u → MakesZ rest t d w n v) → MakesZ (i ∷ rest) s d w n v
unary_then {s = s} op d a w x u r ld right does law more =
    lanes_z w (merge_one_at op w (p_at s 1) (z_at s d) (z_at s a)) u r ld does
    (λ e lt. merged_one op w (p_at s 1) (z_at s d) (z_at s a) e (x e) (u e) (r.all e lt) (right e lt) (law e lt)) more

-- ---- extensions

abbrev ones : LaneUnary → Width → ℕ → ℕ → State → ℕ → ℕ
ones op w d a s = merge_one_at op w (p_at s 1) (z_at s d) (z_at s a)

module _ {s : State} (d a : ℕ) (w : Width) {n : ℕ} (u : ℕ → ℤ) (r : Ready w n s) (ld : d < 32) (right : ZRight w n (z_at s a) u) where
  one_word : (t : Ty) (op : LaneUnary) (i : VectorInstruction) → do_vector i s ≡ put_lanes s d w (ones op w d a s) → ((e : ℕ) → unary op (modulus w) (held w (u e)) ≡ held w (wrap t (u e))) → MakesZ (i ∷ []) s d w n (λ e. wrap t (u e))
  one_word t op i does law = unary_then op d a w u (λ e. wrap t (u e)) r ld right does (λ e lt. law e) (λ t is only here. done_z is here)

  sxtb_word : 8 ≤ width_bits w → MakesZ (word sxtb (d ∷ a ∷ 1 ∷ size_of w ∷ []) ∷ []) s d w n (λ e. wrap ty.I8 (u e))
  sxtb_word le = one_word ty.I8 unaries.SxtB (word sxtb (d ∷ a ∷ 1 ∷ size_of w ∷ [])) (ap (λ k. put_lanes s d k (ones unaries.SxtB k d a s)) (width-size w)) (λ e. sxtb-held w (u e) le)

  uxtb_word : 8 ≤ width_bits w → MakesZ (word uxtb (d ∷ a ∷ 1 ∷ size_of w ∷ []) ∷ []) s d w n (λ e. wrap ty.U8 (u e))
  uxtb_word le = one_word ty.U8 unaries.UxtB (word uxtb (d ∷ a ∷ 1 ∷ size_of w ∷ [])) (ap (λ k. put_lanes s d k (ones unaries.UxtB k d a s)) (width-size w)) (λ e. uxtb-held w (u e) le)

  sxth_word : 16 ≤ width_bits w → MakesZ (word sxth (d ∷ a ∷ 1 ∷ size_of w ∷ []) ∷ []) s d w n (λ e. wrap ty.I16 (u e))
  sxth_word le = one_word ty.I16 unaries.SxtH (word sxth (d ∷ a ∷ 1 ∷ size_of w ∷ [])) (ap (λ k. put_lanes s d k (ones unaries.SxtH k d a s)) (width-size w)) (λ e. sxth-held w (u e) le)

  uxth_word : 16 ≤ width_bits w → MakesZ (word uxth (d ∷ a ∷ 1 ∷ size_of w ∷ []) ∷ []) s d w n (λ e. wrap ty.U16 (u e))
  uxth_word le = one_word ty.U16 unaries.UxtH (word uxth (d ∷ a ∷ 1 ∷ size_of w ∷ [])) (ap (λ k. put_lanes s d k (ones unaries.UxtH k d a s)) (width-size w)) (λ e. uxth-held w (u e) le)

wide_only : (w : Width) → 32 ≤ width_bits w → 32 ≢ width_bits w → w ≡ D
wide_only B le ne = absurd (omega (arith, le))
wide_only H le ne = absurd (omega (arith, le))
wide_only S le ne = absurd (ne refl)
wide_only D le ne = refl

none_wider : (w : Width) → 64 ≤ width_bits w → 64 ≡ width_bits w
none_wider B le = absurd (omega (arith, le))
none_wider H le = absurd (omega (arith, le))
none_wider S le = absurd (omega (arith, le))
none_wider D le = refl

extension_z : {s : State} (t : Ty) (d a : ℕ) (w : Width) {n : ℕ} (u : ℕ → ℤ) → Ready w n s → d < 32 → a < 32 → ZRight w n (z_at s a) u → bits_of t ≤ width_bits w → bits_of t ≢ width_bits w → MakesZ (extension t w d a) s d w n (λ e. wrap t (u e))
extension_z ty.I8 d a w u r ld la right le ne = sxtb_word d a w u r ld right le
extension_z ty.U8 d a w u r ld la right le ne = uxtb_word d a w u r ld right le
extension_z ty.I16 d a w u r ld la right le ne = sxth_word d a w u r ld right le
extension_z ty.U16 d a w u r ld la right le ne = uxth_word d a w u r ld right le
extension_z {s = s} ty.I32 d a w {n = n} u r ld la right le ne =
    let e = wide_only w le ne in
    one_word d a w u r ld right ty.I32 unaries.SxtW (word sxtw (d ∷ a ∷ 1 ∷ [])) (ap (λ k. put_lanes s d k (ones unaries.SxtW k d a s)) (sym e)) (λ e. sxtw-held w (u e) le)
extension_z {s = s} ty.U32 d a w {n = n} u r ld la right le ne =
    let e = wide_only w le ne in
    one_word d a w u r ld right ty.U32 unaries.UxtW (word uxtw (d ∷ a ∷ 1 ∷ [])) (ap (λ k. put_lanes s d k (ones unaries.UxtW k d a s)) (sym e)) (λ e. uxtw-held w (u e) le)
extension_z ty.I64 d a w u r ld la right le ne = absurd (ne (none_wider w le))
extension_z ty.U64 d a w u r ld la right le ne = absurd (ne (none_wider w le))

-- a value wrapped to a type that is no wider than the lane
pub extend_z : {s : State} (t : Ty) (d a : ℕ) (w : Width) {n : ℕ} (u : ℕ → ℤ) → Ready w n s → d < 32 → a < 32 → ZRight w n (z_at s a) u → bits_of t ≤ width_bits w → MakesZ (z_extend w t d a) s d w n (λ e. wrap t (u e))
extend_z {s = s} t d a w {n = n} u r ld la right le = by (nat_le (width_bits w) (bits_of t)) refl
  where
    by : (b : Bool) → nat_le (width_bits w) (bits_of t) ≡ b → MakesZ (if b then z_copy d a [] else extension t w d a) s d w n (λ e. wrap t (u e))
    by true e = let same : bits_of t ≡ width_bits w = (let ge = leb-true (width_bits w) (bits_of t) e in omega (arith, ge, le)) in renamed_z (λ i lt. sym (held-wrap w t (u i) same)) (copy_z d a w u r ld la right)
    by false e = extension_z t d a w u r ld la right le (λ same. let lt = leb-false (width_bits w) (bits_of t) e in absurd (omega (arith, lt, same)))

-- the same in place; nothing where the lane holds the same of both
pub settle_z : {s : State} (b : Bool) (t : Ty) (d : ℕ) (w : Width) {n : ℕ} (u : ℕ → ℤ) → Ready w n s → d < 32 → ZRight w n (z_at s d) u → bits_of t ≤ width_bits w → (b ≡ false → (e : ℕ) → e < n → held w (u e) ≡ held w (wrap t (u e))) → MakesZ (z_settle b w t d) s d w n (λ e. wrap t (u e))
settle_z true t d w u r ld right le keeps = extend_z t d d w u r ld ld right le
settle_z false t d w u r ld right le keeps = renamed_z (keeps refl) (done_z r.is right)
