-- The code of conditions: each is true exactly in the lanes of its mask in which it holds.
use Rattle.std.proofs.Common.{◌≡◌, ℕ, suc, ◌*◌, ◌<◌, ◌≤◌, ℤ, Bool, true, false, not, ◌&&◌, ◌||◌, [], ◌∷◌, refl, ap, ap₂, ◌∙◌, subst, arith, ltb, get_or-set_same, get_or-set_other}
use Rattle.std.specs.Prelude.{if◌then◌else◌}
use Rattle.std.proofs.lemmas.Bool.{ltb-true}
use Rattle.guest_types.specs.declared.length.Width.{Width}
use Rattle.guest_types.specs.declared.length.Width.TheVariants.{B}
use Rattle.guest_types.specs.declared.operation.LaneCompare.{LaneCompare}
use Rattle.guest_types.specs.declared.operation.LaneCompare.TheVariants as compares
use Rattle.guest_types.specs.declared.operation.PredOp.{PredOp}
use Rattle.guest_types.specs.declared.operation.PredOp.TheVariants as preds
use Rattle.guest_types.specs.Length.{IsLength, width_bits, width_bytes, modulus, lanes}
use Rattle.guest_types.specs.Elements.{at, active, predicate}
use Rattle.guest_types.specs.Lanes.{is_true, compare_at, logic_at, pred_bit}
use Rattle.guest_types.proofs.AtWidths.{active-predicate, bit-predicate, width_bytes-lanes, lanes-bound}
use Rattle.guest_types.proofs.Widths.{some-bytes}
use Rattle.guest_types.proofs.Predicates.{element_bit-bytes}
use Rattle.std.proofs.Math.Nat.{mul-suc, mul-le-mul_left}
use Rattle.kernel_tree.specs.declared.ops.Ty.{Ty}
use Rattle.kernel_tree.specs.declared.ops.CompareOp.{CompareOp}
use Rattle.kernel_tree.specs.declared.ops.CompareOp.TheVariants as compare
use Rattle.kernel_tree.specs.Wrap.{bits_of, is_signed}
use Rattle.kernel_meaning.specs.Operators.{compare_on}
use Rattle.machine_model.specs.Machine.{State, Step, z_at, p_at, with_p, with_flags, next}
use Rattle.machine_model.specs.States.{IsState}
use Rattle.machine_model.specs.VectorEffects.{do_vector, put_truths, put_tested}
use Rattle.machine_model.proofs.StateSteps.{truths_put, tested_put}
use Rattle.sve_code.specs.Table.{cmphs, cmphi, cmpge, cmpgt, cmpeq, cmpne}
use Rattle.lane_emit.specs.Right.{ZRight, PRight, within}
use Rattle.lane_emit.specs.Stretch.{VectorInstruction, and_then, do_all, MakesP}
use Rattle.lane_emit.specs.LaneCode.{compare_word, test_code, invert_code, same_code, any_code}
use Rattle.lane_emit.proofs.Ranges.{InBits}
use Rattle.lane_emit.proofs.Residues.{held}
use Rattle.lane_emit.proofs.Orders.{equal-held, unequal-held, gt-held, ge-held, hi-held, hs-held}
use Rattle.lane_emit.proofs.Stretches.{width-size}
use Rattle.lane_emit.specs.ItemCode.{AllOf}
use Rattle.lane_emit.proofs.Values.{in_lane}

-- ---- one word

-- by the elements of a comparison, which also sets the flags
tested_p : {i : VectorInstruction} {s : State} {d : ℕ} (w : Width) (mask f truth : ℕ → Bool) → IsState s → d < 16 → do_vector i s ≡ put_tested s d w mask f → ((e : ℕ) → e < lanes s.vl w → f e ≡ truth e) → MakesP (i ∷ []) s d w truth
tested_p {i = i} {s = s} {d = d} w mask f truth h lt does same =
    let bytes = predicate (width_bytes w) f (lanes s.vl w) in
    record {
      end = next (with_flags (with_p s d bytes) _);
      runs = ap (λ o. and_then o (do_all [])) does;
      is = tested_put s _ d w mask f h refl;
      only = record { memory = refl; x = refl; sp = refl; z = refl; p = λ n ne. get_or-set_other s.p d n bytes [] ne; ffr = refl; vl = refl; stops = refl };
      right = λ e el.
          ap (λ p. active w p e) (get_or-set_same s.p d bytes [] (omega (arith, h.p_count, lt)))
          ∙ active-predicate w f (lanes s.vl w) e el (let few = (lanes-bound s.vl w h.sized).1 in omega (arith, el, few)) ∙ same e el;
    }

-- an element's bit in a register made of bits
bit_made : (vl : ℕ) (w : Width) (f : ℕ → Bool) (e : ℕ) → IsLength vl → e < lanes vl w → active w (predicate 1 f (lanes vl B)) e ≡ f (width_bytes w * e)
bit_made vl w f e h lt =
    let few = (lanes-bound vl w h).1 in
    let bytes = width_bytes-lanes vl w h in
    let all = width_bytes-lanes vl B h in
    let last : suc e ≤ lanes vl w = lt in
    let up = mul-le-mul_left (width_bytes w) last in
    let inside : width_bytes w * e < lanes vl B = omega (arith, bytes, all, up, mul-suc (width_bytes w) e, some-bytes w) in
    bit-predicate 1 f (lanes vl B) (width_bytes w * e) (let most = (lanes-bound vl B h).1 in omega (arith, inside, most)) ∙ element_bit-bytes f (lanes vl B) (width_bytes w * e) inside

-- bit by bit
logic_p : {i : VectorInstruction} {s : State} {d : ℕ} (w : Width) (f truth : ℕ → Bool) → IsState s → d < 16 → do_vector i s ≡ put_truths s d B f → ((e : ℕ) → e < lanes s.vl w → f (width_bytes w * e) ≡ truth e) → MakesP (i ∷ []) s d w truth
logic_p {i = i} {s = s} {d = d} w f truth h lt does same =
    let bytes = predicate 1 f (lanes s.vl B) in
    record {
      end = next (with_p s d bytes);
      runs = ap (λ o. and_then o (do_all [])) does;
      is = truths_put s _ d B f h refl;
      only = record { memory = refl; x = refl; sp = refl; z = refl; p = λ n ne. get_or-set_other s.p d n bytes [] ne; ffr = refl; vl = refl; stops = refl };
      right = λ e el. ap (λ p. active w p e) (get_or-set_same s.p d bytes [] (omega (arith, h.p_count, lt))) ∙ bit_made s.vl w f e h.sized el ∙ same e el;
    }

-- ---- masks

-- a condition is looked at only in the lanes
under : (e n : ℕ) (on x y : Bool) → (e < n → x ≡ y) → (within n (λ i. on) e && x) ≡ (ltb e n && (on && y))
under e n on x y h = by (ltb e n) refl
  where
    inner : (on : Bool) → x ≡ y → (on && x) ≡ (on && y)
    inner on q = ap (λ b. on && b) q

    by : (b : Bool) → ltb e n ≡ b → ((b && on) && x) ≡ (b && (on && y))
    by true q = inner on (h (ltb-true e n q))
    by false q = refl

module _ {s : State} (w : Width) {n : ℕ} (h : IsState s) (d m : ℕ) (ld : d < 16) (on : ℕ → Bool) (mask : PRight w (lanes s.vl w) (p_at s m) (within n on)) where
  -- ---- logic

  predicate_masked_by : (op : PredOp) (a b : ℕ) (c : ℕ → Bool) → ((e : ℕ) → e < n → pred_bit op (active w (p_at s a) e) (active w (p_at s b) e) ≡ c e) → (e : ℕ) → e < lanes s.vl w → logic_at op (p_at s m) (p_at s a) (p_at s b) (width_bytes w * e) ≡ within n (λ e. on e && c e) e
  predicate_masked_by op a b c same e el =
      ap (λ t. t && pred_bit op (active w (p_at s a) e) (active w (p_at s b) e)) (mask e el)
      ∙ under e n (on e) (pred_bit op (active w (p_at s a) e) (active w (p_at s b) e)) (c e) (same e)

  pub same_p : (b : ℕ) (y : ℕ → Bool) → PRight w n (p_at s b) y → MakesP (same_code d m b) s d w (within n (λ e. on e && y e))
  same_p b y by_ =
      logic_p w (logic_at preds.And (p_at s m) (p_at s b) (p_at s b)) _ h ld refl
      (predicate_masked_by preds.And b b y (λ e lt. ap (λ t. t && t) (by_ e lt) ∙ twice (y e)))
    where
      twice : (b : Bool) → (b && b) ≡ b
      twice true = refl
      twice false = refl

  pub any_p : (a b : ℕ) (x y : ℕ → Bool) → PRight w n (p_at s a) x → PRight w n (p_at s b) y → MakesP (any_code d m a b) s d w (within n (λ e. on e && (x e || y e)))
  any_p a b x y ax by_ =
      logic_p w (logic_at preds.Orr (p_at s m) (p_at s a) (p_at s b)) _ h ld refl
      (predicate_masked_by preds.Orr a b (λ e. x e || y e) (λ e lt. ap₂ (λ s t. s || t) (ax e lt) (by_ e lt)))

  -- not c; the first operand is the mask itself
  pub invert_p : (c : ℕ) (x : ℕ → Bool) → PRight w n (p_at s c) x → MakesP (invert_code d m c) s d w (within n (λ e. on e && not (x e)))
  invert_p c x cx =
      logic_p w (logic_at preds.Bic (p_at s m) (p_at s m) (p_at s c)) _ h ld refl
      (λ e el. ap (λ t. t && (t && not (active w (p_at s c) e))) (mask e el) ∙ again (within n on e) (not (active w (p_at s c) e)) ∙ under e n (on e) (not (active w (p_at s c) e)) (not (x e)) (λ lt. ap not (cx e lt)))
    where
      again : (b t : Bool) → (b && (b && t)) ≡ (b && t)
      again true t = refl
      again false t = refl

  -- ---- comparisons

  compared : (op : LaneCompare) (i : VectorInstruction) (a b : ℕ) (x y : ℕ → ℤ) (c : ℕ → Bool) → do_vector i s ≡ put_tested s d w (active w (p_at s m)) (compare_at op w (p_at s m) (z_at s a) (z_at s b)) → ZRight w n (z_at s a) x → ZRight w n (z_at s b) y
      → ((e : ℕ) → e < n → is_true op (modulus w) (held w (x e)) (held w (y e)) ≡ c e) → MakesP (i ∷ []) s d w (within n (λ e. on e && c e))
  compared op i a b x y c does ax by_ law =
      tested_p w (active w (p_at s m)) (compare_at op w (p_at s m) (z_at s a) (z_at s b)) _ h ld does
      (λ e el. ap (λ t. t && is_true op (modulus w) (at w (z_at s a) e) (at w (z_at s b) e)) (mask e el)
      ∙ under e n (on e) (is_true op (modulus w) (at w (z_at s a) e) (at w (z_at s b) e)) (c e) (λ lt. ap₂ (is_true op (modulus w)) (ax e lt) (by_ e lt) ∙ law e lt))

  module _ (t : Ty) (wide : bits_of t ≤ width_bits w) (a b : ℕ) (x y : ℕ → ℤ) (ax : ZRight w n (z_at s a) x) (by_ : ZRight w n (z_at s b) y) (tx : AllOf t n x) (ty : AllOf t n y) where
    in_x : (sg : Bool) → is_signed t ≡ sg → (e : ℕ) → e < n → InBits sg (width_bits w) (x e)
    in_x sg q e lt = subst (λ b. InBits b (width_bits w) (x e)) q (in_lane t w (x e) wide (tx e lt))

    in_y : (sg : Bool) → is_signed t ≡ sg → (e : ℕ) → e < n → InBits sg (width_bits w) (y e)
    in_y sg q e lt = subst (λ b. InBits b (width_bits w) (y e)) q (in_lane t w (y e) wide (ty e lt))

    abbrev compare_does : LaneCompare → (a b : ℕ) → Width → Step
    compare_does op a b k = put_tested s d k (active k (p_at s m)) (compare_at op k (p_at s m) (z_at s a) (z_at s b))

    eq_p : MakesP (test_code w compare.Eq t d m a b) s d w (within n (λ e. on e && compare_on compare.Eq (x e) (y e)))
    eq_p = compared compares.Eq (compare_word w cmpeq d m a b) a b x y _ (ap (compare_does compares.Eq a b) (width-size w)) ax by_ (λ e lt. equal-held (is_signed t) w (x e) (y e) (in_x _ refl e lt) (in_y _ refl e lt))

    ne_p : MakesP (test_code w compare.Ne t d m a b) s d w (within n (λ e. on e && compare_on compare.Ne (x e) (y e)))
    ne_p = compared compares.Ne (compare_word w cmpne d m a b) a b x y _ (ap (compare_does compares.Ne a b) (width-size w)) ax by_ (λ e lt. unequal-held (is_signed t) w (x e) (y e) (in_x _ refl e lt) (in_y _ refl e lt))

    gt_p : MakesP (test_code w compare.Gt t d m a b) s d w (within n (λ e. on e && compare_on compare.Gt (x e) (y e)))
    gt_p = by (is_signed t) refl
      where
        by : (sg : Bool) → is_signed t ≡ sg → MakesP (compare_word w (if sg then cmpgt else cmphi) d m a b ∷ []) s d w (within n (λ e. on e && compare_on compare.Gt (x e) (y e)))
        by true q = compared compares.Gt (compare_word w cmpgt d m a b) a b x y _ (ap (compare_does compares.Gt a b) (width-size w)) ax by_ (λ e lt. gt-held w (x e) (y e) (in_x true q e lt) (in_y true q e lt))
        by false q = compared compares.Hi (compare_word w cmphi d m a b) a b x y _ (ap (compare_does compares.Hi a b) (width-size w)) ax by_ (λ e lt. hi-held w (x e) (y e) (in_x false q e lt) (in_y false q e lt))

    ge_p : MakesP (test_code w compare.Ge t d m a b) s d w (within n (λ e. on e && compare_on compare.Ge (x e) (y e)))
    ge_p = by (is_signed t) refl
      where
        by : (sg : Bool) → is_signed t ≡ sg → MakesP (compare_word w (if sg then cmpge else cmphs) d m a b ∷ []) s d w (within n (λ e. on e && compare_on compare.Ge (x e) (y e)))
        by true q = compared compares.Ge (compare_word w cmpge d m a b) a b x y _ (ap (compare_does compares.Ge a b) (width-size w)) ax by_ (λ e lt. ge-held w (x e) (y e) (in_x true q e lt) (in_y true q e lt))
        by false q = compared compares.Hs (compare_word w cmphs d m a b) a b x y _ (ap (compare_does compares.Hs a b) (width-size w)) ax by_ (λ e lt. hs-held w (x e) (y e) (in_x false q e lt) (in_y false q e lt))

  -- for < and <= the operands are exchanged
  pub test_p : (op : CompareOp) (t : Ty) → bits_of t ≤ width_bits w → (a b : ℕ) (x y : ℕ → ℤ) → ZRight w n (z_at s a) x → ZRight w n (z_at s b) y → AllOf t n x → AllOf t n y → MakesP (test_code w op t d m a b) s d w (within n (λ e. on e && compare_on op (x e) (y e)))
  test_p compare.Eq t wide a b x y ax by_ tx ty = eq_p t wide a b x y ax by_ tx ty
  test_p compare.Ne t wide a b x y ax by_ tx ty = ne_p t wide a b x y ax by_ tx ty
  test_p compare.Lt t wide a b x y ax by_ tx ty = gt_p t wide b a y x by_ ax ty tx
  test_p compare.Le t wide a b x y ax by_ tx ty = ge_p t wide b a y x by_ ax ty tx
  test_p compare.Gt t wide a b x y ax by_ tx ty = gt_p t wide a b x y ax by_ tx ty
  test_p compare.Ge t wide a b x y ax by_ tx ty = ge_p t wide a b x y ax by_ tx ty
