-- The code of an end.
use Rattle.std.proofs.Common.{◌≡◌, ℕ, zero, suc, ◌+◌, ◌*◌, ◌^◌, ◌<◌, ◌≤◌, ℤ, pos, Bool, true, false, cond, List, [], ◌∷◌, length, refl, sym, ap, ap₂, ◌∙◌, subst, arith, inl, inr, get_or-set_other}
use Rattle.std.proofs.lemmas.Int.{ints}
use Rattle.std.proofs.lemmas.Bool.{leb-true, leb-false}
use Rattle.std.specs.Prelude.{◌+ℤ◌, ◌*ℤ◌, ◌≤ℤ◌, ◌<ℤ◌, nat_le, int_lt, int_le, if◌then◌else◌}
use Rattle.std.specs.Int.{int_max}
use Rattle.guest_types.specs.declared.length.Width.{Width}
use Rattle.guest_types.specs.declared.length.Width.TheVariants.{B, H, S, D}
use Rattle.guest_types.specs.Length.{width_bytes}
use Rattle.machine_model.specs.Machine.{State, Went, x_at}
use Rattle.machine_model.specs.Arithmetic.{sum, shifted_word, holds}
use Rattle.a64_code.specs.Table.{add, csel}
use Rattle.machine_model.proofs.StateLaws.{x_or_sp-low, shifted_word-zero}
use Rattle.label_fix.specs.DraftRun.{DraftEntry, Laid, effect, word_of}
use Rattle.label_fix.proofs.StretchSteps.{Goes, put_goes, chain}
use Rattle.dependence.specs.declared.used.Extent.{Extent}
use Rattle.dependence.specs.declared.used.Extent.TheVariants.{Streams, Computed, Both}
use Rattle.dependence.specs.Apart.{highest, IsBased}
use Rattle.overlap_guard.specs.Guard.{IsReach, IsFitExtent, log_bytes, bytes_at, reach_code, greater_code, extent_code, left_over, is_point}
use Rattle.overlap_guard.proofs.Ends.{IsWithin, element_word, element-is, near-bytes, wider, distributed}
use Rattle.overlap_guard.proofs.Tests.{wrote, wrote_same, wrote_other, wrote_sized, tested, Same, same_on, same_wrote, same_tested}
use Rattle.overlap_guard.proofs.Shifts.{shifts}

-- the loop's bound in its register
pub record Entered (r n : ℕ) (s : State) : Type 0 where
  pub sized : length s.x ≡ 31
  pub bound : x_at s r ≡ n

pub entered_same : {r n : ℕ} {s t : State} → r ≤ 7 → Same s t → Entered r n s → Entered r n t
entered_same {r = r} le k e = record { sized = k.sized ∙ e.sized; bound = k.others r (omega arith) ∙ e.bound }

pub element_does : (s : State) (p b r n : ℕ) (w : Width) → x_at s p ≡ b → x_at s r ≡ n → effect (word_of add (26 ∷ p ∷ log_bytes w ∷ r ∷ 0 ∷ [])) s ≡ Went (wrote s 26 (element_word w b n))
element_does s p b r n w e f = ap₂ (λ b n. Went (wrote s 26 (element_word w b n))) e f

-- ---- the end of a reach

sum_low : (b c : ℕ) → b < 2 ^ 48 → c < 2 ^ 20 → sum b c ≡ b + c
sum_low b c h k = omega (arith, h, k)

-- X26, or X27
abbrev scratch : Bool → ℕ
scratch false = 26
scratch true = 27

reach_256 : (d : Bool) (w : Width) (s : State) (p b : ℕ) → p ≤ 7 → x_at s p ≡ b → effect (bytes_at (scratch d) p (width_bytes w * 256)) s ≡ Went (wrote s (scratch d) (sum b (width_bytes w * 256)))
reach_256 false B s p b lp e = ap (λ b. Went (wrote s 26 (sum b 256))) (x_or_sp-low s p (omega (arith, lp)) ∙ e)
reach_256 false H s p b lp e = ap (λ b. Went (wrote s 26 (sum b 512))) (x_or_sp-low s p (omega (arith, lp)) ∙ e)
reach_256 false S s p b lp e = ap (λ b. Went (wrote s 26 (sum b 1024))) (x_or_sp-low s p (omega (arith, lp)) ∙ e)
reach_256 false D s p b lp e = ap (λ b. Went (wrote s 26 (sum b 2048))) (x_or_sp-low s p (omega (arith, lp)) ∙ e)
reach_256 true B s p b lp e = ap (λ b. Went (wrote s 27 (sum b 256))) (x_or_sp-low s p (omega (arith, lp)) ∙ e)
reach_256 true H s p b lp e = ap (λ b. Went (wrote s 27 (sum b 512))) (x_or_sp-low s p (omega (arith, lp)) ∙ e)
reach_256 true S s p b lp e = ap (λ b. Went (wrote s 27 (sum b 1024))) (x_or_sp-low s p (omega (arith, lp)) ∙ e)
reach_256 true D s p b lp e = ap (λ b. Went (wrote s 27 (sum b 2048))) (x_or_sp-low s p (omega (arith, lp)) ∙ e)

reach_65536 : (d : Bool) (w : Width) (s : State) (p b : ℕ) → p ≤ 7 → x_at s p ≡ b → effect (bytes_at (scratch d) p (width_bytes w * 65536)) s ≡ Went (wrote s (scratch d) (sum b (width_bytes w * 65536)))
reach_65536 false B s p b lp e = ap (λ b. Went (wrote s 26 (sum b 65536))) (x_or_sp-low s p (omega (arith, lp)) ∙ e)
reach_65536 false H s p b lp e = ap (λ b. Went (wrote s 26 (sum b 131072))) (x_or_sp-low s p (omega (arith, lp)) ∙ e)
reach_65536 false S s p b lp e = ap (λ b. Went (wrote s 26 (sum b 262144))) (x_or_sp-low s p (omega (arith, lp)) ∙ e)
reach_65536 false D s p b lp e = ap (λ b. Went (wrote s 26 (sum b 524288))) (x_or_sp-low s p (omega (arith, lp)) ∙ e)
reach_65536 true B s p b lp e = ap (λ b. Went (wrote s 27 (sum b 65536))) (x_or_sp-low s p (omega (arith, lp)) ∙ e)
reach_65536 true H s p b lp e = ap (λ b. Went (wrote s 27 (sum b 131072))) (x_or_sp-low s p (omega (arith, lp)) ∙ e)
reach_65536 true S s p b lp e = ap (λ b. Went (wrote s 27 (sum b 262144))) (x_or_sp-low s p (omega (arith, lp)) ∙ e)
reach_65536 true D s p b lp e = ap (λ b. Went (wrote s 27 (sum b 524288))) (x_or_sp-low s p (omega (arith, lp)) ∙ e)

few_bytes : (w : Width) (r : ℕ) → r ≤ 65536 → width_bytes w * r < 2 ^ 20
few_bytes B r h = omega arith
few_bytes other r h = omega arith

pub few_reach : (r : ℕ) → IsReach r → r ≤ 65536
few_reach r (inl e) = omega (arith, e)
few_reach r (inr e) = omega (arith, e)

some_reach : (r : ℕ) → IsReach r → 256 ≤ r
some_reach r (inl e) = omega (arith, e)
some_reach r (inr e) = omega (arith, e)

reach_words : (d : Bool) (s : State) (p b : ℕ) (w : Width) (r : ℕ) → p ≤ 7 → x_at s p ≡ b → IsReach r → effect (bytes_at (scratch d) p (width_bytes w * r)) s ≡ Went (wrote s (scratch d) (sum b (width_bytes w * r)))
reach_words d s p b w r lp e (inl f) = subst (λ r. effect (bytes_at (scratch d) p (width_bytes w * r)) s ≡ Went (wrote s (scratch d) (sum b (width_bytes w * r)))) (sym f) (reach_256 d w s p b lp e)
reach_words d s p b w r lp e (inr f) = subst (λ r. effect (bytes_at (scratch d) p (width_bytes w * r)) s ≡ Went (wrote s (scratch d) (sum b (width_bytes w * r)))) (sym f) (reach_65536 d w s p b lp e)

reach_does : (d : Bool) (s : State) (p b : ℕ) (w : Width) (r : ℕ) → p ≤ 7 → x_at s p ≡ b → b < 2 ^ 48 → IsReach r → effect (bytes_at (scratch d) p (width_bytes w * r)) s ≡ Went (wrote s (scratch d) (b + width_bytes w * r))
reach_does d s p b w r lp e h reach = reach_words d s p b w r lp e reach ∙ ap (λ v. Went (wrote s (scratch d) v)) (sum_low b (width_bytes w * r) h (few_bytes w r (few_reach r reach)))

reach-is : (w : Width) (b r : ℕ) → pos b +ℤ pos (width_bytes w) *ℤ pos r ≡ pos (b + width_bytes w * r)
reach-is w b r = refl

-- ---- the greater of two ends

-- of two numbers, the greater has the greater end
hull_by : (w : Width) (t : Bool) (b a c : ℕ) (x y : ℤ) → int_lt y x ≡ t → pos b +ℤ pos (width_bytes w) *ℤ x ≡ pos a → pos b +ℤ pos (width_bytes w) *ℤ y ≡ pos c → c ≤ a → pos b +ℤ pos (width_bytes w) *ℤ cond t x y ≡ pos a
hull_by w true b a c x y q e f h = e
hull_by other false b a c x y q e f h = grind (arith, ints)

hull_other : (w : Width) (t : Bool) (b a c : ℕ) (x y : ℤ) → int_lt y x ≡ t → pos b +ℤ pos (width_bytes w) *ℤ x ≡ pos a → pos b +ℤ pos (width_bytes w) *ℤ y ≡ pos c → a < c → pos b +ℤ pos (width_bytes w) *ℤ cond t x y ≡ pos c
hull_other w false b a c x y q e f h = f
hull_other other true b a c x y q e f h = grind (arith, ints)

greater_is : (w : Width) (t : Bool) (b a c : ℕ) (x y : ℤ) → nat_le c a ≡ t → pos b +ℤ pos (width_bytes w) *ℤ x ≡ pos a → pos b +ℤ pos (width_bytes w) *ℤ y ≡ pos c → pos b +ℤ pos (width_bytes w) *ℤ int_max x y ≡ pos (if t then a else c)
greater_is w true b a c x y q e f = hull_by w (int_lt y x) b a c x y refl e f (leb-true c a q)
greater_is w false b a c x y q e f = hull_other w (int_lt y x) b a c x y refl e f (leb-false c a q)

chosen_low : (t : Bool) (a c k : ℕ) → a < k → c < k → (if t then a else c) < k
chosen_low true a c k h i = h
chosen_low false a c k h i = i

chosen_high : (t : Bool) (a c k : ℕ) → nat_le c a ≡ t → k ≤ c → k ≤ (if t then a else c)
chosen_high true a c k q h = let le = leb-true c a q in omega (arith, le, h)
chosen_high false a c k q h = h

-- X26 = the greater of X26 and X27
greater_goes : (L : Laid) (s : State) (rest : List DraftEntry) (a c : ℕ) → length s.x ≡ 31 → x_at s 26 ≡ a → x_at s 27 ≡ c → c < 2 ^ 64 → Goes L (greater_code rest) s rest (wrote (tested s 26 27) 26 (if nat_le c a then a else c)) 2
greater_goes L s rest a c z e f h =
    let t = tested s 26 27 in
    let e2 : x_at t 26 ≡ a = get_or-set_other s.x 31 26 _ 0 (λ q. absurd (omega (arith, q))) ∙ e in
    let f2 : x_at t 27 ≡ c = get_or-set_other s.x 31 27 _ 0 (λ q. absurd (omega (arith, q))) ∙ f in
    let flag : holds 2 t.flags ≡ nat_le c a = ap₂ (λ x y. nat_le (shifted_word 0 y 0) x) e f ∙ ap (λ y. nat_le y a) (shifted_word-zero c h) in
    let chosen : effect (word_of csel (26 ∷ 26 ∷ 2 ∷ 27 ∷ [])) t ≡ Went (wrote t 26 (if nat_le c a then a else c)) = ap (λ b. Went (wrote t 26 (if b then x_at t 26 else x_at t 27))) flag ∙ ap₂ (λ x y. Went (wrote t 26 (if nat_le c a then x else y))) e2 f2 in
    chain 2 (omega arith) (put_goes refl) (put_goes chosen)

-- ---- ends

-- how many words an end takes
abbrev pub words_end : Extent → ℕ
words_end (Streams g) = 1
words_end (Computed r) = 1
words_end (Both g r) = 6

-- the address at which elements end, but for what is left over, in X26
pub record EndsAt (L : Laid) (c e : List DraftEntry) (s : State) (z over : ℤ) (most : ℕ) : Type 0 where
  pub end : State
  pub goes : Goes L c s e end most
  pub same : Same s end
  pub word : ℕ
  pub held : x_at end 26 ≡ word
  pub high : 2 ^ 16 ≤ word
  pub low : word < 2 ^ 53
  pub is : z ≡ pos word +ℤ over

plain : (x : ℕ) → pos x ≡ pos x +ℤ pos 0
plain x = omega (arith, ints)

module _ (L : Laid) (r n : ℕ) (reg : r ≤ 7) (few : n < 2 ^ 40) where
  pub extent_runs : (s : State) (rest : List DraftEntry) (p b : ℕ) (w : Width) (least : ℤ) (e : Extent) → Entered r n s → p ≤ 7 → IsBased b → x_at s p ≡ b → IsFitExtent least e → EndsAt L (extent_code r p w e rest) rest s (pos b +ℤ pos (width_bytes w) *ℤ highest n e) (left_over w e) (words_end e)
  extent_runs s rest p b w least (Streams g) ent lp based hp fit =
      let v = element_word w b n in
      let a = element-is w b n few based.0 based.1 in
      record {
        end = wrote s 26 v;
        goes = put_goes (element_does s p b r n w hp ent.bound);
        same = same_wrote s 26 v (omega arith);
        word = v;
        held = wrote_same s 26 v (let z = ent.sized in omega (arith, z));
        high = a.high;
        low = (let l = a.low in omega (arith, l));
        is = distributed w b n g ∙ ap (λ z. z +ℤ pos (width_bytes w) *ℤ g) a.is;
      }
  extent_runs s rest p b w least (Computed q) ent lp based hp fit =
      let v = b + width_bytes w * q in
      let few = few_bytes w q (few_reach q fit.0) in
      record {
        end = wrote s 26 v;
        goes = put_goes (reach_does false s p b w q lp hp based.1 fit.0);
        same = same_wrote s 26 v (omega arith);
        word = v;
        held = wrote_same s 26 v (let z = ent.sized in omega (arith, z));
        high = (let lo = based.0 in omega (arith, lo));
        low = (let hi = based.1 in omega (arith, hi, few));
        is = reach-is w b q ∙ plain v;
      }
  extent_runs s rest p b w least (Both g q) ent lp based hp fit =
      let v1 = element_word w b n in
      let addr = element-is w b n few based.0 based.1 in
      let s1 = wrote s 26 v1 in
      let k1 = same_wrote s 26 v1 (omega arith) in
      let z1 : length s1.x ≡ 31 = wrote_sized s 26 v1 ∙ ent.sized in
      let near = near-bytes w g fit.0 in
      let moved = shifts L s1 (reach_code 27 p w q (greater_code rest)) (pos (width_bytes w) *ℤ g) v1 z1 (wrote_same s 26 v1 (let z = ent.sized in omega (arith, z))) addr.high (let l = addr.low in omega (arith, l)) (wider (pos (width_bytes w) *ℤ g) near) in
      let a = moved.word in
      let s2 = moved.leaves.end in
      let k2 = same_on k1 moved.leaves.same in
      let z2 : length s2.x ≡ 31 = k2.sized ∙ ent.sized in
      let c = b + width_bytes w * q in
      let bytes = few_bytes w q (few_reach q fit.1) in
      let s3 = wrote s2 27 c in
      let k3 = same_on k2 (same_wrote s2 27 c (omega arith)) in
      let z3 : length s3.x ≡ 31 = k3.sized ∙ ent.sized in
      let e27 : x_at s3 27 ≡ c = wrote_same s2 27 c (omega (arith, z2)) in
      let e26 : x_at s3 26 ≡ a = wrote_other s2 27 c 26 (λ e. absurd (omega (arith, e))) ∙ moved.leaves.held in
      let s5 = tested s3 26 27 in
      let z5 : length s5.x ≡ 31 = (same_tested s3 26 27).sized ∙ z3 in
      let v = if nat_le c a then a else c in
      let one : pos b +ℤ pos (width_bytes w) *ℤ (pos n +ℤ g) ≡ pos a = distributed w b n g ∙ ap (λ z. z +ℤ pos (width_bytes w) *ℤ g) addr.is ∙ moved.is in
      let small : a < 2 ^ 53 = upper v1 a (pos (width_bytes w) *ℤ g) moved.is addr.low near in
      record {
        end = wrote s5 26 v;
        goes = chain 6 (omega arith) (put_goes (element_does s p b r n w hp ent.bound)) (chain 5 (omega arith) moved.leaves.goes (chain 3 (omega arith) (put_goes (reach_does true s2 p b w q lp (k2.others p (omega (arith, lp)) ∙ hp) based.1 fit.1)) (greater_goes L s3 rest a c z3 e26 e27 (let hi = based.1 in omega (arith, hi, bytes)))));
        same = same_on k3 (same_on (same_tested s3 26 27) (same_wrote s5 26 v (omega arith)));
        word = v;
        held = wrote_same s5 26 v (omega (arith, z5));
        high = chosen_high (nat_le c a) a c (2 ^ 16) refl (let lo = based.0 in omega (arith, lo));
        low = chosen_low (nat_le c a) a c (2 ^ 53) small (let hi = based.1 in omega (arith, hi, bytes));
        is = greater_is w (nat_le c a) b a c (pos n +ℤ g) (pos q) refl one (reach-is w b q) ∙ plain v;
      }
    where
      upper : (x y : ℕ) (k : ℤ) → pos x +ℤ k ≡ pos y → x < 2 ^ 52 → IsWithin 8192 k → y < 2 ^ 53
      upper x y k e h near = let hi = near.1 in omega (arith, ints)

-- ---- where there is an element

above_by : (t : Bool) (x y least : ℤ) → int_lt y x ≡ t → least <ℤ y → least <ℤ cond t x y
above_by true x y least q h = grind (arith, ints)
above_by false x y least q h = h

not_low : (n : ℕ) (least g : ℤ) → least ≤ℤ g → (n ≡ 0 → int_le g least ≡ false) → least <ℤ (pos n +ℤ g)
not_low zero least g le h = over (h refl)
  where
    over : int_le g least ≡ false → least <ℤ (pos 0 +ℤ g)
    over q = grind (arith, ints)
not_low (suc n) least g le h = omega (arith, ints)

-- there is one where there is an iteration, or more elements than one in each, or a reach
pub some_element : (n : ℕ) (least : ℤ) (e : Extent) → IsFitExtent least e → (n ≡ 0 → is_point least e ≡ false) → least <ℤ highest n e
some_element n least (Streams g) fit h = not_low n least g fit.1 h
some_element n least (Computed r) fit h = let some = some_reach r fit.0 in let at = fit.1 in omega (arith, ints)
some_element n least (Both g r) fit h = above_by (int_lt (pos r) (pos n +ℤ g)) (pos n +ℤ g) (pos r) least refl (let some = some_reach r fit.1 in let at = fit.2 in omega (arith, ints))

-- and none elsewhere
pub no_element : (n : ℕ) (least : ℤ) (e : Extent) → n ≡ 0 → is_point least e ≡ true → highest n e ≤ℤ least
no_element n least (Streams g) z q = grind (arith, ints)
no_element n least (Computed r) z q = absurd cc
no_element n least (Both g r) z q = absurd cc
