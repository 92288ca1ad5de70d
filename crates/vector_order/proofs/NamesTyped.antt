-- The values of names that have a reach by their types, and those of computed indexes.
use Rattle.std.proofs.Common.{◌≡◌, ℕ, ◌^◌, ◌<◌, ◌≤◌, Bool, true, false, cond, List, [], ◌∷◌, ◌++◌, Option, Some, None, Result, Ok, Err, refl, sym, ap, ◌∙◌, subst, arith}
use Rattle.std.proofs.lemmas.Bool.{and_parts, leb-true}
use Rattle.std.proofs.Math.Nat.{mod-eq_of_lt}
use Rattle.std.proofs.Math.Pow.{pow_mono}
use Rattle.std.specs.Prelude.{ℤ, pos, negsuc, not, nat_le, bytes_eq, option_map, option_and_then}
use Rattle.guest_types.specs.declared.memory.AccessFault.{AccessFault}
use Rattle.guest_types.specs.Memory.{Memory, loaded}
use Rattle.kernel_tree.specs.declared.ops.Ty.{Ty}
use Rattle.kernel_tree.specs.declared.ops.Ty.TheVariants as ty
use Rattle.kernel_tree.specs.Plain.{Term, Literal, Variable, Element, Unary, Operation, Shift, Conversion, Choice, Comparison, Both, Either, Not, Program}
use Rattle.kernel_tree.specs.Wrap.{wrap, residue, bits_of, is_signed, byte_count}
use Rattle.kernel_tree.specs.Typing.{Scope, Local, lookup, own, first, has_name, value_type, element_type, index_type}
use Rattle.kernel_tree.proofs.Names.{bytes_eq-told}
use Rattle.kernel_meaning.specs.TypeValues.{IsOf}
use Rattle.kernel_meaning.specs.Ranges.{TypeRange, AreRanged}
use Rattle.kernel_meaning.specs.Eval.{Named, Names, is_named, value_at, read_value, read_element, address, on_both, chosen, value, holds}
use Rattle.kernel_meaning.specs.Iterate.{named, assigned}
use Rattle.kernel_meaning.proofs.NameRanges.{found_type}
use Rattle.kernel_meaning.proofs.TypeRanges.{in_bits, residue-below}
use Rattle.kernel_meaning.proofs.ValueRanges.{IsTyped}
use Rattle.loop_form.specs.Reaches.{is_widened, reach_of_type}
use Rattle.vector_order.specs.Operands.{index_value}
use Rattle.loop_form.specs.LoopItems.{index_source}
use Rattle.vector_order.specs.Order.{is_accumulator, Steady}
use Rattle.vector_order.proofs.ReadyTerms.{Ready, Sourced, IsWanted}

-- an index with a reach is a number below it
abbrev pub InReach : Option ℕ → ℤ → Type 0
InReach None z = Unit {0}
InReach (Some n) z = (x : ℕ) × (z ≡ pos x) × (x < n)

pub index_kept : (reach : Option ℕ) (z : ℤ) → InReach reach z → index_value reach z ≡ z
index_kept None z h = refl
index_kept (Some n) z h = ap (index_value (Some n)) h.1 ∙ ap pos (mod-eq_of_lt h.2) ∙ sym h.1

-- a value of a type, where that has a reach
abbrev pub Narrow : Option Ty → ℤ → Type 0
Narrow o z = InReach (reach_of_type o) z

pub narrow_of : (T : Ty) (z : ℤ) → IsOf T z → Narrow (Some T) z
narrow_of ty.U8 (pos n) h = let f = in_bits ty.U8 (pos n) h in (n, refl, f)
narrow_of ty.U8 (negsuc n) h = absurd (in_bits ty.U8 (negsuc n) h)
narrow_of ty.U16 (pos n) h = let f = in_bits ty.U16 (pos n) h in (n, refl, f)
narrow_of ty.U16 (negsuc n) h = absurd (in_bits ty.U16 (negsuc n) h)
narrow_of other z h = tt

narrow_range : (o : Option Ty) (z : ℤ) → TypeRange o z → Narrow o z
narrow_range None z h = tt
narrow_range (Some T) z h = narrow_of T z h

narrow_wrap : (T : Ty) (z : ℤ) → Narrow (Some T) (wrap T z)
narrow_wrap ty.U8 z = (residue 8 z, refl, residue-below 8 z (omega arith))
narrow_wrap ty.U16 z = (residue 16 z, refl, residue-below 16 z (omega arith))
narrow_wrap other z = tt

-- ---- names

module _ (is_acc : List ℕ → Bool) where
  -- the names are those that are visible, and each but an accumulator has a value of its type, where that has a reach
  abbrev pub Typed : List Local → Names → Type 0
  Typed [] [] = Unit {0}
  Typed [] (n ∷ ns) = ⊥
  Typed (x ∷ xs) [] = ⊥
  Typed (x ∷ xs) (n ∷ ns) = (n.name ≡ x.name) × (is_acc x.name ≡ false → Narrow (value_type x.binding) n.value) × Typed xs ns

  pub typed_ranged : (xs : List Local) (ns : Names) → AreRanged xs ns → Typed xs ns
  typed_ranged [] [] h = tt
  typed_ranged [] (n ∷ ns) h = absurd h
  typed_ranged (x ∷ xs) [] h = absurd h
  typed_ranged (x ∷ xs) (n ∷ ns) h = (h.0, (λ a. narrow_range (value_type x.binding) n.value h.1), typed_ranged xs ns h.2)

  narrow_found_of_cons : (b : Bool) (l : Local) (n : Named) (ls : List Local) (ns : Names) (x : List ℕ) → has_name x l ≡ b → n.name ≡ l.name → (b ≡ true → Narrow (value_type l.binding) n.value) → Narrow (found_type ls x) (value_at ns x) → Narrow (found_type (l ∷ ls) x) (value_at (n ∷ ns) x)
  narrow_found_of_cons true l n ls ns x e same here rest =
      let f : is_named x n ≡ true = ap (λ y. bytes_eq y x) same ∙ e in
      rw (e, f) (here refl)
  narrow_found_of_cons false l n ls ns x e same here rest =
      let f : is_named x n ≡ false = ap (λ y. bytes_eq y x) same ∙ e in
      rw (e, f) rest

  pub typed_found : (ls : List Local) (ns : Names) (x : List ℕ) → is_acc x ≡ false → Typed ls ns → Narrow (found_type ls x) (value_at ns x)
  typed_found [] [] x free h = tt
  typed_found [] (n ∷ ns) x free h = absurd h
  typed_found (l ∷ ls) [] x free h = absurd h
  typed_found (l ∷ ls) (n ∷ ns) x free h = narrow_found_of_cons (has_name x l) l n ls ns x refl h.0 (λ e. h.1 (ap is_acc (bytes_eq-told l.name x e) ∙ free)) (typed_found ls ns x free h.2)

  pub typed_more : (ls : List Local) (ns : Names) (l : Local) (v : ℤ) → Typed ls ns → Narrow (value_type l.binding) v → Typed (ls ++ l ∷ []) (ns ++ named l.name v ∷ [])
  typed_more [] [] l v k e = (refl, (λ a. e), tt)
  typed_more [] (n ∷ ns) l v k e = absurd k
  typed_more (x ∷ ls) [] l v k e = absurd k
  typed_more (x ∷ ls) (n ∷ ns) l v k e = (k.0, k.1, typed_more ls ns l v k.2 e)

  pub typed_assigned : (ls : List Local) (ns : Names) (x : List ℕ) (v : ℤ) → is_acc x ≡ true → Typed ls ns → Typed ls (assigned x v ns)
  typed_assigned [] [] x v a h = tt
  typed_assigned [] (n ∷ ns) x v a h = absurd h
  typed_assigned (l ∷ ls) [] x v a h = absurd h
  typed_assigned (l ∷ ls) (n ∷ ns) x v a h = by_test (bytes_eq n.name x) refl (typed_assigned ls ns x v a h.2)
    where
      by_test : (t : Bool) → bytes_eq n.name x ≡ t → Typed ls (assigned x v ns) → Typed (l ∷ ls) (cond t (named n.name v ∷ ns) (n ∷ assigned x v ns))
      by_test true e rest = (h.0, (λ f. let no : false ≡ true = sym f ∙ ap is_acc (sym h.0 ∙ bytes_eq-told n.name x e) ∙ a in absurd cc), h.2)
      by_test false e rest = (h.0, h.1, rest)

  -- ---- values

  wrapped_range : (T : Ty) (z v : ℤ) → Some (wrap T z) ≡ Some v → Narrow (Some T) v
  wrapped_range T z v e = let f : wrap T z ≡ v = cc in subst (Narrow (Some T)) f (narrow_wrap T z)

  map_range : (T : Ty) (f : ℤ → ℤ) (o : Option ℤ) (v : ℤ) → option_map (λ z. wrap T (f z)) o ≡ Some v → Narrow (Some T) v
  map_range T f None v e = absurd cc
  map_range T f (Some z) v e = wrapped_range T (f z) v e

  both_range : (T : Ty) (f : ℤ → ℤ → ℤ) (o p : Option ℤ) (v : ℤ) → on_both (λ y z. wrap T (f y z)) o p ≡ Some v → Narrow (Some T) v
  both_range T f None p v e = absurd cc
  both_range T f (Some y) None v e = absurd cc
  both_range T f (Some y) (Some z) v e = wrapped_range T (f y z) v e

  loaded_range : (T : Ty) (r : Result ℕ AccessFault) (v : ℤ) → read_value T r ≡ Some v → Narrow (Some T) v
  loaded_range T (Ok n) v e = wrapped_range T (pos n) v e
  loaded_range T (Err f) v e = absurd cc

  read_range : (T : Ty) (t : Option Ty) (m : Memory) (base : ℤ) (o : Option ℤ) (v : ℤ) → t ≡ Some T → option_and_then (read_element t m base) o ≡ Some v → Narrow (Some T) v
  read_range T t m base None v e h = absurd cc
  read_range T t m base (Some x) v e h = loaded_range T (loaded m (address T base x) (byte_count T)) v (sym (ap (λ t. read_element t m base x) e) ∙ h)

  choose_range : (T : Ty) (c : Option Bool) (o p : Option ℤ) (v : ℤ) → ((y : ℤ) → o ≡ Some y → Narrow (Some T) y) → ((y : ℤ) → p ≡ Some y → Narrow (Some T) y) → chosen o p c ≡ Some v → Narrow (Some T) v
  choose_range T None o p v f g e = absurd cc
  choose_range T (Some c) None p v f g e = absurd cc
  choose_range T (Some c) (Some y) None v f g e = absurd cc
  choose_range T (Some true) (Some y) (Some z) v f g e = f v e
  choose_range T (Some false) (Some y) (Some z) v f g e = g v e

  pub value_narrow : (e : Term) (s : Scope) (T : Ty) (m : Memory) (ns : Names) (v : ℤ) → Ready is_acc s e → IsTyped s T e → Typed s.visible ns → value s (Some T) e m ns ≡ Some v → Narrow (Some T) v
  value_narrow (Literal n) s T m ns v r is h e = wrapped_range T n v e
  value_narrow (Variable x) s T m ns v r is h e =
      let f : value_at ns x ≡ v = cc in
      subst (Narrow (Some T)) f (subst (λ o. Narrow o (value_at ns x)) is (typed_found s.visible ns x r h))
  value_narrow (Element a i) s T m ns v r is h e = read_range T (option_and_then element_type (lookup s a)) m (value_at ns a) _ v is e
  value_narrow (Unary op x) s T m ns v r is h e = map_range T _ (value s (Some T) x m ns) v e
  value_narrow (Operation op x y) s T m ns v r is h e = both_range T _ (value s (Some T) x m ns) (value s (Some T) y m ns) v e
  value_narrow (Shift left x n) s T m ns v r is h e = map_range T _ (value s (Some T) x m ns) v e
  value_narrow (Conversion x t) s T m ns v r is h e = map_range T (λ z. z) (value s (own s x) x m ns) v (subst (λ u. option_map (wrap u) (value s (own s x) x m ns) ≡ Some v) (sym is) e)
  value_narrow (Choice c x y) s T m ns v r is h e =
      choose_range T (holds s c m ns) (value s (Some T) x m ns) (value s (Some T) y m ns) v (λ u q. value_narrow x s T m ns u r.1 is.0 h q) (λ u q. value_narrow y s T m ns u r.2 is.1 h q) e
  value_narrow (Comparison op x y) s T m ns v r is h e = absurd is
  value_narrow (Both x y) s T m ns v r is h e = absurd is
  value_narrow (Either x y) s T m ns v r is h e = absurd is
  value_narrow (Not x) s T m ns v r is h e = absurd is

  pub wanted_narrow : (e : Term) (s : Scope) (want : Option Ty) (T : Ty) (m : Memory) (ns : Names) (v : ℤ) → Ready is_acc s e → IsWanted s want e → Typed s.visible ns → want ≡ Some T → value s want e m ns ≡ Some v → Narrow (Some T) v
  wanted_narrow e s want T m ns v r is h q f = value_narrow e s T m ns v r (is T q) h (sym (ap (λ w. value s w e m ns) q) ∙ f)

  -- ---- computed indexes

  typed_reach : (want : Option Ty) (e : Term) (s : Scope) (m : Memory) (ns : Names) (v : ℤ) → Ready is_acc s e → IsWanted s want e → Typed s.visible ns → value s want e m ns ≡ Some v → Narrow want v
  typed_reach want e s m ns v r is h f = by want refl
    where
      by : (o : Option Ty) → want ≡ o → Narrow o v
      by None q = tt
      by (Some T) q = wanted_narrow e s want T m ns v r is h q f

  first_some : (o p : Option Ty) (T : Ty) → o ≡ Some T → first o p ≡ o
  first_some None p T e = absurd cc
  first_some (Some U) p T e = refl

  -- a cast that leaves each value as it is: from an unsigned type to one that is no narrower
  record Widening (o : Option Ty) (t : Ty) : Type 0 where
    from : Ty
    is : o ≡ Some from
    up : bits_of from ≤ bits_of t
    plain : is_signed t ≡ false

  not_true : (b : Bool) → not b ≡ true → b ≡ false
  not_true true e = absurd cc
  not_true false e = refl

  widening : (o : Option Ty) (t : Ty) → is_widened o t ≡ true → Widening o t
  widening None t e = absurd cc
  widening (Some u) t e =
      let a = and_parts (not (is_signed u)) _ e in
      let b = and_parts (not (is_signed t)) (nat_le (bits_of u) (bits_of t)) a.1 in
      record { from = u; is = refl; up = leb-true (bits_of u) (bits_of t) b.1; plain = not_true (is_signed t) b.0 }

  reach_bits : (T : Ty) (n : ℕ) → reach_of_type (Some T) ≡ Some n → n ≡ 2 ^ bits_of T
  reach_bits ty.U8 n e = let f : 256 ≡ n = cc in sym f
  reach_bits ty.U16 n e = let f : 65536 ≡ n = cc in sym f
  reach_bits ty.I8 n e = absurd cc
  reach_bits ty.I16 n e = absurd cc
  reach_bits ty.I32 n e = absurd cc
  reach_bits ty.U32 n e = absurd cc
  reach_bits ty.I64 n e = absurd cc
  reach_bits ty.U64 n e = absurd cc

  plain_bits : (o : Option Ty) (T : Ty) (n : ℕ) → o ≡ Some T → reach_of_type o ≡ Some n → n ≤ 2 ^ bits_of T
  plain_bits o T n e f = let g : n ≡ 2 ^ bits_of T = reach_bits T n (sym (ap reach_of_type e) ∙ f) in omega (arith, g)

  -- the reach of an index is no more than its own type has values
  source_bits : (e : Term) (s : Scope) (T : Ty) (n : ℕ) → own s e ≡ Some T → reach_of_type (index_source s e) ≡ Some n → n ≤ 2 ^ bits_of T
  source_bits (Conversion x t) s T n o f = by (is_widened (own s x) t) refl f (λ U is g. source_bits x s U n is g)
    where
      same : t ≡ T
      same = cc

      by : (b : Bool) → is_widened (own s x) t ≡ b → reach_of_type (cond b (index_source s x) (Some t)) ≡ Some n → ((U : Ty) → own s x ≡ Some U → reach_of_type (index_source s x) ≡ Some n → n ≤ 2 ^ bits_of U) → n ≤ 2 ^ bits_of T
      by true q g ih =
          let w = widening (own s x) t q in
          let less = ih w.from w.is g in
          let more : 2 ^ bits_of w.from ≤ 2 ^ bits_of t = pow_mono w.up in
          subst (λ u. n ≤ 2 ^ bits_of u) same (omega (arith, less, more))
      by false q g ih = plain_bits (Some t) T n (ap Some same) g
  source_bits (Literal c) s T n o f = plain_bits (index_type s (Literal c)) T n (first_some (own s (Literal c)) (Some ty.U64) T o ∙ o) f
  source_bits (Variable x) s T n o f = plain_bits (index_type s (Variable x)) T n (first_some (own s (Variable x)) (Some ty.U64) T o ∙ o) f
  source_bits (Element a i) s T n o f = plain_bits (index_type s (Element a i)) T n (first_some (own s (Element a i)) (Some ty.U64) T o ∙ o) f
  source_bits (Unary op x) s T n o f = plain_bits (index_type s (Unary op x)) T n (first_some (own s (Unary op x)) (Some ty.U64) T o ∙ o) f
  source_bits (Operation op x y) s T n o f = plain_bits (index_type s (Operation op x y)) T n (first_some (own s (Operation op x y)) (Some ty.U64) T o ∙ o) f
  source_bits (Shift left x c) s T n o f = plain_bits (index_type s (Shift left x c)) T n (first_some (own s (Shift left x c)) (Some ty.U64) T o ∙ o) f
  source_bits (Choice c x y) s T n o f = plain_bits (index_type s (Choice c x y)) T n (first_some (own s (Choice c x y)) (Some ty.U64) T o ∙ o) f
  source_bits (Comparison op x y) s T n o f = absurd cc
  source_bits (Both x y) s T n o f = absurd cc
  source_bits (Either x y) s T n o f = absurd cc
  source_bits (Not x) s T n o f = absurd cc

  -- a number that a type has is kept by wrapping to it
  wrap_kept : (t : Ty) (x : ℕ) → is_signed t ≡ false → x < 2 ^ bits_of t → wrap t (pos x) ≡ pos x
  wrap_kept ty.U8 x e h = ap pos (mod-eq_of_lt h)
  wrap_kept ty.U16 x e h = ap pos (mod-eq_of_lt h)
  wrap_kept ty.U32 x e h = ap pos (mod-eq_of_lt h)
  wrap_kept ty.U64 x e h = ap pos (mod-eq_of_lt h)
  wrap_kept ty.I8 x e h = absurd cc
  wrap_kept ty.I16 x e h = absurd cc
  wrap_kept ty.I32 x e h = absurd cc
  wrap_kept ty.I64 x e h = absurd cc

  cast_reach : (o : Option ℕ) (t : Ty) (u : ℤ) → is_signed t ≡ false → ((n : ℕ) → o ≡ Some n → n ≤ 2 ^ bits_of t) → InReach o u → InReach o (wrap t u)
  cast_reach None t u e f h = tt
  cast_reach (Some n) t u e f h = let le = f n refl in let lt = h.2 in (h.0, ap (wrap t) h.1 ∙ wrap_kept t h.0 e (omega (arith, le, lt)), h.2)

  mapped : (f : ℤ → ℤ) (o : Option ℤ) (v : ℤ) → option_map f o ≡ Some v → (u : ℤ) × (o ≡ Some u) × (f u ≡ v)
  mapped f None v e = absurd cc
  mapped f (Some u) v e = (u, refl, cc)

  -- the value of a computed index is below its reach
  pub source_reach : (e : Term) (s : Scope) (want : Option Ty) (m : Memory) (ns : Names) (v : ℤ) → want ≡ index_type s e → Ready is_acc s e → Sourced s e → Typed s.visible ns → value s want e m ns ≡ Some v → InReach (reach_of_type (index_source s e)) v
  source_reach (Conversion x t) s want m ns v w r is h f = by (is_widened (own s x) t) refl (λ u q e. source_reach x s (own s x) m ns u q r is h e)
    where
      made : (u : ℤ) × (value s (own s x) x m ns ≡ Some u) × (wrap t u ≡ v)
      made = mapped (wrap t) (value s (own s x) x m ns) v f

      by : (b : Bool) → is_widened (own s x) t ≡ b → ((u : ℤ) → own s x ≡ index_type s x → value s (own s x) x m ns ≡ Some u → InReach (reach_of_type (index_source s x)) u) → InReach (reach_of_type (cond b (index_source s x) (Some t))) v
      by true q ih =
          let wide = widening (own s x) t q in
          let inner = ih made.0 (sym (first_some (own s x) (Some ty.U64) wide.from wide.is)) made.1 in
          let up : 2 ^ bits_of wide.from ≤ 2 ^ bits_of t = pow_mono wide.up in
          subst (InReach (reach_of_type (index_source s x))) made.2
          (cast_reach (reach_of_type (index_source s x)) t made.0 wide.plain (λ n g. let less = source_bits x s wide.from n wide.is g in omega (arith, less, up)) inner)
      by false q ih = subst (InReach (reach_of_type (Some t))) made.2 (narrow_wrap t made.0)
  source_reach (Literal c) s want m ns v w r is h f = typed_reach (index_type s (Literal c)) (Literal c) s m ns v r is h (sym (ap (λ w. value s w (Literal c) m ns) w) ∙ f)
  source_reach (Variable x) s want m ns v w r is h f = typed_reach (index_type s (Variable x)) (Variable x) s m ns v r is h (sym (ap (λ w. value s w (Variable x) m ns) w) ∙ f)
  source_reach (Element a i) s want m ns v w r is h f = typed_reach (index_type s (Element a i)) (Element a i) s m ns v r is h (sym (ap (λ w. value s w (Element a i) m ns) w) ∙ f)
  source_reach (Unary op x) s want m ns v w r is h f = typed_reach (index_type s (Unary op x)) (Unary op x) s m ns v r is h (sym (ap (λ w. value s w (Unary op x) m ns) w) ∙ f)
  source_reach (Operation op x y) s want m ns v w r is h f = typed_reach (index_type s (Operation op x y)) (Operation op x y) s m ns v r is h (sym (ap (λ w. value s w (Operation op x y) m ns) w) ∙ f)
  source_reach (Shift left x c) s want m ns v w r is h f = typed_reach (index_type s (Shift left x c)) (Shift left x c) s m ns v r is h (sym (ap (λ w. value s w (Shift left x c) m ns) w) ∙ f)
  source_reach (Choice c x y) s want m ns v w r is h f = typed_reach (index_type s (Choice c x y)) (Choice c x y) s m ns v r is h (sym (ap (λ w. value s w (Choice c x y) m ns) w) ∙ f)
  source_reach (Comparison op x y) s want m ns v w r is h f = typed_reach (index_type s (Comparison op x y)) (Comparison op x y) s m ns v r is h (sym (ap (λ w. value s w (Comparison op x y) m ns) w) ∙ f)
  source_reach (Both x y) s want m ns v w r is h f = typed_reach (index_type s (Both x y)) (Both x y) s m ns v r is h (sym (ap (λ w. value s w (Both x y) m ns) w) ∙ f)
  source_reach (Either x y) s want m ns v w r is h f = typed_reach (index_type s (Either x y)) (Either x y) s m ns v r is h (sym (ap (λ w. value s w (Either x y) m ns) w) ∙ f)
  source_reach (Not x) s want m ns v w r is h f = typed_reach (index_type s (Not x)) (Not x) s m ns v r is h (sym (ap (λ w. value s w (Not x) m ns) w) ∙ f)

-- names that are steady: accumulators alone may have other values
pub typed_steady : (k : Program) (xs : List Local) (ms ns : Names) → Typed (is_accumulator k) xs ms → Steady k ms ns → Typed (is_accumulator k) xs ns
typed_steady k [] [] [] h st = tt
typed_steady k [] [] (n ∷ ns) h st = absurd st
typed_steady k [] (m ∷ ms) ns h st = absurd h
typed_steady k (x ∷ xs) [] ns h st = absurd h
typed_steady k (x ∷ xs) (m ∷ ms) [] h st = absurd st
typed_steady k (x ∷ xs) (m ∷ ms) (n ∷ ns) h st =
    (sym st.0 ∙ h.0, (λ a. subst (Narrow (value_type x.binding)) (sym (st.1 (ap (is_accumulator k) h.0 ∙ a))) (h.1 a)), typed_steady k xs ms ns h.2 st.2)
