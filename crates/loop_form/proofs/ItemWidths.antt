-- The types of a loop's items are no wider than its lanes.
use Rattle.std.proofs.Common.{◌≡◌, ◌≤◌, Bool, true, false, cond, List, [], ◌∷◌, Option, Some, None, refl, ap, arith}
use Rattle.std.specs.Prelude.{nat_lt}
use Rattle.std.proofs.lemmas.Bool.{ltb-true, ltb-false}
use Rattle.guest_types.specs.declared.length.Width.{Width}
use Rattle.guest_types.specs.declared.length.Width.TheVariants.{B}
use Rattle.guest_types.specs.Length.{width_bits}
use Rattle.kernel_tree.specs.declared.ops.Ty.{Ty}
use Rattle.kernel_tree.specs.Plain.{Program}
use Rattle.kernel_tree.specs.Wrap.{bits_of}
use Rattle.loop_form.specs.Entries.{Entry, loop_entries}
use Rattle.loop_form.specs.Lanes.{type_width, wider, target_type, widest, lane_width_of}
use Rattle.kernel_tree.specs.declared.ops.Ty.TheVariants as ty

width-is : (t : Ty) → width_bits (type_width t) ≡ bits_of t
width-is ty.I8 = refl
width-is other = refl

wider-left : (w : Width) (o : Option Ty) → width_bits w ≤ width_bits (wider w o)
wider-left w None = omega arith
wider-left w (Some t) = by (nat_lt (width_bits w) (width_bits (type_width t))) refl
  where
    by : (b : Bool) → nat_lt (width_bits w) (width_bits (type_width t)) ≡ b → width_bits w ≤ width_bits (cond b (type_width t) w)
    by true e = let lt = ltb-true (width_bits w) (width_bits (type_width t)) e in omega (arith, lt)
    by false e = omega arith

wider-right : (w : Width) (t : Ty) → bits_of t ≤ width_bits (wider w (Some t))
wider-right w t = let is = width-is t in by (nat_lt (width_bits w) (width_bits (type_width t))) refl is
  where
    by : (b : Bool) → nat_lt (width_bits w) (width_bits (type_width t)) ≡ b → width_bits (type_width t) ≡ bits_of t → bits_of t ≤ width_bits (cond b (type_width t) w)
    by true e is = omega (arith, is)
    by false e is = let le = ltb-false (width_bits w) (width_bits (type_width t)) e in omega (arith, le, is)

widest-grows : (k : Program) (w : Width) (es : List Entry) → width_bits w ≤ width_bits (widest k w es)
unfolding widest
widest-grows k w [] = omega arith
widest-grows k w (e ∷ es) =
    let a = wider-left w e.type in
    let b = wider-left (wider w e.type) (target_type k e.content) in
    let c = widest-grows k (wider (wider w e.type) (target_type k e.content)) es in
    omega (arith, a, b, c)

-- the type of an item's value, and of what it stores or updates, where it has one
pub record IsWide (k : Program) (w : Width) (e : Entry) : Type 0 where
  pub value : (t : Ty) → e.type ≡ Some t → bits_of t ≤ width_bits w
  pub target : (t : Ty) → target_type k e.content ≡ Some t → bits_of t ≤ width_bits w

abbrev pub AreWide : Program → Width → List Entry → Type 0
AreWide k w [] = Unit {0}
AreWide k w (e ∷ es) = IsWide k w e × AreWide k w es

wide-in : (k : Program) (w v : Width) (es : List Entry) → width_bits (widest k w es) ≤ width_bits v → AreWide k v es
unfolding widest
wide-in k w v [] h = tt
wide-in k w v (e ∷ es) h =
    let b = wider-left (wider w e.type) (target_type k e.content) in
    let c = widest-grows k (wider (wider w e.type) (target_type k e.content)) es in (
      record {
        value = λ t is. let a : bits_of t ≤ width_bits (wider w e.type) = by_type e.type t is in omega (arith, a, b, c, h);
        target = λ t is. let a : bits_of t ≤ width_bits (wider (wider w e.type) (target_type k e.content)) = by_target (target_type k e.content) t is in omega (arith, a, c, h);
      },
      wide-in k (wider (wider w e.type) (target_type k e.content)) v es h,
    )
  where
    by_type : (o : Option Ty) (t : Ty) → o ≡ Some t → bits_of t ≤ width_bits (wider w o)
    by_type None t is = absurd cc
    by_type (Some u) t is = let same : u ≡ t = cc in let a = wider-right w u in let c = ap bits_of same in omega (arith, a, c)

    by_target : (o : Option Ty) (t : Ty) → o ≡ Some t → bits_of t ≤ width_bits (wider (wider w e.type) o)
    by_target None t is = absurd cc
    by_target (Some u) t is = let same : u ≡ t = cc in let a = wider-right (wider w e.type) u in let c = ap bits_of same in omega (arith, a, c)

pub loop_wide : (k : Program) → AreWide k (lane_width_of k) (loop_entries k)
loop_wide k = wide-in k B (lane_width_of k) (loop_entries k) (omega arith)
