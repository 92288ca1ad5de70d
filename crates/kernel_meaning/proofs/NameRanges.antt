-- Names with values of their types: one that is looked up, further ones, one that changes, and the first of them.
use Rattle.std.proofs.Common.{◌≡◌, ℕ, suc, Bool, true, false, cond, List, [], ◌∷◌, ◌++◌, length, take, Option, Some, None, refl, sym, ap, ◌∙◌, subst}
use Rattle.std.specs.Prelude.{ℤ, option_map, option_and_then, bytes_eq}
use Rattle.std.specs.List.{find}
use Rattle.kernel_tree.specs.declared.ops.Ty.{Ty}
use Rattle.kernel_tree.specs.declared.fault.Binding.{Binding}
use Rattle.kernel_tree.specs.declared.fault.Binding.TheVariants as binding
use Rattle.kernel_tree.specs.Typing.{Local, has_name, binding_of, value_type, accumulator_type}
use Rattle.kernel_meaning.specs.TypeValues.{IsOf}
use Rattle.kernel_meaning.specs.Eval.{Named, Names, is_named, value_at}
use Rattle.kernel_meaning.specs.Iterate.{named, assigned}
use Rattle.kernel_meaning.specs.Ranges.{TypeRange, AreRanged}

-- the type of a name as a value
abbrev pub found_type : List Local → List ℕ → Option Ty
found_type ls x = option_and_then value_type (option_map binding_of (find (has_name x) ls))

range_found_of_cons : (b : Bool) (l : Local) (n : Named) (ls : List Local) (ns : Names) (x : List ℕ) → has_name x l ≡ b → n.name ≡ l.name → TypeRange (value_type l.binding) n.value → TypeRange (found_type ls x) (value_at ns x) → TypeRange (found_type (l ∷ ls) x) (value_at (n ∷ ns) x)
range_found_of_cons true l n ls ns x e same here rest =
    let f : is_named x n ≡ true = ap (λ y. bytes_eq y x) same ∙ e in
    rw (e, f) here
range_found_of_cons false l n ls ns x e same here rest =
    let f : is_named x n ≡ false = ap (λ y. bytes_eq y x) same ∙ e in
    rw (e, f) rest

pub name_range : (ls : List Local) (ns : Names) (x : List ℕ) → AreRanged ls ns → TypeRange (found_type ls x) (value_at ns x)
name_range [] [] x h = tt
name_range [] (n ∷ ns) x h = absurd h
name_range (l ∷ ls) [] x h = absurd h
name_range (l ∷ ls) (n ∷ ns) x h = range_found_of_cons (has_name x l) l n ls ns x refl h.0 h.1 (name_range ls ns x h.2)

pub ranged_more : (ls : List Local) (ns : Names) (l : Local) (v : ℤ) → AreRanged ls ns → TypeRange (value_type l.binding) v → AreRanged (ls ++ l ∷ []) (ns ++ named l.name v ∷ [])
ranged_more [] [] l v k e = (refl, e, tt)
ranged_more [] (n ∷ ns) l v k e = absurd k
ranged_more (x ∷ ls) [] l v k e = absurd k
ranged_more (x ∷ ls) (n ∷ ns) l v k e = (k.0, k.1, ranged_more ls ns l v k.2 e)

ranged_step : (b : Bool) (T : Ty) (l : Local) (n : Named) (ls : List Local) (ns : Names) (x : List ℕ) (z : ℤ) → has_name x l ≡ b → IsOf T z → AreRanged (l ∷ ls) (n ∷ ns) → option_and_then value_type (option_map binding_of (find (has_name x) (l ∷ ls))) ≡ Some T → (option_and_then value_type (option_map binding_of (find (has_name x) ls)) ≡ Some T → AreRanged ls (assigned x z ns)) → AreRanged (l ∷ ls) (assigned x z (n ∷ ns))
ranged_step true T l n ls ns x z e h r is rest =
    let f : is_named x n ≡ true = ap (λ y. bytes_eq y x) r.0 ∙ e in
    let t : value_type l.binding ≡ Some T = sym (ap (λ c. option_and_then value_type (option_map binding_of (cond c (Some l) (find (has_name x) ls)))) e) ∙ is in
    subst (λ c. AreRanged (l ∷ ls) (cond c (named n.name z ∷ ns) (n ∷ assigned x z ns))) (sym f) (r.0, subst (λ o. TypeRange o z) (sym t) h, r.2)
ranged_step false T l n ls ns x z e h r is rest =
    let f : is_named x n ≡ false = ap (λ y. bytes_eq y x) r.0 ∙ e in
    let t = sym (ap (λ c. option_and_then value_type (option_map binding_of (cond c (Some l) (find (has_name x) ls)))) e) ∙ is in
    subst (λ c. AreRanged (l ∷ ls) (cond c (named n.name z ∷ ns) (n ∷ assigned x z ns))) (sym f) (r.0, r.1, rest t)

pub ranged_assigned : (T : Ty) (ls : List Local) (ns : Names) (x : List ℕ) (z : ℤ) → IsOf T z → AreRanged ls ns → option_and_then value_type (option_map binding_of (find (has_name x) ls)) ≡ Some T → AreRanged ls (assigned x z ns)
ranged_assigned T [] [] x z h r is = tt
ranged_assigned T [] (n ∷ ns) x z h r is = absurd r
ranged_assigned T (l ∷ ls) [] x z h r is = absurd r
ranged_assigned T (l ∷ ls) (n ∷ ns) x z h r is = ranged_step (has_name x l) T l n ls ns x z refl h r is (ranged_assigned T ls ns x z h r.2)

pub acc_value : (T : Ty) (o : Option Binding) → option_and_then accumulator_type o ≡ Some T → option_and_then value_type o ≡ Some T
acc_value T None e = absurd cc
acc_value T (Some (binding.Scalar t)) e = absurd cc
acc_value T (Some (binding.Array t)) e = absurd cc
acc_value T (Some (binding.Accumulator t)) e = e
acc_value T (Some (binding.Value t)) e = absurd cc
acc_value T (Some binding.Index) e = absurd cc

pub ranged_length : (ls : List Local) (ns : Names) → AreRanged ls ns → length ns ≡ length ls
ranged_length [] [] h = refl
ranged_length [] (n ∷ ns) h = absurd h
ranged_length (x ∷ ls) [] h = absurd h
ranged_length (x ∷ ls) (n ∷ ns) h = ap suc (ranged_length ls ns h.2)

pub ranged_cut : (ls more : List Local) (ns : Names) → AreRanged (ls ++ more) ns → AreRanged ls (take (length ls) ns)
ranged_cut [] more ns h = tt
ranged_cut (x ∷ ls) more [] h = absurd h
ranged_cut (x ∷ ls) more (n ∷ ns) h = (h.0, h.1, ranged_cut ls more ns h.2)
