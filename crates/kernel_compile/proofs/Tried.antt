-- Classes of registers that are tried one after another.
use Rattle.std.proofs.Common.{◌≡◌, ◌<◌, ◌≤◌, ℕ, Bool, true, false, cond, List, [], ◌∷◌, Some, None, Result, Ok, Err, refl, sym, ap, ◌∙◌, subst, arith}
use Rattle.std.specs.Prelude.{IsErrAnd, IfErr, nat_lt}
use Rattle.std.proofs.lemmas.Bool.{lt-ltb, le-ltb}
use Rattle.kernel_tree.specs.Plain.{Program}
use Rattle.reg_assign.specs.declared.interval.RegClass.{RegClass}
use Rattle.reg_assign.specs.declared.interval.RegClass.TheVariants.{Z, P, X}
use Rattle.loop_form.specs.declared.need.Needs.{Needs}
use Rattle.loop_form.specs.Needs.{need, needs_of}
use Rattle.loop_form.specs.Registers.{counted_registers}
use Rattle.dependence.specs.declared.reason.Class.{Class}
use Rattle.dependence.specs.declared.reason.Class.TheVariants.{Vector, Scalar}
use Rattle.dependence.specs.Bound.{is_vector}
use Rattle.dependence.specs.Classes.{class_of}
use Rattle.promises.specs.declared.fault.CompileFault.{CompileFault}
use Rattle.promises.specs.declared.fault.CompileFault.TheVariants.{TooManyLive, Memory}
use Rattle.promises.specs.Refusals.{tried, need_in, exceeds, exceeded, too_many, IsRefusalIn, IsRefusal}

none_exceeded : (needs : Needs) (class : RegClass) (classes : List RegClass) → exceeded needs (class ∷ []) ≡ None → exceeded needs classes ≡ None → exceeded needs (class ∷ classes) ≡ None
none_exceeded needs class classes first rest = go (exceeds needs class) first
  where
    go : (over : Bool) → cond over (Some class) None ≡ None → cond over (Some class) (exceeded needs classes) ≡ None
    go true e = absurd cc
    go false e = rest

-- the first class is refused
refused_first : (needs : Needs) (class : RegClass) (classes : List RegClass) (fault : CompileFault) → IsRefusalIn needs (class ∷ []) fault → IsRefusalIn needs (class ∷ classes) fault
refused_first needs class classes (TooManyLive c n) h = (go (exceeds needs class) h.0, h.1)
  where
    go : (over : Bool) → cond over (Some class) None ≡ Some c → cond over (Some class) (exceeded needs classes) ≡ Some c
    go true e = e
    go false e = absurd cc
refused_first needs class classes Memory h = tt

-- the first class has registers enough, and one of the others is refused
refused_later : (needs : Needs) (class : RegClass) (classes : List RegClass) (fault : CompileFault) → exceeded needs (class ∷ []) ≡ None → IsRefusalIn needs classes fault → IsRefusalIn needs (class ∷ classes) fault
refused_later needs class classes (TooManyLive c n) none h = (go (exceeds needs class) none ∙ h.0, h.1)
  where
    go : (over : Bool) → cond over (Some class) None ≡ None → cond over (Some class) (exceeded needs classes) ≡ exceeded needs classes
    go true e = absurd cc
    go false e = refl
refused_later needs class classes Memory none h = tt

-- ---- one class

need_is : (k : Program) (class : RegClass) → need_in (needs_of k) class ≡ need k class
need_is k Z = refl
need_is k P = refl
need_is k X = refl

pub some_registers : (class : RegClass) → 1 ≤ counted_registers class
some_registers Z = omega arith
some_registers P = omega arith
some_registers X = omega arith

-- intervals of a class that need no more registers than there are
pub enough_in : (k : Program) (class : RegClass) (n wanted : ℕ) → n ≡ counted_registers class → wanted ≡ need k class → wanted ≤ n → exceeded (needs_of k) (class ∷ []) ≡ None
enough_in k class n wanted count is h =
    ap (λ over. cond over (Some class) None)
    (ap (nat_lt (counted_registers class)) (need_is k class) ∙ le-ltb (counted_registers class) (need k class) (omega (arith, count, is, h)))

pub refused_in : (k : Program) (class c : RegClass) (n wanted found : ℕ) → n ≡ counted_registers class → wanted ≡ need k class → c ≡ class → found ≡ wanted → n < found → IsRefusalIn (needs_of k) (class ∷ []) (TooManyLive c found)
refused_in k class c n wanted found count is same e more = (
  ap (λ over. cond over (Some class) None)
      (ap (nat_lt (counted_registers class)) (need_is k class) ∙ lt-ltb (counted_registers class) (need k class) (omega (arith, count, is, e, more)))
      ∙ ap (λ class. Some class) (sym same),
  e ∙ is ∙ sym (need_is k class) ∙ ap (need_in (needs_of k)) (sym same),
)

-- ---- a call that failed

pub on_fault : {T : Type 0} (Is : CompileFault → Type 0) (fault : CompileFault) (r : Result T CompileFault) → IsErrAnd r (λ e. e ≡ fault) → Is fault → IfErr r Is
on_fault Is fault (Ok x) is h = tt
on_fault Is fault (Err e) is h = subst Is (sym is) h

pub on_fault_too : {T : Type 0} (Is Becomes : CompileFault → Type 0) (r : Result T CompileFault) → ((fault : CompileFault) → Is fault → Becomes fault) → IfErr r Is → IfErr r Becomes
on_fault_too Is Becomes (Ok x) f h = tt
on_fault_too Is Becomes (Err e) f h = f e h

-- ---- of a kernel

tried_in_scalar : (o : Class) → is_vector o ≡ false → tried o ≡ X ∷ []
tried_in_scalar Vector e = absurd cc
tried_in_scalar (Scalar why) e = refl

pub scalar_enough : (k : Program) → is_vector (class_of k) ≡ false → exceeded (needs_of k) (X ∷ []) ≡ None → too_many k ≡ None
scalar_enough k is none = ap (exceeded (needs_of k)) (tried_in_scalar (class_of k) is) ∙ none

pub scalar_refused : (k : Program) (fault : CompileFault) → is_vector (class_of k) ≡ false → IsRefusalIn (needs_of k) (X ∷ []) fault → IsRefusal k fault
scalar_refused k fault is h = subst (λ cs. IsRefusalIn (needs_of k) cs fault) (sym (tried_in_scalar (class_of k) is)) h

pub vector_enough : (k : Program) → class_of k ≡ Vector → exceeded (needs_of k) (Z ∷ []) ≡ None → exceeded (needs_of k) (P ∷ []) ≡ None → exceeded (needs_of k) (X ∷ []) ≡ None → too_many k ≡ None
vector_enough k is z p x = ap (λ o. exceeded (needs_of k) (tried o)) is ∙ none_exceeded (needs_of k) Z (P ∷ X ∷ []) z (none_exceeded (needs_of k) P (X ∷ []) p x)

in_vector : (k : Program) (fault : CompileFault) → class_of k ≡ Vector → IsRefusalIn (needs_of k) (Z ∷ P ∷ X ∷ []) fault → IsRefusal k fault
in_vector k fault is h = subst (λ o. IsRefusalIn (needs_of k) (tried o) fault) (sym is) h

-- at the first class, at the second one, and at the third one
pub refused_at_z : (k : Program) (fault : CompileFault) → class_of k ≡ Vector → IsRefusalIn (needs_of k) (Z ∷ []) fault → IsRefusal k fault
refused_at_z k fault is h = in_vector k fault is (refused_first (needs_of k) Z (P ∷ X ∷ []) fault h)

pub refused_at_p : (k : Program) (fault : CompileFault) → class_of k ≡ Vector → exceeded (needs_of k) (Z ∷ []) ≡ None → IsRefusalIn (needs_of k) (P ∷ []) fault → IsRefusal k fault
refused_at_p k fault is z h = in_vector k fault is (refused_later (needs_of k) Z (P ∷ X ∷ []) fault z (refused_first (needs_of k) P (X ∷ []) fault h))

pub refused_at_x : (k : Program) (fault : CompileFault) → class_of k ≡ Vector → exceeded (needs_of k) (Z ∷ []) ≡ None → exceeded (needs_of k) (P ∷ []) ≡ None → IsRefusalIn (needs_of k) (X ∷ []) fault → IsRefusal k fault
refused_at_x k fault is z p h = in_vector k fault is (refused_later (needs_of k) Z (P ∷ X ∷ []) fault z (refused_later (needs_of k) P (X ∷ []) fault p h))
