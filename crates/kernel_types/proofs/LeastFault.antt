-- The first of two lists of faults is the first of what comes first in each.
use Rattle.std.proofs.Common.{◌≡◌, ℕ, ◌+◌, ◌*◌, Bool, true, false, List, [], ◌∷◌, ◌++◌, Option, Some, None, refl, sym, ap, ap₂, ◌∙◌, arith, ltb}
use Rattle.std.proofs.lemmas.Bool.{ltb-true, ltb-false}
use Rattle.kernel_tree.specs.declared.fault.Found.{Found}
use Rattle.kernel_tree.specs.Typing.{sooner, is_before, least, order_of}

pub sooner-none : (o : Option Found) → sooner o None ≡ o
sooner-none None = refl
sooner-none (Some f) = refl

abbrev key : Found → ℕ
key f = 16 * f.item + order_of f.fault

pub sooner-assoc : (o p q : Option Found) → sooner (sooner o p) q ≡ sooner o (sooner p q)
sooner-assoc None p q = refl
sooner-assoc (Some f) None q = refl
sooner-assoc (Some f) (Some g) None = refl
sooner-assoc (Some f) (Some g) (Some h) = three (ltb (key g) (key f)) (ltb (key h) (key g)) (ltb (key h) (key f)) refl refl refl
  where
    three : (gf hg hf : Bool) → is_before g f ≡ gf → is_before h g ≡ hg → is_before h f ≡ hf → sooner (sooner (Some f) (Some g)) (Some h) ≡ sooner (Some f) (sooner (Some g) (Some h))
    three true true true p q r = rw (p, q, r) refl
    three true true false p q r = absurd (omega (arith, ltb-true (key g) (key f) p, ltb-true (key h) (key g) q, ltb-false (key h) (key f) r))
    three true false hf p q r = rw (p, q) (rw p refl)
    three false true hf p q r = rw (p, q) refl
    three false false true p q r = absurd (omega (arith, ltb-false (key g) (key f) p, ltb-false (key h) (key g) q, ltb-true (key h) (key f) r))
    three false false false p q r = rw (p, q, r) (rw p refl)

pub least-append : (xs ys : List Found) → least (xs ++ ys) ≡ sooner (least xs) (least ys)
least-append [] ys = refl
least-append (x ∷ xs) ys = ap (sooner (Some x)) (least-append xs ys) ∙ sym (sooner-assoc (Some x) (least xs) (least ys))

pub ruleset sooner_rules = (sooner-none, sooner-assoc, least-append)

-- the faults of a part, and then those at the item after it
pub part_and_item : (o p q : Option Found) (n m : ℕ) (fs gs : List Found) (at : ℕ → List Found) → n ≡ m → p ≡ sooner o (least fs) → fs ≡ gs → q ≡ sooner p (least (at n)) → q ≡ sooner o (least (gs ++ at m))
part_and_item o p q n m fs gs at d e h f =
    f
    ∙ ap₂ sooner (e ∙ ap (λ (xs : List Found). sooner o (least xs)) h) (ap (λ (k : ℕ). least (at k)) d)
    ∙ sooner-assoc o (least gs) (least (at m))
    ∙ ap (sooner o) (sym (least-append gs (at m)))

-- the faults of a part, or of two or three, and then those at the item after it
pub then_item : (o p q : Option Found) (fs gs : List Found) → p ≡ sooner o (least fs) → q ≡ least gs → sooner p q ≡ sooner o (least (fs ++ gs))
then_item o p q fs gs e f = ap₂ sooner e f ∙ sooner-assoc o (least fs) (least gs) ∙ ap (sooner o) (sym (least-append fs gs))

pub two_then_item : (o p q r : Option Found) (fs gs hs : List Found) → p ≡ sooner o (least fs) → q ≡ sooner p (least gs) → r ≡ least hs → sooner q r ≡ sooner o (least (fs ++ (gs ++ hs)))
two_then_item o p q r fs gs hs e f g = then_item p q r gs hs f g ∙ then_item o p (least (gs ++ hs)) fs (gs ++ hs) e refl

pub three_then_item : (o p q r s : Option Found) (fs gs hs is : List Found) → p ≡ sooner o (least fs) → q ≡ sooner p (least gs) → r ≡ sooner q (least hs) → s ≡ least is → sooner r s ≡ sooner o (least (fs ++ (gs ++ (hs ++ is))))
three_then_item o p q r s fs gs hs is e f g h = two_then_item p q r s gs hs is f g h ∙ then_item o p (least (gs ++ (hs ++ is))) fs (gs ++ (hs ++ is)) e refl

-- what is found at one item by two rules
pub both_rules : (p q : Option Found) (fs gs : List Found) → p ≡ least fs → q ≡ least gs → sooner p q ≡ least (fs ++ gs)
both_rules p q fs gs e f = ap₂ sooner e f ∙ sym (least-append fs gs)
