-- Lists one of which goes on from another, as the visible names do over statements.
use Rattle.kernel_scope.proofs.Growth.{grows_by_action, grows_by_block}
use Rattle.std.proofs.Common.{◌≡◌, ℕ, zero, suc, ◌≤◌, List, [], ◌∷◌, ◌++◌, length, take, refl, sym, ap, ◌∙◌, arith}
use Rattle.std.proofs.lemmas.List.{append-nil, append_assoc, length-append}
use Rattle.kernel_tree.specs.Plain.{Action, Block}
use Rattle.kernel_tree.specs.Typing.{Scope, after_action, after_block}

pub record Extends {A : Type 0} (xs ys : List A) : Type 0 where
  pub more : List A
  pub is : ys ≡ xs ++ more

pub extends_none : {A : Type 0} (xs : List A) → Extends xs xs
extends_none xs = record { more = []; is = sym (append-nil xs) }

pub extends_one : {A : Type 0} (xs : List A) (x : A) → Extends xs (xs ++ x ∷ [])
extends_one xs x = record { more = x ∷ []; is = refl }

pub extends_on : {A : Type 0} {xs ys zs : List A} → Extends xs ys → Extends ys zs → Extends xs zs
extends_on {xs = xs} a b = record { more = a.more ++ b.more; is = b.is ∙ ap (λ l. l ++ b.more) a.is ∙ append_assoc xs a.more b.more }

pub extends_length : {A : Type 0} {xs ys : List A} → Extends xs ys → length xs ≤ length ys
extends_length {xs = xs} a = let e = ap length a.is in omega (arith, e, length-append xs a.more)

pub take_less : {A : Type 0} (k n : ℕ) (xs : List A) → k ≤ n → take k (take n xs) ≡ take k xs
take_less zero n xs le = refl
take_less (suc k) zero xs le = absurd (omega arith)
take_less (suc k) (suc n) [] le = refl
take_less (suc k) (suc n) (x ∷ xs) le = ap (λ ys. x ∷ ys) (take_less k n xs (omega arith))

-- ---- visible names

pub visible_after : (s : Scope) (a : Action) → Extends s.visible (after_action s a).visible
visible_after s a = let g = grows_by_action a s in record { more = g.more; is = g.visible }

pub visible_block : (s : Scope) (b : Block) → Extends s.visible (after_block s b).visible
visible_block s b = let g = grows_by_block b s in record { more = g.more; is = g.visible }
