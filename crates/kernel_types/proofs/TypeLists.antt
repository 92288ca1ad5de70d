-- The wanted types of the items of a kernel, part by part.
use Rattle.std.proofs.Common.{List, [], ◌∷◌, ◌++◌, Option, None, sym, ap, subst, ◌∙◌, append_assoc}
use Rattle.std.proofs.lemmas.List.{append-nil}
use Rattle.kernel_tree.specs.declared.ops.Ty.{Ty}
use Rattle.kernel_types.specs.declared.notes.Notes.{Notes}
use Rattle.kernel_types.specs.Parts.{Adds}

pub no_types : (m : Notes) → Adds m m []
no_types m = record {
  kept = λ e. e;
  items = λ e. sym (append-nil m.types.items);
}

pub then_types : {m n o : Notes} {xs ys : List (Option Ty)} → Adds m n xs → Adds n o ys → Adds m o (xs ++ ys)
then_types {m = m} {xs = xs} {ys = ys} a b = record {
  kept = λ e. a.kept (b.kept e);
  items = λ e. b.items e ∙ ap (λ (ts : List (Option Ty)). ts ++ ys) (a.items (b.kept e)) ∙ append_assoc m.types.items xs ys;
}

-- what follows a part and the mark after it
pub after_mark : {m n o : Notes} (xs : List (Option Ty)) {ys : List (Option Ty)} → Adds m n (xs ++ None ∷ []) → Adds n o ys → Adds m o (xs ++ None ∷ ys)
after_mark {m = m} {o = o} xs {ys = ys} a b = subst (λ (ts : List (Option Ty)). Adds m o ts) (append_assoc xs (None ∷ []) ys) (then_types a b)
