-- From what fits after an item to what fits from the item on.
use Rattle.std.proofs.Common.{◌≡◌, ℕ, ◌+◌, ◌<◌, ◌≤◌, ℤ, Bool, true, false, List, [], ◌∷◌, Option, Some, None, refl, subst, arith, ⊎_elim}
use Rattle.std.proofs.lemmas.Bool.{cases_lt}
use Rattle.kernel_tree.specs.declared.ops.Ty.{Ty}
use Rattle.kernel_tree.specs.Plain.{Term, Literal, Variable, Element, Unary, Operation, Shift, Conversion, Choice, Comparison, Both, Either, Not}
use Rattle.kernel_tree.specs.Items.{stream_offset}
use Rattle.kernel_tree.specs.Typing.{Scope, own, index_type, side_type}
use Rattle.loop_form.specs.LoopItems.{Op, Item, item, Bound, truth_home, load_item, term_items, cond_items}
use Rattle.loop_form.specs.LoopItems as ops
use Rattle.chunk_emit.specs.Registers.{Layout}
use Rattle.chunk_emit.specs.ChunkCode.{past_cast}
use Rattle.chunk_emit.specs.Chunk.{Setting}
use Rattle.chunk_emit.specs.Fits.{FitsMask, FitsCast, MakesNothing, NoneBetween}
use Rattle.chunk_emit.specs.LoopFits.{FitsStep, FitsSteps}

-- the same number said otherwise
pub fits_steps_at_equal_place : (l : Layout) (f : Setting) (p q : ℕ) (items : List Item) → p ≡ q → FitsSteps l f p items → FitsSteps l f q items
fits_steps_at_equal_place l f p q items e h = subst (λ n. FitsSteps l f n items) e h

none_from : (l : Layout) (p q : ℕ) → MakesNothing l p → NoneBetween l (p + 1) q → NoneBetween l p q
none_from l p q here later r from to =
    ⊎_elim
    (λ (lt : p < r). later r (omega (arith, lt)) to)
    (λ (ge : r ≤ p). let same : p ≡ r = omega (arith, from, ge) in subst (MakesNothing l) same here)
    (cases_lt p r)

-- a number that makes nothing
pub skip : (l : Layout) (f : Setting) (p : ℕ) (items : List Item) → MakesNothing l p → FitsSteps l f (p + 1) items → FitsSteps l f p items
skip l f p [] n h = tt
skip l f p (it ∷ items) n h = let a = h.0 in (omega (arith, a), none_from l p it.item n h.1, h.2, h.3, h.4, h.5)

-- one item
pub fits_steps_of_cons : (l : Layout) (f : Setting) (q p : ℕ) (mask : Option ℕ) (op : Op) (rest : List Item) → p ≡ q + 1 → FitsMask l q mask → FitsStep l f q op → FitsCast l (item q mask op) rest → FitsSteps l f p rest → FitsSteps l f q (item q mask op ∷ rest)
fits_steps_of_cons l f q p mask op rest e m s c h = (omega arith, (λ r from to. absurd (omega (arith, from, to))), m, s, c, fits_steps_at_equal_place l f p (q + 1) rest e h)

-- the mask of items with numbers from b to e
abbrev pub IsMasked : Layout → (b e : ℕ) → Option ℕ → Type 0
IsMasked l b e mask = (r : ℕ) → b ≤ r → r < e → FitsMask l r mask

-- ---- casts before stores

-- whatever cast with a number from b on stands before these items
abbrev pub CastsEnd : Layout → ℕ → List Item → Type 0
CastsEnd l b rest = (it : Item) → b ≤ it.item → FitsCast l it rest

no_cast : (l : Layout) (it : Item) (rest : List Item) → ((q : ℕ) (next : Op) → past_cast q it.op next ≡ None) → FitsCast l it rest
no_cast l it [] h = tt
no_cast l it (next ∷ rest) h = λ op e. let none = h it.item next.op in absurd cc

-- one item that is no cast
pub plain_step : (l : Layout) (f : Setting) (q p : ℕ) (mask : Option ℕ) (op : Op) (rest : List Item) → p ≡ q + 1 → FitsMask l q mask → FitsStep l f q op → ((r : ℕ) (next : Op) → past_cast r op next ≡ None) → FitsSteps l f p rest → FitsSteps l f q (item q mask op ∷ rest)
plain_step l f q p mask op rest e m s c h = fits_steps_of_cons l f q p mask op rest e m s (no_cast l (item q mask op) rest c) h

abbrev stores : Op → Bool
stores (ops.Store a base t c v) = true
stores _ = false

past_none : (q : ℕ) (op next : Op) → stores next ≡ false → past_cast q op next ≡ None
past_none q (ops.Cast s t x) (ops.Store a base ty c v) e = absurd cc
past_none q (ops.Cast s t x) (ops.Load a base ty c) e = refl
past_none q (ops.Cast s t x) (ops.Gather a base ty r u y) e = refl
past_none q (ops.Cast s t x) (ops.Unary op ty y) e = refl
past_none q (ops.Cast s t x) (ops.Binary op ty y z) e = refl
past_none q (ops.Cast s t x) (ops.Shift left n ty y) e = refl
past_none q (ops.Cast s t x) (ops.Cast u ty y) e = refl
past_none q (ops.Cast s t x) (ops.Let ty y) e = refl
past_none q (ops.Cast s t x) (ops.Select ty c y z) e = refl
past_none q (ops.Cast s t x) (ops.Update y op ty v) e = refl
past_none q (ops.Cast s t x) (ops.Compare op ty y z) e = refl
past_none q (ops.Cast s t x) (ops.Not c) e = refl
past_none q (ops.Cast s t x) (ops.And c) e = refl
past_none q (ops.Cast s t x) (ops.Or c d) e = refl
past_none q (ops.Cast s t x) (ops.Break c) e = refl
past_none q (ops.Load a base ty c) next e = refl
past_none q (ops.Gather a base ty r u y) next e = refl
past_none q (ops.Unary op ty y) next e = refl
past_none q (ops.Binary op ty y z) next e = refl
past_none q (ops.Shift left n ty y) next e = refl
past_none q (ops.Let ty y) next e = refl
past_none q (ops.Select ty c y z) next e = refl
past_none q (ops.Store a base ty c v) next e = refl
past_none q (ops.Update y op ty v) next e = refl
past_none q (ops.Compare op ty y z) next e = refl
past_none q (ops.Not c) next e = refl
past_none q (ops.And c) next e = refl
past_none q (ops.Or c d) next e = refl
past_none q (ops.Break c) next e = refl

-- the first item is no store
abbrev pub NoStore : List Item → Type 0
NoStore [] = Unit {0}
NoStore (it ∷ items) = stores it.op ≡ false

pub plain_casts : (l : Layout) (b : ℕ) (rest : List Item) → NoStore rest → CastsEnd l b rest
plain_casts l b [] n = λ it from. tt
plain_casts l b (next ∷ rest) n = λ it from op e. let none = past_none it.item it.op next.op n in absurd cc

load_plain : (s : Scope) (mask : Option ℕ) (q : ℕ) (env : List Bound) (a : List ℕ) (o : Option ℤ) (gathered rest : List Item) → NoStore gathered → NoStore (load_item s mask q env a o gathered rest)
load_plain s mask q env a None gathered rest h = h
load_plain s mask q env a (Some c) gathered rest h = refl

record TermPlain (t : Term) : Type 0 where
  as_value : (s : Scope) (want : Option Ty) (mask : Option ℕ) (b : ℕ) (env : List Bound) (rest : List Item) → NoStore rest → NoStore (term_items s want mask b env t rest)
  as_cond : (s : Scope) (mask : Option ℕ) (b : ℕ) (env : List Bound) (rest : List Item) → NoStore rest → NoStore (cond_items s mask b env t rest)

term_plain : (t : Term) → TermPlain t
term_plain (Literal n) = record { as_value = λ s want mask b env rest h. h; as_cond = λ s mask b env rest h. h }
term_plain (Variable x) = record { as_value = λ s want mask b env rest h. h; as_cond = λ s mask b env rest h. h }
term_plain (Element a j) = record { as_value = λ s want mask b env rest h. load_plain s mask _ env a (stream_offset s.index j) _ rest ((term_plain j).as_value s (index_type s j) mask b env _ refl); as_cond = λ s mask b env rest h. h }
term_plain (Unary op e) = record { as_value = λ s want mask b env rest h. (term_plain e).as_value s want mask b env _ refl; as_cond = λ s mask b env rest h. h }
term_plain (Operation op x y) = record { as_value = λ s want mask b env rest h. (term_plain x).as_value s want mask b env _ ((term_plain y).as_value s want mask _ env _ refl); as_cond = λ s mask b env rest h. h }
term_plain (Shift to_left e n) = record { as_value = λ s want mask b env rest h. (term_plain e).as_value s want mask b env _ refl; as_cond = λ s mask b env rest h. h }
term_plain (Conversion e t) = record { as_value = λ s want mask b env rest h. (term_plain e).as_value s (own s e) mask b env _ refl; as_cond = λ s mask b env rest h. h }
term_plain (Choice c x y) = record {
  as_value = λ s want mask b env rest h. (term_plain x).as_value s want mask b env _ ((term_plain y).as_value s want mask _ env _ ((term_plain c).as_cond s mask _ env _ refl));
  as_cond = λ s mask b env rest h. h;
}
term_plain (Comparison op x y) = record {
  as_value = λ s want mask b env rest h. h;
  as_cond = λ s mask b env rest h. (term_plain x).as_value s (side_type s x y) mask b env _ ((term_plain y).as_value s (side_type s x y) mask _ env _ refl);
}
term_plain (Both x y) = record {
  as_value = λ s want mask b env rest h. h;
  as_cond = λ s mask b env rest h. (term_plain x).as_cond s mask b env _ ((term_plain y).as_cond s (Some (truth_home s.index b x)) _ env _ refl);
}
term_plain (Either x y) = record { as_value = λ s want mask b env rest h. h; as_cond = λ s mask b env rest h. (term_plain x).as_cond s mask b env _ refl }
term_plain (Not e) = record { as_value = λ s want mask b env rest h. h; as_cond = λ s mask b env rest h. (term_plain e).as_cond s mask b env _ refl }

pub value_plain : (t : Term) (s : Scope) (want : Option Ty) (mask : Option ℕ) (b : ℕ) (env : List Bound) (rest : List Item) → NoStore rest → NoStore (term_items s want mask b env t rest)
value_plain t = (term_plain t).as_value

pub truth_plain : (t : Term) (s : Scope) (mask : Option ℕ) (b : ℕ) (env : List Bound) (rest : List Item) → NoStore rest → NoStore (cond_items s mask b env t rest)
truth_plain t = (term_plain t).as_cond
