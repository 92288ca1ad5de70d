-- Registers fit an expression of a checked kernel: what its typing and its listing say.
use Rattle.std.proofs.Common.{◌≡◌, ℕ, zero, suc, ◌+◌, ◌≤◌, Bool, true, List, [], ◌∷◌, ◌++◌, drop, Option, Some, None, refl, sym, ap, ◌∙◌, subst, arith}
use Rattle.std.specs.Prelude.{ℤ, pos, negsuc, unsigned_abs, nat_le, slice_index}
use Rattle.std.proofs.lemmas.Bool.{leb-true, ltb-true}
use Rattle.kernel_tree.specs.declared.ops.Ty.{Ty}
use Rattle.kernel_tree.specs.declared.fault.Found.{Found}
use Rattle.kernel_tree.specs.Plain.{Term, Literal, Variable, Element, Unary, Operation, Shift, Conversion, Choice, Comparison, Both, Either, Not, Program}
use Rattle.kernel_tree.specs.Items.{term_size, index_items, index_size, stream_offset, loop_index}
use Rattle.kernel_tree.specs.Limits.{most_offset}
use Rattle.kernel_tree.specs.Wrap.{wrap, bits_of, is_signed}
use Rattle.kernel_meaning.proofs.TypeRanges.{InBits, is_of, wrap-of}
use Rattle.kernel_tree.specs.Typing.{fits as literal_fits, literal_faults, Scope, Local, Value, Condition, lookup, own, first, index_type, side_type, faults, as_value, as_condition, mismatch, read_faults, index_faults, inner_faults, offset_faults, untyped}
use Rattle.kernel_tree.proofs.Faultless.{nil-left, nil-right, never}
use Rattle.kernel_tree.proofs.NoFault.{is_empty, no_mismatch, no_name, no_read}
use Rattle.loop_form.specs.Entries.{Content, IsLiteral, IsName, IsRead, IsLet, IsStore, IsUpdate, IsPlain, Entry, inner_entries, term_entries}
use Rattle.loop_form.proofs.ItemTypes.{drop_next}
use Rattle.scalar_words.specs.Layout.{Layout, Homes, last_use_at, NameLasts}
use Rattle.value_code.specs.Fits.{Fits, FitsTruth, FitsIndex, IndexAt, IsSmall, IsSome}
use Rattle.scalar_words.specs.KernelRegisters.{x_last_use}
use Rattle.kernel_tree.specs.declared.ops.Ty.TheVariants as ty

-- ---- types

pub no_untyped : (item : ℕ) (o : Option Ty) → untyped item o ≡ [] → IsSome o
no_untyped item None e = absurd cc
no_untyped item (Some t) e = tt

pub some_of : (o : Option Ty) → IsSome o → (T : Ty) × (o ≡ Some T)
some_of None h = absurd h
some_of (Some T) h = (T, refl)

-- a literal without fault is a value of the type that is wanted
literal_in : (t : Ty) (z : ℤ) → literal_fits t z ≡ true → InBits (is_signed t) (bits_of t) z
literal_in ty.I8 (pos n) e = let h = ltb-true n _ e in omega (arith, h)
literal_in ty.I8 (negsuc n) e = let h = ltb-true n _ e in omega (arith, h)
literal_in ty.I16 (pos n) e = let h = ltb-true n _ e in omega (arith, h)
literal_in ty.I16 (negsuc n) e = let h = ltb-true n _ e in omega (arith, h)
literal_in ty.I32 (pos n) e = let h = ltb-true n _ e in omega (arith, h)
literal_in ty.I32 (negsuc n) e = let h = ltb-true n _ e in omega (arith, h)
literal_in ty.I64 (pos n) e = let h = ltb-true n _ e in omega (arith, h)
literal_in ty.I64 (negsuc n) e = let h = ltb-true n _ e in omega (arith, h)
literal_in ty.U8 (pos n) e = let h = ltb-true n _ e in omega (arith, h)
literal_in ty.U8 (negsuc n) e = absurd cc
literal_in ty.U16 (pos n) e = let h = ltb-true n _ e in omega (arith, h)
literal_in ty.U16 (negsuc n) e = absurd cc
literal_in ty.U32 (pos n) e = let h = ltb-true n _ e in omega (arith, h)
literal_in ty.U32 (negsuc n) e = absurd cc
literal_in ty.U64 (pos n) e = let h = ltb-true n _ e in omega (arith, h)
literal_in ty.U64 (negsuc n) e = absurd cc

literal_same : (item : ℕ) (t : Ty) (z : ℤ) → literal_faults item (Some t) z ≡ [] → wrap t z ≡ z
literal_same item t z e = wrap-of t z (is_of t z (literal_in t z (is_empty (literal_fits t z) _ _ e)))

first_is : (o : Option Ty) (t : Ty) → (T : Ty) × (first o (Some t) ≡ Some T)
first_is None t = (t, refl)
first_is (Some u) t = (u, refl)

small_of_unsigned_abs : (c : ℤ) → unsigned_abs c ≤ 1024 → IsSmall c
small_of_unsigned_abs (pos n) h = omega (arith, h)
small_of_unsigned_abs (negsuc n) h = omega (arith, h)

pub no_offset : (item : ℕ) (c : ℤ) → offset_faults item c ≡ [] → IsSmall c
no_offset item c e = small_of_unsigned_abs c (leb-true (unsigned_abs c) most_offset (is_empty (nat_le (unsigned_abs c) most_offset) _ _ e))

-- ---- the listing

-- the list from b on
abbrev pub Sits : List ℕ → ℕ → List ℕ → Type 0
Sits xs b ys = drop b xs ≡ ys

pub drop_head : (xs : List ℕ) (b y : ℕ) (ys : List ℕ) → drop b xs ≡ y ∷ ys → slice_index xs b ≡ y
drop_head [] zero y ys e = absurd cc
drop_head [] (suc b) y ys e = absurd cc
drop_head (x ∷ xs) zero y ys e = let f : x ≡ y = cc in f
drop_head (x ∷ xs) (suc b) y ys e = drop_head xs b y ys e

-- what is asked of the names of the items
abbrev pub Used : Homes → Option (List ℕ) → Content → ℕ → ℕ → Type 0
Used hs i (IsLiteral n) item last_use = Unit {0}
Used hs i (IsName x) item last_use = NameLasts hs x last_use
Used hs i (IsRead a e) item last_use = NameLasts hs a item × IndexAt hs i item
Used hs i (IsLet x) item last_use = Unit {0}
Used hs i (IsStore a e) item last_use = NameLasts hs a item × IndexAt hs i item
Used hs i (IsUpdate x op) item last_use = NameLasts hs x item
Used hs i (IsPlain k) item last_use = Unit {0}

abbrev pub AreUsed : Homes → Option (List ℕ) → List Entry → Type 0
AreUsed hs i [] = Unit {0}
AreUsed hs i (e ∷ es) = Used hs i e.content e.item e.last_use × AreUsed hs i es

pub used_left : (hs : Homes) (i : Option (List ℕ)) (xs ys : List Entry) → AreUsed hs i (xs ++ ys) → AreUsed hs i xs
used_left hs i [] ys h = tt
used_left hs i (x ∷ xs) ys h = (h.0, used_left hs i xs ys h.1)

pub used_right : (hs : Homes) (i : Option (List ℕ)) (xs ys : List Entry) → AreUsed hs i (xs ++ ys) → AreUsed hs i ys
used_right hs i [] ys h = h
used_right hs i (x ∷ xs) ys h = used_right hs i xs ys h.1

-- the last uses of some items before others
abbrev pub last_uses : List Entry → List Entry → List ℕ → List ℕ
last_uses all [] rest = rest
last_uses all (e ∷ es) rest = x_last_use all e ∷ last_uses all es rest

pub last_uses_on : (all xs ys : List Entry) (rest : List ℕ) → last_uses all (xs ++ ys) rest ≡ last_uses all xs (last_uses all ys rest)
last_uses_on all [] ys rest = refl
last_uses_on all (x ∷ xs) ys rest = ap (λ l. x_last_use all x ∷ l) (last_uses_on all xs ys rest)

module _ (k : Program) (L : Layout) (all : List Entry) (hs : Homes) (v : List Local) (tk : List (List ℕ)) (ins : Bool) where
  abbrev S : Scope
  S = record { visible = v; taken = tk; index = loop_index k; inside = ins }

  abbrev i : Option (List ℕ)
  i = loop_index k

  part : (b : ℕ) (xs ys : List Entry) (rest : List ℕ) → Sits L.last_uses b (last_uses all (xs ++ ys) rest) → Sits L.last_uses b (last_uses all xs (last_uses all ys rest))
  part b xs ys rest h = h ∙ last_uses_on all xs ys rest

  last_after : (p q y : ℕ) (rest : List ℕ) → q ≡ p + 1 → Sits L.last_uses p (y ∷ rest) → Sits L.last_uses q rest
  last_after p q y rest f h = let g : suc p ≡ q = omega (arith, f) in subst (λ n. Sits L.last_uses n rest) g (drop_next L.last_uses p _ rest h)

  inner_after : (o : Option ℤ) (b n q : ℕ) (es : List Entry) (e : Entry) (rest : List ℕ) → q ≡ b + (index_size o n + 1) → ((rest : List ℕ) → Sits L.last_uses b (last_uses all es rest) → Sits L.last_uses (b + n) rest) → Sits L.last_uses b (last_uses all (inner_entries o es ++ e ∷ []) rest) → Sits L.last_uses q rest
  inner_after (Some c) b n q es e rest f inner h = last_after b q _ rest (omega (arith, f)) h
  inner_after None b n q es e rest f inner h = last_after (b + n) q _ rest (omega (arith, f)) (inner _ (part b es (e ∷ []) rest h))

  -- what is listed after the items of an expression
  abbrev After : Term → Type 0
  After x = (b user : ℕ) (rest : List ℕ) → Sits L.last_uses b (last_uses all (term_entries k b user x) rest) → Sits L.last_uses (b + term_size i x) rest

  -- after one operand, two or three, and the item that uses them
  one_after : (x : Term) → After x → (b user : ℕ) (e : Entry) (rest : List ℕ) → Sits L.last_uses b (last_uses all (term_entries k b user x ++ e ∷ []) rest) → Sits L.last_uses (b + (term_size i x + 1)) rest
  one_after x f b user e rest h =
      last_after (b + term_size i x) (b + (term_size i x + 1)) (x_last_use all e) rest (omega arith) (f b user (x_last_use all e ∷ rest) (part b (term_entries k b user x) (e ∷ []) rest h))

  two_after : (x y : Term) → After x → After y → (b user : ℕ) (e : Entry) (rest : List ℕ) → Sits L.last_uses b (last_uses all (term_entries k b user x ++ (term_entries k (b + term_size i x) user y ++ e ∷ [])) rest) → Sits L.last_uses (b + (term_size i x + term_size i y + 1)) rest
  two_after x y f g b user e rest h =
      let m = b + term_size i x in
      let z : m + (term_size i y + 1) ≡ b + (term_size i x + term_size i y + 1) = omega arith in
      subst (λ n. Sits L.last_uses n rest) z (one_after y g m user e rest (f b user (last_uses all (term_entries k m user y ++ e ∷ []) rest) (part b (term_entries k b user x) (term_entries k m user y ++ e ∷ []) rest h)))

  three_after : (x y c : Term) → After x → After y → After c → (b user : ℕ) (e : Entry) (rest : List ℕ) → Sits L.last_uses b (last_uses all (term_entries k b user x ++ (term_entries k (b + term_size i x) user y ++ (term_entries k (b + term_size i x + term_size i y) user c ++ e ∷ []))) rest) → Sits L.last_uses (b + (term_size i x + term_size i y + term_size i c + 1)) rest
  three_after x y c f g j b user e rest h =
      let m = b + term_size i x in
      let z : m + (term_size i y + term_size i c + 1) ≡ b + (term_size i x + term_size i y + term_size i c + 1) = omega arith in
      let es = term_entries k m user y ++ (term_entries k (m + term_size i y) user c ++ e ∷ []) in
      subst (λ n. Sits L.last_uses n rest) z (two_after y c g j m user e rest (f b user (last_uses all es rest) (part b (term_entries k b user x) es rest h)))

  -- after two operands with a mark between them
  either_after : (x y : Term) → After x → After y → (b user : ℕ) (mark e : Entry) (rest : List ℕ) → Sits L.last_uses b (last_uses all (term_entries k b user x ++ (mark ∷ (term_entries k (b + term_size i x + 1) user y ++ e ∷ []))) rest) → Sits L.last_uses (b + (term_size i x + 1 + term_size i y + 1)) rest
  either_after x y f g b user mark e rest h =
      let m = b + term_size i x in
      let z : m + 1 + (term_size i y + 1) ≡ b + (term_size i x + 1 + term_size i y + 1) = omega arith in
      let es = term_entries k (m + 1) user y ++ e ∷ [] in
      subst (λ n. Sits L.last_uses n rest) z (one_after y g (m + 1) user e rest (last_after m (m + 1) (x_last_use all mark) (last_uses all es rest) refl (f b user (x_last_use all mark ∷ last_uses all es rest) (part b (term_entries k b user x) (mark ∷ es) rest h))))

  -- after the items of an expression
  sits_after : (t : Term) → After t
  sits_after (Literal n) b user rest h = last_after b (b + 1) _ rest refl h
  sits_after (Variable x) b user rest h = last_after b (b + 1) _ rest refl h
  sits_after (Element a j) b user rest h = inner_after (stream_offset i j) b (term_size i j) (b + (index_size (stream_offset i j) (term_size i j) + 1)) (term_entries k b (b + index_items i j) j) _ rest refl (λ r g. sits_after j b (b + index_items i j) r g) h
  sits_after (Unary op x) b user rest h = one_after x (sits_after x) b (b + term_size i x) _ rest h
  sits_after (Operation op x y) b user rest h = two_after x y (sits_after x) (sits_after y) b (b + term_size i x + term_size i y) _ rest h
  sits_after (Shift left x n) b user rest h = one_after x (sits_after x) b (b + term_size i x) _ rest h
  sits_after (Conversion x t) b user rest h = one_after x (sits_after x) b (b + term_size i x) _ rest h
  sits_after (Choice c x y) b user rest h = three_after x y c (sits_after x) (sits_after y) (sits_after c) b (b + term_size i x + term_size i y + term_size i c) _ rest h
  sits_after (Comparison op x y) b user rest h = two_after x y (sits_after x) (sits_after y) b (b + term_size i x + term_size i y) _ rest h
  sits_after (Both x y) b user rest h = two_after x y (sits_after x) (sits_after y) b (b + term_size i x + term_size i y) _ rest h
  sits_after (Either x y) b user rest h = either_after x y (sits_after x) (sits_after y) b (b + term_size i x + 1 + term_size i y) _ _ rest h
  sits_after (Not x) b user rest h = one_after x (sits_after x) b (b + term_size i x) _ rest h

  -- a read, by its index
  element_fits : (a : List ℕ) (j : Term) (T : Ty) (f b n user : ℕ) (rest : List ℕ) (o : Option ℤ) (fs : List Found) (A : Type 0) (es : List Entry) (e : Entry) → inner_faults o fs ≡ [] → index_faults f o (own S j) ≡ [] → Sits L.last_uses b (last_uses all (inner_entries o es ++ e ∷ []) rest) → AreUsed hs i (inner_entries o es ++ e ∷ []) → e.content ≡ IsRead a j → e.item ≡ b + index_size o n → x_last_use all e ≡ user
      → (fs ≡ [] → (rest : List ℕ) → Sits L.last_uses b (last_uses all es rest) → AreUsed hs i es → A × Sits L.last_uses (b + n) rest)
      → FitsIndex o (IndexAt hs i (b + index_size o n)) A × NameLasts hs a (b + index_size o n) × (last_use_at L (b + index_size o n) ≡ user)
  element_fits a j T f b n user rest (Some c) fs A es e e1 e2 h u content item last_use inner =
      let w : Used hs i (IsRead a j) (b + 0) e.last_use = subst (λ p. Used hs i (IsRead a j) p e.last_use) item (subst (λ q. Used hs i q e.item e.last_use) content u.0) in
      let z : b ≡ b + 0 = omega arith in
      ((no_offset f c e2, w.1), w.0, ap (last_use_at L) (sym z) ∙ drop_head L.last_uses b _ rest h ∙ last_use)
  element_fits a j T f b n user rest None fs A es e e1 e2 h u content item last_use inner =
      let r = inner e1 (last_uses all (e ∷ []) rest) (part b es (e ∷ []) rest h) (used_left hs i es (e ∷ []) u) in
      let u2 = used_right hs i es (e ∷ []) u in
      let w : Used hs i (IsRead a j) (b + n) e.last_use = subst (λ p. Used hs i (IsRead a j) p e.last_use) item (subst (λ q. Used hs i q e.item e.last_use) content u2.0) in
      (r.0, w.0, drop_head L.last_uses (b + n) _ rest r.1 ∙ last_use)

  mutual
    pub value_fits : (t : Term) (T : Ty) (f b user : ℕ) (rest : List ℕ) → faults S f (Value (Some T)) t ≡ [] → Sits L.last_uses b (last_uses all (term_entries k b user t) rest) → AreUsed hs i (term_entries k b user t) → Fits L hs S (Some T) b user t
    value_fits (Literal n) T f b user rest e h u = (drop_head L.last_uses b _ rest h, literal_same f T n (nil-right (as_value f (Value (Some T))) _ e))
    value_fits (Variable x) T f b user rest e h u = (u.0, no_name f T (lookup S x) (nil-right (as_value f (Value (Some T))) _ e))
    value_fits (Element a j) T f b user rest e h u =
        let o = stream_offset i j in
        let fs = faults S f (Value (index_type S j)) j in
        let item = f + index_items i j in
        let e1 = nil-left (inner_faults o fs) _ e in
        let e2 = nil-right (as_value item (Value (Some T))) _ (nil-right (inner_faults o fs) _ e) in
        let q = first_is (own S j) ty.U64 in
        let r = element_fits a j T item b (term_size i j) user rest o fs (Fits L hs S (index_type S j) b (b + index_items i j) j) (term_entries k b (b + index_items i j) j) _ e1 (nil-right (read_faults item ins (Some T) (lookup S a)) _ e2) h u refl refl refl
        (λ z rest2 h2 u2. (subst (λ w. Fits L hs S w b (b + index_items i j) j) (sym q.1) (value_fits j q.0 f b (b + index_items i j) rest2 (sym (ap (λ w. faults S f (Value w) j) q.1) ∙ z) h2 u2), sits_after j b (b + index_items i j) rest2 h2)) in
        (no_read item ins T (lookup S a) (nil-left (read_faults item ins (Some T) (lookup S a)) _ e2), r.0, r.1, r.2)
    value_fits (Unary op x) T f b user rest e h u =
        let p = b + term_size i x in
        let h1 = part b (term_entries k b p x) _ rest h in
        (tt, value_fits x T f b p _ (nil-left (faults S f (Value (Some T)) x) _ e) h1 (used_left hs i (term_entries k b p x) _ u), drop_head L.last_uses p _ rest (sits_after x b p _ h1))
    value_fits (Operation op x y) T f b user rest e h u =
        let b1 = b + term_size i x in let p = b1 + term_size i y in
        let ex = nil-left (faults S f (Value (Some T)) x) _ e in
        let ey = nil-left _ _ (nil-right (faults S f (Value (Some T)) x) _ e) in
        let h1 = part b (term_entries k b p x) _ rest h in
        let h2 = sits_after x b p _ h1 in
        let h3 = part b1 (term_entries k b1 p y) _ rest h2 in
        let h4 = sits_after y b1 p _ h3 in
        let uy = used_right hs i (term_entries k b p x) _ u in
        (tt, value_fits x T f b p _ ex h1 (used_left hs i (term_entries k b p x) _ u), value_fits y T _ b1 p _ ey h3 (used_left hs i (term_entries k b1 p y) _ uy), drop_head L.last_uses p _ rest h4)
    value_fits (Shift left x n) T f b user rest e h u =
        let p = b + term_size i x in
        let h1 = part b (term_entries k b p x) _ rest h in
        (tt, value_fits x T f b p _ (nil-left (faults S f (Value (Some T)) x) _ e) h1 (used_left hs i (term_entries k b p x) _ u), drop_head L.last_uses p _ rest (sits_after x b p _ h1))
    value_fits (Conversion x t) T f b user rest e h u =
        let p = b + term_size i x in
        let m = nil-right (as_value (f + term_size i x) (Value (Some T))) _ (nil-right (faults S f (Value (own S x)) x) _ e) in
        let same : T ≡ t = no_mismatch _ T t (nil-left (mismatch (f + term_size i x) (Some T) t) _ m) in
        let q = some_of (own S x) (no_untyped _ (own S x) (nil-right (mismatch (f + term_size i x) (Some T) t) _ m)) in
        let ex = nil-left (faults S f (Value (own S x)) x) _ e in
        let h1 = part b (term_entries k b p x) _ rest h in
        (ap Some (sym same), subst IsSome (sym q.1) tt, subst (λ o. Fits L hs S o b p x) (sym q.1) (value_fits x q.0 f b p _ (sym (ap (λ o. faults S f (Value o) x) q.1) ∙ ex) h1 (used_left hs i (term_entries k b p x) _ u)), drop_head L.last_uses p _ rest (sits_after x b p _ h1))
    value_fits (Choice c x y) T f b user rest e h u =
        let b1 = b + term_size i x in let b2 = b1 + term_size i y in let p = b2 + term_size i c in
        let ex = nil-left (faults S f (Value (Some T)) x) _ e in
        let e2 = nil-right (faults S f (Value (Some T)) x) _ e in
        let ey = nil-left (faults S (f + term_size i x) (Value (Some T)) y) _ e2 in
        let ec = nil-left (faults S (f + term_size i x + term_size i y) Condition c) _ (nil-right (faults S (f + term_size i x) (Value (Some T)) y) _ e2) in
        let h1 = part b (term_entries k b p x) _ rest h in
        let h3 = part b1 (term_entries k b1 p y) _ rest (sits_after x b p _ h1) in
        let h5 = part b2 (term_entries k b2 p c) _ rest (sits_after y b1 p _ h3) in
        let uy = used_right hs i (term_entries k b p x) _ u in
        let uc = used_right hs i (term_entries k b1 p y) _ uy in
        (value_fits x T f b p _ ex h1 (used_left hs i (term_entries k b p x) _ u), value_fits y T _ b1 p _ ey h3 (used_left hs i (term_entries k b1 p y) _ uy), truth_fits c _ b2 p _ ec h5 (used_left hs i (term_entries k b2 p c) _ uc), drop_head L.last_uses p _ rest (sits_after c b2 p _ h5))
    value_fits (Comparison op x y) T f b user rest e h u = absurd (never (nil-left (as_condition (f + term_size i x + term_size i y) (Value (Some T))) _ (nil-right (faults S (f + term_size i x) (Value (side_type S x y)) y) _ (nil-right (faults S f (Value (side_type S x y)) x) _ e))))
    value_fits (Both x y) T f b user rest e h u = absurd (never (nil-right (faults S (f + term_size i x) Condition y) _ (nil-right (faults S f Condition x) _ e)))
    value_fits (Either x y) T f b user rest e h u = absurd (never (nil-right (faults S (f + term_size i x + 1) Condition y) _ (nil-right (faults S f Condition x) _ e)))
    value_fits (Not x) T f b user rest e h u = absurd (never (nil-right (faults S f Condition x) _ e))

    pub truth_fits : (t : Term) (f b user : ℕ) (rest : List ℕ) → faults S f Condition t ≡ [] → Sits L.last_uses b (last_uses all (term_entries k b user t) rest) → AreUsed hs i (term_entries k b user t) → FitsTruth L hs S b t
    truth_fits (Literal n) f b user rest e h u = absurd cc
    truth_fits (Comparison op x y) f b user rest e h u =
        let w = side_type S x y in
        let b1 = b + term_size i x in let p = b1 + term_size i y in
        let ex = nil-left (faults S f (Value w) x) _ e in
        let e2 = nil-right (faults S f (Value w) x) _ e in
        let ey = nil-left (faults S (f + term_size i x) (Value w) y) _ e2 in
        let q = some_of w (no_untyped _ w (nil-right (as_condition (f + term_size i x + term_size i y) Condition) _ (nil-right (faults S (f + term_size i x) (Value w) y) _ e2))) in
        let h1 = part b (term_entries k b p x) _ rest h in
        let h3 = part b1 (term_entries k b1 p y) _ rest (sits_after x b p _ h1) in
        let uy = used_right hs i (term_entries k b p x) _ u in (
          subst IsSome (sym q.1) tt,
          subst (λ o. Fits L hs S o b p x) (sym q.1) (value_fits x q.0 f b p _ (sym (ap (λ o. faults S f (Value o) x) q.1) ∙ ex) h1 (used_left hs i (term_entries k b p x) _ u)),
          subst (λ o. Fits L hs S o b1 p y) (sym q.1) (value_fits y q.0 (f + term_size i x) b1 p _ (sym (ap (λ o. faults S (f + term_size i x) (Value o) y) q.1) ∙ ey) h3 (used_left hs i (term_entries k b1 p y) _ uy)),
        )
    truth_fits (Both x y) f b user rest e h u =
        let b1 = b + term_size i x in let p = b1 + term_size i y in
        let h1 = part b (term_entries k b p x) _ rest h in
        let h3 = part b1 (term_entries k b1 p y) _ rest (sits_after x b p _ h1) in
        let uy = used_right hs i (term_entries k b p x) _ u in (
          truth_fits x f b p _ (nil-left (faults S f Condition x) _ e) h1 (used_left hs i (term_entries k b p x) _ u),
          truth_fits y _ b1 p _ (nil-left (faults S (f + term_size i x) Condition y) _ (nil-right (faults S f Condition x) _ e)) h3 (used_left hs i (term_entries k b1 p y) _ uy),
        )
    truth_fits (Either x y) f b user rest e h u =
        let m = b + term_size i x in let p = m + 1 + term_size i y in
        let h1 = part b (term_entries k b p x) _ rest h in
        let h3 = part (m + 1) (term_entries k (m + 1) p y) _ rest (last_after m (m + 1) _ _ refl (sits_after x b p _ h1)) in
        let uy = used_right hs i (term_entries k b p x) _ u in (
          truth_fits x f b p _ (nil-left (faults S f Condition x) _ e) h1 (used_left hs i (term_entries k b p x) _ u),
          truth_fits y _ (m + 1) p _ (nil-left (faults S (f + term_size i x + 1) Condition y) _ (nil-right (faults S f Condition x) _ e)) h3 (used_left hs i (term_entries k (m + 1) p y) _ uy.1),
        )
    truth_fits (Not x) f b user rest e h u = truth_fits x f b _ _ (nil-left (faults S f Condition x) _ e) (part b (term_entries k b _ x) _ rest h) (used_left hs i (term_entries k b _ x) _ u)
    truth_fits (Variable x) f b user rest e h u = absurd cc
    truth_fits (Element a j) f b user rest e h u = absurd (never (nil-left (as_value (f + index_items i j) Condition) _ (nil-right (inner_faults (stream_offset i j) (faults S f (Value (index_type S j)) j)) _ e)))
    truth_fits (Unary op x) f b user rest e h u = absurd (never (nil-right (faults S f (Value None) x) _ e))
    truth_fits (Operation op x y) f b user rest e h u = absurd (never (nil-right (faults S (f + term_size i x) (Value None) y) _ (nil-right (faults S f (Value None) x) _ e)))
    truth_fits (Shift left x n) f b user rest e h u = absurd (never (nil-left (as_value (f + term_size i x) Condition) _ (nil-right (faults S f (Value None) x) _ e)))
    truth_fits (Conversion x t) f b user rest e h u = absurd (never (nil-left (as_value (f + term_size i x) Condition) _ (nil-right (faults S f (Value (own S x)) x) _ e)))
    truth_fits (Choice c x y) f b user rest e h u = absurd (never (nil-right (faults S (f + term_size i x + term_size i y) Condition c) _ (nil-right (faults S (f + term_size i x) (Value None) y) _ (nil-right (faults S f (Value None) x) _ e))))
