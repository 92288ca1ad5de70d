-- Which rows a word can be in, by the number in one field of it, its key.
use Rattle.std.proofs.Common.{◌≡◌, ◌≢◌, ℕ, ◌/◌, ◌%◌, ◌^◌, ◌<◌, bit_and, Bool, true, false, ◌&&◌, ◌||◌, ◌==◌, eqb, not, List, [], ◌∷◌, ◌++◌, slice_get, zero, suc, Option, Some, None, ◌⊎◌, inl, inr, refl, sym, ap, ◌∙◌, subst, arith}
use Rattle.std.specs.Option.{option_or}
use Rattle.std.proofs.lemmas.Nat.{and_shr, and_mod}
use Rattle.std.proofs.lemmas.Bool.{and_parts, eqb-true, eqb-false, eq-eqb, both_ways, cases_Bool, not-true, cond-false, false_from_ne_true, or_cases}
use Rattle.std.proofs.lemmas.Option.{same_Some}
use Rattle.std.proofs.Math.Nat.{mod-eq_of_lt, mod-lt}
use Rattle.word_rows.specs.Field.{Field, number_in, from_to}
use Rattle.word_rows.specs.Row.{Row, mask_of, takes, reads}
use Rattle.word_rows.proofs.TableLaws.{reads-append}

-- where the row has fixed bits in the field, they are those of the key
abbrev pub may_have : Row → Field → ℕ → Bool
may_have r f key = bit_and key (number_in (mask_of r) f) == number_in r.base f

-- no row of these names takes a word with this key
abbrev pub is_without : {Name : Type 0} → (Name → Row) → Field → ℕ → List Name → Bool
is_without row f key [] = true
is_without row f key (n ∷ ns) = not (may_have (row n) f key) && is_without row f key ns

-- the names of all groups, in order
abbrev pub joined : {Name : Type 0} → List (List Name) → List Name
joined [] = []
joined (g ∷ gs) = g ++ joined gs

-- only rows of the group at this place take a word with this key
abbrev pub is_only_at : {Name : Type 0} → (Name → Row) → Field → List (List Name) → ℕ → ℕ → Bool
is_only_at row f [] place key = true
is_only_at row f (g ∷ gs) zero key = is_without row f key (joined gs)
is_only_at row f (g ∷ gs) (suc place) key = is_without row f key g && is_only_at row f gs place key

-- the same of each of the keys
abbrev pub are_only_at : {Name : Type 0} → (Name → Row) → Field → List (List Name) → ℕ → List ℕ → Bool
are_only_at row f groups place [] = true
are_only_at row f groups place (key ∷ keys) = is_only_at row f groups place key && are_only_at row f groups place keys

abbrev pub is_in : ℕ → List ℕ → Bool
is_in key [] = false
is_in key (k ∷ ks) = (key == k) || is_in key ks

-- no row takes a word with a key below `count` that is not among the keys
unfoldable pub has_only : {Name : Type 0} → (Name → Row) → Field → List ℕ → List Name → ℕ → Bool
has_only row f keys names zero = true
has_only row f keys names (suc key) = (is_in key keys || is_without row f key names) && has_only row f keys names key

-- the key is one of these
abbrev pub IsAmong : List ℕ → ℕ → Type 0
IsAmong [] key = ⊥
IsAmong (k ∷ []) key = key ≡ k
IsAmong (k ∷ j ∷ ks) key = (key ≡ k) ⊎ IsAmong (j ∷ ks) key

-- the key is none of these
abbrev pub IsOther : List ℕ → ℕ → Type 0
IsOther [] key = Unit {0}
IsOther (k ∷ ks) key = (key ≢ k) × IsOther ks key

number_in-and : (a b : ℕ) (f : Field) → number_in (bit_and a b) f ≡ bit_and (number_in a f) (number_in b f)
number_in-and a b f = ap (λ x. x % 2 ^ f.width) (and_shr a b f.low) ∙ and_mod (a / 2 ^ f.low) (b / 2 ^ f.low) f.width

pub takes-may_have : (r : Row) (f : Field) (w key : ℕ) → takes r w ≡ true → number_in w f ≡ key → may_have r f key ≡ true
takes-may_have r f w key h e =
    eq-eqb _ _
    (ap (λ x. bit_and x (number_in (mask_of r) f)) (sym e) ∙ sym (number_in-and w (mask_of r) f) ∙ ap (λ x. number_in x f) (eqb-true _ _ (and_parts _ _ h).0))

pub reads-without : {Name : Type 0} (row : Name → Row) (f : Field) (w key : ℕ) (names : List Name) → is_without row f key names ≡ true → number_in w f ≡ key → reads row names w ≡ None
unfolding reads
reads-without row f w key [] h e = refl
reads-without row f w key (n ∷ ns) h e =
    let parts = and_parts (not (may_have (row n) f key)) (is_without row f key ns) h in
    cond-false _ _ _ (false_from_ne_true _ (λ taken. both_ways _ (not-true _ parts.0) (takes-may_have (row n) f w key taken e)))
    ∙ reads-without row f w key ns parts.1 e

option_or-None : {T : Type 0} (o : Option T) → option_or o None ≡ o
option_or-None None = refl
option_or-None (Some x) = refl

-- with a key that only one group has, a word is what that group says
pub reads-group : {Name : Type 0} (row : Name → Row) (f : Field) (w key : ℕ) (groups : List (List Name)) (place : ℕ) (g : List Name) → slice_get groups place ≡ Some g → is_only_at row f groups place key ≡ true → number_in w f ≡ key → reads row (joined groups) w ≡ reads row g w
reads-group row f w key [] place g at h e = cc
reads-group row f w key (a ∷ groups) zero g at h e =
    reads-append row a (joined groups) w ∙ ap (option_or (reads row a w)) (reads-without row f w key (joined groups) h e) ∙ option_or-None (reads row a w)
    ∙ ap (λ n. reads row n w) (same_Some a g at)
reads-group row f w key (a ∷ groups) (suc place) g at h e =
    let parts = and_parts (is_without row f key a) (is_only_at row f groups place key) h in
    reads-append row a (joined groups) w ∙ ap (λ o. option_or o (reads row (joined groups) w)) (reads-without row f w key a parts.0 e)
    ∙ reads-group row f w key groups place g at parts.1 e

pub reads-among : {Name : Type 0} (row : Name → Row) (f : Field) (w : ℕ) (keys : List ℕ) (groups : List (List Name)) (place : ℕ) (g : List Name) → slice_get groups place ≡ Some g → are_only_at row f groups place keys ≡ true → IsAmong keys (number_in w f) → reads row (joined groups) w ≡ reads row g w
reads-among row f w [] groups place g at h e = absurd e
reads-among row f w (k ∷ []) groups place g at h e =
    reads-group row f w k groups place g at (and_parts (is_only_at row f groups place k) true h).0 e
reads-among row f w (k ∷ j ∷ ks) groups place g at h (inl e) =
    reads-group row f w k groups place g at (and_parts (is_only_at row f groups place k) (are_only_at row f groups place (j ∷ ks)) h).0 e
reads-among row f w (k ∷ j ∷ ks) groups place g at h (inr e) =
    reads-among row f w (j ∷ ks) groups place g at (and_parts (is_only_at row f groups place k) (are_only_at row f groups place (j ∷ ks)) h).1 e

not_in : (keys : List ℕ) (key : ℕ) → IsOther keys key → is_in key keys ≡ true → ⊥
not_in [] key other h = cc
not_in (k ∷ ks) key other h =
    elim (or_cases (eqb key k) (is_in key ks) h) [ inl here ↦ other.0 (eqb-true _ _ here) | inr there ↦ not_in ks key other.1 there ]

has_only_at : {Name : Type 0} (row : Name → Row) (f : Field) (keys : List ℕ) (names : List Name) (count key : ℕ) → key < count → has_only row f keys names count ≡ true → (is_in key keys || is_without row f key names) ≡ true
unfolding has_only
has_only_at row f keys names zero key below h = absurd (omega arith)
has_only_at row f keys names (suc last) key below h =
    let parts = and_parts (is_in last keys || is_without row f last names) (has_only row f keys names last) h in
    elim (cases_Bool (eqb key last)) [
      | inl same ↦ ap (λ k. is_in k keys || is_without row f k names) (eqb-true _ _ same) ∙ parts.0
      | inr differs ↦
          let apart : key ≢ last = eqb-false _ _ differs in
          has_only_at row f keys names last key (omega arith) parts.1
    ]

-- with a key that no row has, a word is in no row
pub reads-other : {Name : Type 0} (row : Name → Row) (f : Field) (w : ℕ) (keys : List ℕ) (names : List Name) → 0 < 2 ^ f.width → has_only row f keys names (2 ^ f.width) ≡ true → IsOther keys (number_in w f) → reads row names w ≡ None
reads-other row f w keys names some h other =
    elim (or_cases (is_in (number_in w f) keys) (is_without row f (number_in w f) names) (has_only_at row f keys names (2 ^ f.width) (number_in w f) (mod-lt (w / 2 ^ f.low) some) h)) [
      | inl listed ↦ absurd (not_in keys (number_in w f) other listed)
      | inr without ↦ reads-without row f w (number_in w f) names without refl
    ]

-- the number in the top byte of a word
abbrev pub top_byte : Field
top_byte = from_to 31 24

top_byte-shift : (w : ℕ) → w < 2 ^ 32 → number_in w top_byte ≡ w / 2 ^ 24
top_byte-shift w small = mod-eq_of_lt (omega arith)

pub reads-among_top : {Name : Type 0} (row : Name → Row) (w : ℕ) (keys : List ℕ) (groups : List (List Name)) (place : ℕ) (g : List Name) → w < 2 ^ 32 → slice_get groups place ≡ Some g → are_only_at row top_byte groups place keys ≡ true → IsAmong keys (w / 2 ^ 24) → reads row (joined groups) w ≡ reads row g w
reads-among_top row w keys groups place g small at h e =
    reads-among row top_byte w keys groups place g at h (subst (IsAmong keys) (sym (top_byte-shift w small)) e)

pub reads-other_top : {Name : Type 0} (row : Name → Row) (w : ℕ) (keys : List ℕ) (names : List Name) → w < 2 ^ 32 → has_only row top_byte keys names 256 ≡ true → IsOther keys (w / 2 ^ 24) → reads row names w ≡ None
reads-other_top row w keys names small h other =
    reads-other row top_byte w keys names (omega arith) h (subst (IsOther keys) (sym (top_byte-shift w small)) other)
