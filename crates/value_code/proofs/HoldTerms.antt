-- What is held for an expression: each has the next register, none is lost, and no more words load it than are saved.
use Rattle.std.proofs.Common.{◌≡◌, ℕ, ◌+◌, ◌*◌, ◌-◌, ◌<◌, ◌≤◌, ◌&&◌, ◌||◌, Bool, true, false, cond, List, [], ◌∷◌, ◌++◌, length, Option, Some, None, refl, sym, ap, ap₂, subst, arith}
use Rattle.std.specs.Prelude.{ℤ, pos, ◌*ℤ◌, nat_lt, nat_le, nat_eq, not, option_map, option_and_then, if◌then◌else◌}
use Rattle.std.specs.List.{find}
use Rattle.std.proofs.lemmas.Bool.{ltb-true, leb-true, eqb-true, eq-eqb, and_from, and_parts}
use Rattle.kernel_tree.specs.declared.ops.Ty.{Ty}
use Rattle.kernel_tree.specs.Plain.{Term, Literal, Variable, Element, Unary, Operation, Shift, Conversion, Choice, Comparison, Both, Either, Not}
use Rattle.kernel_tree.specs.Items.{term_size, index_size, stream_offset}
use Rattle.kernel_tree.specs.Typing.{Scope, lookup, element_type}
use Rattle.kernel_tree.specs.Wrap.{byte_count}
use Rattle.kernel_meaning.specs.Operators.{word}
use Rattle.loop_form.specs.Needs.{same_number}
use Rattle.loop_form.proofs.Places.{same_number-refl, same_number-told}
use Rattle.scalar_words.specs.Layout.{Key, OfNumber, OfAddress, Constant, Homes, register_at, same_key, is_constant, constant_register, constant_in, IsGiven}
use Rattle.value_code.specs.ItemWords.{addend}
use Rattle.value_code.specs.Code.{near, key_at, moved_key}
use Rattle.value_code.specs.HeldNumbers.{IsReached, AreNext, has_room, add_key, new_key, is_some, is_reached, hold_if, hold_moved, hold_element, addend_of, immediate_of, hold_side, hold_index, hold_term, key_words, loading_words, literal_words, element_words, coded_words}
use Rattle.value_code.proofs.CodedSizes.{literal_few, element_moves, term_moves, moved_few}

-- ---- numbers that are found

pub key_itself : (z : Key) → same_key z z ≡ true
key_itself (OfNumber z) = same_number-refl z
key_itself (OfAddress q c) = and_from (nat_eq q q) (same_number c c) (eq-eqb q q refl) (same_number-refl c)

pub key_is : (y z : Key) → same_key y z ≡ true → y ≡ z
key_is (OfNumber y) (OfNumber z) e = ap OfNumber (same_number-told y z e)
key_is (OfNumber y) (OfAddress r d) e = absurd cc
key_is (OfAddress q c) (OfNumber z) e = absurd cc
key_is (OfAddress q c) (OfAddress r d) e = ap₂ OfAddress (eqb-true q r (and_parts (nat_eq q r) (same_number c d) e).0) (same_number-told c d (and_parts (nat_eq q r) (same_number c d) e).1)

abbrev pub IsKept : Option ℕ → Type 0
IsKept None = ⊥
IsKept (Some r) = Unit {0}

kept_step : (b : Bool) (c : Constant) (o q : Option Constant) → (IsKept (option_map constant_register o) → IsKept (option_map constant_register q)) → IsKept (option_map constant_register (cond b (Some c) o)) → IsKept (option_map constant_register (cond b (Some c) q))
kept_step true c o q f k = tt
kept_step false c o q f k = f k

kept_on : (cs ds : List Constant) (z : Key) → IsKept (constant_in cs z) → IsKept (constant_in (cs ++ ds) z)
kept_on [] ds z k = absurd k
kept_on (c ∷ cs) ds z k = kept_step (is_constant z c) c (find (is_constant z) cs) (find (is_constant z) (cs ++ ds)) (kept_on cs ds z) k

kept_either : (b : Bool) (c : Constant) (o : Option Constant) → IsKept (option_map constant_register o) → IsKept (option_map constant_register (cond b (Some c) o))
kept_either true c o k = tt
kept_either false c o k = k

kept_last : (cs : List Constant) (c : Constant) (z : Key) → is_constant z c ≡ true → IsKept (constant_in (cs ++ c ∷ []) z)
kept_last [] c z e = subst (λ b. IsKept (option_map constant_register (cond b (Some c) None))) (sym e) tt
kept_last (d ∷ cs) c z e = kept_either (is_constant z d) d (find (is_constant z) (cs ++ c ∷ [])) (kept_last cs c z e)

-- each number of the one list is in the other one
abbrev pub Within : List Constant → List Constant → Type 0
Within cs ds = (z : Key) → IsKept (constant_in cs z) → IsKept (constant_in ds z)

-- ---- registers

next_on : (p n : ℕ) (cs : List Constant) (c : Constant) → AreNext p n cs → c.register + (n + length cs) ≡ 8 → p ≤ c.register → IsReached p c.key → AreNext p n (cs ++ c ∷ [])
next_on p n [] c h e le k = (omega (arith, e), le, k, tt)
next_on p n (d ∷ cs) c h e le k = (h.0, h.1, h.2, next_on p (n + 1) cs c h.3 (omega (arith, e)) le k)

given : (p : ℕ) (z : Key) → p ≤ 9 → IsReached p z → IsGiven 9 z
given p (OfNumber z) le h = tt
given p (OfAddress q c) le h = let l = h.0 in omega (arith, l, le)

low_step : (b : Bool) (c : Constant) (z : Key) (o : Option Constant) (r : ℕ) → is_constant z c ≡ b → (c.register < 9) × IsGiven 9 c.key → (option_map constant_register o ≡ Some r → (r < 9) × IsGiven 9 z) → option_map constant_register (cond b (Some c) o) ≡ Some r → (r < 9) × IsGiven 9 z
low_step true c z o r is low f e = let same : c.register ≡ r = cc in (let l = low.0 in omega (arith, l, same), subst (IsGiven 9) (key_is c.key z is) low.1)
low_step false c z o r is low f e = f e

pub next_low : (p n : ℕ) (cs : List Constant) (z : Key) (r : ℕ) → AreNext p n cs → constant_in cs z ≡ Some r → (r < 9) × IsGiven 9 z
next_low p n [] z r h e = absurd cc
next_low p n (c ∷ cs) z r h e = let k = h.0 in let l = h.1 in low_step (is_constant z c) c z (find (is_constant z) cs) r refl (omega (arith, k), given p c.key (omega (arith, k, l)) h.2) (next_low p (n + 1) cs z r h.3) e

-- ---- what is held after an expression

pub record Holds (p : ℕ) (cs ds : List Constant) : Type 0 where
  pub next : AreNext p 0 cs → AreNext p 0 ds
  pub more : Within cs ds

pub holds_same : (p : ℕ) (cs : List Constant) → Holds p cs cs
holds_same p cs = record { next = λ h. h; more = λ z k. k }

pub holds_on : {p : ℕ} {cs ds es : List Constant} → Holds p cs ds → Holds p ds es → Holds p cs es
holds_on h k = record { next = λ n. k.next (h.next n); more = λ z i. k.more z (h.more z i) }

holds_added_key : (p : ℕ) (z : Key) (cs : List Constant) (b : Bool) → IsReached p z → has_room p cs ≡ b → Holds p cs (add_key b z cs)
holds_added_key p z cs false is e = holds_same p cs
holds_added_key p z cs true is e =
    let c : Constant = record { key = z; register = 8 - length cs } in
    let few = ltb-true (length cs) 5 (and_parts (nat_lt (length cs) 5) (nat_le (p + length cs) 8) e).0 in
    let room = leb-true (p + length cs) 8 (and_parts (nat_lt (length cs) 5) (nat_le (p + length cs) 8) e).1 in
    record { next = λ h. next_on p 0 cs c h (omega (arith, few)) (omega (arith, few, room)) is; more = λ q k. kept_on cs (c ∷ []) q k }

key_held : (o : Option ℕ) (p : ℕ) (z : Key) (cs : List Constant) → IsReached p z → Holds p cs (new_key o p z cs)
key_held (Some r) p z cs is = holds_same p cs
key_held None p z cs is = holds_added_key p z cs (has_room p cs) is refl

addend_some : (v : ℕ) (b : Bool) → is_some (if b then Some v else None) ≡ true → (if b then Some v else None) ≡ Some v
addend_some v true e = refl
addend_some v false e = absurd cc

reached : (p : ℕ) (z : Key) → is_reached p z ≡ true → IsReached p z
reached p (OfNumber z) e = tt
reached p (OfAddress q c) e =
    let both = is_some (addend (word c)) && not (same_number c (pos 0)) in
    (ltb-true q p (and_parts (nat_lt q p) both e).0, addend_some (word c) (nat_lt (word c) 4096 || nat_lt 18446744073709547520 (word c)) (and_parts (is_some (addend (word c))) (not (same_number c (pos 0))) (and_parts (nat_lt q p) both e).1).0)

if_held : (b : Bool) (p : ℕ) (z : Key) (cs : List Constant) → is_reached p z ≡ b → Holds p cs (hold_if b p z cs)
if_held true p z cs e = key_held (constant_in cs z) p z cs (reached p z e)
if_held false p z cs e = holds_same p cs

moved_held : (o : Option Key) (p : ℕ) (cs : List Constant) → Holds p cs (hold_moved p o cs)
moved_held None p cs = holds_same p cs
moved_held (Some z) p cs = if_held (is_reached p z) p z cs refl

pub element_held : (p : ℕ) (hs : Homes) (s : Scope) (a : List ℕ) (o : Option ℤ) (cs : List Constant) → Holds p cs (hold_element p hs s a o cs)
element_held p hs s a o cs = moved_held (moved_key (register_at hs a) (option_and_then element_type (lookup s a)) o) p cs

side_held : (o : Option ℕ) (p : ℕ) (f : List Constant → List Constant) (cs : List Constant) → Holds p cs (f cs) → Holds p cs (hold_side o f cs)
side_held (Some v) p f cs h = holds_same p cs
side_held None p f cs h = h

index_held : (o : Option ℤ) (p : ℕ) (f : List Constant → List Constant) (cs : List Constant) → Holds p cs (f cs) → Holds p cs (hold_index o f cs)
index_held (Some c) p f cs h = holds_same p cs
index_held None p f cs h = h

pub term_held : (e : Term) (p : ℕ) (hs : Homes) (s : Scope) (cs : List Constant) → Holds p cs (hold_term p hs s e cs)
term_held (Literal z) p hs s cs = key_held (constant_in cs (OfNumber z)) p (OfNumber z) cs tt
term_held (Variable x) p hs s cs = holds_same p cs
term_held (Element a e) p hs s cs = holds_on (index_held (stream_offset s.index e) p (hold_term p hs s e) cs (term_held e p hs s cs)) (element_held p hs s a (stream_offset s.index e) (hold_index (stream_offset s.index e) (hold_term p hs s e) cs))
term_held (Unary op e) p hs s cs = term_held e p hs s cs
term_held (Operation op x y) p hs s cs = holds_on (term_held x p hs s cs) (side_held (addend_of op y) p (hold_term p hs s y) (hold_term p hs s x cs) (term_held y p hs s (hold_term p hs s x cs)))
term_held (Shift left e n) p hs s cs = term_held e p hs s cs
term_held (Conversion e t) p hs s cs = term_held e p hs s cs
term_held (Choice c x y) p hs s cs = holds_on (holds_on (term_held x p hs s cs) (term_held y p hs s (hold_term p hs s x cs))) (term_held c p hs s (hold_term p hs s y (hold_term p hs s x cs)))
term_held (Comparison op x y) p hs s cs = holds_on (term_held x p hs s cs) (side_held (immediate_of y) p (hold_term p hs s y) (hold_term p hs s x cs) (term_held y p hs s (hold_term p hs s x cs)))
term_held (Both x y) p hs s cs = holds_on (term_held x p hs s cs) (term_held y p hs s (hold_term p hs s x cs))
term_held (Either x y) p hs s cs = holds_on (term_held x p hs s cs) (term_held y p hs s (hold_term p hs s x cs))
term_held (Not e) p hs s cs = term_held e p hs s cs

pub side_holds : (o : Option ℕ) (e : Term) (p : ℕ) (hs : Homes) (s : Scope) (cs : List Constant) → Holds p cs (hold_side o (hold_term p hs s e) cs)
side_holds o e p hs s cs = side_held o p (hold_term p hs s e) cs (term_held e p hs s cs)

-- ---- how many they are

no_words : (o : Option ℕ) → IsKept o → literal_words o ≡ 0
no_words None k = absurd k
no_words (Some r) k = refl

loading_on : (cs : List Constant) (c : Constant) → loading_words (cs ++ c ∷ []) ≡ loading_words cs + key_words c.key
loading_on [] c = omega arith
loading_on (d ∷ cs) c = let h = loading_on cs c in omega (arith, h)

-- the words that load what is held after an expression, with those that it takes when all of `all` is held
abbrev pub IsFew : List Constant → List Constant → (coded most : ℕ) → Type 0
IsFew cs ds coded most = loading_words ds + coded ≤ loading_words cs + most

number_few : (p : ℕ) (z : ℤ) (cs all : List Constant) (o : Option ℕ) → constant_in cs (OfNumber z) ≡ o → Within (new_key o p (OfNumber z) cs) all → IsFew cs (new_key o p (OfNumber z) cs) (literal_words (constant_in all (OfNumber z))) 4
number_few p z cs all (Some r) e w = let k = no_words (constant_in all (OfNumber z)) (w (OfNumber z) (subst IsKept (sym e) tt)) in omega (arith, k)
number_few p z cs all None e w = room (has_room p cs) w
  where
    room : (b : Bool) → Within (add_key b (OfNumber z) cs) all → IsFew cs (add_key b (OfNumber z) cs) (literal_words (constant_in all (OfNumber z))) 4
    room true w =
        let c : Constant = record { key = OfNumber z; register = 8 - length cs } in
        let k = no_words (constant_in all (OfNumber z)) (w (OfNumber z) (kept_last cs c (OfNumber z) (key_itself (OfNumber z)))) in
        let n = loading_on cs c in
        omega (arith, k, n)
    room false w = let k = literal_few (constant_in all (OfNumber z)) in omega (arith, k)

-- an address takes one word
address_step : (b : Bool) (z : Key) (cs : List Constant) → key_words z ≤ 1 → loading_words (add_key b z cs) ≤ loading_words cs + 1
address_step true z cs le = let n = loading_on cs (record { key = z; register = 8 - length cs }) in omega (arith, n, le)
address_step false z cs le = omega arith

address_new : (o : Option ℕ) (p : ℕ) (z : Key) (cs : List Constant) → key_words z ≤ 1 → loading_words (new_key o p z cs) ≤ loading_words cs + 1
address_new (Some r) p z cs le = omega arith
address_new None p z cs le = address_step (has_room p cs) z cs le

address_if : (b : Bool) (p : ℕ) (z : Key) (cs : List Constant) → key_words z ≤ 1 → loading_words (hold_if b p z cs) ≤ loading_words cs + 1
address_if true p z cs le = address_new (constant_in cs z) p z cs le
address_if false p z cs le = omega arith

key_few : (p q : ℕ) (t : Option Ty) (o : Option ℤ) (cs : List Constant) → loading_words (hold_moved p (key_at q t o) cs) ≤ loading_words cs + 1
key_few p q None o cs = omega arith
key_few p q (Some t) None cs = omega arith
key_few p q (Some t) (Some c) cs = address_if (is_reached p (OfAddress q (pos (byte_count t) *ℤ c))) p (OfAddress q (pos (byte_count t) *ℤ c)) cs (omega arith)

key_none : (p q : ℕ) (t : Option Ty) (cs : List Constant) → loading_words (hold_moved p (key_at q t None) cs) ≤ loading_words cs
key_none p q None cs = omega arith
key_none p q (Some t) cs = omega arith

pub element_few : (p : ℕ) (hs : Homes) (s : Scope) (a : List ℕ) (o : Option ℤ) (cs : List Constant) → loading_words (hold_element p hs s a o cs) ≤ loading_words cs + 1
element_few p hs s a o cs = key_few p (register_at hs a) (option_and_then element_type (lookup s a)) (near o) cs

side_few : (o : Option ℕ) (e : Term) (p : ℕ) (hs : Homes) (s : Scope) (cs all : List Constant) → Within (hold_side o (hold_term p hs s e) cs) all → (Within (hold_term p hs s e cs) all → IsFew cs (hold_term p hs s e cs) (term_moves s.index e + coded_words all s.index e) (4 * term_size s.index e)) → IsFew cs (hold_side o (hold_term p hs s e) cs) (term_moves s.index e + coded_words all s.index e) (4 * term_size s.index e)
side_few (Some v) e p hs s cs all w f = let k = moved_few e all s.index in omega (arith, k)
side_few None e p hs s cs all w f = f w

read_few : (o : Option ℤ) (a : List ℕ) (e : Term) (p : ℕ) (hs : Homes) (s : Scope) (cs all : List Constant) → Within (hold_element p hs s a o (hold_index o (hold_term p hs s e) cs)) all → (Within (hold_term p hs s e cs) all → IsFew cs (hold_term p hs s e cs) (term_moves s.index e + coded_words all s.index e) (4 * term_size s.index e))
    → IsFew cs (hold_element p hs s a o (hold_index o (hold_term p hs s e) cs)) (element_moves o (term_moves s.index e) + element_words o (coded_words all s.index e)) (4 * (index_size o (term_size s.index e) + 1))
read_few (Some c) a e p hs s cs all w f = let k = element_few p hs s a (Some c) cs in omega (arith, k)
read_few None a e p hs s cs all w f =
    let h = element_held p hs s a None (hold_term p hs s e cs) in
    let k = f (λ z q. w z (h.more z q)) in
    let j = key_none p (register_at hs a) (option_and_then element_type (lookup s a)) (hold_term p hs s e cs) in
    omega (arith, k, j)

pub term_few : (e : Term) (p : ℕ) (hs : Homes) (s : Scope) (cs all : List Constant) → Within (hold_term p hs s e cs) all → IsFew cs (hold_term p hs s e cs) (term_moves s.index e + coded_words all s.index e) (4 * term_size s.index e)
term_few (Literal z) p hs s cs all w = let k = number_few p z cs all (constant_in cs (OfNumber z)) refl w in omega (arith, k)
term_few (Variable x) p hs s cs all w = omega arith
term_few (Element a e) p hs s cs all w = read_few (stream_offset s.index e) a e p hs s cs all w (term_few e p hs s cs all)
term_few (Unary op e) p hs s cs all w = let k = term_few e p hs s cs all w in omega (arith, k)
term_few (Operation op x y) p hs s cs all w =
    let h = side_holds (addend_of op y) y p hs s (hold_term p hs s x cs) in
    let k = term_few x p hs s cs all (λ z q. w z (h.more z q)) in
    let j = side_few (addend_of op y) y p hs s (hold_term p hs s x cs) all w (term_few y p hs s (hold_term p hs s x cs) all) in
    omega (arith, k, j)
term_few (Shift left e n) p hs s cs all w = let k = term_few e p hs s cs all w in omega (arith, k)
term_few (Conversion e t) p hs s cs all w = let k = term_few e p hs s cs all w in omega (arith, k)
term_few (Choice c x y) p hs s cs all w =
    let ds = hold_term p hs s x cs in
    let es = hold_term p hs s y ds in
    let hc = term_held c p hs s es in
    let hy = term_held y p hs s ds in
    let k = term_few x p hs s cs all (λ z q. w z (hc.more z (hy.more z q))) in
    let j = term_few y p hs s ds all (λ z q. w z (hc.more z q)) in
    let h = term_few c p hs s es all w in
    omega (arith, k, j, h)
term_few (Comparison op x y) p hs s cs all w =
    let h = side_holds (immediate_of y) y p hs s (hold_term p hs s x cs) in
    let k = term_few x p hs s cs all (λ z q. w z (h.more z q)) in
    let j = side_few (immediate_of y) y p hs s (hold_term p hs s x cs) all w (term_few y p hs s (hold_term p hs s x cs) all) in
    omega (arith, k, j)
term_few (Both x y) p hs s cs all w =
    let h = term_held y p hs s (hold_term p hs s x cs) in
    let k = term_few x p hs s cs all (λ z q. w z (h.more z q)) in
    let j = term_few y p hs s (hold_term p hs s x cs) all w in
    omega (arith, k, j)
term_few (Either x y) p hs s cs all w =
    let h = term_held y p hs s (hold_term p hs s x cs) in
    let k = term_few x p hs s cs all (λ z q. w z (h.more z q)) in
    let j = term_few y p hs s (hold_term p hs s x cs) all w in
    omega (arith, k, j)
term_few (Not e) p hs s cs all w = let k = term_few e p hs s cs all w in omega (arith, k)

pub side_is_few : (o : Option ℕ) (e : Term) (p : ℕ) (hs : Homes) (s : Scope) (cs all : List Constant) → Within (hold_side o (hold_term p hs s e) cs) all → IsFew cs (hold_side o (hold_term p hs s e) cs) (term_moves s.index e + coded_words all s.index e) (4 * term_size s.index e)
side_is_few o e p hs s cs all w = side_few o e p hs s cs all w (term_few e p hs s cs all)
