-- What bytes begin with: numbers of four bytes, and fields and files, which say where they end.
use Rattle.std.proofs.Common.{◌≡◌, ℕ, zero, suc, ◌+◌, ◌<◌, ◌≤◌, ◌^◌, List, [], ◌∷◌, ◌++◌, take, drop, length, get_or, refl, ap, sym, ◌∙◌, subst, arith, append_assoc, length-append}
use Rattle.std.specs.Prelude.{flat_map}
use Rattle.std.specs.Int.{to_le_bytes, from_le_bytes, w32}
use Rattle.page.specs.Answer.{field}
use Rattle.page.specs.Request.{file_bytes, AllOf, counted, counted_files}

same_of_le_bytes_4 : (m n : ℕ) → m < 2 ^ 32 → n < 2 ^ 32 → to_le_bytes w32 m ≡ to_le_bytes w32 n → m ≡ n
same_of_le_bytes_4 m n p q same = let read = ap (from_le_bytes w32) same in omega arith

pub number_front : (m n : ℕ) (x y : List ℕ) → m < 2 ^ 32 → n < 2 ^ 32 → to_le_bytes w32 m ++ x ≡ to_le_bytes w32 n ++ y → (m ≡ n) × (x ≡ y)
number_front m n x y p q same = (same_of_le_bytes_4 m n p q (ap (take 4) same), ap (drop 4) same)

-- lists of one length at the front of two equal lists
even_front : (a b x y : List ℕ) → length a ≡ length b → a ++ x ≡ b ++ y → (a ≡ b) × (x ≡ y)
even_front [] [] x y even same = (refl, same)
even_front [] (n ∷ b) x y even same = absurd (omega (arith, even))
even_front (m ∷ a) [] x y even same = absurd (omega (arith, even))
even_front (m ∷ a) (n ∷ b) x y even same =
    let rest = even_front a b x y (omega (arith, even)) (ap (drop 1) same) in
    let first = ap (λ l. get_or l 0 0) same in
    (λ i. first i ∷ rest.0 i, rest.1)

-- Of a code: the bytes of a thing at the front of fewer than 2^32 bytes are those of no other.
abbrev pub Front : {A : Type 0} → (A → List ℕ) → Type 0
Front {A} code = (a b : A) (x y : List ℕ) → length (code a ++ x) < 2 ^ 32 → code a ++ x ≡ code b ++ y → (a ≡ b) × (x ≡ y)

field_length : (a x : List ℕ) → length (field a ++ x) ≡ 4 + length a + length x
field_length a x = omega (arith, length-append a x)

pub field_front : Front field
field_front a b x y short same =
    let long = ap length same in
    let numbers = number_front (length a) (length b) (a ++ x) (b ++ y)
    (omega (arith, field_length a x)) (omega (arith, field_length a x, field_length b y)) same in
    even_front a b x y numbers.0 numbers.1

pub file_front : Front file_bytes
file_front a b x y short same =
    let one = append_assoc (field a.0) (field a.1) x in
    let other = append_assoc (field b.0) (field b.1) y in
    let all = sym one ∙ same ∙ other in
    let less = ap length one in
    let names = field_front a.0 b.0 (field a.1 ++ x) (field b.1 ++ y) (omega (arith, less)) all in
    let bytes = field_front a.1 b.1 x y (omega (arith, less, field_length a.0 (field a.1 ++ x))) names.1 in
    (λ i. (names.0 i, bytes.0 i), bytes.1)

rest_short : {A : Type 0} (code : A → List ℕ) (a : A) (xs : List A) (x : List ℕ) → length (flat_map code (a ∷ xs) ++ x) < 2 ^ 32
    → (length (code a ++ (flat_map code xs ++ x)) < 2 ^ 32) × (length (flat_map code xs ++ x) < 2 ^ 32)
rest_short code a xs x short =
    let whole = ap length (append_assoc (code a) (flat_map code xs) x) in
    let parts = length-append (code a) (flat_map code xs ++ x) in
    (omega (arith, whole), omega (arith, whole, parts))

-- the same things, where they are as many
pub all_fronts : {A : Type 0} (code : A → List ℕ) → Front code → (xs ys : List A) (x y : List ℕ) → length xs ≡ length ys
    → length (flat_map code xs ++ x) < 2 ^ 32 → flat_map code xs ++ x ≡ flat_map code ys ++ y → (xs ≡ ys) × (x ≡ y)
all_fronts code front [] [] x y even short same = (refl, same)
all_fronts code front [] (b ∷ ys) x y even short same = absurd (omega (arith, even))
all_fronts code front (a ∷ xs) [] x y even short same = absurd (omega (arith, even))
all_fronts code front (a ∷ xs) (b ∷ ys) x y even short same =
    let less = rest_short code a xs x short in
    let first = front a b (flat_map code xs ++ x) (flat_map code ys ++ y) less.0
    (sym (append_assoc (code a) (flat_map code xs) x) ∙ same ∙ append_assoc (code b) (flat_map code ys) y) in
    let others = all_fronts code front xs ys x y (omega (arith, even)) less.1 first.1 in
    (λ i. first.0 i ∷ others.0 i, others.1)

-- what comes next, where there are more
pub next_front : {A : Type 0} (code : A → List ℕ) → Front code → (Good : A → Type 0) (xs ys : List A) (x y : List ℕ) → length xs < length ys
    → length (flat_map code xs ++ x) < 2 ^ 32 → flat_map code xs ++ x ≡ flat_map code ys ++ y → AllOf Good ys
    → (b : A) × (rest : List ℕ) × Good b × (x ≡ code b ++ rest)
next_front code front Good xs [] x y more short same good = absurd (omega (arith, more))
next_front code front Good [] (b ∷ ys) x y more short same good = (b, flat_map code ys ++ y, good.0, same ∙ append_assoc (code b) (flat_map code ys) y)
next_front code front Good (a ∷ xs) (b ∷ ys) x y more short same good =
    let less = rest_short code a xs x short in
    let first = front a b (flat_map code xs ++ x) (flat_map code ys ++ y) less.0
    (sym (append_assoc (code a) (flat_map code xs) x) ∙ same ∙ append_assoc (code b) (flat_map code ys) y) in
    next_front code front Good xs ys x y (omega (arith, more)) less.1 first.1 good.1

-- each thing has a byte at least
pub as_many : {A : Type 0} (code : A → List ℕ) → ((a : A) → 0 < length (code a)) → (xs : List A) → length xs ≤ length (flat_map code xs)
as_many code some [] = omega arith
as_many code some (a ∷ xs) = omega (arith, some a, as_many code some xs, length-append (code a) (flat_map code xs))

-- the same things after the same number
pub counted_front : {A : Type 0} (code : A → List ℕ) → Front code → ((a : A) → 0 < length (code a)) → (xs ys : List A) (x y : List ℕ)
    → length xs < 2 ^ 32 → length (to_le_bytes w32 (length xs) ++ (flat_map code xs ++ x)) < 2 ^ 32
    → to_le_bytes w32 (length xs) ++ (flat_map code xs ++ x) ≡ to_le_bytes w32 (length ys) ++ (flat_map code ys ++ y) → (xs ≡ ys) × (x ≡ y)
counted_front code front some xs ys x y few short same =
    let long = ap length same in
    let many : length ys < 2 ^ 32 = omega (arith, short, long, as_many code some ys, length-append (flat_map code ys) y) in
    let number = number_front (length xs) (length ys) (flat_map code xs ++ x) (flat_map code ys ++ y) few many same in
    all_fronts code front xs ys x y number.0 (omega (arith, short)) number.1

pub field_some : (a : List ℕ) → 0 < length (field a)
field_some a = omega arith

pub file_some : (a : List ℕ × List ℕ) → 0 < length (file_bytes a)
file_some a = omega arith
