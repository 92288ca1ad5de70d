-- The doublewords of a frame: how they are written and read in two parts, and that they have 64 bits.
use Rattle.std.proofs.Common.{◌≡◌, ℕ, suc, ◌+◌, ◌*◌, ◌/◌, ◌^◌, ◌<◌, true, List, [], ◌∷◌, ◌++◌, length, Option, Some, None, refl, ap, ◌∙◌, subst, arith, get_or-set_same}
use Rattle.std.specs.Prelude.{All, map, is_some}
use Rattle.std.proofs.lemmas.List.Elements.{All-nil, All-cons, All-append, All-get_or}
use Rattle.guest_types.specs.Memory.{Page, Memory, can_read, can_write, may_write, page_at, put_number}
use Rattle.a64_code.specs.Table as a64
use Rattle.machine_model.specs.Machine.{State, x_at, with_x, next}
use Rattle.machine_model.specs.States.{IsState}
use Rattle.machine_model.proofs.ScalarStates.{scalar_keeps}
use Rattle.promises.specs.Saved.{Saved}
use Rattle.call_code.specs.Frame.{low_at, kept_words, with_words}
use Rattle.call_code.proofs.AroundWords.{AreLow, AreSaved, z_low}
use Rattle.call_code.proofs.Restores.{AreRegisters}
use Rattle.call_code.proofs.SavedWords.{Holds}

pub written_is_read : (m : Memory) (x : ℕ) → can_write m x ≡ true → can_read m x ≡ true
written_is_read m x h = by (page_at m (x / 4096)) h
  where
    by : (o : Option Page) → may_write o ≡ true → is_some o ≡ true
    by None h = cc
    by (Some p) h = refl

pub words_append : (m : Memory) (a : ℕ) (xs ys : List ℕ) → with_words m a (xs ++ ys) ≡ with_words (with_words m a xs) (a + 8 * length xs) ys
words_append m a [] ys = let e : a ≡ a + 8 * 0 = omega arith in ap (λ b. with_words m b ys) e
words_append m a (x ∷ xs) ys =
    let e : a + 8 + 8 * length xs ≡ a + 8 * suc (length xs) = omega arith in
    words_append (put_number m a 8 x) (a + 8) xs ys ∙ ap (λ b. with_words (with_words (put_number m a 8 x) (a + 8) xs) b ys) e

pub holds_front : (m : Memory) (a : ℕ) (xs ys : List ℕ) → Holds m a (xs ++ ys) → Holds m a xs
holds_front m a [] ys h = tt
holds_front m a (x ∷ xs) ys h = (h.0, holds_front m (a + 8) xs ys h.1)

pub holds_back : (m : Memory) (a : ℕ) (xs ys : List ℕ) → Holds m a (xs ++ ys) → Holds m (a + 8 * length xs) ys
holds_back m a [] ys h = let e : a ≡ a + 8 * 0 = omega arith in subst (λ b. Holds m b ys) e h
holds_back m a (x ∷ xs) ys h =
    let e : a + 8 + 8 * length xs ≡ a + 8 * suc (length xs) = omega arith in
    subst (λ b. Holds m b ys) e (holds_back m (a + 8) xs ys h.1)

x_small : (s : State) (r : ℕ) → IsState s → r < 31 → x_at s r < 2 ^ 64
x_small s r h low = let sized = h.x_count in All-get_or (λ n. n < 2 ^ 64) s.x r 0 (omega (arith, sized, low)) h.x_small

low_word : (s : State) (r : ℕ) → IsState s → r < 32 → low_at s r < 2 ^ 64
low_word s r h low =
    let v = low_at s r in
    let t : State = next (with_x s 9 v) in
    let is : IsState t = scalar_keeps a64.umov (9 ∷ r ∷ []) s t (let z : 9 < 2 ^ 5 = omega arith in z, (low, tt)) h refl in
    let sized = h.x_count in
    let e : x_at t 9 ≡ v = get_or-set_same s.x 9 v 0 (omega (arith, sized)) in
    subst (λ n. n < 2 ^ 64) e (x_small t 9 is (omega arith))

x_words_small : (s : State) (rs : List ℕ) → IsState s → AreRegisters 31 rs → All (λ v. v < 2 ^ 64) (map (x_at s) rs)
x_words_small s [] h low = All-nil (λ v. v < 2 ^ 64)
x_words_small s (r ∷ rs) h low = All-cons (λ v. v < 2 ^ 64) _ _ (x_small s r h low.0) (x_words_small s rs h low.2)

pub z_words_small : (s : State) (rs : List ℕ) → IsState s → AreLow rs → All (λ v. v < 2 ^ 64) (map (low_at s) rs)
z_words_small s [] h low = All-nil (λ v. v < 2 ^ 64)
z_words_small s (r ∷ rs) h low = All-cons (λ v. v < 2 ^ 64) _ _ (low_word s r h low.0) (z_words_small s rs h low.1)

pub words_small : (v : Saved) (s : State) → AreSaved v → IsState s → All (λ w. w < 2 ^ 64) (kept_words v s)
words_small v s saved h =
    All-append (λ w. w < 2 ^ 64) (map (x_at s) v.x) (map (low_at s) v.z) (x_words_small s v.x h saved.x) (z_words_small s v.z h (z_low v saved))
