-- Lines of consecutive words, and how many there may be.
use Rattle.std.proofs.Common.{◌≡◌, ℕ, zero, suc, ◌+◌, ◌-◌, ◌*◌, ◌≤◌, List, [], ◌++◌, Option, Result, Ok, Err, refl, ap, sym, ◌∙◌, subst, arith, append_assoc, append-nil}
use Rattle.std.specs.Prelude.{IsErr}
use Rattle.io_edges.specs.declared.sink.Failed.{Failed}
use Rattle.guest_types.specs.Memory.{Memory, number_at}
use Rattle.list_text.specs.Text.{list_text, line_text}
use Rattle.program_commands.specs.Listing.{words_from, lines_from}
use Rattle.io_edges.specs.Sink.{PutsText}
use Rattle.io_edges.proofs.Puts.{puts_then, puts_cut, puts_nothing}

-- some words, and those after them
pub join : (m : Memory) (a n k j : ℕ) → j ≡ n + k → lines_from m a j ≡ lines_from m a n ++ lines_from m (a + 4 * n) k
unfolding lines_from words_from list_text
join m a zero k j e =
    let count : j ≡ k = omega (arith, e) in
    let place : a ≡ a + 4 * 0 = omega arith in
    ap (λ i. lines_from m a i) count ∙ ap (λ b. lines_from m b k) place
join m a (suc n) k zero e = absurd (omega arith)
join m a (suc n) k (suc j) e =
    let line = line_text a (number_at m a 4) in
    let place : a + 4 + 4 * n ≡ a + 4 * suc n = omega arith in
    ap (λ t. line ++ t) (join m (a + 4) n k j (omega arith))
    ∙ sym (append_assoc line (lines_from m (a + 4) n) (lines_from m (a + 4 + 4 * n) k))
    ∙ ap (λ b. (line ++ lines_from m (a + 4) n) ++ lines_from m b k) place

-- no words
pub lines_of_no_word : (m : Memory) (a : ℕ) → lines_from m a 0 ≡ []
unfolding lines_from words_from list_text
lines_of_no_word m a = refl

-- one word
lines_of_one_word : (m : Memory) (a : ℕ) → lines_from m a 1 ≡ line_text a (number_at m a 4)
unfolding lines_from words_from list_text
lines_of_one_word m a = append-nil (line_text a (number_at m a 4))

-- some words, and one after them
pub lines_of_one_word_more : (m : Memory) (a n : ℕ) → lines_from m a (n + 1) ≡ lines_from m a n ++ line_text (a + 4 * n) (number_at m (a + 4 * n) 4)
lines_of_one_word_more m a n = join m a n 1 (n + 1) refl ∙ ap (λ t. lines_from m a n ++ t) (lines_of_one_word m (a + 4 * n))

-- ---- lines on an output

-- more lines were put after some
pub puts_more : (m : Memory) (a n k : ℕ) (old mid new : Option (List ℕ)) (x y z : ℕ) (text : List ℕ) (result : Result (Unit {0}) Failed) → text ≡ lines_from m (a + 4 * n) k → PutsText {T = Unit {0}} old mid x y (lines_from m a n) (Ok tt) → PutsText mid new y z text result → PutsText old new x z (lines_from m a (n + k)) result
puts_more m a n k old mid new x y z text result is p q =
    let whole : lines_from m a n ++ text ≡ lines_from m a (n + k) = ap (λ t. lines_from m a n ++ t) is ∙ sym (join m a n k (n + k) refl) in
    subst (λ t. PutsText old new x z t result) whole (puts_then old mid new x y z (lines_from m a n) text (Ok tt) result refl p q)

-- the output failed among the first lines
pub puts_short : (m : Memory) (a n count : ℕ) (old new : Option (List ℕ)) (x z : ℕ) (first result : Result (Unit {0}) Failed) (failed : Failed) → first ≡ Err failed → IsErr result → n ≤ count → PutsText old new x z (lines_from m a n) first → PutsText old new x z (lines_from m a count) result
puts_short m a n count old new x z first (Ok done) failed is err most p = absurd cc
puts_short m a n count old new x z first (Err other) failed is err most p =
    let cut : PutsText {T = Unit {0}} old new x z (lines_from m a n ++ lines_from m (a + 4 * n) (count - n)) (Err failed) = puts_cut old new x z (lines_from m a n) (lines_from m (a + 4 * n) (count - n)) first failed is p in
    let whole : PutsText {T = Unit {0}} old new x z (lines_from m a count) (Err failed) = subst (λ t. PutsText {T = Unit {0}} old new x z t (Err failed)) (sym (join m a n (count - n) count (omega arith))) cut in
    record { all = tt; part = whole.part; untold = whole.untold; cause = record { later = whole.cause.later; failed = whole.cause.failed } }

-- no lines were put
pub puts_none : (m : Memory) (a : ℕ) (old : Option (List ℕ)) (x : ℕ) → PutsText {T = Unit {0}} old old x x (lines_from m a 0) (Ok tt)
puts_none m a old x = subst (λ t. PutsText {T = Unit {0}} old old x x t (Ok tt)) (sym (lines_of_no_word m a)) (puts_nothing old x)
