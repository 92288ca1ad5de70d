-- An expression takes no more words than four an item.
use Rattle.std.proofs.Common.{ℕ, ◌+◌, ◌*◌, ◌≤◌, List, Option, Some, None, arith}
use Rattle.std.specs.Prelude.{ℤ}
use Rattle.kernel_tree.specs.Plain.{Term, Literal, Variable, Element, Unary, Operation, Shift, Conversion, Choice, Comparison, Both, Either, Not}
use Rattle.kernel_tree.specs.Items.{term_size, index_size, stream_offset}
use Rattle.scalar_words.specs.Layout.{OfNumber, Constant, constant_in}
use Rattle.value_code.specs.HeldNumbers.{literal_words, element_words, coded_words}

pub literal_few : (o : Option ℕ) → literal_words o ≤ 4
literal_few None = omega arith
literal_few (Some r) = omega arith

-- the elements at offsets from the loop variable, each of which pays for a word of its array
abbrev pub element_moves : Option ℤ → ℕ → ℕ
element_moves (Some c) n = 1
element_moves None n = n

abbrev pub term_moves : Option (List ℕ) → Term → ℕ
term_moves i (Literal n) = 0
term_moves i (Variable x) = 0
term_moves i (Element a e) = element_moves (stream_offset i e) (term_moves i e)
term_moves i (Unary op e) = term_moves i e
term_moves i (Operation op a b) = term_moves i a + term_moves i b
term_moves i (Shift left e n) = term_moves i e
term_moves i (Conversion e t) = term_moves i e
term_moves i (Choice c a b) = term_moves i a + term_moves i b + term_moves i c
term_moves i (Comparison op a b) = term_moves i a + term_moves i b
term_moves i (Both a b) = term_moves i a + term_moves i b
term_moves i (Either a b) = term_moves i a + term_moves i b
term_moves i (Not e) = term_moves i e

element_few : (o : Option ℤ) (k m n : ℕ) → k + m ≤ 4 * n → element_moves o k + element_words o m ≤ 4 * (index_size o n + 1)
element_few (Some c) k m n h = omega arith
element_few None k m n h = omega (arith, h)

pub moved_few : (e : Term) (cs : List Constant) (i : Option (List ℕ)) → term_moves i e + coded_words cs i e ≤ 4 * term_size i e
moved_few (Literal n) cs i = let h = literal_few (constant_in cs (OfNumber n)) in omega (arith, h)
moved_few (Variable x) cs i = omega arith
moved_few (Element a e) cs i = element_few (stream_offset i e) _ _ _ (moved_few e cs i)
moved_few (Unary op e) cs i = let h = moved_few e cs i in omega (arith, h)
moved_few (Operation op a b) cs i = let h = moved_few a cs i in let k = moved_few b cs i in omega (arith, h, k)
moved_few (Shift left e n) cs i = let h = moved_few e cs i in omega (arith, h)
moved_few (Conversion e t) cs i = let h = moved_few e cs i in omega (arith, h)
moved_few (Choice c a b) cs i = let h = moved_few a cs i in let k = moved_few b cs i in let j = moved_few c cs i in omega (arith, h, k, j)
moved_few (Comparison op a b) cs i = let h = moved_few a cs i in let k = moved_few b cs i in omega (arith, h, k)
moved_few (Both a b) cs i = let h = moved_few a cs i in let k = moved_few b cs i in omega (arith, h, k)
moved_few (Either a b) cs i = let h = moved_few a cs i in let k = moved_few b cs i in omega (arith, h, k)
moved_few (Not e) cs i = let h = moved_few e cs i in omega (arith, h)

pub coded_few : (e : Term) (cs : List Constant) (i : Option (List ℕ)) → coded_words cs i e ≤ 4 * term_size i e
coded_few e cs i = let h = moved_few e cs i in omega (arith, h)
