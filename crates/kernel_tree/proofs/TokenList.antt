-- A list of tokens is one that some text has.
use Rattle.std.proofs.Common.{◌^◌, Bool, true, false, List, [], ◌∷◌, refl}
use Rattle.std.proofs.lemmas.Bool.{lt-ltb}
use Rattle.std.specs.Prelude.{◌&&◌, IsTrue}
use Rattle.kernel_tree.specs.declared.token.Token.{Token}
use Rattle.kernel_tree.specs.declared.token.Token.TheVariants as token
use Rattle.kernel_tree.specs.Tokens.{is_token, are_tokens}
use Rattle.kernel_tree.specs.Plain.{word_of, words_of}

is_true_and : (a b : Bool) → IsTrue a → IsTrue b → IsTrue (a && b)
is_true_and true b p q = q
is_true_and false b p q = absurd cc

token_is : (t : Token) → IsTrue (is_token (word_of t))
token_is (token.Name x) = x.is_name
token_is (token.Number n) = lt-ltb n.value (2 ^ 127) n.in_range
token_is other = refl

pub tokens_are : (ts : List Token) → IsTrue (are_tokens (words_of ts))
tokens_are [] = refl
tokens_are (t ∷ ts) = is_true_and (is_token (word_of t)) (are_tokens (words_of ts)) (token_is t) (tokens_are ts)
