-- What reading comes to.
use Rattle.std.proofs.Common.{◌≡◌, ℕ, suc, ◌≤◌, false, List, [], ◌∷◌, length, Option, Some, None, Result, Ok, Err, refl, sym, ap, ◌∙◌, arith, inl, inr}
use Rattle.std.specs.Prelude.{nat_lt, option_map, IfOk}
use Rattle.std.proofs.lemmas.Bool.{cond-true, cond-false}
use Rattle.std.proofs.lemmas.Bool.Decides.{leb_tells}
use Rattle.std.proofs.lemmas.List.{length-map}
use Rattle.kernel_tree.specs.declared.ast.Kernel.{Kernel}
use Rattle.kernel_tree.specs.declared.token.Token.{Token}
use Rattle.kernel_tree.specs.TextToken.{TextToken}
use Rattle.kernel_tree.specs.Plain.{Program, program_of, word_of, words_of}
use Rattle.kernel_tree.specs.Tokens.{tokens_of}
use Rattle.kernel_tree.proofs.TokenList.{tokens_are}
use Rattle.kernel_syntax.specs.declared.fault.ReadFault.{ReadFault}
use Rattle.kernel_syntax.specs.declared.fault.ReadFault.TheVariants as faults
use Rattle.kernel_syntax.specs.Headers.{alone}
use Rattle.kernel_syntax.specs.Nesting.{deep_place}
use Rattle.kernel_syntax.specs.Refusals.{words_fault, tokens_fault, limit_fault, IsReadFrom, WordsGive, TextGives}

within_is : (a b : ℕ) → b ≤ a → nat_lt a b ≡ false
within_is a b h = elim (leb_tells (suc a) b) [ inl t ↦ absurd (omega (arith, t.1)) | inr f ↦ f.0 ]

pub deep_words : (ts : List Token) (o : Option ℕ) → length ts ≤ 4096 → o ≡ deep_place (words_of ts) → words_fault (words_of ts) ≡ option_map faults.TooDeep o
deep_words ts o h e = cond-false _ _ _ (within_is 4096 (length (words_of ts)) (omega (arith, length-map ts word_of))) ∙ ap (option_map faults.TooDeep) (sym e)

pub short_text : (text : List ℕ) (r : Result (List TextToken) ℕ) → length text ≤ 65536 → tokens_of text ≡ r → limit_fault text ≡ tokens_fault r
short_text text r h e = cond-false _ _ _ (within_is 65536 (length text) h) ∙ ap tokens_fault e

pub words_within_4096 : (words : List TextToken) → words_fault words ≡ None → length words ≤ 4096
words_within_4096 words h = elim (leb_tells (suc 4096) (length words)) [ inl t ↦ absurd (some_none (sym (cond-true _ _ _ t.0) ∙ h)) | inr f ↦ omega (arith, f.1) ]
  where
    some_none : Some faults.TooLong ≡ None → ⊥
    some_none e = cc

pub words_give_text : (text : List ℕ) (ts : List Token) (r : Result Kernel ReadFault) → length text ≤ 65536 → tokens_of text ≡ Ok (words_of ts) → WordsGive (words_of ts) r → TextGives text r
words_give_text text ts (Ok k) h e g = (short_text text (Ok (words_of ts)) h e ∙ g.0, record { words = words_of ts; tokens = e; few = words_within_4096 (words_of ts) g.0; spelled = tokens_are ts; tree = g.1 })
words_give_text text ts (Err faults.TooLong) h e g = short_text text (Ok (words_of ts)) h e ∙ g
words_give_text text ts (Err (faults.BadByte at)) h e g = absurd g
words_give_text text ts (Err (faults.TooDeep token)) h e g = short_text text (Ok (words_of ts)) h e ∙ g
words_give_text text ts (Err (faults.Syntax token)) h e g = (short_text text (Ok (words_of ts)) h e ∙ g.0, record { words = words_of ts; tokens = e; none = g.1 }, record { words = words_of ts; tokens = e; place = g.2 })
words_give_text text ts (Err faults.Memory) h e g = tt

pub read_tree : (text : List ℕ) (r : Result Kernel ReadFault) → TextGives text r → IfOk r (λ k. IsReadFrom text (program_of k))
read_tree text (Ok k) g = g.1
read_tree text (Err e) g = tt

pub read_within : (text : List ℕ) (r : Result Kernel ReadFault) → TextGives text r → IfOk r (λ k. limit_fault text ≡ None)
read_within text (Ok k) g = g.0
read_within text (Err e) g = tt

-- tokens are left after a kernel
pub left_following : (k : Program) (ts : List Token) → 1 ≤ length ts → alone k (words_of ts) ≡ Err (length ts)
left_following k [] h = absurd (omega arith)
left_following k (t ∷ ts) h = ap (λ n. Err (suc n)) (length-map ts word_of)

pub nothing_following : (k : Program) (ts : List Token) → length ts ≡ 0 → alone k (words_of ts) ≡ Ok k
nothing_following k [] h = refl
nothing_following k (t ∷ ts) h = absurd (omega arith)
