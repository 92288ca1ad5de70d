-- A text within the limits is read as a kernel, or no kernel is the tree of its tokens.
use Rattle.std.proofs.Common.{◌≡◌, ℕ, Bool, true, false, List, length, Some, None, Result, Ok, Err, refl, sym, ◌∙◌, ◌⊎◌, inl, inr}
use Rattle.std.specs.Prelude.{nat_lt}
use Rattle.std.proofs.lemmas.Bool.{cond-true, cond-false}
use Rattle.kernel_tree.specs.TextToken.{TextToken}
use Rattle.kernel_tree.specs.Plain.{Program}
use Rattle.kernel_tree.specs.Tokens.{tokens_of}
use Rattle.kernel_tree.specs.Limits.{most_bytes}
use Rattle.kernel_tokens.proofs.Spelled.{tokens_spelled}
use Rattle.kernel_syntax.specs.declared.fault.ReadFault.{ReadFault}
use Rattle.kernel_syntax.specs.declared.fault.ReadFault.TheVariants as faults
use Rattle.kernel_syntax.specs.Headers.{kernel_at}
use Rattle.kernel_syntax.specs.Refusals.{tokens_fault, words_fault, limit_fault, IsReadFrom, HasNoTree}
use Rattle.kernel_syntax.proofs.Outcomes.{words_within_4096}
use Rattle.kernel_syntax.proofs.KernelSound.{kernel_spells}
use Rattle.kernel_syntax.proofs.KernelComplete.{no_tree}

pub no_fault : (f : ReadFault) → Some f ≡ None → ⊥
no_fault f e = cc

no_fault_within_limits : (text : List ℕ) (t : Bool) → nat_lt most_bytes (length text) ≡ t → limit_fault text ≡ None → tokens_fault (tokens_of text) ≡ None
no_fault_within_limits text true e h = absurd (no_fault faults.TooLong (sym (cond-true _ _ _ e) ∙ h))
no_fault_within_limits text false e h = sym (cond-false _ _ _ e) ∙ h

by_words : (text : List ℕ) (words : List TextToken) (r : Result Program ℕ) → tokens_of text ≡ Ok words → words_fault words ≡ None → kernel_at words ≡ r → ((k : Program) × IsReadFrom text k) ⊎ HasNoTree text
by_words text words (Ok k) e f q =
    inl (k, record { words = words; tokens = e; few = words_within_4096 words f; spelled = tokens_spelled text words e; tree = kernel_spells words k q })
by_words text words (Err left) e f q = inr (record { words = words; tokens = e; none = no_tree words left q })

by_tokens : (text : List ℕ) (r : Result (List TextToken) ℕ) → tokens_of text ≡ r → tokens_fault r ≡ None → ((k : Program) × IsReadFrom text k) ⊎ HasNoTree text
by_tokens text (Ok words) e f = by_words text words (kernel_at words) e f refl
by_tokens text (Err at) e f = absurd (no_fault (faults.BadByte at) f)

pub read_or_no_tree : (text : List ℕ) → limit_fault text ≡ None → ((k : Program) × IsReadFrom text k) ⊎ HasNoTree text
read_or_no_tree text h = by_tokens text (tokens_of text) refl (no_fault_within_limits text (nat_lt most_bytes (length text)) refl h)
