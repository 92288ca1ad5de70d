-- What a text is refused for, and what a kernel that was read is.
use Rattle.std.specs.Prelude.{◌≡◌, ℕ, ◌≤◌, List, length, take, Option, Some, None, option_map, Result, Ok, Err, IsTrue, nat_lt, if◌then◌else◌}
use Rattle.kernel_tree.specs.TextToken.{TextToken}
use Rattle.kernel_tree.specs.Tokens.{tokens_of, are_tokens}
use Rattle.kernel_tree.specs.declared.ast.Kernel.{Kernel}
use Rattle.kernel_tree.specs.Plain.{Program, program_of}
use Rattle.kernel_tree.specs.Grammar.{Tree}
use Rattle.kernel_tree.specs.Front.{Viable}
use Rattle.kernel_tree.specs.Limits.{most_bytes, most_tokens}
use Rattle.kernel_syntax.specs.declared.fault.ReadFault.{ReadFault}
use Rattle.kernel_syntax.specs.declared.fault.ReadFault.TheVariants as faults
use Rattle.kernel_syntax.specs.Nesting.{deep_place}

abbrev pub words_fault : List TextToken → Option ReadFault
words_fault words = if nat_lt most_tokens (length words) then Some faults.TooLong else option_map faults.TooDeep (deep_place words)

abbrev pub tokens_fault : Result (List TextToken) ℕ → Option ReadFault
tokens_fault (Ok words) = words_fault words
tokens_fault (Err at) = Some (faults.BadByte at)

-- why a text is refused before the grammar is looked at: bytes are counted first, then a bad byte is looked for,
-- then tokens are counted, then the nesting is
abbrev pub limit_fault : List ℕ → Option ReadFault
limit_fault text = if nat_lt most_bytes (length text) then Some faults.TooLong else tokens_fault (tokens_of text)

-- the kernel is the tree of the text's tokens, of which there are not too many
pub record IsReadFrom (text : List ℕ) (k : Program) : Type 0 where
  pub words : List TextToken
  pub tokens : tokens_of text ≡ Ok words
  pub few : length words ≤ most_tokens
  pub spelled : IsTrue (are_tokens words)
  pub tree : Tree words k

-- the text has tokens, and no kernel is their tree
pub record HasNoTree (text : List ℕ) : Type 0 where
  pub words : List TextToken
  pub tokens : tokens_of text ≡ Ok words
  pub none : (k : Program) → Tree words k → ⊥

-- so many tokens are the longest front of a kernel that some tokens begin with
pub record IsPlace (words : List TextToken) (token : ℕ) : Type 0 where
  pub within : token ≤ length words
  pub viable : Viable (take token words)
  pub longest : (n : ℕ) → n ≤ length words → Viable (take n words) → n ≤ token

-- the text has tokens, and so many of them are the longest front of a kernel that they begin with
pub record StopsAt (text : List ℕ) (token : ℕ) : Type 0 where
  pub words : List TextToken
  pub tokens : tokens_of text ≡ Ok words
  pub place : IsPlace words token

-- what reading some tokens comes to
abbrev pub WordsGive : List TextToken → Result Kernel ReadFault → Type 0
WordsGive words (Ok k) = (words_fault words ≡ None) × Tree words (program_of k)
WordsGive words (Err faults.TooLong) = words_fault words ≡ Some faults.TooLong
WordsGive words (Err (faults.BadByte at)) = ⊥
WordsGive words (Err (faults.TooDeep token)) = words_fault words ≡ Some (faults.TooDeep token)
WordsGive words (Err (faults.Syntax token)) = (words_fault words ≡ None) × ((k : Program) → Tree words k → ⊥) × IsPlace words token
WordsGive words (Err faults.Memory) = Unit {0}

-- what reading a text comes to
abbrev pub TextGives : List ℕ → Result Kernel ReadFault → Type 0
TextGives text (Ok k) = (limit_fault text ≡ None) × IsReadFrom text (program_of k)
TextGives text (Err faults.TooLong) = limit_fault text ≡ Some faults.TooLong
TextGives text (Err (faults.BadByte at)) = limit_fault text ≡ Some (faults.BadByte at)
TextGives text (Err (faults.TooDeep token)) = limit_fault text ≡ Some (faults.TooDeep token)
TextGives text (Err (faults.Syntax token)) = (limit_fault text ≡ None) × HasNoTree text × StopsAt text token
TextGives text (Err faults.Memory) = Unit {0}
