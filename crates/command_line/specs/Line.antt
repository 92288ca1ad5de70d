-- The words of a command, as lists of bytes. The first word names the command. After it stand options, and then the
-- positional words.
use Rattle.std.specs.Prelude.{ℕ, ◌+◌, ◌%◌, ◌^◌, ◌&&◌, not, List, [], ◌∷◌, ◌++◌, length, Option, Some, None, option_map, option_and_then, is_some, Bool, true, false, nat_eq, nat_le, nat_lt, bytes_eq, codes, if◌then◌else◌}
use Rattle.number_text.specs.Numbers.{given, number_of}
use Rattle.command_line.specs.Numbers.{parted, argument_of}

abbrev pub Words : Type 0
Words = List (List ℕ)

-- bytes of memory: the address of the first, and how many they are
pub record Extent : Type 0 where
  pub address : ℕ
  pub len : ℕ

-- what is to be run: the most steps, the file of a page map, the bytes to dump after the run, the file, and the arguments as
-- numbers of 64 bits
pub record Task : Type 0 where
  pub steps : ℕ
  pub map : Option (List ℕ)
  pub dump : Option Extent
  pub file : List ℕ
  pub args : List ℕ

-- a run and a debugging session have a vector length in bits too; a run may have a number each of whose multiples counts a free
-- element that is suppressed; neither the steps nor the dump of a task count in a session; the file of the task of a pipe is its script,
-- and it has no arguments
pub data Line : Type 0 where
  CompileLine : (from to : List ℕ) → Line
  CheckLine : (from : List ℕ) → Line
  EvalLine : Task → Line
  ListLine : (from : List ℕ) → Line
  RunLine : (vl : ℕ) → (suppress : Option ℕ) → Task → Line
  DebugLine : (vl : ℕ) → Task → Line
  SweepLine : (number : ℕ) → (to : List ℕ) → Line
  AsmLine : (from to : List ℕ) → Line
  ObjectLine : (from to : List ℕ) → Line
  PipeLine : (vl : ℕ) → Task → Line

-- ---- positional words

abbrev pub is_end : List ℕ → Bool
is_end word = bytes_eq word (codes "--")

-- a word that is not empty
abbrev pub is_filled : List ℕ → Bool
is_filled [] = false
is_filled (b ∷ bs) = true

-- a word that is not empty and does not begin with a minus
abbrev pub is_plain : List ℕ → Bool
is_plain [] = false
is_plain (b ∷ bs) = not (nat_eq b 45)

-- whether a word may be positional; after `--` it may begin with a minus
abbrev pub is_positional : Bool → List ℕ → Bool
is_positional literal word = if literal then is_filled word else is_plain word

-- the positional words found before, and those of these words; one `--` may stand among them, after which all are
-- taken literally
unfoldable pub positional_from : Bool → Words → Words → Option Words
positional_from literal found [] = Some found
positional_from literal found (word ∷ words) =
    if is_end word then if literal then None else positional_from true found words else
    if is_positional literal word then positional_from literal (found ++ word ∷ []) words else None

-- the positional words, where all of these are positional
abbrev pub positional : Words → Option Words
positional words = positional_from false [] words

-- ---- options

-- the values of the options that were given
pub record Options : Type 0 where
  pub vl : Option ℕ
  pub steps : Option ℕ
  pub map : Option (List ℕ)
  pub dump : Option Extent
  pub suppress : Option ℕ

-- the value of an option of this name, by what stands before and after the equals sign of a word; it is not empty
abbrev pub value_named : List ℕ → List ℕ × List ℕ → Option (List ℕ)
value_named name p = if bytes_eq p.0 name && is_filled p.1 then Some p.1 else None

-- the same of a whole word
abbrev pub value_in : List ℕ → List ℕ → Option (List ℕ)
value_in name word = option_and_then (value_named name) (parted 61 word)

-- the word after the name of an option, which does not begin with a minus
abbrev pub value_following : Words → Option (List ℕ × Words)
value_following [] = None
value_following (value ∷ rest) = if is_plain value then Some (value, rest) else None

-- the value of an option of this name at the front, and the words after it
unfoldable pub value_at : List ℕ → Words → Option (List ℕ × Words)
value_at name [] = None
value_at name (word ∷ rest) =
    if bytes_eq word name then value_following rest else option_map (λ value. (value, rest)) (value_in name word)

-- the value of an option that was not given before
abbrev pub once : {A : Type 0} → Option A → Option A → Option A
once before value = if is_some before then None else value

-- `A:L` has at least one byte and at most 65,536, none of them at 2^64 or above
abbrev pub extent : ℕ → ℕ → Option Extent
extent address len =
    if nat_le 1 len && nat_le len 65536 && nat_le (address + len) (2 ^ 64) then Some (record { address = address; len = len }) else None

unfoldable pub extent_of : List ℕ → Option Extent
extent_of word =
    option_and_then (λ p. option_and_then (λ address. option_and_then (extent address) (number_of p.1)) (number_of p.0)) (parted 58 word)

-- a number of at least 1
abbrev pub at_least_one : ℕ → Option ℕ
at_least_one n = if nat_lt n 1 then None else Some n

unfoldable pub period_of : List ℕ → Option ℕ
period_of word = option_and_then at_least_one (number_of word)

-- the options with one more, by its value
unfoldable pub with_vl : Options → List ℕ → Option Options
with_vl o value = option_map (λ n. record o { vl = Some n }) (once o.vl (number_of value))

unfoldable pub with_steps : Options → List ℕ → Option Options
with_steps o value = option_map (λ n. record o { steps = Some n }) (once o.steps (number_of value))

unfoldable pub with_map : Options → List ℕ → Option Options
with_map o value = option_map (λ name. record o { map = Some name }) (once o.map (Some value))

unfoldable pub with_dump : Options → List ℕ → Option Options
with_dump o value = option_map (λ e. record o { dump = Some e }) (once o.dump (extent_of value))

unfoldable pub with_suppress : Options → List ℕ → Option Options
with_suppress o value = option_map (λ n. record o { suppress = Some n }) (once o.suppress (period_of value))

-- the options after one more that stands at the front, if one does
unfoldable pub option_at : Options → Words → Option (Options × Words)
option_at o words =
    given (value_at (codes "--vl") words) (λ p. option_map (λ n. (n, p.1)) (with_vl o p.0))
    (given (value_at (codes "--steps") words) (λ p. option_map (λ n. (n, p.1)) (with_steps o p.0))
    (given (value_at (codes "--map") words) (λ p. option_map (λ n. (n, p.1)) (with_map o p.0))
    (given (value_at (codes "--dump") words) (λ p. option_map (λ n. (n, p.1)) (with_dump o p.0))
    (given (value_at (codes "--suppress") words) (λ p. option_map (λ n. (n, p.1)) (with_suppress o p.0))
    (Some (o, words))))))

abbrev pub no_options : Options
no_options = record { vl = None; steps = None; map = None; dump = None; suppress = None }

-- the options that stand at the front, and the words after them; there are five, and each stands at most once
unfoldable pub options_of : Words → Option (Options × Words)
options_of words =
    option_and_then (λ one.
    option_and_then (λ two.
    option_and_then (λ three.
    option_and_then (λ four.
    option_at four.0 four.1)
    (option_at three.0 three.1))
    (option_at two.0 two.1))
    (option_at one.0 one.1))
    (option_at no_options words)

-- ---- commands

abbrev pub or_default : Option ℕ → ℕ → ℕ
or_default None n = n
or_default (Some m) n = m

-- a vector length (Arm DDI 0584): a multiple of 128 bits from 128 to 2048
abbrev pub is_length : ℕ → Bool
is_length n = nat_eq (n % 128) 0 && nat_le 128 n && nat_le n 2048

-- the arguments before, and those that these words spell
unfoldable pub arguments_from : List ℕ → Words → Option (List ℕ)
arguments_from before [] = Some before
arguments_from before (word ∷ words) = option_and_then (λ n. arguments_from (before ++ n ∷ []) words) (argument_of word)

-- at most eight arguments
unfoldable pub arguments_of : Words → Option (List ℕ)
arguments_of words = if nat_le (length words) 8 then arguments_from [] words else None

-- what is to be run, by its options and positional words: 100,000,000 steps where no option tells
unfoldable pub task_of : Options → Words → Option Task
task_of o [] = None
task_of o (file ∷ words) =
    option_map (λ args. record { steps = or_default o.steps 100000000; map = o.map; dump = o.dump; file = file; args = args }) (arguments_of words)

-- `run` with these options and positional words: 128 bits where no option tells
unfoldable pub run_with : Options → Words → Option Line
run_with o words =
    if is_length (or_default o.vl 128) then option_map (RunLine (or_default o.vl 128) o.suppress) (task_of o words) else None

-- `run [--vl N] [--steps N] [--map M] [--dump A:L] [--suppress N] FILE [ARG]..`
unfoldable pub run_of : Words → Option Line
run_of words = option_and_then (λ p. option_and_then (run_with p.0) (positional p.1)) (options_of words)

-- the two positional words, where there are no others
abbrev pub two_of : Words → Option (List ℕ × List ℕ)
two_of (from ∷ to ∷ []) = Some (from, to)
two_of _ = None

abbrev pub two_files : Words → Option Line
two_files (from ∷ to ∷ []) = Some (CompileLine from to)
two_files _ = None

-- `compile IN OUT`
unfoldable pub compile_of : Words → Option Line
compile_of words = option_and_then two_files (positional words)

abbrev pub one_file : Words → Option (List ℕ)
one_file (from ∷ []) = Some from
one_file _ = None

-- the one positional word, where there are no others
unfoldable pub file_of : Words → Option (List ℕ)
file_of words = option_and_then one_file (positional words)

-- `eval` with these options and positional words
unfoldable pub eval_with : Options → Words → Option Line
eval_with o words =
    if is_some o.vl then None
    else if is_some o.suppress then None
    else option_map EvalLine (task_of o words)

-- `eval [--map M] [--steps N] [--dump A:L] IN [ARG]..`
unfoldable pub eval_of : Words → Option Line
eval_of words = option_and_then (λ p. option_and_then (eval_with p.0) (positional p.1)) (options_of words)

-- `debug` with these options and positional words: 128 bits where no option tells, and neither steps nor a dump nor a stop list
unfoldable pub debug_with : Options → Words → Option Line
debug_with o words =
    if is_some o.steps then None
    else if is_some o.dump then None
    else if is_some o.suppress then None
    else if is_length (or_default o.vl 128) then option_map (DebugLine (or_default o.vl 128)) (task_of o words)
    else None

-- `debug [--vl N] [--map M] FILE [ARG]..`
unfoldable pub debug_of : Words → Option Line
debug_of words = option_and_then (λ p. option_and_then (debug_with p.0) (positional p.1)) (options_of words)

abbrev pub number_and_file : Words → Option Line
number_and_file (number ∷ to ∷ []) = option_map (λ n. SweepLine n to) (number_of number)
number_and_file _ = None

-- `sweep NUMBER OUT`
unfoldable pub sweep_of : Words → Option Line
sweep_of words = option_and_then number_and_file (positional words)

abbrev pub words_and_file : Words → Option Line
words_and_file (from ∷ to ∷ []) = Some (AsmLine from to)
words_and_file _ = None

-- `asm IN OUT`
unfoldable pub asm_of : Words → Option Line
asm_of words = option_and_then words_and_file (positional words)

abbrev pub kernel_and_object : Words → Option Line
kernel_and_object (from ∷ to ∷ []) = Some (ObjectLine from to)
kernel_and_object _ = None

-- `object IN OUT`
unfoldable pub object_of : Words → Option Line
object_of words = option_and_then kernel_and_object (positional words)

-- `pipe` with these options and positional words: 128 bits where no option tells, no stop list, and no arguments
unfoldable pub pipe_with : Options → Words → Option Line
pipe_with o words =
    if is_some o.suppress then None
    else if nat_lt 1 (length words) then None
    else if is_length (or_default o.vl 128) then option_map (PipeLine (or_default o.vl 128)) (task_of o words)
    else None

-- `pipe [--vl N] [--steps N] [--map M] [--dump A:L] SCRIPT`
unfoldable pub pipe_of : Words → Option Line
pipe_of words = option_and_then (λ p. option_and_then (pipe_with p.0) (positional p.1)) (options_of words)

-- the command of some words, where they are one
unfoldable pub line_of : Words → Option Line
line_of [] = None
line_of (name ∷ words) =
    if bytes_eq name (codes "compile") then compile_of words else
    if bytes_eq name (codes "check") then option_map CheckLine (file_of words) else
    if bytes_eq name (codes "eval") then eval_of words else
    if bytes_eq name (codes "list") then option_map ListLine (file_of words) else
    if bytes_eq name (codes "run") then run_of words else
    if bytes_eq name (codes "debug") then debug_of words else
    if bytes_eq name (codes "sweep") then sweep_of words else
    if bytes_eq name (codes "asm") then asm_of words else
    if bytes_eq name (codes "object") then object_of words else
    if bytes_eq name (codes "pipe") then pipe_of words else None
