-- What the words of `run` come to: a vector length, and at most eight arguments of 64 bits.
use Rattle.std.proofs.Common.{◌≡◌, ℕ, ◌+◌, ◌-◌, ◌%◌, ◌^◌, ◌<◌, ◌≤◌, Bool, true, false, List, [], ◌∷◌, ◌++◌, length, Option, Some, None, All, refl, subst, arith, length-append}
use Rattle.std.specs.Prelude.{nat_le, nat_lt, bytes_eq, codes, option_and_then, option_map, is_some, IfSome, if◌then◌else◌}
use Rattle.std.proofs.lemmas.Bool.Decides.{nat_tests}
use Rattle.std.proofs.lemmas.List.Elements.{All-cons, All-nil, All-append}
use Rattle.guest_types.specs.Length.{IsLength}
use Rattle.number_text.specs.Numbers.{given, following, is_digit, is_hex_digit, value_of, small_value, are_digits, decimal_of, hexadecimal_of, number_of}
use Rattle.command_line.specs.Numbers.{negative, argument_of}
use Rattle.command_line.specs.Line.{Words, Options, Task, Line, CheckLine, EvalLine, ListLine, RunLine, DebugLine, SweepLine, PipeLine, or_default, is_length, arguments_from, arguments_of, task_of, run_with, run_of, positional, options_of, two_files, compile_of, file_of, eval_with, eval_of, debug_with, debug_of, pipe_with, pipe_of, number_and_file, words_and_file, kernel_and_object, asm_of, object_of, sweep_of, line_of}

abbrev IsSmall : ℕ → Type 0
IsSmall n = n < 2 ^ 64

-- the arguments of a task, and the length beside it
pub record CanRun (vl : ℕ) (args : List ℕ) : Type 0 where
  pub sized : IsLength vl
  pub few : length args ≤ 8
  pub words : All (λ arg. arg < 2 ^ 64) args

abbrev pub Runs : Line → Type 0
Runs (RunLine vl suppress task) = CanRun vl task.args
Runs line = Unit {0}

-- ---- numbers

small_value_is_small : (base : ℕ) (digits : List ℕ) → IfSome (small_value base digits) IsSmall
small_value_is_small base digits = by (nat_lt (value_of base digits) (2 ^ 64)) refl
  where
    by : (b : Bool) → nat_lt (value_of base digits) (2 ^ 64) ≡ b → IfSome (if b then Some (value_of base digits) else None) IsSmall
    by true e = grind (arith, nat_tests, e)
    by false e = tt

if_some : (b : Bool) (o : Option ℕ) → IfSome o IsSmall → IfSome (if b then o else None) IsSmall
if_some true o h = h
if_some false o h = tt

small_decimal : (digits : List ℕ) → IfSome (decimal_of digits) IsSmall
unfolding decimal_of
small_decimal digits = if_some (are_digits is_digit digits) (small_value 10 digits) (small_value_is_small 10 digits)

small_hexadecimal : (digits : List ℕ) → IfSome (hexadecimal_of digits) IsSmall
unfolding hexadecimal_of
small_hexadecimal digits = if_some (are_digits is_hex_digit digits) (small_value 16 digits) (small_value_is_small 16 digits)

given_small : (o : Option (List ℕ)) (f : List ℕ → Option ℕ) (other : Option ℕ) → ((digits : List ℕ) → IfSome (f digits) IsSmall) → IfSome other IsSmall → IfSome (given o f other) IsSmall
given_small (Some digits) f other h k = h digits
given_small None f other h k = k

small_number : (word : List ℕ) → IfSome (number_of word) IsSmall
unfolding number_of
small_number word = given_small (following (codes "0x") word) hexadecimal_of (decimal_of word) small_hexadecimal (small_decimal word)

small_negative : (o : Option ℕ) → IfSome (option_and_then negative o) IsSmall
small_negative None = tt
small_negative (Some n) = by (nat_le n (2 ^ 63))
  where
    by : (b : Bool) → IfSome (if b then Some ((2 ^ 64 - n) % 2 ^ 64) else None) IsSmall
    by true = omega arith
    by false = tt

small_argument : (word : List ℕ) → IfSome (argument_of word) IsSmall
unfolding argument_of
small_argument word = given_small (following (codes "-") word) (λ digits. option_and_then negative (decimal_of digits)) (number_of word) (λ digits. small_negative (decimal_of digits)) (small_number word)

-- ---- arguments

record AreArguments (count : ℕ) (args : List ℕ) : Type 0 where
  size : length args ≡ count
  words : All (λ arg. arg < 2 ^ 64) args

from_words : (words : Words) (before : List ℕ) → All (λ arg. arg < 2 ^ 64) before → IfSome (arguments_from before words) (AreArguments (length before + length words))
unfolding arguments_from
from_words [] before all = record { size = omega arith; words = all }
from_words (word ∷ words) before all = by (argument_of word) (small_argument word) (λ n less. from_words words (before ++ n ∷ []) (All-append (λ arg. arg < 2 ^ 64) before (n ∷ []) all (All-cons (λ arg. arg < 2 ^ 64) n [] less (All-nil (λ arg. arg < 2 ^ 64)))))
  where
    by : (o : Option ℕ) → IfSome o IsSmall → ((n : ℕ) → n < 2 ^ 64 → IfSome (arguments_from (before ++ n ∷ []) words) (AreArguments (length (before ++ n ∷ []) + length words)))
        → IfSome (option_and_then (λ n. arguments_from (before ++ n ∷ []) words) o) (AreArguments (length before + length (word ∷ words)))
    by None small more = tt
    by (Some n) small more =
        let e : length (before ++ n ∷ []) + length words ≡ length before + length (word ∷ words) = omega (arith, length-append before (n ∷ [])) in
        subst (λ k. IfSome (arguments_from (before ++ n ∷ []) words) (AreArguments k)) e (more n small)

record AreFew (args : List ℕ) : Type 0 where
  few : length args ≤ 8
  words : All (λ arg. arg < 2 ^ 64) args

arguments_are_few : (words : Words) → IfSome (arguments_of words) AreFew
unfolding arguments_of
arguments_are_few words = by (nat_le (length words) 8) refl (arguments_from [] words) (from_words words [] (All-nil (λ arg. arg < 2 ^ 64)))
  where
    by : (b : Bool) → nat_le (length words) 8 ≡ b → (o : Option (List ℕ)) → IfSome o (AreArguments (0 + length words)) → IfSome (if b then o else None) AreFew
    by true e None h = tt
    by true e (Some args) h = record { few = grind (arith, nat_tests, e, h.size); words = h.words }
    by false e o h = tt

few_task : (o : Options) (words : Words) → IfSome (task_of o words) (λ task. AreFew task.args)
unfolding task_of
few_task o [] = tt
few_task o (file ∷ words) = by (arguments_of words) (arguments_are_few words)
  where
    by : (args : Option (List ℕ)) → IfSome args AreFew → IfSome (option_map (λ args. record { steps = or_default o.steps 100000000; map = o.map; dump = o.dump; file = file; args = args }) args) (λ (task : Task). AreFew task.args)
    by None h = tt
    by (Some args) h = h

-- ---- the line

after_option : {A : Type 0} (o : Option A) (f : A → Option Line) → ((a : A) → IfSome (f a) Runs) → IfSome (option_and_then f o) Runs
after_option (Some a) f h = h a
after_option None f h = tt

sized_run : (o : Options) (words : Words) → IfSome (run_with o words) Runs
unfolding run_with
sized_run o words = by (is_length (or_default o.vl 128)) refl (task_of o words) (few_task o words)
  where
    by : (b : Bool) → is_length (or_default o.vl 128) ≡ b → (task : Option Task) → IfSome task (λ task. AreFew task.args)
        → IfSome (if b then option_map (RunLine (or_default o.vl 128) o.suppress) task else None) Runs
    by true e None h = tt
    by true e (Some task) h = record { sized = (grind (arith, nat_tests, e), grind (arith, nat_tests, e), grind (arith, nat_tests, e)); few = h.few; words = h.words }
    by false e task h = tt

run_runs : (words : Words) → IfSome (run_of words) Runs
unfolding run_of
run_runs words = after_option (options_of words) _ (λ p. after_option (positional p.1) _ (λ words. sized_run p.0 words))

-- the other commands
mapped_runs : {A : Type 0} (make : A → Line) (o : Option A) → ((a : A) → Runs (make a)) → IfSome (option_map make o) Runs
mapped_runs make (Some a) h = h a
mapped_runs make None h = tt

two_run : (words : Words) → IfSome (two_files words) Runs
two_run (a ∷ b ∷ []) = tt
two_run other = tt

compile_runs : (words : Words) → IfSome (compile_of words) Runs
unfolding compile_of
compile_runs words = after_option (positional words) two_files two_run

eval_runs : (words : Words) → IfSome (eval_of words) Runs
unfolding eval_of eval_with
eval_runs words = after_option (options_of words) _ (λ p. after_option (positional p.1) _ (λ words. by (is_some p.0.vl) (is_some p.0.suppress) (task_of p.0 words)))
  where
    by : (a b : Bool) (task : Option Task) → IfSome (if a then None else if b then None else option_map EvalLine task) Runs
    by true b task = tt
    by false true task = tt
    by false false task = mapped_runs EvalLine task (λ a. tt)

debug_runs : (words : Words) → IfSome (debug_of words) Runs
unfolding debug_of debug_with
debug_runs words = after_option (options_of words) _ (λ p. after_option (positional p.1) _ (λ words. by (is_some p.0.steps) (is_some p.0.dump) (is_some p.0.suppress) (is_length (or_default p.0.vl 128)) (or_default p.0.vl 128) (task_of p.0 words)))
  where
    by : (a b c d : Bool) (vl : ℕ) (task : Option Task) → IfSome (if a then None else if b then None else if c then None else if d then option_map (DebugLine vl) task else None) Runs
    by true b c d vl task = tt
    by false true c d vl task = tt
    by false false true d vl task = tt
    by false false false true vl task = mapped_runs (DebugLine vl) task (λ a. tt)
    by false false false false vl task = tt

pipe_runs : (words : Words) → IfSome (pipe_of words) Runs
unfolding pipe_of pipe_with
pipe_runs words = after_option (options_of words) _ (λ p. after_option (positional p.1) _ (λ words. by (is_some p.0.suppress) (nat_lt 1 (length words)) (is_length (or_default p.0.vl 128)) (or_default p.0.vl 128) (task_of p.0 words)))
  where
    by : (a b c : Bool) (vl : ℕ) (task : Option Task) → IfSome (if a then None else if b then None else if c then option_map (PipeLine vl) task else None) Runs
    by true b c vl task = tt
    by false true c vl task = tt
    by false false true vl task = mapped_runs (PipeLine vl) task (λ a. tt)
    by false false false vl task = tt

sweep_number : (words : Words) → IfSome (number_and_file words) Runs
sweep_number [] = tt
sweep_number (a ∷ []) = tt
sweep_number (number ∷ to ∷ []) = mapped_runs (λ n. SweepLine n to) (number_of number) (λ a. tt)
sweep_number (a ∷ b ∷ c ∷ more) = tt

sweep_runs : (words : Words) → IfSome (sweep_of words) Runs
unfolding sweep_of
sweep_runs words = after_option (positional words) number_and_file sweep_number

asm_files : (words : Words) → IfSome (words_and_file words) Runs
asm_files (from ∷ to ∷ []) = tt
asm_files other = tt

asm_runs : (words : Words) → IfSome (asm_of words) Runs
unfolding asm_of
asm_runs words = after_option (positional words) words_and_file asm_files

object_files : (words : Words) → IfSome (kernel_and_object words) Runs
object_files (from ∷ to ∷ []) = tt
object_files other = tt

object_runs : (words : Words) → IfSome (object_of words) Runs
unfolding object_of
object_runs words = after_option (positional words) kernel_and_object object_files

choose : (b : Bool) (o p : Option Line) → IfSome o Runs → IfSome p Runs → IfSome (if b then o else p) Runs
choose true o p h k = h
choose false o p h k = k

pub line_runs : (words : Words) → IfSome (line_of words) Runs
unfolding line_of
line_runs [] = tt
line_runs (name ∷ words) =
    choose (bytes_eq name (codes "compile")) _ _ (compile_runs words)
    (choose (bytes_eq name (codes "check")) _ _ (mapped_runs CheckLine (file_of words) (λ a. tt))
    (choose (bytes_eq name (codes "eval")) _ _ (eval_runs words)
    (choose (bytes_eq name (codes "list")) _ _ (mapped_runs ListLine (file_of words) (λ a. tt))
    (choose (bytes_eq name (codes "run")) _ _ (run_runs words)
    (choose (bytes_eq name (codes "debug")) _ _ (debug_runs words)
    (choose (bytes_eq name (codes "sweep")) _ _ (sweep_runs words)
    (choose (bytes_eq name (codes "asm")) _ _ (asm_runs words)
    (choose (bytes_eq name (codes "object")) _ _ (object_runs words)
    (choose (bytes_eq name (codes "pipe")) (pipe_of words) None (pipe_runs words) tt)))))))))

pub can_run : (words : Words) (vl : ℕ) (suppress : Option ℕ) (task : Task) → line_of words ≡ Some (RunLine vl suppress task) → CanRun vl task.args
can_run words vl suppress task e = subst (λ o. IfSome o Runs) e (line_runs words)
