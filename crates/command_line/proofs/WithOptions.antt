-- The line of a command with options, by its options and positional words.
use Rattle.std.proofs.Common.{◌≡◌, ◌∙◌, ◌<◌, ◌≤◌, arith, ℕ, List, [], ◌∷◌, length, sym, ap, refl, subst, Bool, true, false, Option, Some, None, if◌then◌else◌}
use Rattle.std.specs.Prelude.{is_some, option_map, IfSome, nat_lt, unwrap_or}
use Rattle.std.specs.Borrow.{Bor}
use Rattle.std.proofs.lemmas.Bool.{lt-ltb}
use Rattle.number_text.specs.Numbers.{number_of}
use Rattle.command_line.specs.View.{all_left}
use Rattle.command_line.specs.Line.{Words, Options, RunLine, DebugLine, EvalLine, PipeLine, or_default, is_length, arguments_of, task_of, run_with, debug_with, eval_with, pipe_with, SweepLine, number_and_file}

option_chosen : {X : Type 0} (b : Bool) (x : Option X) → b ≡ true → (if b then x else None) ≡ x
option_chosen b x e = ap (λ (c : Bool). if c then x else None) e

unchosen : {X : Type 0} (b : Bool) (x : Option X) → b ≡ false → (if b then x else None) ≡ None
unchosen b x e = ap (λ (c : Bool). if c then x else None) e

none_unless_false : {X : Type 0} (b : Bool) (x : Option X) → b ≡ false → (if b then None else x) ≡ x
none_unless_false b x e = ap (λ (c : Bool). if c then None else x) e

stopped : {X : Type 0} (b : Bool) (x : Option X) → b ≡ true → (if b then None else x) ≡ None
stopped b x e = ap (λ (c : Bool). if c then None else x) e

pub is_some_map : {X Y : Type 0} (f : X → Y) (o : Option X) → is_some (option_map f o) ≡ is_some o
is_some_map f None = refl
is_some_map f (Some x) = refl

-- the vector length that the options tell
pub sized : (o : Option ℕ) (bits : ℕ) (found : Option ℕ) → bits ≡ unwrap_or o 128 → is_some found ≡ is_length bits → is_length (or_default o 128) ≡ is_some found
sized None bits found e s = ap is_length (sym e) ∙ sym s
sized (Some n) bits found e s = ap is_length (sym e) ∙ sym s

pub sized_as : (o : Option ℕ) (bits vl : ℕ) (found : Option ℕ) → bits ≡ unwrap_or o 128 → IfSome found (λ vl. vl ≡ bits) → found ≡ Some vl → or_default o 128 ≡ vl
sized_as None bits vl found e v is = sym (subst (λ f. IfSome f (λ vl. vl ≡ bits)) is v ∙ e)
sized_as (Some n) bits vl found e v is = sym (subst (λ f. IfSome f (λ vl. vl ≡ bits)) is v ∙ e)

defaulted : (o : Option ℕ) (n : ℕ) → or_default o n ≡ unwrap_or o n
defaulted None n = refl
defaulted (Some m) n = refl

-- ---- what is to be run

pub no_task : (o : Options) (words : Words) → words ≡ [] → task_of o words ≡ None
unfolding task_of
no_task o words e = ap (task_of o) e

pub task_unread : (o : Options) (words rest : Words) (file : List ℕ) → words ≡ file ∷ rest → arguments_of rest ≡ None → task_of o words ≡ None
unfolding task_of
task_unread o words rest file e a = ap (task_of o) e ∙ ap (option_map (λ args. record { steps = or_default o.steps 100000000; map = o.map; dump = o.dump; file = file; args = args })) a

pub task_is : (o : Options) (words rest : Words) (file name : List ℕ) (args : List ℕ) (steps : ℕ) (map : Option (List ℕ)) → words ≡ file ∷ rest → arguments_of rest ≡ Some args
    → steps ≡ unwrap_or o.steps 100000000 → map ≡ o.map → name ≡ file
    → task_of o words ≡ Some (record { steps = steps; map = map; dump = o.dump; file = name; args = args })
unfolding task_of
task_is o words rest file name args steps map e a s m n =
    ap (task_of o) e ∙ ap (option_map (λ args. record { steps = or_default o.steps 100000000; map = o.map; dump = o.dump; file = file; args = args })) a
    ∙ ap (λ k. Some (record { steps = k; map = o.map; dump = o.dump; file = file; args = args })) (defaulted o.steps 100000000 ∙ sym s)
    ∙ ap (λ k. Some (record { steps = steps; map = k; dump = o.dump; file = file; args = args })) (sym m)
    ∙ ap (λ k. Some (record { steps = steps; map = map; dump = o.dump; file = k; args = args })) (sym n)

-- ---- the commands

pub run_unsized : (o : Options) (words : Words) → is_length (or_default o.vl 128) ≡ false → run_with o words ≡ None
unfolding run_with
run_unsized o words s = unchosen _ _ s

pub run_sized : (o : Options) (words : Words) → is_length (or_default o.vl 128) ≡ true → run_with o words ≡ option_map (RunLine (or_default o.vl 128) o.suppress) (task_of o words)
unfolding run_with
run_sized o words s = option_chosen _ _ s

pub debug_steps : (o : Options) (words : Words) → is_some o.steps ≡ true → debug_with o words ≡ None
unfolding debug_with
debug_steps o words a = stopped _ _ a

pub debug_dump : (o : Options) (words : Words) → is_some o.steps ≡ false → is_some o.dump ≡ true → debug_with o words ≡ None
unfolding debug_with
debug_dump o words a b = none_unless_false _ _ a ∙ stopped _ _ b

pub debug_suppress : (o : Options) (words : Words) → is_some o.steps ≡ false → is_some o.dump ≡ false → is_some o.suppress ≡ true → debug_with o words ≡ None
unfolding debug_with
debug_suppress o words a b c = none_unless_false _ _ a ∙ none_unless_false _ _ b ∙ stopped _ _ c

pub debug_unsized : (o : Options) (words : Words) → is_some o.steps ≡ false → is_some o.dump ≡ false → is_some o.suppress ≡ false → is_length (or_default o.vl 128) ≡ false → debug_with o words ≡ None
unfolding debug_with
debug_unsized o words a b c s = none_unless_false _ _ a ∙ none_unless_false _ _ b ∙ none_unless_false _ _ c ∙ unchosen _ _ s

pub debug_sized : (o : Options) (words : Words) → is_some o.steps ≡ false → is_some o.dump ≡ false → is_some o.suppress ≡ false → is_length (or_default o.vl 128) ≡ true
    → debug_with o words ≡ option_map (DebugLine (or_default o.vl 128)) (task_of o words)
unfolding debug_with
debug_sized o words a b c s = none_unless_false _ _ a ∙ none_unless_false _ _ b ∙ none_unless_false _ _ c ∙ option_chosen _ _ s

pub pipe_suppress : (o : Options) (words : Words) → is_some o.suppress ≡ true → pipe_with o words ≡ None
unfolding pipe_with
pipe_suppress o words a = stopped _ _ a

pub many_words : (words : List (Bor (List ℕ))) → 1 < length words → nat_lt 1 (length (all_left words)) ≡ true
many_words [] many = absurd (omega arith)
many_words (a ∷ []) many = absurd (omega arith)
many_words (a ∷ b ∷ more) many = lt-ltb 1 (length (all_left (a ∷ b ∷ more))) (omega arith)

pub at_most_one_word_left : (words : List (Bor (List ℕ))) → length words ≤ 1 → nat_lt 1 (length (all_left words)) ≡ false
at_most_one_word_left [] few = refl
at_most_one_word_left (a ∷ []) few = refl
at_most_one_word_left (a ∷ b ∷ more) few = absurd (omega arith)

pub pipe_words : (o : Options) (words : Words) → is_some o.suppress ≡ false → nat_lt 1 (length words) ≡ true → pipe_with o words ≡ None
unfolding pipe_with
pipe_words o words a b = none_unless_false _ _ a ∙ stopped _ _ b

pub pipe_unsized : (o : Options) (words : Words) → is_some o.suppress ≡ false → nat_lt 1 (length words) ≡ false → is_length (or_default o.vl 128) ≡ false → pipe_with o words ≡ None
unfolding pipe_with
pipe_unsized o words a b s = none_unless_false _ _ a ∙ none_unless_false _ _ b ∙ unchosen _ _ s

pub pipe_sized : (o : Options) (words : Words) → is_some o.suppress ≡ false → nat_lt 1 (length words) ≡ false → is_length (or_default o.vl 128) ≡ true
    → pipe_with o words ≡ option_map (PipeLine (or_default o.vl 128)) (task_of o words)
unfolding pipe_with
pipe_sized o words a b s = none_unless_false _ _ a ∙ none_unless_false _ _ b ∙ option_chosen _ _ s

pub eval_vl : (o : Options) (words : Words) → is_some o.vl ≡ true → eval_with o words ≡ None
unfolding eval_with
eval_vl o words a = stopped _ _ a

pub eval_suppress : (o : Options) (words : Words) → is_some o.vl ≡ false → is_some o.suppress ≡ true → eval_with o words ≡ None
unfolding eval_with
eval_suppress o words a b = none_unless_false _ _ a ∙ stopped _ _ b

pub eval_task : (o : Options) (words : Words) → is_some o.vl ≡ false → is_some o.suppress ≡ false → eval_with o words ≡ option_map EvalLine (task_of o words)
unfolding eval_with
eval_task o words a b = none_unless_false _ _ a ∙ none_unless_false _ _ b

-- ---- the words of `sweep`

pub sweep_unread : (words : Words) (number to text : List ℕ) (found : Option ℕ) → words ≡ number ∷ to ∷ [] → text ≡ number → found ≡ number_of text → found ≡ None → number_and_file words ≡ None
sweep_unread words number to text found e t f none = ap number_and_file e ∙ ap (option_map (λ n. SweepLine n to)) (ap number_of (sym t) ∙ sym f ∙ none)

pub sweep_is : (words : Words) (number to text name : List ℕ) (n : ℕ) (found : Option ℕ) → words ≡ number ∷ to ∷ [] → text ≡ number → found ≡ number_of text → found ≡ Some n → name ≡ to
    → number_and_file words ≡ Some (SweepLine n name)
sweep_is words number to text name n found e t f some same =
    ap number_and_file e ∙ ap (option_map (λ n. SweepLine n to)) (ap number_of (sym t) ∙ sym f ∙ some) ∙ ap (λ x. Some (SweepLine n x)) (sym same)
