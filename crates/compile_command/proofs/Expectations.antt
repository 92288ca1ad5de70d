-- What is wanted of `compile`.
use Rattle.std.proofs.Common.{◌≡◌, ℕ, List, [], Option, Some, None, Result, Ok, Err, refl, sym, ap, ◌∙◌, subst}
use Rattle.std.specs.Prelude.{◌≤◌, ◌+◌, ◌*◌, Vec, IfSome, IfOk, IfErr, OnOk}
use Rattle.reg_assign.specs.declared.interval.RegClass.{RegClass}
use Rattle.promises.specs.declared.fault.CompileFault.{CompileFault}
use Rattle.promises.specs.declared.fault.CompileFault.TheVariants as compiling
use Rattle.promises.specs.Faithful.{FreeFaithful, FreeEnds, CloseFaithful}
use Rattle.promises.specs.Refusals.{too_many, IsRefusal}
use Rattle.kernel_tree.specs.Items.{size_of}
use Rattle.kernel_tree.specs.Plain.{Program}
use Rattle.kernel_front.specs.Verdict.{Verdict, Sound, IsVerdict}
use Rattle.refusals.specs.declared.refusal.Refusal.{Refusal}
use Rattle.refusals.specs.declared.refusal.Refusal.TheVariants.{TooManyLive, Memory}
use Rattle.command_answers.specs.Answer.{HeldFiles, Expected, Answer, expected_text}
use Rattle.command_answers.specs.Outputs.{Prints}
use Rattle.command_answers.specs.Reads.{file_of, AfterRead}
use Rattle.command_answers.specs.Works.{WhereExpected}
use Rattle.command_answers.proofs.Prints.{prints_none}
use Rattle.kernel_commands.specs.Kernels.{IsExpectedOf, ByVerdict}
use Rattle.kernel_commands.specs.Commands.{RefusesText}
use Rattle.kernel_commands.proofs.Expectations.{sound_text}
use Rattle.compile_command.specs.Compiles.{of_compile, compiled, compiled_by, CompileExpects, ExpectsCompile, CompilesTo, HasWords, RefusesCompile}

-- a refusal of the compiler is that of a kernel with too many live values, or want of memory
pub refuses_compile : (k : Program) (fault : CompileFault) → IsRefusal k fault → RefusesCompile k (of_compile fault)
refuses_compile k (compiling.TooManyLive class n) h = ap (compiled_by k) h.0 ∙ ap (λ m. Err (TooManyLive class m)) (sym h.1)
refuses_compile k compiling.Memory h = tt

pub compile_refusal : {T : Type 0} (text : List ℕ) (k : Program) (result : Result T Refusal) → IsVerdict text (Sound k) → IfErr result (RefusesCompile k) → IfErr result (λ r. RefusesText (CompileExpects text) r)
compile_refusal text k (Ok x) v h = tt
compile_refusal text k (Err r) v h = by r h
  where
    by : (refusal : Refusal) → RefusesCompile k refusal → RefusesText (CompileExpects text) refusal
    by Memory h = tt
    by (TooManyLive class need) h = λ work w. subst (ByVerdict compiled text) h (sound_text compiled text k v)
    by other h = absurd h

-- a file that was made is wanted of the text
pub compile_wanted : {T : Type 0} (text : List ℕ) (k : Program) (work : Expected) (result : Result T Refusal) → IsVerdict text (Sound k) → OnOk result (compiled k ≡ work) → OnOk result (CompileExpects text work)
compile_wanted text k work (Ok x) v h = subst (ByVerdict compiled text) h (sound_text compiled text k v)
compile_wanted text k work (Err r) v h = tt

-- the file of a sound kernel
pub compile_file : {A : Type 0} (text : List ℕ) (k : Program) (result : Result (Vec ℕ A) Refusal) → IsVerdict text (Sound k) → IfOk result (λ file. FreeFaithful k file.items) → IfOk result (λ file. CloseFaithful k file.items) → IfOk result (λ file. FreeEnds k file.items) → IfOk result (λ file. HasWords (1000 + 60 * size_of k) file.items) → size_of k ≤ 1000
    → IfOk result (λ file. CompilesTo text file.items)
compile_file text k (Ok file) v faithful close ends code small = record {
  kernel = k;
  sound = v;
  faithful = faithful;
  close = close;
  ends = ends;
  code = code;
  small = small;
}
compile_file text k (Err r) v faithful close ends code small = tt

-- what is wanted of `compile` has no text
no_own_text : (k : Program) (o : Option RegClass) → expected_text (compiled_by k o) ≡ []
no_own_text k None = refl
no_own_text k (Some class) = refl

no_text : (v : Verdict) (work : Expected) → IsExpectedOf compiled v work → expected_text work ≡ []
no_text (Sound k) work w = ap expected_text w ∙ no_own_text k (too_many k)
no_text other work w = ap expected_text w.is_refused

pub compile_silent : (r : Result (List ℕ) Refusal) (work : Expected) → AfterRead r CompileExpects work → expected_text work ≡ []
compile_silent (Ok text) work w = no_text w.verdict work w.wanted
compile_silent (Err refusal) work w = ap expected_text w

-- nothing is put on the output
pub prints_silent : (held : Option HeldFiles) (from : List ℕ) (old : Option (List ℕ)) (result : Answer) → IfSome held (λ h. WhereExpected (ExpectsCompile h from) (λ work. Prints old old (expected_text work) result))
prints_silent None from old result = tt
prints_silent (Some h) from old result = λ work w. (work, w, subst (λ t. Prints old old t result) (sym (compile_silent (file_of h from) work w)) (prints_none old result))
