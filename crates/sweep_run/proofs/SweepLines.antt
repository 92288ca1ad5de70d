-- What the lines of a sweep tell.
use Rattle.std.proofs.Common.{◌≡◌, ℕ, zero, suc, ◌+◌, List, [], ◌∷◌, ◌++◌, flat_map, Option, Some, None, Result, Ok, Err, refl, sym, ap, ◌∙◌, arith, add-one}
use Rattle.std.proofs.lemmas.List.{flat_map_more}
use Rattle.std.specs.List.{range_with_len}
use Rattle.guest_types.specs.Memory.{Memory}
use Rattle.machine_model.specs.declared.elf_fault.ElfFault.{ElfFault}
use Rattle.machine_model.specs.Load.{Image, load}
use Rattle.machine_model.specs.Machine.{State}
use Rattle.machine_model.specs.Run.{Outcome, End, run, start, machine_run}
use Rattle.machine_model.specs.Written.{file_of, image_of_words}
use Rattle.kernel_meaning.specs.ScalarRun as scalar
use Rattle.sweep_kernel.specs.Numbers.{count_of, arguments_of}
use Rattle.sweep_kernel.specs.Pages.{pages_of}
use Rattle.sweep_kernel.specs.LengthLine.{length_at}
use Rattle.sweep_kernel.specs.Runs.{most_steps, RunEnds}
use Rattle.sweep_kernel.specs.Ends.{AllEnd}
use Rattle.sweep_run.specs.SweepText.{line_of, run_line, swept_line, sweep_text}
use Rattle.sweep_run.specs.Lines.{Tells, SweepRunsEnd, SweepLines}
use Rattle.sweep_run.proofs.Causes.{loads}

-- ---- lines, one after another

-- the line of a run that came to an outcome
pub run_line_is : (vl steps taken : ℕ) (s : State) (o : Outcome) → steps ≡ most_steps → taken ≡ 0 → run steps taken s ≡ o → run_line vl s ≡ line_of vl (Some o)
unfolding run_line
run_line_is vl steps taken s o all none e =
    ap (λ n. line_of vl (Some (run n 0 s))) (sym all) ∙ ap (λ t. line_of vl (Some (run steps t s))) (sym none) ∙ ap (λ r. line_of vl (Some r)) e

-- the line of the file's run is that of a run from the start
pub swept_line_is : (number : ℕ) (file : List ℕ) (vl : ℕ) (image : Image) → load file ≡ Ok image → swept_line number file vl ≡ run_line vl (start image (arguments_of number) (pages_of number) vl)
unfolding swept_line run_line
swept_line_is number file vl image e =
    ap (λ (l : Result Image ElfFault). line_of vl (elim l [ Ok i ↦ Some (run most_steps 0 (start i (arguments_of number) (pages_of number) vl)) | Err fault ↦ None ])) e

-- the lines of so many lengths
unfoldable pub lines_before : (number : ℕ) (file : List ℕ) → ℕ → List ℕ
lines_before number file n = flat_map (λ place. swept_line number file (length_at place)) (range_with_len 0 n)

pub lines_none : (number : ℕ) (file : List ℕ) → lines_before number file 0 ≡ []
unfolding lines_before
lines_none number file = refl

pub lines_all : (number : ℕ) (file : List ℕ) → lines_before number file 16 ≡ sweep_text number file
unfolding lines_before sweep_text
lines_all number file = refl

range_more : (a n j : ℕ) → a + n ≡ j → range_with_len a (suc n) ≡ range_with_len a n ++ j ∷ []
range_more a zero j e =
    let same : a ≡ j = omega (arith, e) in
    ap (λ k. k ∷ []) same
range_more a (suc n) j e = ap (λ l. a ∷ l) (range_more (a + 1) n j (omega (arith, e)))

lines_more : (number : ℕ) (file : List ℕ) (n : ℕ) → lines_before number file n ++ swept_line number file (length_at n) ≡ lines_before number file (n + 1)
unfolding lines_before
lines_more number file n =
    let line : ℕ → List ℕ = λ place. swept_line number file (length_at place) in
    flat_map_more line [] (range_with_len 0 n) n
    ∙ ap (λ l. flat_map line l) (sym (range_more 0 n n (omega arith)) ∙ ap (range_with_len 0) (sym (add-one n)))

-- the text after one more run
pub put_line : (number : ℕ) (file text after : List ℕ) (n vl : ℕ) (image : Image) (pages : Memory) (s : State) → ((vl : ℕ) → swept_line number file vl ≡ run_line vl (start image (arguments_of number) (pages_of number) vl)) → pages ≡ pages_of number → vl ≡ length_at n → s ≡ start image (arguments_of number) pages vl → text ≡ lines_before number file n → after ≡ text ++ run_line vl s → after ≡ lines_before number file (n + 1)
put_line number file text after n vl image pages s each p v state told put =
    let line : run_line vl s ≡ swept_line number file (length_at n) =
    ap (run_line vl) (state ∙ ap (λ m. start image (arguments_of number) m vl) p)
    ∙ sym (each vl)
    ∙ ap (swept_line number file) v in
    put
    ∙ ap (λ t. t ++ run_line vl s) told
    ∙ ap (λ l. lines_before number file n ++ l) line
    ∙ lines_more number file n

-- ---- the law

line_is : (number : ℕ) (file : List ℕ) (vl : ℕ) (o : Option Outcome) → machine_run file (arguments_of number) (pages_of number) vl most_steps ≡ o → swept_line number file vl ≡ line_of vl o
unfolding swept_line
line_is number file vl o e = ap (line_of vl) e

end_memory : (a b : Memory) (r s m : ℕ) → scalar.End a r m ≡ scalar.End b s m → a ≡ b
end_memory a b r s m e = cc

end_result : (a b : Memory) (r s m : ℕ) → scalar.End a r m ≡ scalar.End b s m → r ≡ s
end_result a b r s m e = cc

tells : (number : ℕ) (file words : List ℕ) (memory : Memory) (result vl : ℕ) (run : scalar.Run) → file ≡ file_of words → run ≡ scalar.End memory result (count_of number) → (r : RunEnds words number vl) → run ≡ scalar.End r.memory r.result (count_of number) → Tells number file memory result vl
tells number file words memory result vl run e kernel r here =
    let same : scalar.End r.memory r.result (count_of number) ≡ scalar.End memory result (count_of number) = sym here ∙ kernel in
    let left : r.memory ≡ memory = end_memory r.memory memory r.result result (count_of number) same in
    let given : r.result ≡ result = end_result r.memory memory r.result result (count_of number) same in
    let machine : machine_run file (arguments_of number) (pages_of number) vl most_steps ≡ Some (End memory result r.steps) =
    ap (λ f. machine_run f (arguments_of number) (pages_of number) vl most_steps) e
    ∙ r.machine
    ∙ ap (λ m. Some (End m r.result r.steps)) left
    ∙ ap (λ v. Some (End memory v r.steps)) given in
    record {
      steps = r.steps;
      machine = machine;
      line = line_is number file vl (Some (End memory result r.steps)) machine;
    }

pub sweep_lines : SweepRunsEnd → AllEnd → SweepLines
sweep_lines runs ends number file f =
    let all = runs number file f in
    let e = ends (image_of_words f.words).pages number all.apart in
    record {
      image = image_of_words f.words;
      loaded = loads number file f;
      memory = e.memory;
      result = e.result;
      kernel = e.ends;
      lines = λ vl length. tells number file f.words e.memory e.result vl _ f.file_is e.ends (all.ends vl length) (all.ends vl length).kernel;
    }
