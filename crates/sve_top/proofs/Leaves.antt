-- What a command leaves, in one record over its line.
use Rattle.std.proofs.Common.{◌≡◌, ◌≢◌, List, ℕ, Option, Some, None, Ok, Err, inl, inr, refl, sym, ap, subst}
use Rattle.std.specs.Prelude.{IfSome, IsErrAnd, OnOk}
use Rattle.io_edges.specs.Files.{Rose, content}
use Rattle.command_line.specs.Line.{Line, CompileLine, CheckLine, EvalLine, ListLine, RunLine, DebugLine, SweepLine, AsmLine, ObjectLine, PipeLine}
use Rattle.refusals.specs.declared.refusal.Refusal.{Refusal}
use Rattle.refusals.specs.declared.refusal.Refusal.TheVariants.{Usage, Memory, File, Output}
use Rattle.command_answers.specs.Answer.{HeldFiles, Expected, Answer, answer_of, expected_text, status_of, IsAnswer, IsQuiet, Unwritten}
use Rattle.command_answers.specs.Outputs.{Prints}
use Rattle.sve_top.specs.Commands.{WhereTold, StreamRose, Swept, IsOf, IsHeld, IsSilent, IsUnread, OnlyReads, Compiled, OthersKept, AsItComes}
use Rattle.sve_top.specs.Requested.{AsksOf}
use Rattle.sve_top.specs.Leaves.{Seen, Leaves}
use Rattle.command_answers.proofs.Prints.{prints_nothing}
use Rattle.command_answers.proofs.Reading.{is_err, of_one}
use Rattle.command_answers.proofs.Held.{whatever_held}
use Rattle.sve_top.proofs.Lines.{of_every_line, nothing_swept, no_session}
use Rattle.sve_top.proofs.Requested.{none_wanted, short_asked}

-- what a line leaves is left by another name of it, and of the result
pub by_name : (line other : Option Line) (before after : Seen) (is_steady same_output same_input : Type 0) (result : Answer) → other ≡ line → Leaves line before after is_steady same_output same_input result → Leaves other before after is_steady same_output same_input result
by_name line other before after is_steady same_output same_input result e l =
    subst (λ n. Leaves n before after is_steady same_output same_input result) (sym e) l

pub by_result : (line : Option Line) (before after : Seen) (is_steady same_output same_input : Type 0) (result other : Answer) → result ≡ other → Leaves line before after is_steady same_output same_input result → Leaves line before after is_steady same_output same_input other
by_result line before after is_steady same_output same_input result other e l =
    subst (λ r. Leaves line before after is_steady same_output same_input r) e l

-- ---- commands that write no file

compiles_nothing : (line : Line) (old new : Option HeldFiles) (result : Answer) → OnlyReads (Some line) → OnOk result (IfSome old (λ o. IfSome new (λ n. Compiled o n line)))
compiles_nothing line old new (Err r) reads = tt
compiles_nothing line None new (Ok how) reads = tt
compiles_nothing line (Some o) None (Ok how) reads = tt
compiles_nothing (CompileLine from to) (Some o) (Some n) (Ok how) reads = absurd reads
compiles_nothing (SweepLine number to) (Some o) (Some n) (Ok how) reads = absurd reads
compiles_nothing (AsmLine from to) (Some o) (Some n) (Ok how) reads = absurd reads
compiles_nothing (ObjectLine from to) (Some o) (Some n) (Ok how) reads = absurd reads
compiles_nothing other (Some o) (Some n) (Ok how) reads = tt

same_content : (old new : HeldFiles) (name : List ℕ) → ◌≡◌ {A = Option HeldFiles} (Some new) (Some old) → content new name ≡ content old name
same_content old new name e = ap (λ h. content h name) (inside e)
  where
    inside : ◌≡◌ {A = Option HeldFiles} (Some new) (Some old) → new ≡ old
    inside e = cc

all_kept : (line : Option Line) (old new : Option HeldFiles) → OnlyReads line → new ≡ old → IfSome old (λ o. IfSome new (λ n. OthersKept o n line))
all_kept line None new reads e = tt
all_kept line (Some o) None reads e = tt
all_kept (Some (CompileLine from to)) (Some o) (Some n) reads e = absurd reads
all_kept (Some (SweepLine number to)) (Some o) (Some n) reads e = absurd reads
all_kept (Some (AsmLine from to)) (Some o) (Some n) reads e = absurd reads
all_kept (Some (ObjectLine from to)) (Some o) (Some n) reads e = absurd reads
all_kept other (Some o) (Some n) reads e = λ name. same_content o n name e

sweeps_nothing : (line : Option Line) (held : Option HeldFiles) (old new : Option (List ℕ)) (status : ℕ) → OnlyReads line → Swept line held old new status
sweeps_nothing (Some (SweepLine number to)) held old new status reads = absurd reads
sweeps_nothing other held old new status reads = tt

-- what a command leaves that writes no file
pub reader : (line : Line) (before after : Seen) (is_steady same_output same_input : Type 0) (result : Answer) → OnlyReads (Some line) → (IsSilent (Some line) → ⊥) → after.held ≡ before.held
    → WhereTold before.held before.left (Some line) (λ work. IsAnswer before.file_faults after.file_faults (StreamRose (Some line) before.output_faults after.output_faults before.input_faults after.input_faults) (answer_of work) result)
    → WhereTold before.held before.left (Some line) (λ work. Prints before.printed after.printed (expected_text work) result)
    → IsOf (Some line) result
    → (result ≡ Err File → Rose before.file_faults after.file_faults)
    → (result ≡ Err Output → StreamRose (Some line) before.output_faults after.output_faults before.input_faults after.input_faults)
    → (is_steady → IfSome before.held (λ h. IsHeld h line → result ≢ Err File))
    → IfSome before.held (λ held. AsksOf (Some line) held before.requests after.requests result)
    → (IsQuiet result → same_output)
    → AsItComes (Some line) before.held before.left after.left before.printed after.printed before.output_faults after.output_faults (result ≡ Err Output)
    → (IsUnread (Some line) → same_input)
    → Leaves (Some line) before after is_steady same_output same_input result
reader line before after is_steady same_output same_input result reads loud held answer printed listed failed output steady requested quiet comes unread = record {
  answer = answer;
  listed = listed;
  file = compiles_nothing line before.held after.held result reads;
  others = all_kept (Some line) before.held after.held reads held;
  swept = sweeps_nothing (Some line) after.held before.printed after.printed (status_of result) reads;
  kept = λ k. held;
  reads = λ r. held;
  failed = failed;
  output = output;
  steady = steady;
  requested = requested;
  as_it_comes = comes;
  printed = printed;
  quiet = quiet;
  unwritten = of_every_line before.held before.left (Some line) (λ work. Unwritten work before.held after.held) (λ work refused. held);
  silent = λ s. absurd (loud s);
  unread = unread;
}

-- an output that is none of a command's has not failed
pub no_output : (P : Answer → Type 0) (rose : Type 0) (result : Answer) → (P (Err Output) → ⊥) → P result → result ≡ Err Output → rose
no_output P rose result none of e = absurd (none (subst P e of))

-- ---- a sweep, of which no work is wanted

pub not_wanted : (held : Option HeldFiles) (left : Option (List ℕ)) (number : ℕ) (to : List ℕ) (P : Expected → Type 0) → WhereTold held left (Some (SweepLine number to)) P
not_wanted None left number to P = λ input taken. tt
not_wanted (Some h) left number to P = λ input taken work w. absurd w

-- ---- words that come to no command, and want of memory before they were read

same_others : (line : Option Line) (held : Option HeldFiles) → IfSome held (λ old. IfSome held (λ new. OthersKept old new line))
same_others line None = tt
same_others (Some (CompileLine from to)) (Some h) = λ name ne. refl
same_others (Some (SweepLine number to)) (Some h) = λ name ne. refl
same_others (Some (AsmLine from to)) (Some h) = λ name ne. refl
same_others (Some (ObjectLine from to)) (Some h) = λ name ne. refl
same_others other (Some h) = λ name. refl

memory_listed : (line : Option Line) → IsOf line (Err Memory)
memory_listed None = inr refl
memory_listed (Some (CompileLine from to)) = tt
memory_listed (Some (CheckLine from)) = tt
memory_listed (Some (EvalLine task)) = tt
memory_listed (Some (ListLine from)) = tt
memory_listed (Some (RunLine vl suppress task)) = tt
memory_listed (Some (DebugLine vl task)) = tt
memory_listed (Some (SweepLine number to)) = tt
memory_listed (Some (AsmLine from to)) = tt
memory_listed (Some (ObjectLine from to)) = tt
memory_listed (Some (PipeLine vl task)) = tt

no_file : (line : Option Line) (held : Option HeldFiles) (refusal : Refusal) → (◌≡◌ {A = Answer} (Err refusal) (Err File) → ⊥) → IfSome line (λ l. IfSome held (λ h. IsHeld h l → ◌≢◌ {A = Answer} (Err refusal) (Err File)))
no_file None held refusal not = tt
no_file (Some line) held refusal not = whatever_held held (λ h. IsHeld h line → ◌≢◌ {A = Answer} (Err refusal) (Err File)) (λ h reads. not)

pub short : (line : Option Line) (before : Seen) (is_steady same_output same_input : Type 0) (result : Answer) → IsErrAnd result (λ r. r ≡ Memory) → same_output → same_input → Leaves line before before is_steady same_output same_input result
short line before is_steady same_output same_input result is output input =
    by_result line before before is_steady same_output same_input (Err Memory) result (sym (is_err Memory result is)) (record {
      answer = of_every_line before.held before.left line _ (λ work. inl (inr (inl refl)));
      listed = memory_listed line;
      file = tt;
      others = same_others line before.held;
      swept = nothing_swept line before.held before.printed (Err Memory) refl;
      kept = λ k. refl;
      reads = λ r. refl;
      failed = λ e. absurd (file e);
      output = λ e. absurd (written e);
      steady = λ s. no_file line before.held Memory file;
      requested = short_asked line before.held before.requests (Err Memory) refl;
      as_it_comes = no_session line before.held before.left before.left before.printed before.printed before.output_faults before.output_faults (Err Memory) refl;
      printed = of_every_line before.held before.left line _ (λ work. prints_nothing before.printed (expected_text work) Memory);
      quiet = λ q. output;
      unwritten = of_every_line before.held before.left line _ (λ work refused. refl);
      silent = λ s. output;
      unread = λ u. input;
    })
  where
    file : ◌≡◌ {A = Answer} (Err Memory) (Err File) → ⊥
    file e = absurd cc

    written : ◌≡◌ {A = Answer} (Err Memory) (Err Output) → ⊥
    written e = absurd cc

pub not_asked : (before : Seen) (is_steady same_output same_input : Type 0) → same_output → same_input → Leaves None before before is_steady same_output same_input (Err Usage)
not_asked before is_steady same_output same_input output input = record {
  answer = λ bytes taken. of_one before.held (λ h. Err Usage) _ (whatever_held before.held _ (λ h. inl (inl refl)));
  listed = inl refl;
  file = tt;
  others = same_others None before.held;
  swept = tt;
  kept = λ k. refl;
  reads = λ r. refl;
  failed = λ e. absurd (file e);
  output = λ e. absurd (written e);
  steady = λ s. tt;
  requested = none_wanted before.held before.requests;
  as_it_comes = tt;
  printed = of_every_line before.held before.left None _ (λ work. prints_nothing before.printed (expected_text work) Usage);
  quiet = λ q. output;
  unwritten = of_every_line before.held before.left None _ (λ work refused. refl);
  silent = λ s. output;
  unread = λ u. input;
}
  where
    file : ◌≡◌ {A = Answer} (Err Usage) (Err File) → ⊥
    file e = absurd cc

    written : ◌≡◌ {A = Answer} (Err Usage) (Err Output) → ⊥
    written e = absurd cc
