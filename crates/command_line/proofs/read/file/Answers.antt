use Rattle.std.proofs.Common.{◌∙◌, sym, ap, length, Some, ℕ, List}
use Rattle.std.specs.Prelude.{option_map, option_and_then}
use Rattle.std.proofs.lemmas.Result.{IfOk-from_err}
use Rattle.std.proofs.lemmas.Bool.{ltb-true, ltb-false}
use Rattle.command_line.specs.Line.{one_file, file_of}
use Rattle.command_line.specs.View.{all_in, all_left}
use Rattle.command_line.proofs.Outcomes.{one_left, no_file, more_files}
use Rattle.command_line.proofs.read.file.Goals.{in_default-as_slice-via-then-as_slice-lt1, in_default-as_slice-via-else-as_slice-lt1+else-this-lt2}
use Rattle.command_line.proofs.read.file.Goals as goal

pub returns-in_err-found : goal.returns-in_err-found
returns-in_err-found c = IfOk-from_err _ _ c.from_residual.ensures.0

pub returns-in_default : goal.returns-in_default
unfolding file_of
returns-in_default c = sym (ap (option_and_then one_file) (sym c.in_ok-found.ensures ∙ ap (option_map all_in) c.in_default.is))

pub returns-in_err-from_str : goal.returns-in_err-from_str
returns-in_err-from_str c = IfOk-from_err _ _ c.from_residual-in_err-from_str.ensures.0

pub returns : goal.returns
unfolding file_of
returns c =
    sym (ap (option_and_then one_file) (sym c.in_ok-found.ensures ∙ ap (option_map all_in) c.in-Some.is)
    ∙ ap one_file (ap all_left (sym c.as_slice.ensures.value) ∙ one_left c.as_slice.result.now _ c.in-len1.len_at_least c.in-len1.len_below)
    ∙ ap (λ (a : List ℕ). Some a) (sym c.in_ok-from_str.ensures.ok))

pub returns-in_default-as_slice : goal.returns-in_default-as_slice
unfolding file_of
returns-in_default-as_slice c =
    let words = c.as_slice.result.now in
    sym (ap (option_and_then one_file) (sym c.in_ok-found.ensures ∙ ap (option_map all_in) c.in-Some.is) ∙ ap one_file (ap all_left (sym c.as_slice.ensures.value))
    ∙ elim c.in_default-as_slice.branch [
      | in_default-as_slice-via-then-as_slice-lt1 w ↦ no_file words (ltb-true (length words) 1 w.if-as_slice-lt1-1.true)
      | in_default-as_slice-via-else-as_slice-lt1+else-this-lt2 w ↦ more_files words (ltb-false (length words) 2 w.if-this-lt2-1.false)
    ])
