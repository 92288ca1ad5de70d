use Rattle.std.proofs.Common.{◌∙◌, sym, ap, refl, length, ℕ, List, []}
use Rattle.std.specs.Prelude.{option_map, option_and_then}
use Rattle.std.specs.Borrow.{Bor}
use Rattle.std.proofs.lemmas.Result.{IfOk-from_err}
use Rattle.std.proofs.lemmas.Bool.{ltb-true, ltb-false}
use Rattle.command_line.specs.Line.{number_and_file, sweep_of}
use Rattle.command_line.specs.View.{all_in, all_left}
use Rattle.command_line.proofs.Outcomes.{two_left, none_of_fewer, none_of_more}
use Rattle.command_line.proofs.WithOptions.{sweep_unread, sweep_is}
use Rattle.command_line.proofs.read.sweep.Goals.{in_default-as_slice-via-then-as_slice-lt2, in_default-as_slice-via-else-as_slice-lt2+else-this-lt3}
use Rattle.command_line.proofs.read.sweep.Goals as goal

abbrev unread : Bor (List ℕ)
unread = record { ref_ptr = (0, 0); now = [] }

pub returns-in_err-found : goal.returns-in_err-found
returns-in_err-found c = IfOk-from_err _ _ c.from_residual.ensures.0

pub returns-in_default : goal.returns-in_default
unfolding sweep_of
returns-in_default c = sym (ap (option_and_then number_and_file) (sym c.in_ok-found.ensures ∙ ap (option_map all_in) c.in_default.is))

pub returns-in_default-number : goal.returns-in_default-number
unfolding sweep_of
returns-in_default-number c =
    sym (ap (option_and_then number_and_file) (sym c.in_ok-found.ensures ∙ ap (option_map all_in) c.in-Some.is)
    ∙ sweep_unread _ _ _ _ _ (ap all_left (sym c.as_slice.ensures.value) ∙ two_left c.as_slice.result.now unread unread c.in-len2.len_at_least c.in-len2.len_below) c.as_bytes.ensures.value c.number.ensures
    c.in_default-number.is)

pub returns-in_err-from_str : goal.returns-in_err-from_str
returns-in_err-from_str c = IfOk-from_err _ _ c.from_residual-in_err-from_str.ensures.0

pub returns : goal.returns
unfolding sweep_of
returns c =
    sym (ap (option_and_then number_and_file) (sym c.in_ok-found.ensures ∙ ap (option_map all_in) c.in-Some.is)
    ∙ sweep_is _ _ _ _ _ _ _ (ap all_left (sym c.as_slice.ensures.value) ∙ two_left c.as_slice.result.now unread unread c.in-len2.len_at_least c.in-len2.len_below) c.as_bytes.ensures.value c.number.ensures
    c.in-Some-number.is c.in_ok-from_str.ensures.ok)

pub returns-in_default-as_slice : goal.returns-in_default-as_slice
unfolding sweep_of
returns-in_default-as_slice c =
    let words = c.as_slice.result.now in
    sym (ap (option_and_then number_and_file) (sym c.in_ok-found.ensures ∙ ap (option_map all_in) c.in-Some.is) ∙ ap number_and_file (ap all_left (sym c.as_slice.ensures.value))
    ∙ elim c.in_default-as_slice.branch [
      | in_default-as_slice-via-then-as_slice-lt2 w ↦ none_of_fewer number_and_file words refl (λ a. refl) (ltb-true (length words) 2 w.if-as_slice-lt2-1.true)
      | in_default-as_slice-via-else-as_slice-lt2+else-this-lt3 w ↦ none_of_more number_and_file words (λ a b c more. refl) (ltb-false (length words) 3 w.if-this-lt3-1.false)
    ])
