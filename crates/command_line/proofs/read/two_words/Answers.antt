use Rattle.std.proofs.Common.{◌∙◌, sym, ap, ap₂, refl, length, Some, ℕ, List}
use Rattle.std.specs.Prelude.{option_map, option_and_then}
use Rattle.std.proofs.lemmas.Result.{IfOk-from_err}
use Rattle.std.proofs.lemmas.Bool.{ltb-true, ltb-false}
use Rattle.command_line.specs.Line.{two_of}
use Rattle.command_line.specs.View.{all_in, all_left}
use Rattle.command_line.proofs.Outcomes.{two_left, none_of_fewer, none_of_more}
use Rattle.command_line.proofs.read.two_words.Goals.{in_default-as_slice-via-then-as_slice-lt2, in_default-as_slice-via-else-as_slice-lt2+else-this-lt3}
use Rattle.command_line.proofs.read.two_words.Goals as goal

pub returns-in_err-found : goal.returns-in_err-found
returns-in_err-found c = IfOk-from_err _ _ c.from_residual.ensures.0

pub returns-in_default : goal.returns-in_default
returns-in_default c = sym (ap (option_and_then two_of) (sym c.in_ok-found.ensures ∙ ap (option_map all_in) c.in_default.is))

pub returns-in_default-as_slice : goal.returns-in_default-as_slice
returns-in_default-as_slice c =
    let words = c.as_slice.result.now in
    sym (ap (option_and_then two_of) (sym c.in_ok-found.ensures ∙ ap (option_map all_in) c.in-Some.is) ∙ ap two_of (ap all_left (sym c.as_slice.ensures.value))
    ∙ elim c.in_default-as_slice.branch [
      | in_default-as_slice-via-then-as_slice-lt2 w ↦ none_of_fewer two_of words refl (λ a. refl) (ltb-true (length words) 2 w.if-as_slice-lt2-1.true)
      | in_default-as_slice-via-else-as_slice-lt2+else-this-lt3 w ↦ none_of_more two_of words (λ a b c more. refl) (ltb-false (length words) 3 w.if-this-lt3-1.false)
    ])

pub returns-in_err-from_str : goal.returns-in_err-from_str
returns-in_err-from_str c = IfOk-from_err _ _ c.from_residual-in_err-from_str.ensures.0

pub returns-in_err-from_str-2 : goal.returns-in_err-from_str-2
returns-in_err-from_str-2 c = IfOk-from_err _ _ c.from_residual-in_err-from_str-2.ensures.0

pub returns : goal.returns
returns c =
    sym (ap (option_and_then two_of) (sym c.in_ok-found.ensures ∙ ap (option_map all_in) c.in-Some.is)
    ∙ ap two_of (ap all_left (sym c.as_slice.ensures.value) ∙ two_left c.as_slice.result.now _ _ c.in-len2.len_at_least c.in-len2.len_below)
    ∙ ap₂ (λ (a b : List ℕ). Some (a, b)) (sym c.in_ok-from_str.ensures.ok) (sym c.in_ok-from_str-2.ensures.ok))
