use Rattle.std.proofs.Common.{◌≡◌, ◌∙◌, ℕ, List, Bool, true, false, sym, ap, Option, None, if◌then◌else◌}
use Rattle.std.specs.Prelude.{option_map, option_and_then}
use Rattle.command_line.specs.declared.place.OptionName.{OptionName}
use Rattle.command_line.specs.Line.{is_filled}
use Rattle.command_line.specs.Given.{name_of, joined_of, name_before}
use Rattle.command_line.specs.View.{name_and_value}
use Rattle.command_line.proofs.check.joined.Goals as goal

abbrev with_text : List ℕ → Option OptionName → Option (OptionName × List ℕ)
with_text value o = option_map (λ name. (name, value)) o

by_text : (front value : List ℕ) (b : Bool) → is_filled value ≡ b → name_before (front, value) ≡ (if b then with_text value (name_of front) else None)
by_text front value b e = ap (λ (c : Bool). if c then with_text value (name_of front) else None) e

pub returns-in_err-front : goal.returns-in_err-front
unfolding joined_of
returns-in_err-front c = ap (option_map name_and_value) c.from_residual.ensures ∙ ap (option_and_then name_before) c.in_err-front.ensures

pub returns-then-not-is_positional : goal.returns-then-not-is_positional
unfolding joined_of
returns-then-not-is_positional c =
    let v = c.in_ok-front.value.now in
    sym (ap (option_and_then name_before) (sym c.in_ok-front.ensures) ∙ by_text c.in_ok-front.front.now v false (ap is_filled (sym c.as_bytes.ensures.value) ∙ sym c.is_positional.ensures ∙ c.if-not-is_positional.true))

pub returns-in_err-name : goal.returns-in_err-name
unfolding joined_of
returns-in_err-name c =
    let v = c.in_ok-front.value.now in
    ap (option_map name_and_value) c.from_residual-in_err-name.ensures
    ∙ sym (ap (option_and_then name_before) (sym c.in_ok-front.ensures)
    ∙ by_text c.in_ok-front.front.now v true (ap is_filled (sym c.as_bytes.ensures.value) ∙ sym c.is_positional.ensures ∙ c.if-not-is_positional.false)
    ∙ ap (with_text v) (sym c.in_err-name.ensures))

pub returns : goal.returns
unfolding joined_of
returns c =
    let v = c.in_ok-front.value.now in
    sym (ap (option_and_then name_before) (sym c.in_ok-front.ensures)
    ∙ by_text c.in_ok-front.front.now v true (ap is_filled (sym c.as_bytes.ensures.value) ∙ sym c.is_positional.ensures ∙ c.if-not-is_positional.false)
    ∙ ap (with_text v) (sym c.in_ok-name.ensures))
