use Rattle.std.proofs.Common.{◌≡◌, length, vec_len, rules, refl, ◌∙◌}
use Rattle.scalar_words.specs.View.{key_of}
use Rattle.guest_types.proofs.Errors.{on_error}
use Rattle.value_code.proofs.HeldKeys.{few_fit, few_left, low_left, one_added}
use Rattle.value_code.proofs.hold.add_key.Goals as goal

pub overflow_cast-register : goal.overflow_cast-register
overflow_cast-register c =
    let count : vec_len c.args.constants.now ≡ length c.args.constants.now.items = search rules in
    few_fit c.args.constants.now.items c.len.result c.requires (c.len.ensures ∙ count)

pub overflow_sub-register : goal.overflow_sub-register
overflow_sub-register c =
    let count : vec_len c.args.constants.now ≡ length c.args.constants.now.items = search rules in
    few_left c.args.constants.now.items c.len.result c.requires (c.len.ensures ∙ count)

pub invariant_of-register : goal.invariant_of-register
invariant_of-register c = record { in_range = low_left c.len.result }

pub returns-in_err-push : goal.returns-in_err-push
returns-in_err-push c = on_error _ _ c.from_residual.ensures.0

pub returns : goal.returns
returns c =
    let count : vec_len c.args.constants.now ≡ length c.args.constants.now.items = search rules in
    one_added c.args.constants.now.items c.push.new.self.items _ c.len.result (key_of c.args.key) c.in_ok-push.ensures.items (c.len.ensures ∙ count) refl
