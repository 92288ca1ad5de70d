-- The text of every seed is a sound kernel, of which no more values are live than there are registers.
use Rattle.std.proofs.Common.{ℕ, ◌+◌, ◌<◌, ◌≤◌, ◌^◌, List, ◌++◌, length, Ok, ◌∙◌, arith, length-append}
use Rattle.std.specs.Prelude.{decimal}
use Rattle.std.proofs.lemmas.Nat.{mod_below}
use Rattle.std.proofs.lemmas.Fmt.{length-decimal-le}
use Rattle.kernel_tokens.proofs.Spelled.{tokens_spelled}
use Rattle.kernel_syntax.proofs.Outcomes.{short_text, words_within_4096}
use Rattle.kernel_front.specs.Verdict.{Sound, IsVerdict}
use Rattle.sweep_kernel.specs.Numbers.{random, initial_of, offset_of, level_of}
use Rattle.sweep_kernel.specs.KernelText.{first_part, second_part, third_part, last_part, text_with}
use Rattle.sweep_kernel.specs.Tree.{kernel_with}
use Rattle.sweep_kernel.specs.Accepted.{IsAccepted}
use Rattle.sweep_kernel.proofs.Words.{words_with, tokens_with}
use Rattle.sweep_kernel.proofs.KernelRead.{tree_with, shallow_with}
use Rattle.sweep_kernel.proofs.RulesMet.{checked_with, enough_with}

digits_few : (n : ℕ) → n < 2 ^ 64 → length (decimal n) ≤ 20
digits_few n h = length-decimal-le 20 n (omega arith) (omega arith) h

length_of_three_parts : (part digits rest : List ℕ) (p d r : ℕ) → length part ≤ p → length digits ≤ d → length rest ≤ r → length (part ++ (digits ++ rest)) ≤ p + d + r
length_of_three_parts part digits rest p d r hp hd hr = omega (arith, length-append part (digits ++ rest), length-append digits rest)

abbrev third_rest : ℕ → List ℕ
third_rest level = third_part ++ (decimal level ++ last_part)

abbrev second_rest : (offset level : ℕ) → List ℕ
second_rest offset level = second_part ++ (decimal offset ++ third_rest level)

-- the text is short
short_with : (initial offset level : ℕ) → initial < 2 ^ 64 → offset < 2 ^ 64 → level < 2 ^ 64 → length (text_with initial offset level) ≤ 65536
unfolding text_with
short_with initial offset level hi ho hl =
    let third = length_of_three_parts third_part (decimal level) last_part 17 20 86 (omega arith) (digits_few level hl) (omega arith) in
    let second = length_of_three_parts second_part (decimal offset) (third_rest level) 50 20 123 (omega arith) (digits_few offset ho) third in
    let first = length_of_three_parts first_part (decimal initial) (second_rest offset level) 96 20 193 (omega arith) (digits_few initial hi) second in
    omega (arith, first)

sound_with : (initial offset level : ℕ) → initial < 2 ^ 31 → offset ≤ 1024 → level < 2 ^ 31 → IsVerdict (text_with initial offset level) (Sound (kernel_with initial offset level))
sound_with initial offset level hi ho hl =
    let i : initial < 2 ^ 64 = omega arith in
    let o : offset < 2 ^ 64 = omega arith in
    let l : level < 2 ^ 64 = omega arith in
    let tokens = tokens_with initial offset level i o l in
    let fine = shallow_with initial offset level in (
      short_text (text_with initial offset level) (Ok (words_with initial offset level)) (short_with initial offset level i o l) tokens ∙ fine,
      record {
        words = words_with initial offset level;
        tokens = tokens;
        few = words_within_4096 (words_with initial offset level) fine;
        spelled = tokens_spelled (text_with initial offset level) (words_with initial offset level) tokens;
        tree = tree_with initial offset level;
      },
      checked_with initial offset level hi ho hl,
    )

pub accepts_sweep : (seed : ℕ) → IsAccepted seed
accepts_sweep seed =
    let i : initial_of seed < 100 = mod_below (random seed 3) 100 (omega arith) in
    let o : offset_of seed < 9 = mod_below (random seed 1) 9 (omega arith) in
    let l : level_of seed < 1000 = mod_below (random seed 2) 1000 (omega arith) in
    record {
      sound = sound_with (initial_of seed) (offset_of seed) (level_of seed) (omega (arith, i)) (omega (arith, o)) (omega (arith, l));
      enough = enough_with (initial_of seed) (offset_of seed) (level_of seed);
    }
