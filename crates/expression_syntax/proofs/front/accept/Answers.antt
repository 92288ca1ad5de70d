use Rattle.std.proofs.Common.{◌≡◌, ◌-◌, List, length, take, drop, arith, true, false, Some, None, refl, sym, ap₂, ◌∙◌, eqb}
use Rattle.std.proofs.lemmas.Grind.{common_steps}
use denote.Enum.Bare.{sameb}
use denote.Enum.Declared.{tag_of}
use Rattle.kernel_tree.specs.contracts.mark.Mark.{the_type}
use Rattle.kernel_tree.specs.declared.mark.Mark.{Mark}
use Rattle.kernel_tree.specs.declared.mark.Mark.TheVariants as mark
use Rattle.kernel_tree.specs.Plain.{words_of, same, number_of_mark}
use Rattle.kernel_tree.specs.TextToken.{TextToken}
use Rattle.expression_syntax.specs.Reading.{mark_at, following}
use Rattle.expression_syntax.proofs.front.accept.Goals as goal

tags : (m : Mark) → tag_of the_type m ≡ number_of_mark m
tags mark.Kernel = refl
tags _ = refl

same-is : (a b : Mark) → sameb the_type a b ≡ same a b
same-is a b = ap₂ eqb (tags a) (tags b)

follows : (m n : Mark) (words rest : List TextToken) → Some (n, rest) ≡ mark_at words → same n m ≡ true → Some rest ≡ following m words
unfolding following
follows m n words rest e h = rw (← e, h) refl

another : (m n : Mark) (words rest : List TextToken) → Some (n, rest) ≡ mark_at words → same n m ≡ false → None ≡ following m words
unfolding following
another m n words rest e h = rw (← e, h) refl

pub returns-then-eq-clause-value : goal.returns-then-eq-clause-value
returns-then-eq-clause-value c =
    let front : Some (c.in-Mark.found, words_of (take (length c.args.tokens.now - 1) (drop 1 c.args.tokens.now))) ≡ mark_at (words_of c.args.tokens.now) = grind (arith, common_steps) in
    let equal : sameb the_type c.in-Mark.found c.args.mark ≡ true = grind (arith, common_steps) in
    follows c.args.mark c.in-Mark.found (words_of c.args.tokens.now) _ front (sym (same-is c.in-Mark.found c.args.mark) ∙ equal)

pub returns-else-eq-clause-value : goal.returns-else-eq-clause-value
returns-else-eq-clause-value c =
    let front : Some (c.in-Mark.found, words_of (take (length c.args.tokens.now - 1) (drop 1 c.args.tokens.now))) ≡ mark_at (words_of c.args.tokens.now) = grind (arith, common_steps) in
    let equal : sameb the_type c.in-Mark.found c.args.mark ≡ false = grind (arith, common_steps) in
    another c.args.mark c.in-Mark.found (words_of c.args.tokens.now) _ front (sym (same-is c.in-Mark.found c.args.mark) ∙ equal)
