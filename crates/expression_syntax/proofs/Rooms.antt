-- A unary expression is read with less room inside.
use Rattle.std.proofs.Common.{◌≡◌, ℕ, zero, suc, ◌-◌, ◌<◌, List, length, Option, Some, None, Err, refl, arith}
use Rattle.kernel_tree.specs.declared.mark.Mark.{Mark}
use Rattle.kernel_tree.specs.declared.mark.Opening.{Opening}
use Rattle.kernel_tree.specs.TextToken.{TextToken}
use Rattle.kernel_tree.specs.Grammar.{opening_of_mark}
use Rattle.expression_syntax.specs.Reading.{mark_at, chain_at, opened_by, unary_by, unary_at}
use Rattle.expression_syntax.proofs.Sound.{mark-is}

pub unary-some : (room : ℕ) (words : List TextToken) → 0 < room → unary_at room words ≡ unary_by (chain_at (unary_at (room - 1)) 10) (unary_at (room - 1)) words
unfolding unary_at
unary-some zero words h = absurd (omega arith)
unary-some (suc room) words h = let p : suc room - 1 ≡ room = omega arith in rw p refl

pub opens : (room : ℕ) (words : List TextToken) (m : Mark) (rest : List TextToken) (o : Option Opening) → 0 < room → mark_at words ≡ Some (m, rest) → opening_of_mark m ≡ o → unary_at room words ≡ opened_by (chain_at (unary_at (room - 1)) 10) (unary_at (room - 1)) o rest
opens room words m rest o h e k = rw (unary-some room words h, mark-is words (m, rest) e, k) refl

pub unopened : (room : ℕ) (words : List TextToken) (m : Mark) (rest : List TextToken) → 0 < room → mark_at words ≡ Some (m, rest) → opening_of_mark m ≡ None → unary_at room words ≡ Err (length words)
unopened room words m rest h e o = rw (unary-some room words h, mark-is words (m, rest) e, o) refl
