use Rattle.std.proofs.Common.{◌<◌, ◌≤◌, sym, ap, ◌∙◌, arith}
use Rattle.kernel_tree.specs.Plain.{word_of}
use Rattle.kernel_syntax.specs.Nesting.{open_by, signs_by, deep_from}
use Rattle.kernel_syntax.proofs.NestingWalk.{words_at, stops_open, stops_signs, goes_deeper, nothing_deep}
use Rattle.kernel_syntax.proofs.nesting.too_deep.Goals as goal
use Rattle.kernel_syntax.proofs.nesting.too_deep.Goals.{then-depth-gt-MOST_OPEN-via-then-depth-gt-MOST_OPEN, then-depth-gt-MOST_OPEN-via-else-depth-gt-MOST_OPEN+then-signs-gt-MOST_OPEN}

pub returns-then-depth-gt-MOST_OPEN-clause-value : goal.returns-then-depth-gt-MOST_OPEN-clause-value
returns-then-depth-gt-MOST_OPEN-clause-value c =
    let d = c.loop-token.depth in
    let s = c.loop-token.signs in
    let at = c.loop-token.at in
    let w = words_at c.args.tokens.now c.loop-token.token-index c.token-item.result (omega arith) c.token-item.is in
    let start = ap (deep_from d s at) (sym w) ∙ c.loop-token.invariant.same in
    elim c.then-depth-gt-MOST_OPEN.branch [
      | then-depth-gt-MOST_OPEN-via-then-depth-gt-MOST_OPEN v ↦ (let h : 64 < open_by d (word_of c.token-item.result) = rw c.open_after-depth.ensures at v.if-depth-gt-MOST_OPEN.true in sym (stops_open d s at (word_of c.token-item.result) _ h) ∙ start)
      | then-depth-gt-MOST_OPEN-via-else-depth-gt-MOST_OPEN+then-signs-gt-MOST_OPEN v ↦ (let h : 64 < signs_by s (word_of c.token-item.result) = rw c.signs_after-signs.ensures at v.if-signs-gt-MOST_OPEN.true in sym (stops_signs d s at (word_of c.token-item.result) _ h) ∙ start)
    ]

pub loop-token-preserved : goal.loop-token-preserved
loop-token-preserved c =
    let d = c.loop-token.depth in
    let s = c.loop-token.signs in
    let at = c.loop-token.at in
    let w = words_at c.args.tokens.now c.loop-token.token-index c.token-item.result (omega arith) c.token-item.is in
    let h : open_by d (word_of c.token-item.result) ≤ 64 = rw c.open_after-depth.ensures at c.if-depth-gt-MOST_OPEN.false in
    let k : signs_by s (word_of c.token-item.result) ≤ 64 = rw c.signs_after-signs.ensures at c.if-signs-gt-MOST_OPEN.false in
    record {
      depth_few = omega arith;
      signs_few = omega arith;
      place = omega arith;
      same = rw (c.open_after-depth.ensures, c.signs_after-signs.ensures) (sym (goes_deeper d s at (word_of c.token-item.result) _ h k) ∙ ap (deep_from d s at) (sym w) ∙ c.loop-token.invariant.same);
    }

pub returns-clause-value : goal.returns-clause-value
returns-clause-value c = sym (nothing_deep c.loop-token.depth c.loop-token.signs c.loop-token.at c.loop-token.token-index c.args.tokens.now (omega arith)) ∙ c.loop-token.invariant.same
