use Rattle.std.proofs.Common.{sym, ◌∙◌}
use Rattle.call_words.specs.Classes.{written_of}
use Rattle.call_words.proofs.WordLists.{step_true, step_false, written_end}
use Rattle.call_words.proofs.written.is_written.Goals as goal

pub returns-then-writes : goal.returns-then-writes
returns-then-writes c =
    sym (c.loop-word.invariant ∙ step_true (written_of c.args.class) c.args.register c.args.words.now c.loop-word.word-index c.loop-word-test.true (sym c.if-writes.true ∙ c.writes.ensures))

pub loop-word-preserved : goal.loop-word-preserved
loop-word-preserved c =
    c.loop-word.invariant ∙ step_false (written_of c.args.class) c.args.register c.args.words.now c.loop-word.word-index c.loop-word-test.true (sym c.if-writes.false ∙ c.writes.ensures)

pub returns : goal.returns
returns c = sym (c.loop-word.invariant ∙ written_end (written_of c.args.class) c.args.register c.args.words.now c.loop-word.word-index c.loop-word-test.false)
