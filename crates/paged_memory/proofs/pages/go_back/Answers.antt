use Rattle.std.proofs.Common.{◌≡◌, ◌+◌, ◌<◌, length, drop, take, sym, ap, ap₂, ◌∙◌, arith}
use Rattle.std.proofs.lemmas.List.{length-drop}
use Rattle.paged_memory.specs.Epochs.{past_of, cleared_first}
use Rattle.paged_memory.proofs.UndoLaws.{back-step, back-last, back-memory, length-undone_first, length-cleared}
use Rattle.paged_memory.proofs.pages.go_back.Goals as goal

pub loop-log-preserved : goal.loop-log-preserved
loop-log-preserved c =
    let es = c.loop-log.log.epochs in
    let m = c.loop-log.store in
    let n = c.args.n in
    let left = ap (λ l. l.epochs) c.drop_newest.ensures ∙ ap (λ l. drop 1 l.epochs) c.undo_newest.ensures.cleared in
    let more : n + 1 < length es = omega (arith, c.loop-log-test.true, c.count.ensures.value) in
    record {
      pages = ap (λ l. l.pages) c.drop_newest.ensures ∙ ap (λ l. l.pages) c.undo_newest.ensures.cleared ∙ c.loop-log.invariant.pages;
      len = ap length c.undo_newest.ensures.memory ∙ length-undone_first es m ∙ c.loop-log.invariant.len;
      some = omega (arith, ap length left, length-drop 1 (cleared_first es), length-cleared es, more);
      past = ap₂ (λ e s. take (n + 1) (past_of e s)) left c.undo_newest.ensures.memory ∙ back-step es m n more ∙ c.loop-log.invariant.past;
    }

pub returns-clause-len : goal.returns-clause-len
returns-clause-len c = ap length c.undo_newest-2.ensures.memory ∙ length-undone_first c.loop-log.log.epochs c.loop-log.store ∙ c.loop-log.invariant.len

pub returns-clause-memory : goal.returns-clause-memory
returns-clause-memory c = λ d.
    let es = c.loop-log.log.epochs in
    let n = c.args.n in
    let last : length es ≡ n + 1 = omega (arith, c.loop-log-test.false, c.count.ensures.value, c.loop-log.invariant.some) in
    back-memory es c.loop-log.store n (past_of c.args.log.now.epochs c.args.store.now) d last c.loop-log.invariant.past ∙ sym c.undo_newest-2.ensures.memory

pub returns-clause-past : goal.returns-clause-past
returns-clause-past c =
    let es = c.loop-log.log.epochs in
    let n = c.args.n in
    let last : length es ≡ n + 1 = omega (arith, c.loop-log-test.false, c.count.ensures.value, c.loop-log.invariant.some) in
    ap₂ past_of (ap (λ l. l.epochs) c.undo_newest-2.ensures.cleared) c.undo_newest-2.ensures.memory
    ∙ back-last es c.loop-log.store n last
    ∙ c.loop-log.invariant.past
