use Rattle.std.proofs.Common.{ap, ap₂, ◌∙◌, arith}
use Rattle.machine_model.specs.Debugged.{View, now}
use Rattle.guest_types.specs.Kept.{kept_more}
use Rattle.sve_machine.specs.Pasts.{past_at, past_by, rests_of}
use Rattle.sve_machine.proofs.PastLaws.{past_by-more, seen-past, never-kept, beside, some-kept, now-seen, whole-more}
use Rattle.sve_machine.proofs.machine.Machine.keep.Goals as goal

pub returns-in-Some-clause-past : goal.returns-in-Some-clause-past
returns-in-Some-clause-past c =
    let ms = c.self.inside.pages.past in
    let m = c.self.inside.pages.memory in
    let h = c.self.inside.history in
    let rs = c.in-Some.history in
    let rest = c.snapshot-snapshot.result in
    let seen = seen-past ms h rs c.args.self.now.past (ap (λ (v : View). v.past) c.self.view_is) c.in-Some.is in
    let kept = ap (λ (v : View). past_at v.state.memory rest) c.self.view_is ∙ c.snapshot-snapshot.ensures in
    ap₂ past_by c.note.ensures.past c.keep.ensures
    ∙ past_by-more ms rs m rest (beside ms h rs c.in-Some.is c.self.invariant.beside)
    ∙ ap₂ kept_more kept seen

pub returns-in_default-clause-past : goal.returns-in_default-clause-past
returns-in_default-clause-past c =
    let none = never-kept c.self.inside.pages.past c.self.inside.history c.args.self.now.past (ap (λ (v : View). v.past) c.self.view_is) c.in_default.is in
    absurd (omega (arith, c.requires, none))

pub note-requires : goal.note-requires
note-requires c = some-kept c.self.inside.pages.past c.self.inside.history c.in-Some.history c.args.self.now.past (ap (λ (v : View). v.past) c.self.view_is) c.in-Some.is c.self.invariant.beside c.requires

pub invariant_of-self : goal.invariant_of-self
invariant_of-self c =
    let own = c.self.inside in
    whole-more own.pages.memory c.note.new.self.memory own.pages.past c.note.new.self.past own.decoded own.history c.in-Some.history c.keep.new.self c.snapshot-snapshot.result
    c.note.ensures.memory c.note.ensures.past c.keep.ensures c.in-Some.is c.self.invariant

pub invariant_of-self-in_default : goal.invariant_of-self-in_default
invariant_of-self-in_default c = c.self.invariant

pub returns-in-Some-clause-now : goal.returns-in-Some-clause-now
returns-in-Some-clause-now c =
    let own = c.self.inside in
    now-seen own.core own.pages.memory c.note.new.self.memory own.vectors own.steps own.over (past_by own.pages.past (rests_of own.history)) (past_by c.note.new.self.past c.keep.new.self) c.args.self.now c.note.ensures.memory c.self.view_is

pub returns-in_default-clause-now : goal.returns-in_default-clause-now
returns-in_default-clause-now c = ap now c.self.view_is
