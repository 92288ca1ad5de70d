use Rattle.std.proofs.Common.{◌∙◌, sym, ap, codes}
use Rattle.io_edges.proofs.Puts.{put_as}
use Rattle.sve_debug.specs.declared.command.Part.TheVariants.{General, Vector, Predicate, Memory, Place, Stack, Flags, FirstFault, Past}
use Rattle.sve_debug.specs.DebuggerState.{DebuggerState}
use Rattle.sve_debug.specs.Replies.{part_text, named_text}
use Rattle.sve_debug.proofs.debugger.Debugger.put_part.Goals as goal

pub returns-in-General : goal.returns-in-General
returns-in-General g c =
    put_as _ _ _ _ _ _ _ (sym (ap (λ part. part_text part c.args.self.now.machine.state c.args.self.now.last) c.in-General.is
    ∙ ap (λ (held : DebuggerState). part_text (General c.in-General.n) held.machine.state held.last) (sym c.self.view_is))) c.put_general.ensures

pub returns-in-Vector : goal.returns-in-Vector
returns-in-Vector g c =
    put_as _ _ _ _ _ _ _ (sym (ap (λ part. part_text part c.args.self.now.machine.state c.args.self.now.last) c.in-Vector.is
    ∙ ap (λ (held : DebuggerState). part_text (Vector c.in-Vector.n) held.machine.state held.last) (sym c.self.view_is))) c.put_vector.ensures

pub returns-in-Predicate : goal.returns-in-Predicate
returns-in-Predicate g c =
    put_as _ _ _ _ _ _ _ (sym (ap (λ part. part_text part c.args.self.now.machine.state c.args.self.now.last) c.in-Predicate.is
    ∙ ap (λ (held : DebuggerState). part_text (Predicate c.in-Predicate.n) held.machine.state held.last) (sym c.self.view_is))) c.put_predicate.ensures

pub returns-in-Memory : goal.returns-in-Memory
returns-in-Memory g c =
    put_as _ _ _ _ _ _ _ (sym (ap (λ part. part_text part c.args.self.now.machine.state c.args.self.now.last) c.in-Memory.is
    ∙ ap (λ (held : DebuggerState). part_text (Memory c.in-Memory.address c.in-Memory.len) held.machine.state held.last) (sym c.self.view_is))) c.put_dump.ensures

pub returns-in-Place : goal.returns-in-Place
returns-in-Place g c =
    put_as _ _ _ _ _ _ _ (ap (named_text (codes "pc")) c.pc.ensures ∙ sym (ap (λ part. part_text part c.args.self.now.machine.state c.args.self.now.last) c.in-Place.is
    ∙ ap (λ (held : DebuggerState). part_text Place held.machine.state held.last) (sym c.self.view_is))) c.put_named.ensures

pub returns-in-Stack : goal.returns-in-Stack
returns-in-Stack g c =
    put_as _ _ _ _ _ _ _ (ap (named_text (codes "sp")) c.sp.ensures ∙ sym (ap (λ part. part_text part c.args.self.now.machine.state c.args.self.now.last) c.in-Stack.is
    ∙ ap (λ (held : DebuggerState). part_text Stack held.machine.state held.last) (sym c.self.view_is))) c.put_named-in-Stack.ensures

pub returns-in-Flags : goal.returns-in-Flags
returns-in-Flags g c =
    put_as _ _ _ _ _ _ _ (sym (ap (λ part. part_text part c.args.self.now.machine.state c.args.self.now.last) c.in-Flags.is
    ∙ ap (λ (held : DebuggerState). part_text Flags held.machine.state held.last) (sym c.self.view_is))) c.put_flags.ensures

pub returns-in-FirstFault : goal.returns-in-FirstFault
returns-in-FirstFault g c =
    put_as _ _ _ _ _ _ _ (sym (ap (λ part. part_text part c.args.self.now.machine.state c.args.self.now.last) c.in-FirstFault.is
    ∙ ap (λ (held : DebuggerState). part_text FirstFault held.machine.state held.last) (sym c.self.view_is))) c.put_first_fault.ensures

pub returns-in-Past : goal.returns-in-Past
returns-in-Past g c =
    put_as _ _ _ _ _ _ _ (sym (ap (λ part. part_text part c.args.self.now.machine.state c.args.self.now.last) c.in-Past.is
    ∙ ap (λ (held : DebuggerState). part_text Past held.machine.state held.last) (sym c.self.view_is))) c.put_places.ensures
