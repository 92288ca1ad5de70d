use Rattle.std.proofs.lemmas.Result.{IfErr-weaker}
use Rattle.kernel_tree.specs.Plain.{program_of}
use Rattle.kernel_front.proofs.Causes.{ReadSays, unread, broken, sound}
use Rattle.kernel_front.proofs.accepting.accept.Goals as goal

pub returns-in_err-kernel-clause-refused : goal.returns-in_err-kernel-clause-refused
returns-in_err-kernel-clause-refused c =
    let e = c.read_kernel.ensures in
    let says : ReadSays c.args.text.now c.read_kernel.result = record { too_long = e.too_long; bad_byte = e.bad_byte; too_deep = e.too_deep; no_tree = e.no_tree; no_limit = e.no_limit; place = e.place } in
    unread c.args.text.now c.read_kernel.result c.in_err-kernel.field-0.0 c.from_residual.result says c.in_err-kernel.was c.from_residual.ensures.1

pub returns-clause-sound : goal.returns-clause-sound
returns-clause-sound c = sound c.args.text.now c.in_ok-kernel.kernel c.checked.result c.in_ok-kernel.ensures.within c.in_ok-kernel.ensures.tree c.checked.ensures.ok c.checked.ensures.kernel

pub returns-clause-refused : goal.returns-clause-refused
returns-clause-refused c = IfErr-weaker c.checked.result _ _ (λ fault q. broken c.args.text.now (program_of c.in_ok-kernel.kernel) c.in_ok-kernel.ensures.within c.in_ok-kernel.ensures.tree fault q) c.checked.ensures.refused
