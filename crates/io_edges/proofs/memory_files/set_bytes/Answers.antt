use Rattle.std.proofs.Common.{ap, ◌∙◌}
use Rattle.std.specs.Prelude.{position, string_bytes}
use Rattle.io_edges.specs.NamedFile.{has_name}
use Rattle.io_edges.specs.declared.memory_files.NamedFile.{NamedFile}
use Rattle.io_edges.proofs.Places.{replaces_at, replaces_more, name_at}
use Rattle.io_edges.proofs.memory_files.set_bytes.Goals as goal

pub returns-in-Some-clause-bytes : goal.returns-in-Some-clause-bytes
returns-in-Some-clause-bytes c =
    let at = c.in-Some.ensures.place ∙ ap (position (has_name c.args.name.now)) c.deref.ensures.value in
    let same = ap (λ (f : NamedFile). string_bytes f.name) c.index_mut.ensures.value ∙ name_at c.args.name.now c.args.files.now.items c.in-Some.place c.index_mut.result.now at in
    rw (← c.in_ok-bytes.ensures.items) (replaces_at c.args.name.now c.args.files.now.items c.in-Some.place _ at same)

pub returns-in_ok-push-in-None-clause-bytes : goal.returns-in_ok-push-in-None-clause-bytes
returns-in_ok-push-in-None-clause-bytes c =
    let none = c.in-None.ensures.place ∙ ap (position (has_name c.args.name.now)) c.deref.ensures.value in
    rw (c.in_ok-push-in-None.ensures.items, ← c.in_ok-bytes.ensures.items) (replaces_more c.args.name.now c.args.files.now.items _ none c.in_ok-name-in-None.ensures.ok)
