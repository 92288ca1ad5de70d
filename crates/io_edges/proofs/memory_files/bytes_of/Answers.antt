use Rattle.std.proofs.Common.{Some, sym, ap, ◌∙◌}
use Rattle.io_edges.proofs.Places.{content_none, content_at}
use Rattle.io_edges.proofs.memory_files.bytes_of.Goals as goal

pub returns-in-None : goal.returns-in-None
returns-in-None c = content_none c.args.name.now c.args.files.now c.in-None.ensures.place

pub returns-in-Some : goal.returns-in-Some
returns-in-Some c =
    content_at c.args.name.now c.args.files.now c.in-Some.place c.index-files-place.result c.in-Some.ensures.place ∙ ap Some (sym c.as_slice.ensures.value)
