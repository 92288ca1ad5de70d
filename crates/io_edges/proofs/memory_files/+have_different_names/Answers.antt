use Rattle.io_edges.proofs.Places.{differ_more}
use Rattle.io_edges.proofs.memory_files.+have_different_names.Goals as goal

pub returns : goal.returns
returns t c =
    differ_more c.in-Some.file.now c.in-Some.others.now c.args.files.now c.place_of.result c.as_str.result.now c.is_none-alone.result c.have_different_names.result c.in-Some.ensures.cases.0 c.as_str.ensures.value c.place_of.ensures.place c.is_none-alone.ensures c.have_different_names.ensures
