use Rattle.object_file.proofs.ReadObjects.{object_reads}
use Rattle.object_file.proofs.laws.objects_are_read.Goals as goal

pub returns : goal.returns
returns c = object_reads
