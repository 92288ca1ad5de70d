use Rattle.std.proofs.Common.{ap, ◌∙◌}
use Rattle.kernel_tree.specs.Typing.{empty}
use Rattle.kernel_types.proofs.kernels.walk_kernel.Goals as goal

pub notes_in-requires : goal.notes_in-requires
notes_in-requires c =
    record { room = c.requires; scope = c.empty-scope.ensures ∙ ap empty c.loop_index.ensures }

pub returns : goal.returns
returns c =
    record { found = c.notes_in.ensures.found; types = c.notes_in.ensures.types }
