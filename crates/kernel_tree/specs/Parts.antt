-- A statement that the code has taken apart.
use Rattle.kernel_tree.specs.Plain.{Action, Define, Put, Update, Choose, Leave, Nothing, Else, name_of, term_of, block_of}
use Rattle.kernel_tree.specs.declared.part.Part.{Part}
use Rattle.kernel_tree.specs.declared.part.Part.TheVariants as part

abbrev pub part_action : Part → Action
part_action (part.Let x t e) = Define (name_of x.now) t (term_of e.now)
part_action (part.Store a i e) = Put (name_of a.now) (term_of i.now) (term_of e.now)
part_action (part.Update x op e) = Update (name_of x.now) op (term_of e.now)
part_action (part.If c b) = Choose (term_of c.now) (block_of b.now) Nothing
part_action (part.IfElse c b d) = Choose (term_of c.now) (block_of b.now) (Else (block_of d.now))
part_action (part.Break c) = Leave (term_of c.now)
