use Rattle.std.proofs.Common.{List, [], ◌++◌, ℕ, sym, ap, subst, ◌∙◌}
use Rattle.std.specs.Prelude.{string_bytes}
use Rattle.std.proofs.lemmas.List.{append-nil}
use Rattle.kernel_tree.specs.Plain.{program_of}
use Rattle.kernel_tree.specs.Printing.{spaced, kernel_words}
use Rattle.kernel_tree.specs.Text.{IsTextOf}
use Rattle.kernel_print.proofs.PrintedKernel.{read_back}
use Rattle.kernel_print.proofs.print_kernel.Goals as goal

pub returns-clause-canonical : goal.returns-clause-canonical
unfolding spaced
returns-clause-canonical c = sym (append-nil (string_bytes c.put_inside.new.out)) ∙ c.in_ok-put_inside.ensures [] ∙ c.in_ok-put_head.ensures _ ∙ ap (λ (t : List ℕ). t ++ spaced (kernel_words (program_of c.args.kernel.now))) c.in_ok-text.ensures.ok

pub returns-clause-reads_back : goal.returns-clause-reads_back
returns-clause-reads_back c tree = subst (λ (t : List ℕ). IsTextOf (program_of c.args.kernel.now) t) (sym (returns-clause-canonical c)) (read_back (program_of c.args.kernel.now) tree)
