use Rattle.word_rows.proofs.TableLaws.{not_in_two_tables}
use Rattle.a64_code.specs.Table as a64
use Rattle.sve_code.specs.Table as sve
use Rattle.machine_model.proofs.ListedWords.{tables_are_apart, either_table_of_vector}
use Rattle.machine_model.proofs.laws.no_word_in_both_tables.Goals as goal

pub returns-clause-apart : goal.returns-clause-apart
returns-clause-apart c = not_in_two_tables a64.row a64.a64_names sve.row sve.sve_names tables_are_apart

pub returns-clause-vectors : goal.returns-clause-vectors
returns-clause-vectors c word v e = either_table_of_vector _ _ v (not_in_two_tables a64.row a64.a64_names sve.row sve.sve_names tables_are_apart word) e
