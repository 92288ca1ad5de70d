use Rattle.word_rows.proofs.TableLaws.{reads-spells, spells-reads}
use Rattle.a64_code.specs.Table.{row, a64_names}
use Rattle.a64_code.proofs.Valid.{a64_table, valid}
use Rattle.a64_code.proofs.decoding.table_laws.Goals as goal

pub returns-clause-listed : goal.returns-clause-listed
returns-clause-listed c = valid

pub returns-clause-reads_back : goal.returns-clause-reads_back
returns-clause-reads_back c = reads-spells row a64_names a64_table

pub returns-clause-spells_back : goal.returns-clause-spells_back
returns-clause-spells_back c = λ word i small e. spells-reads row a64_names a64_table word small i e
