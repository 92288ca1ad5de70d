use Rattle.word_rows.proofs.TableLaws.{reads-spells, spells-reads}
use Rattle.sve_code.specs.Table.{row, sve_names}
use Rattle.sve_code.proofs.Valid.{sve_table, valid}
use Rattle.sve_code.proofs.laws.table_laws.Goals as goal

pub returns-clause-listed : goal.returns-clause-listed
returns-clause-listed c = valid

pub returns-clause-reads_back : goal.returns-clause-reads_back
returns-clause-reads_back c = reads-spells row sve_names sve_table

pub returns-clause-spells_back : goal.returns-clause-spells_back
returns-clause-spells_back c = λ word i small e. spells-reads row sve_names sve_table word small i e
