use Rattle.word_rows.proofs.TableLaws.{in_one_row}
use Rattle.sve_code.specs.Table.{row, sve_names}
use Rattle.sve_code.proofs.Valid.{sve_table}
use Rattle.sve_code.proofs.laws.word_in_one_row.Goals as goal

pub returns : goal.returns
returns c = in_one_row row sve_names sve_table
