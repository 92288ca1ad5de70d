use Rattle.word_rows.proofs.TableLaws.{spelled_by, inverts_exactly}
use Rattle.sve_code.specs.Table.{row, sve_names}
use Rattle.sve_code.specs.View.{instruction_view}
use Rattle.sve_code.proofs.Valid.{sve_table, valid}
use Rattle.sve_code.proofs.Same.{equal_of_equal_views}
use Rattle.sve_decode.proofs.decode.Goals as goal

pub returns-clause-spelled : goal.returns-clause-spelled
returns-clause-spelled c = spelled_by row sve_names instruction_view c.args.word c.by_top_byte.result sve_table c.ranges.word.fits c.by_top_byte.ensures

pub returns-clause-inverts : goal.returns-clause-inverts
returns-clause-inverts c = inverts_exactly row sve_names instruction_view c.args.word c.by_top_byte.result sve_table c.by_top_byte.ensures valid equal_of_equal_views
