use Rattle.guest_types.proofs.memory.PageSpec.new.Goals as goal

pub returns-clause-is_page : goal.returns-clause-is_page
returns-clause-is_page c = record { below = c.number-number.ensures.valid; whole = c.as_slice-bytes.ensures.whole; small = c.as_slice-bytes.ensures.small }
