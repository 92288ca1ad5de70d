use Rattle.guest_types.proofs.Merges.{page_at-merged}
use Rattle.guest_types.proofs.laws.merged_pages.Goals as goal

pub returns : goal.returns
returns c = record { pages = page_at-merged }
