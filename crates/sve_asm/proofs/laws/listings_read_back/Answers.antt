use Rattle.sve_asm.proofs.Listings.{read-listing}
use Rattle.sve_asm.proofs.laws.listings_read_back.Goals as goal

pub returns : goal.returns
returns c = read-listing
