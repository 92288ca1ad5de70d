use Rattle.run_laws.proofs.CompiledListings as laws
use Rattle.run_laws.proofs.compiled_listings.Goals as goal

pub returns : goal.returns
returns c = record { listed = laws.compiled_listed; accepted = laws.compiled_accepted; same = laws.compiled_again }
