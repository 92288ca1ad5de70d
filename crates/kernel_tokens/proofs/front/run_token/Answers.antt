use Rattle.kernel_tokens.proofs.Runs.{run_ascii}
use Rattle.kernel_tokens.proofs.front.run_token.Goals as goal

pub ascii_text-requires : goal.ascii_text-requires
ascii_text-requires c = run_ascii c.args.run.now c.requires
