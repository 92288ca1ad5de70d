use Rattle.std.proofs.Common.{sym, subst, arith}
use Rattle.guest_types.specs.Memory.{Memory}
use Rattle.map_text.specs.View.{IsBeside}
use Rattle.map_text.proofs.Puts.{first_lines, beside-nothing}
use Rattle.map_text.proofs.read.read_lines.Goals as goal

pub loop-rest-init : goal.loop-rest-init
loop-rest-init c = (
  first_lines c.args.text.now c.args.image.now c.new-pages.result.items c.new-pages.ensures.items,
  subst (λ (pages : Memory). IsBeside c.args.image.now pages) (sym c.new-pages.ensures.items) (beside-nothing c.args.image.now c.requires.few),
  omega arith,
)
