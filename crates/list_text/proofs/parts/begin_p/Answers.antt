use Rattle.std.proofs.Common.{◌∙◌, arith}
use Rattle.list_text.specs.Parts.{p_register}
use Rattle.list_text.proofs.Pieces.{next}
use Rattle.list_text.proofs.parts.begin_p.Goals as goal

pub begin-requires : goal.begin-requires
begin-requires c = c.requires.short

pub push_p-requires : goal.push_p-requires
push_p-requires c = record { below = c.requires.below; room = omega (arith, c.begin.ensures.len) }

pub returns : goal.returns
returns c = record {
  bytes =
      c.push_p.ensures.bytes ∙ next (p_register c.args.number) c.begin.ensures.bytes;
  len = omega (arith, c.begin.ensures.len, c.push_p.ensures.len);
}
