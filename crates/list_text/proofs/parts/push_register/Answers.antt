use Rattle.std.proofs.Common.{◌++◌, decimal, if◌then◌else◌, sym, ap, ◌∙◌, arith, eq-eqb, ne_eqb}
use Rattle.list_text.proofs.Pieces.{next, in_two}
use Rattle.list_text.proofs.parts.push_register.Goals as goal

pub push_str-requires : goal.push_str-requires
push_str-requires c = omega (arith, c.requires.room, c.requires.three)

pub push_str-requires-else-register-eq31 : goal.push_str-requires-else-register-eq31
push_str-requires-else-register-eq31 c = omega (arith, c.requires.room, c.requires.one)

pub push_decimal-requires : goal.push_decimal-requires
push_decimal-requires c = omega (arith, c.requires.room, c.requires.one, c.push_str-else-register-eq31.ensures.len)

pub returns-then-register-eq31 : goal.returns-then-register-eq31
returns-then-register-eq31 c = record {
  bytes =
      c.push_str.ensures.bytes
      ∙ ap (λ b. c.args.into.now.bytes ++ (if b then c.args.last.now else (c.args.letter.now ++ decimal c.args.register.number))) (sym (eq-eqb c.args.register.number 31 c.if-register-eq31.true));
  len = omega (arith, c.push_str.ensures.len, c.requires.three);
}

pub returns-else-register-eq31 : goal.returns-else-register-eq31
returns-else-register-eq31 c = record {
  bytes =
      c.push_decimal.ensures.bytes ∙ next (decimal c.args.register.number) c.push_str-else-register-eq31.ensures.bytes
      ∙ in_two c.args.into.now.bytes c.args.letter.now (decimal c.args.register.number)
      ∙ ap (λ b. c.args.into.now.bytes ++ (if b then c.args.last.now else (c.args.letter.now ++ decimal c.args.register.number))) (sym (ne_eqb c.args.register.number 31 c.if-register-eq31.false));
  len = omega (arith, c.push_decimal.ensures.short (omega (arith, c.args.register.in_range)), c.push_str-else-register-eq31.ensures.len, c.requires.one);
}
