use Rattle.std.proofs.Common.{Bool, ◌++◌, ◌%◌, ◌/◌, ap, ◌∙◌, arith}
use Rattle.std.proofs.lemmas.Result.{on_ok_weaker}
use Rattle.scalar_words.specs.Words.{halves_code}
use Rattle.scalar_words.proofs.operations.emit_const.Goals as goal

pub emit_halves-requires : goal.emit_halves-requires
emit_halves-requires c = record { h0 = omega arith; h1 = omega arith; h2 = omega arith; h3 = omega arith }

pub returns : goal.returns
returns c =
    let v = c.args.value in
    on_ok_weaker c.emit_halves.result (λ p. record {
      labels = p.labels;
      code = λ rest. p.code rest
          ∙ ap (λ (o : Bool). c.args.draft.now.entries ++ halves_code o c.args.d.number (v % 65536) (v / 65536 % 65536) (v / 4294967296 % 65536) (v / 281474976710656 % 65536) rest) c.has_ones.ensures;
    }) c.emit_halves.ensures
