use Rattle.std.proofs.Common.{List, ◌++◌, refl, ap, ◌∙◌}
use Rattle.std.proofs.lemmas.Result.{IfOk-from_err}
use Rattle.label_fix.specs.DraftRun.{DraftEntry}
use Rattle.label_fix.specs.Draft.{word_view}
use Rattle.label_fix.specs.Registers.{iteration, scratch}
use Rattle.scalar_values.proofs.operations.emit_offset.Goals as goal
use Rattle.std.specs.Prelude.{option_map}
use Rattle.scalar_values.proofs.ItemCode.{no_offset, index_stands, offset_put, offset_stands, offset_plain}

pub put-requires : goal.put-requires
put-requires c = record { plain = offset_plain (option_map word_view c.args.moved) (word_view c.in-Some.moved) (ap (option_map word_view) c.in-Some.is) c.requires.plain }

pub returns-in_err-put-in-Some : goal.returns-in_err-put-in-Some
returns-in_err-put-in-Some c = record { register = IfOk-from_err _ _ c.from_residual.ensures.0; emits = IfOk-from_err _ _ c.from_residual.ensures.0 }

pub returns-in-None : goal.returns-in-None
returns-in-None c = record {
  register = index_stands (option_map word_view c.args.moved) iteration (ap (option_map word_view) c.in-None.is) refl;
  emits = record { labels = refl; code = λ rest. ap (λ (l : List DraftEntry). c.args.draft.now.entries ++ l) (no_offset (option_map word_view c.args.moved) rest (ap (option_map word_view) c.in-None.is)) };
}

pub returns-in_ok-put-in-Some : goal.returns-in_ok-put-in-Some
returns-in_ok-put-in-Some c = record {
  register = offset_stands (option_map word_view c.args.moved) (word_view c.in-Some.moved) scratch (ap (option_map word_view) c.in-Some.is) refl;
  emits = record {
    labels = c.in_ok-put-in-Some.ensures.labels;
    code = λ rest. c.in_ok-put-in-Some.ensures.code rest ∙ ap (λ (l : List DraftEntry). c.args.draft.now.entries ++ l) (offset_put (option_map word_view c.args.moved) (word_view c.in-Some.moved) rest (ap (option_map word_view) c.in-Some.is));
  };
}
