use Rattle.std.proofs.Common.{sym, ap, ◌∙◌, arith}
use Rattle.lane_arith.specs.Blocks.{block_fold, bytes_fold}
use Rattle.lane_arith.proofs.reduce.fold_block.Goals as goal

pub half_16-requires : goal.half_16-requires
half_16-requires c = record { lanes = c.requires.lanes; element = c.requires.element }

pub half_8-x-requires : goal.half_8-x-requires
half_8-x-requires c = record { lanes = c.requires.lanes; element = c.requires.element }

pub half_4-requires : goal.half_4-requires
half_4-requires c = record { lanes = c.requires.lanes; element = c.requires.element; narrow = omega arith }

pub half_2-x-requires : goal.half_2-x-requires
half_2-x-requires c = record { lanes = c.requires.lanes; element = c.requires.element; narrow = omega arith }

pub half_1-requires : goal.half_1-requires
half_1-requires c = record { lanes = c.requires.lanes; element = c.requires.element }

pub half_4-requires-in-H : goal.half_4-requires-in-H
half_4-requires-in-H c = record { lanes = c.requires.lanes; element = c.requires.element; narrow = omega arith }

pub half_2-x-requires-in-H : goal.half_2-x-requires-in-H
half_2-x-requires-in-H c = record { lanes = c.requires.lanes; element = c.requires.element; narrow = omega arith }

pub half_4-requires-in-S : goal.half_4-requires-in-S
half_4-requires-in-S c = record { lanes = c.requires.lanes; element = c.requires.element; narrow = omega arith }

pub returns-in-B : goal.returns-in-B
returns-in-B c =
    c.first_element.ensures ∙ c.half_1.ensures ∙ c.half_2-x.ensures ∙ c.half_4.ensures
    ∙ ap (λ w. bytes_fold c.args.op w 8 c.half_8-x.result) (sym c.in-B.is) ∙ c.half_8-x.ensures ∙ c.half_16.ensures
    ∙ ap (λ w. bytes_fold c.args.op w 32 c.args.x) c.in-B.is ∙ ap (λ w. block_fold c.args.op w c.args.x) (sym c.in-B.is)

pub returns-in-H : goal.returns-in-H
returns-in-H c =
    c.first_element-in-H.ensures ∙ c.half_2-x-in-H.ensures ∙ c.half_4-in-H.ensures
    ∙ ap (λ w. bytes_fold c.args.op w 8 c.half_8-x.result) (sym c.in-H.is) ∙ c.half_8-x.ensures ∙ c.half_16.ensures
    ∙ ap (λ w. bytes_fold c.args.op w 32 c.args.x) c.in-H.is ∙ ap (λ w. block_fold c.args.op w c.args.x) (sym c.in-H.is)

pub returns-in-S : goal.returns-in-S
returns-in-S c =
    c.first_element-in-S.ensures ∙ c.half_4-in-S.ensures
    ∙ ap (λ w. bytes_fold c.args.op w 8 c.half_8-x.result) (sym c.in-S.is) ∙ c.half_8-x.ensures ∙ c.half_16.ensures
    ∙ ap (λ w. bytes_fold c.args.op w 32 c.args.x) c.in-S.is ∙ ap (λ w. block_fold c.args.op w c.args.x) (sym c.in-S.is)

pub returns-in-D : goal.returns-in-D
returns-in-D c =
    c.first_element-in-D.ensures ∙ ap (λ w. bytes_fold c.args.op w 8 c.half_8-x.result) (sym c.in-D.is) ∙ c.half_8-x.ensures ∙ c.half_16.ensures
    ∙ ap (λ w. bytes_fold c.args.op w 32 c.args.x) c.in-D.is ∙ ap (λ w. block_fold c.args.op w c.args.x) (sym c.in-D.is)
