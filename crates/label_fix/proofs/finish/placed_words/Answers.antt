use Rattle.std.proofs.Common.{◌<◌, length, map, arith}
use Rattle.std.proofs.lemmas.Grind.{common_steps}
use Rattle.label_fix.specs.Draft.{entry_view}
use Rattle.label_fix.proofs.Collected.{place_within}
use Rattle.label_fix.proofs.finish.placed_words.Goals as goal

pub encode_branch-requires-clause-to : goal.encode_branch-requires-clause-to
encode_branch-requires-clause-to c =
    let near : c.number.result < length c.args.places.now = grind (arith, common_steps) in
    let e = c.requires.places c.number.result near in
    let small = place_within (map entry_view c.args.entries.now) c.number.result in
    omega (arith, e, small)
