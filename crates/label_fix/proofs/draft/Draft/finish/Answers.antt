use Rattle.std.proofs.Common.{◌≡◌, length, map, ap, ◌∙◌}
use Rattle.label_fix.specs.Draft.{entry_view}
use Rattle.label_fix.proofs.Collected.{places_sized}
use Rattle.label_fix.proofs.draft.Draft.finish.Goals as goal

pub placed_words-requires-clause-fit : goal.placed_words-requires-clause-fit
placed_words-requires-clause-fit c =
    let sized : length c.deref-3.result.now ≡ length c.self.inside.places.items = ap length c.deref-3.ensures.value ∙ places_sized (length c.self.inside.places.items) (map entry_view c.deref.result.now) _ c.label_places-places.ensures in
    let same : c.deref-2.result.now ≡ c.self.inside.entries.items = c.deref-2.ensures.value in
    rw (sized, same) c.self.invariant
