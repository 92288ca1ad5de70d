use Rattle.std.proofs.Common.{◌≡◌, length, ap, ◌∙◌, arith}
use Rattle.paged_memory.specs.Epochs.{unmarked, cleared}
use Rattle.paged_memory.proofs.Marks.{epoch-empty, length-unmarked, unmarked-all, none_saved}
use Rattle.paged_memory.proofs.epoch.Epoch.clear.Goals as goal

pub invariant_of-self : goal.invariant_of-self
invariant_of-self c =
    let marks = c.self.inside.marks.items in
    let places = c.self.inside.places.items in
    epoch-empty c.unmark.new.marks.items c.clear.new.self.items c.clear-2.new.self.items _ _ (length marks)
    (c.unmark.ensures ∙ ap (λ ps. unmarked ps marks) c.deref.ensures.value ∙ unmarked-all places marks c.self.invariant.saved)
    c.clear.ensures.items
    c.clear-2.ensures.items
    c.self.invariant.few
    (omega (arith, c.clear.ensures.capacity, c.self.invariant.fits))
    (omega (arith, c.clear-2.ensures.capacity, c.self.invariant.fits_images))

pub returns : goal.returns
returns c =
    let marks = c.self.inside.marks.items in
    let long : length c.unmark.new.marks.items ≡ length marks = ap length c.unmark.ensures ∙ length-unmarked c.deref.result.now marks in
    none_saved _ _ _ _ long c.clear.ensures.items c.clear-2.ensures.items ∙ ap cleared c.self.view_is
