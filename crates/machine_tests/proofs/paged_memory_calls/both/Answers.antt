use Rattle.std.proofs.Common.{◌≡◌, length, sym, ap, ◌∙◌, subst, arith}
use Rattle.guest_types.specs.Memory.{DoNotMeet, merged}
use Rattle.guest_types.proofs.Merges.{merged-nil_right}
use Rattle.machine_tests.proofs.paged_memory_calls.both.Goals as goal

pub map_image-requires-2-clause-apart : goal.map_image-requires-2-clause-apart
map_image-requires-2-clause-apart c =
    let high = c.args.high.now.pages.items in
    let now : c.map_image.new.self.memory ≡ high = c.in_ok-map_image.ensures.memory ∙ ap (merged high) c.empty-pages.ensures.memory ∙ merged-nil_right high in
    subst (DoNotMeet c.args.low.now.pages.items) (sym now) c.requires.apart

pub map_image-requires-2-clause-few : goal.map_image-requires-2-clause-few
map_image-requires-2-clause-few c =
    let high = c.args.high.now.pages.items in
    let now : c.map_image.new.self.memory ≡ high = c.in_ok-map_image.ensures.memory ∙ ap (merged high) c.empty-pages.ensures.memory ∙ merged-nil_right high in
    omega (arith, ap length now, c.requires.few)
