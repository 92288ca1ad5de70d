use Rattle.std.proofs.Common.{◌≡◌, ◌+◌, ◌-◌, ◌∷◌, [], length, ap, ◌∙◌, arith, append_assoc}
use Rattle.machine_model.specs.Load.{pages_from}
use Rattle.elf_image.proofs.Laid.{length_page_bytes, pages_from_more, is_pages_of, laid}
use Rattle.elf_image.proofs.pages.put_pages.Goals as goal

pub new-requires-in-loop-number : goal.new-requires-in-loop-number
new-requires-in-loop-number c =
    ap length c.in_ok-page_bytes.ensures ∙ length_page_bytes c.args.bytes.now c.args.segment.now c.loop-number.number

pub loop-number-preserved : goal.loop-number-preserved
loop-number-preserved c =
    let bytes = c.args.bytes.now in
    let s = c.args.segment.now in
    let first = c.first_page-first.result in
    let n = c.loop-number.number in
    let count : n + 1 - first ≡ (n - first) + 1 = omega arith in
    let more = ap (pages_from bytes s first) count ∙ pages_from_more bytes s first (n - first) n (omega arith) in
    let assoc = append_assoc c.args.pages.now.items (pages_from bytes s first (n - first)) (laid bytes s n ∷ []) in
    cc (c.in_ok-push.ensures.items, c.in-Some.ensures.value, c.in_ok-page_bytes.ensures)

pub returns : goal.returns
returns c =
    is_pages_of c.args.bytes.now c.args.segment.now _ _ c.first_page-first.result _ c.first_page-first.ensures (omega arith) c.loop-number.invariant
