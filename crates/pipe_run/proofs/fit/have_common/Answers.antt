use Rattle.std.proofs.Common.{◌<◌, ap, sym, ◌∙◌, subst, arith}
use Rattle.guest_types.specs.Memory.{Page}
use Rattle.pipe_run.proofs.Commons.{met_first, met_image, met_pages, met_pages_over}
use Rattle.pipe_run.proofs.fit.have_common.Goals as goal

pub loop-i-init : goal.loop-i-init
loop-i-init c = met_first c.args.image.now c.args.pages.now c.requires.image c.requires.pages

pub returns-then-j-pages : goal.returns-then-j-pages
returns-then-j-pages c = sym (met_pages_over c.args.image.now c.args.pages.now c.loop-i.i c.loop-i.j c.loop-i.invariant (omega arith))

pub loop-i-preserved-then-here-there-2 : goal.loop-i-preserved-then-here-there-2
loop-i-preserved-then-here-there-2 c =
    let here = c.number-here.ensures.value ∙ sym (ap (λ (p : Page). p.page) c.index-image-i.is) in
    let there = c.number-there.ensures.value ∙ sym (ap (λ (p : Page). p.page) c.index-pages-j.is) in
    let test = c.if-here-there-2.true in
    let less : c.number-here.result < c.number-there.result = omega (arith, test) in
    met_image c.args.image.now c.args.pages.now c.loop-i.i c.loop-i.j c.index-image-i.result c.index-pages-j.result c.loop-i.invariant
    (omega arith) (omega arith) c.index-image-i.is c.index-pages-j.is (subst (λ n. n < c.index-pages-j.result.page) here (subst (λ n. c.number-here.result < n) there less))

pub loop-i-preserved : goal.loop-i-preserved
loop-i-preserved c =
    let here = c.number-here.ensures.value ∙ sym (ap (λ (p : Page). p.page) c.index-image-i.is) in
    let there = c.number-there.ensures.value ∙ sym (ap (λ (p : Page). p.page) c.index-pages-j.is) in
    let other = c.if-here-there.false in
    let test = c.if-here-there-2.false in
    let more : c.number-there.result < c.number-here.result = omega (arith, other, test) in
    met_pages c.args.image.now c.args.pages.now c.loop-i.i c.loop-i.j c.index-image-i.result c.index-pages-j.result c.loop-i.invariant
    (omega arith) (omega arith) c.index-image-i.is c.index-pages-j.is (subst (λ n. n < c.index-image-i.result.page) there (subst (λ n. c.number-there.result < n) here more))
