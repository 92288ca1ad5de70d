use Rattle.std.proofs.Common.{◌≡◌, ℕ, ◌+◌, ◌<◌, List, [], ◌∷◌, ◌++◌, length, take, get_or, flat_map, subst, sym, ap, ◌∙◌, append-nil, take_all}
use Rattle.std.proofs.lemmas.Result.{IfOk-from_err}
use Rattle.std.proofs.lemmas.List.{take_more}
use Rattle.std.proofs.lemmas.Grind.{flat_map-append}
use Rattle.machine_model.specs.Load.{pages_of}
use Rattle.elf_image.specs.Loadable.{IsLoadable}
use Rattle.elf_image.proofs.pages.pages_of_all.Goals as goal

-- what one element more gives
flat_map_one_on : {A B : Type 0} (f : A → List B) (xs : List A) (i : ℕ) (x : A) → i < length xs → x ≡ get_or xs i x → flat_map f (take i xs) ++ f x ≡ flat_map f (take (i + 1) xs)
flat_map_one_on f xs i x some is =
    ap (λ l. flat_map f (take i xs) ++ l) (sym (append-nil (f x)))
    ∙ sym (flat_map-append f (take i xs) (x ∷ []))
    ∙ ap (λ y. flat_map f (take i xs ++ y ∷ [])) is
    ∙ sym (ap (flat_map f) (take_more xs i x some))

pub loop-segment-init : goal.loop-segment-init
loop-segment-init c = c.new-pages.ensures.items

pub put_pages-requires : goal.put_pages-requires
put_pages-requires c = subst (IsLoadable (length c.args.bytes.now)) (sym c.segment-item.is) (c.requires c.loop-segment.segment-index c.segment-item.result c.loop-segment-test.true)

pub returns-in_err-put_pages : goal.returns-in_err-put_pages
returns-in_err-put_pages c = IfOk-from_err _ _ c.from_residual.ensures.0

pub loop-segment-preserved : goal.loop-segment-preserved
loop-segment-preserved c =
    let f = pages_of c.args.bytes.now in
    c.in_ok-put_pages.ensures ∙ ap (λ l. l ++ f c.segment-item.result) c.loop-segment.invariant
    ∙ flat_map_one_on f c.args.segments.now c.loop-segment.segment-index c.segment-item.result c.loop-segment-test.true c.segment-item.is

pub returns : goal.returns
returns c = c.loop-segment.invariant ∙ ap (flat_map (pages_of c.args.bytes.now)) (take_all c.loop-segment.segment-index c.args.segments.now c.loop-segment-test.false)
