use Rattle.std.proofs.Common.{ℕ, ◌+◌, ◌<◌, Bool, true, List, [], ◌∷◌, ◌++◌, drop, refl, sym, ap, ap₂, ◌∙◌, subst}
use Rattle.std.specs.Prelude.{if◌then◌else◌}
use Rattle.std.proofs.lemmas.Result.{IfOk-weaker}
use Rattle.label_fix.specs.Draft.{Drafted}
use Rattle.label_fix.specs.DraftRun.{DraftEntry}
use Rattle.scalar_words.specs.Words.{start_code}
use Rattle.scalar_words.proofs.HalfWords.{more_code, halves_are, put_half, pass_half, after_halves, half_below, zero_below_4}
use Rattle.guest_types.proofs.Errors.{on_error}
use Rattle.scalar_words.proofs.operations.emit_halves.Goals.{then-half-filler+in_ok-put, else-half-filler}
use Rattle.scalar_words.proofs.operations.emit_halves.Goals as goal

pub half_word-requires : goal.half_word-requires
half_word-requires c = record {
  half = half_below 65536 c.args.h0 c.args.h1 c.args.h2 c.args.h3 c.loop-half.half-index c.requires.h0 c.requires.h1 c.requires.h2 c.requires.h3;
  place = subst (λ n. n < 4) (sym c.loop-half.invariant.place) c.loop-half-test.true;
}

pub loop-half-preserved : goal.loop-half-preserved
loop-half-preserved c =
    let l = c.loop-half in
    let o = c.args.ones in
    let d = c.args.d.number in
    let h0 = c.args.h0 in
    let hs : List ℕ = c.args.h0 ∷ c.args.h1 ∷ c.args.h2 ∷ c.args.h3 ∷ [] in
    let i = l.half-index in
    elim c.if-half-filler.branch [
      | then-half-filler+in_ok-put w ↦ record {
        place = ap (λ n. n + 1) l.invariant.place;
        labels = ap (λ (t : Drafted). t.labels) w.draft-is ∙ w.in_ok-put.ensures.labels ∙ l.invariant.labels;
        code = λ rest. ap₂ (λ (t : Drafted) b. t.entries ++ more_code o b d h0 (l.place + 1) (drop (i + 1) hs) rest) w.draft-is w.begun-is
            ∙ w.in_ok-put.ensures.code (more_code o true d h0 (l.place + 1) (drop (i + 1) hs) rest)
            ∙ ap (λ (es : List DraftEntry). l.draft.entries ++ es) (w.half_word.ensures.code _ ∙ put_half o l.begun d h0 l.place hs i rest c.loop-half-test.true (λ e. w.if-half-filler.true (e ∙ sym c.filler-filler.ensures)))
            ∙ l.invariant.code rest;
      }
      | else-half-filler w ↦ record {
        place = ap (λ n. n + 1) l.invariant.place;
        labels = ap (λ (t : Drafted). t.labels) w.draft-is ∙ l.invariant.labels;
        code = λ rest. ap₂ (λ (t : Drafted) b. t.entries ++ more_code o b d h0 (l.place + 1) (drop (i + 1) hs) rest) w.draft-is w.begun-is
            ∙ ap (λ (es : List DraftEntry). l.draft.entries ++ es) (pass_half o l.begun d h0 l.place hs i rest c.loop-half-test.true (w.if-half-filler.false ∙ c.filler-filler.ensures))
            ∙ l.invariant.code rest;
      }
    ]

pub returns-then-begun : goal.returns-then-begun
returns-then-begun c =
    let l = c.loop-half in
    let o = c.args.ones in
    let hs : List ℕ = c.args.h0 ∷ c.args.h1 ∷ c.args.h2 ∷ c.args.h3 ∷ [] in
    record {
      labels = l.invariant.labels;
      code = λ rest. ap (λ (es : List DraftEntry). l.draft.entries ++ es)
          (ap (λ (b : Bool). if b then rest else start_code o c.args.d.number c.args.h0 0 rest) (sym c.if-begun.true) ∙ sym (after_halves o l.begun c.args.d.number c.args.h0 l.place hs l.half-index rest c.loop-half-test.false))
          ∙ l.invariant.code rest
          ∙ ap (λ (es : List DraftEntry). c.args.draft.now.entries ++ es) (halves_are o c.args.d.number c.args.h0 c.args.h1 c.args.h2 c.args.h3 rest);
    }

pub returns-else-begun : goal.returns-else-begun
returns-else-begun c =
    let l = c.loop-half in
    let o = c.args.ones in
    let hs : List ℕ = c.args.h0 ∷ c.args.h1 ∷ c.args.h2 ∷ c.args.h3 ∷ [] in
    IfOk-weaker c.put-else-begun.result _ _ (λ _ h. record {
      labels = h.labels ∙ l.invariant.labels;
      code = λ rest. h.code rest
          ∙ ap (λ (es : List DraftEntry). l.draft.entries ++ es)
          (c.half_word-else-begun.ensures.code rest ∙ ap (λ (b : Bool). if b then rest else start_code o c.args.d.number c.args.h0 0 rest) (sym c.if-begun.false) ∙ sym (after_halves o l.begun c.args.d.number c.args.h0 l.place hs l.half-index rest c.loop-half-test.false))
          ∙ l.invariant.code rest
          ∙ ap (λ (es : List DraftEntry). c.args.draft.now.entries ++ es) (halves_are o c.args.d.number c.args.h0 c.args.h1 c.args.h2 c.args.h3 rest);
    }) c.put-else-begun.ensures

pub loop-half-init : goal.loop-half-init
loop-half-init c = record { place = refl; labels = refl; code = λ rest. refl }

pub returns-in_err-put : goal.returns-in_err-put
returns-in_err-put c = on_error _ _ c.from_residual.ensures.0

pub put-requires : goal.put-requires
put-requires c = record { plain = c.half_word.ensures.plain }

pub put-requires-else-begun : goal.put-requires-else-begun
put-requires-else-begun c = record { plain = c.half_word-else-begun.ensures.plain }

pub half_word-requires-else-begun : goal.half_word-requires-else-begun
half_word-requires-else-begun c = record { half = c.requires.h0; place = zero_below_4 }
