use Rattle.std.proofs.Common.{◌≡◌, true, List, ◌++◌, ◌+◌, refl, sym, ap, subst, ◌∙◌}
use Rattle.std.proofs.lemmas.Result.{IfOk-from_err}
use Rattle.kernel_tree.specs.declared.ast.Expr.{Expr}
use Rattle.kernel_tree.specs.Plain.{Term, Conversion, term_of}
use Rattle.kernel_tree.specs.Kinds.{IsValue}
use Rattle.kernel_tree.specs.Typing.{own}
use Rattle.kernel_scope.specs.Scopes.{scope_of}
use Rattle.label_fix.specs.DraftRun.{DraftEntry}
use Rattle.scalar_words.specs.View.{homes_of}
use Rattle.value_code.specs.Code.{labels}
use Rattle.loop_code.specs.Statements.{is_bare}
use Rattle.guest_types.proofs.Errors.{on_error}
use Rattle.scalar_emit.proofs.StatementCode.{within_bare, fits_bare, bare_home, bare_code, cast_room, cast_more, cast_items}
use Rattle.scalar_emit.proofs.statements.emit_stored.Goals as goal
use Rattle.scalar_emit.proofs.statements.emit_stored.Goals.{then-within_type-via-then-within_type, then-within_type-via-else-within_type+then-fits_at}

pub returns-in_err-r : goal.returns-in_err-r
returns-in_err-r c =
    let failed = c.from_residual.ensures.0 in
    record { register = IfOk-from_err _ _ failed; item = on_error _ _ failed; emits = on_error _ _ failed }

pub emit_loose-requires : goal.emit_loose-requires
emit_loose-requires c =
    let s = scope_of c.args.site.now.scope in
    let e = term_of c.deref-then-within_type.result.now in
    let is : term_of c.args.value.now ≡ Conversion e c.in-Cast.ty = rw (c.in-Cast.is, c.deref-then-within_type.ensures) refl in
    record {
      kind = subst IsValue is c.requires.kind;
      fits = cast_room s.index e (term_of c.args.value.now) c.in-Cast.ty c.args.item.now is c.requires.fits;
    }

pub overflow_add-item : goal.overflow_add-item
overflow_add-item c =
    let s = scope_of c.args.site.now.scope in
    let e = term_of c.deref-then-within_type.result.now in
    let is : term_of c.args.value.now ≡ Conversion e c.in-Cast.ty = rw (c.in-Cast.is, c.deref-then-within_type.ensures) refl in
    cast_more s.index e (term_of c.args.value.now) c.in-Cast.ty c.args.item.now c.emit_loose.new.item is c.requires.fits c.in_ok-r.ensures.item

pub returns-then-within_type : goal.returns-then-within_type
returns-then-within_type c =
    let s = scope_of c.args.site.now.scope in
    let e = term_of c.deref-then-within_type.result.now in
    let is : term_of c.args.value.now ≡ Conversion e c.in-Cast.ty = rw (c.in-Cast.is, c.deref-then-within_type.ensures) refl in
    record {
      register =
          let from = c.own_type-from.ensures ∙ ap (λ (x : Expr). own s (term_of x)) (c.deref.ensures ∙ sym c.deref-then-within_type.ensures) in
          let bare : is_bare s c.args.asked.extent (Conversion e c.in-Cast.ty) ≡ true = elim c.then-within_type.branch [ then-within_type-via-then-within_type w ↦ within_bare s c.args.asked.extent e c.in-Cast.ty _ c.within_type.ensures w.if-within_type.true | then-within_type-via-else-within_type+then-fits_at w ↦ fits_bare s c.args.asked.extent e c.in-Cast.ty _ _ from w.fits_at.ensures w.if-fits_at.true ] in
          bare_home c.args.site.now.layout (homes_of c.args.site.now.homes.items) s c.args.asked.extent c.args.item.now c.in_ok-r.r.number e (term_of c.args.value.now) c.in-Cast.ty is bare c.in_ok-r.ensures.register;
      item = cast_items s.index e (term_of c.args.value.now) c.in-Cast.ty c.args.item.now c.emit_loose.new.item is c.in_ok-r.ensures.item;
      emits =
          let from = c.own_type-from.ensures ∙ ap (λ (x : Expr). own s (term_of x)) (c.deref.ensures ∙ sym c.deref-then-within_type.ensures) in
          let bare : is_bare s c.args.asked.extent (Conversion e c.in-Cast.ty) ≡ true = elim c.then-within_type.branch [ then-within_type-via-then-within_type w ↦ within_bare s c.args.asked.extent e c.in-Cast.ty _ c.within_type.ensures w.if-within_type.true | then-within_type-via-else-within_type+then-fits_at w ↦ fits_bare s c.args.asked.extent e c.in-Cast.ty _ _ from w.fits_at.ensures w.if-fits_at.true ] in
          record {
            labels = c.in_ok-r.ensures.emits.labels ∙ ap (λ (x : Term). c.args.draft.now.labels + labels s.index x) (sym is);
            code = λ rest. c.in_ok-r.ensures.emits.code rest
                ∙ ap (λ (l : List DraftEntry). c.args.draft.now.entries ++ l)
                (bare_code c.args.site.now.layout (homes_of c.args.site.now.homes.items) s c.args.asked.extent c.converted_extent-extent.result c.own_type-from.result c.args.asked.want c.args.item.now c.args.draft.now.labels e (term_of c.args.value.now) c.in-Cast.ty rest is bare from c.converted_extent-extent.ensures);
          };
    }

pub emit_loose-requires-2 : goal.emit_loose-requires-2
emit_loose-requires-2 c = record {
  kind = c.requires.kind;
  fits = c.requires.fits;
}
