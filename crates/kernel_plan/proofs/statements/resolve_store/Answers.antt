use Rattle.std.proofs.Common.{rules, ◌≡◌, List, ℕ, ℤ, Option, Some, None, FitsSigned, sym, ap, ◌∙◌}
use Rattle.std.specs.Prelude.{option_map}
use Rattle.std.specs.Int.{w128, cast_signed, cast_unsigned}
use Rattle.std.proofs.lemmas.Int.{to_z-of_z}
use Rattle.kernel_tree.specs.declared.ops.Ty.{Ty}
use Rattle.kernel_tree.specs.declared.ops.Ty.TheVariants as ty
use Rattle.kernel_tree.specs.Wrap.{wrap}
use Rattle.kernel_tree.specs.Plain.{name_of, term_of}
use Rattle.kernel_tree.specs.Typing.{Scope, array_type}
use Rattle.kernel_plan.specs.Trees.{Tree, Put, Store}
use Rattle.kernel_plan.specs.Resolve.{slot_of, index_slot, resolved, store_task}
use Rattle.kernel_scope.specs.Scopes.{scope_of}
use Rattle.kernel_plan.proofs.statements.resolve_store.Goals as goal

put-task : (s : Scope) (a : List ℕ) (o : Option ℤ) (c : ℤ) (i e v : Tree) (b n : ℕ) (t : Option Ty) → FitsSigned w128 c → Some c ≡ option_map (wrap ty.U64) o → b ≡ slot_of s a → t ≡ array_type s a → n ≡ index_slot s.visible s.index → v ≡ e → Put b t n (cast_signed w128 (cast_unsigned w128 c)) v ≡ store_task s a o i e
put-task s a None c i e v b n t f h slot type index value = absurd cc
put-task s a (Some d) c i e v b n t f h slot type index value =
    let same : cast_signed w128 (cast_unsigned w128 c) ≡ wrap ty.U64 d = to_z-of_z w128 c f ∙ (let h : Some c ≡ Some (wrap ty.U64 d) = h in cc) in
    cc

computed-task : (s : Scope) (a : List ℕ) (o : Option ℤ) (i e w v : Tree) (b : ℕ) (t : Option Ty) → None ≡ option_map (wrap ty.U64) o → b ≡ slot_of s a → t ≡ array_type s a → w ≡ i → v ≡ e → Store b t w v ≡ store_task s a o i e
computed-task s a None i e w v b t h slot type number value = cc
computed-task s a (Some d) i e w v b t h slot type number value = absurd cc

pub returns-in-Some : goal.returns-in-Some
returns-in-Some c =
    let f : FitsSigned w128 c.in-Some.offset = search rules in
    put-task (scope_of c.args.scope.now) (name_of c.args.array.now) _ _ _ _ _ _ _ _ f (sym c.in-Some.is ∙ c.stream_offset.ensures) c.slot-base.ensures c.array_type-ty.ensures c.index_slot.ensures (c.in_ok-value.ensures ∙ ap (λ t. resolved (scope_of c.args.scope.now) t (term_of c.args.value.now)) c.array_type-ty.ensures)

pub returns-in_ok-resolve_number-in-None : goal.returns-in_ok-resolve_number-in-None
returns-in_ok-resolve_number-in-None c =
    computed-task (scope_of c.args.scope.now) (name_of c.args.array.now) _ _ _ _ _ _ _ (sym c.in-None.is ∙ c.stream_offset.ensures) c.slot-base.ensures c.array_type-ty.ensures c.in_ok-resolve_number-in-None.ensures (c.in_ok-value.ensures ∙ ap (λ t. resolved (scope_of c.args.scope.now) t (term_of c.args.value.now)) c.array_type-ty.ensures)
