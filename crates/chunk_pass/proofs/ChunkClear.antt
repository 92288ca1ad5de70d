-- No item of a loop comes in a lane of a chunk to what another item writes in another lane.
use Rattle.std.proofs.Common.{◌≡◌, ℕ, ◌+◌, ◌/◌, ◌≤◌, Bool, List, [], Some, None, refl, sym, ap, ◌∙◌, subst}
use Rattle.std.specs.Prelude.{unsigned_abs, filter_map}
use Rattle.guest_types.specs.Length.{width_bits}
use Rattle.guest_types.specs.Memory.{Memory}
use Rattle.kernel_tree.specs.declared.ops.Ty.TheVariants.{U64}
use Rattle.kernel_tree.specs.Plain.{PlainLoop, Program}
use Rattle.kernel_tree.specs.Typing.{check_fault, Scope, var_scope, in_loop}
use Rattle.kernel_tree.proofs.Faultless.{body_faultless}
use Rattle.kernel_tree.proofs.NoFault.{bound_scalar}
use Rattle.kernel_tree.proofs.Scopes.{scope_index}
use Rattle.kernel_tree.proofs.RightKinds.{body-kinds}
use Rattle.kernel_tree.specs.Items.{loop_start}
use Rattle.kernel_meaning.specs.Eval.{Names}
use Rattle.kernel_meaning.specs.ScalarRun.{started, bound_of, argument_names}
use Rattle.kernel_meaning.proofs.Started.{started_bound}
use Rattle.loop_form.specs.declared.stream.Stream.{Stream}
use Rattle.loop_form.specs.Entries.{block_entries, for_loop_entries, loop_entries}
use Rattle.loop_form.specs.Lanes.{lane_width_of}
use Rattle.loop_form.specs.LoopItems.{loop_env, Item, loop_items}
use Rattle.loop_form.specs.Streams.{stream_of, streams_of, In}
use Rattle.loop_form.proofs.Near.{loop-near}
use Rattle.loop_form.proofs.StreamLaws.{near_streams}
use Rattle.loop_form.proofs.ArrayNames.{head_fits}
use Rattle.dependence.specs.declared.reason.Class.TheVariants.{Vector}
use Rattle.dependence.specs.Classes.{carried, class_of}
use Rattle.dependence.proofs.ClassLaws.{class_facts}
use Rattle.vector_order.specs.Orders.{ClearWithin}
use Rattle.vector_order.specs.Apart.{StreamsApartBy, StreamsApart}
use Rattle.vector_order.proofs.ArrayParameters.{started_bases}
use Rattle.vector_order.specs.Items.{acts_of}
use Rattle.vector_order.specs.Order.{is_accumulator}
use Rattle.vector_order.proofs.Accesses.{item_stream, block_streams}
use Rattle.vector_order.proofs.Blocks.{ReadyBlock}
use Rattle.vector_order.proofs.Clears.{clear_within}
use Rattle.vector_order.proofs.LoopHead.{head_ok}
use Rattle.vector_order.proofs.Pairs.{Uncarried, uncarried, AllIn, all_in}
use Rattle.vector_order.proofs.VectorKernels.{AllOk, all_ok, ready_block}
use Rattle.vector_order.proofs.Sites.{block_sited}
use Rattle.vector_order.proofs.Calms.{AllCalm, block_calm}
use Rattle.vector_order.proofs.ReadFacts.{calm_body}
use Rattle.vector_order.proofs.ElementClears.{Calm}
use Rattle.vector_order.proofs.Touches.{AllSited}
use Rattle.vector_order.proofs.NamesHeld.{append_nothing}

-- the body is ready
body_ready : (k : Program) (l : PlainLoop) (names : Names) → check_fault k ≡ None → k.for_loop ≡ Some l → class_of k ≡ Vector → ReadyBlock names 0 (is_accumulator k) (in_loop (var_scope k) l) l.body
body_ready k l names checked loop vector =
    let scope : Scope = var_scope k in
    let class = class_facts k vector in
    let listing : AllOk k (for_loop_entries k (loop_start k) (Some l)) = subst (λ o. AllOk k (for_loop_entries k (loop_start k) o)) loop (all_ok k (loop_entries k) class.unread) in
    ready_block k names 0 l.body (in_loop scope l) (loop_start k + 1) (loop_start k + 1) (body_faultless k l checked loop) listing.1 (head_ok k l checked)

pub clear_of_chunk : (k : Program) (l : PlainLoop) (args : List ℕ) (start : Memory) (names : Names) (i n : ℕ) → check_fault k ≡ None → k.for_loop ≡ Some l → class_of k ≡ Vector → StreamsApart k args → started k args start ≡ Some names → n ≤ 2048 / width_bits (lane_width_of k) → i + n ≤ bound_of l names
    → ClearWithin (acts_of names (loop_items k l)) n i
clear_of_chunk k l args start names i n checked loop vector apart began few within =
    let scope : Scope = var_scope k in
    let is_acc : List ℕ → Bool = is_accumulator k in
    let from : ℕ = loop_start k + 1 in
    let class = class_facts k vector in
    let ready = body_ready k l names checked loop vector in
    let items : List Item = loop_items k l in
    let sited : AllSited k.params items = block_sited k.params l.body (in_loop scope l) None from (loop_env scope l.index) [] (head_fits k l) tt in
    let calm : AllCalm (Calm k) items = block_calm (Calm k) l.body (in_loop scope l) None from (loop_env scope l.index) [] (calm_body k vector l checked loop) tt in
    let listed : filter_map (item_stream k) items ≡ streams_of k =
    block_streams k is_acc names 0 l.body (in_loop scope l) None from from (loop_env scope l.index) [] (scope_index k) refl (body-kinds k l checked loop) ready
    ∙ append_nothing (filter_map (stream_of k) (block_entries k from l.body))
    ∙ ap (λ o. filter_map (stream_of k) (for_loop_entries k (loop_start k) o)) (sym loop) in
    let inside : AllIn k (streams_of k) items = subst (λ ss. AllIn k ss items) listed (all_in k items) in
    let loose : Uncarried k (lane_width_of k) items = uncarried k (lane_width_of k) items (ap (carried (lane_width_of k)) listed ∙ class.loose) in
    let near : (s : Stream) → In s (streams_of k) → unsigned_abs s.offset ≤ 1024 = λ s h. near_streams k (loop_entries k) s (loop-near k checked) h in
    let bases = started_bases k args start names began in
    let same_bound = started_bound k l args start names U64 began (bound_scalar k l checked loop) in
    let far = subst (λ o. StreamsApartBy k args o) loop apart in
    clear_within k args names (bound_of l (argument_names k.params args)) (lane_width_of k) near bases far items n i sited calm inside loose few (subst (λ b. i + n ≤ b) same_bound within)
