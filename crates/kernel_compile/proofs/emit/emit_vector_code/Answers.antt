use Rattle.std.proofs.Common.{◌∙◌, ◌≡◌, None, refl, ◌<◌, ◌^◌, All, length, sym, ap, subst, arith}
use Rattle.std.proofs.lemmas.Result.{IfOk-from_err}
use Rattle.kernel_tree.specs.declared.checked.Checked.{Checked}
use Rattle.kernel_tree.specs.Grammar.{IsTree}
use Rattle.kernel_tree.specs.Typing.{check_fault}
use Rattle.kernel_tree.proofs.Spelled.{few_params}
use Rattle.loop_form.specs.View.{program}
use Rattle.machine_model.specs.Written.{file_of}
use Rattle.label_fix.specs.Finished.{size}
use Rattle.label_fix.proofs.PlacedRuns.{words_length}
use Rattle.overlap_guard.proofs.Bound.{few-arrays}
use Rattle.scalar_words.specs.KernelRegisters.{register_in}
use Rattle.promises.specs.OneExit.{HasOneExit}
use Rattle.promises.specs.Reserved.{LeavesReserved}
use Rattle.reserved_registers.specs.Alone.{AreAlone}
use Rattle.kernel_compile.proofs.CountedWords.{whole_size}
use Rattle.kernel_compile.proofs.ReservedWords.{lanes_alone}
use Rattle.kernel_compile.proofs.VectorJoin.{IsJoined}
use Rattle.kernel_compile.proofs.VectorFiles.{Promised, vector_file, vector_followed}
use Rattle.kernel_compile.proofs.VectorEmitted.{Emitted, is_whole, label_given, label_placed, vector_code_words_le}
use Rattle.kernel_compile.proofs.emit.emit_vector_code.Goals as goal

sound : (kernel : Checked) → check_fault (program kernel) ≡ None
unfolding program
sound kernel = kernel.typed

spelled : (kernel : Checked) → ∥ IsTree (program kernel) ∥₁
unfolding program
spelled kernel = kernel.tree

-- ---- what a call takes

pub begin_runs-requires : goal.begin_runs-requires
begin_runs-requires c = record { fits = c.requires.scalars }

pub scalar_runs-requires : goal.scalar_runs-requires
scalar_runs-requires c = record { fits = c.requires.scalars }

pub scalar_code_leaves-requires : goal.scalar_code_leaves-requires
scalar_code_leaves-requires c = record { fits = c.requires.scalars }

pub vector_code_leaves-requires : goal.vector_code_leaves-requires
vector_code_leaves-requires c = record { fits = c.requires.scalars }

pub emit_begin-requires : goal.emit_begin-requires
unfolding program
emit_begin-requires c = record { fits = c.requires.scalars; listed = c.deref.ensures.value ∙ c.args.facts.now.listed }

pub branch-draft-requires : goal.branch-draft-requires
branch-draft-requires c = record {
  register = refl;
  given = omega (arith, c.in_ok-vector.ensures.next, c.in_ok-vector.ensures.count, c.in_ok-emit_begin.ensures.emits.labels);
}

pub emit_scalar-requires : goal.emit_scalar-requires
unfolding program
emit_scalar-requires c = record { fits = c.requires.scalars; listed = c.deref-2.ensures.value ∙ c.args.facts.now.listed }

pub place-requires : goal.place-requires
place-requires c = record {
  given = omega (arith, c.in_ok-vector.ensures.next, c.in_ok-vector.ensures.count, c.in_ok-emit_begin.ensures.emits.labels, c.in_ok-branch.ensures.labels, c.in_ok-scalar.ensures.emits.labels);
}

pub guard_by-requires : goal.guard_by-requires
guard_by-requires c = record { items = c.requires.items; failed = label_placed (program c.args.facts.now.kernel.now) _ _ _ _ c.in_ok-scalar.ensures.entry c.in_ok-scalar.ensures.emits.labels c.in_ok-place.ensures.labels }

pub emit_vector-requires : goal.emit_vector-requires
emit_vector-requires c = record {
  class = c.requires.class;
  vectors = c.requires.vectors;
  predicates = c.requires.predicates;
  scalars = c.requires.scalars;
  given = label_given (program c.args.facts.now.kernel.now) _ _ _ _ _ c.in_ok-scalar.ensures.entry c.in_ok-scalar.ensures.emits.labels c.in_ok-place.ensures.labels c.in_ok-guard_by.ensures.emits.labels;
}

pub finish-requires : goal.finish-requires
finish-requires c =
    let k = program c.args.facts.now.kernel.now in
    let R = register_in c.args.regs.now.x in
    let d : Emitted R k c.args.regs.now.z c.args.regs.now.p c.in_ok-vector.vector c.in_ok-scalar.field-0.at_iteration c.new-draft.result.labels c.label.new.self.labels c.emit_begin.new.draft.labels c.branch-draft.new.self.labels c.emit_scalar.new.draft.labels c.place.new.self.labels c.guard_by.new.draft.labels
    c.new-draft.result.entries c.label.new.self.entries c.emit_begin.new.draft.entries c.branch-draft.new.self.entries c.emit_scalar.new.draft.entries c.place.new.self.entries c.guard_by.new.draft.entries c.emit_vector.new.draft.entries =
    record {
      none = c.new-draft.ensures.entries;
      first = c.new-draft.ensures.labels;
      label = c.in_ok-vector.ensures.next;
      one = c.in_ok-vector.ensures.count;
      same = c.in_ok-vector.ensures.entries;
      begun = c.in_ok-emit_begin.ensures.emits.labels;
      begin = c.in_ok-emit_begin.ensures.emits.code;
      branched = c.in_ok-branch.ensures.labels;
      branch = c.in_ok-branch.ensures.code;
      entry = c.in_ok-scalar.ensures.entry;
      looped = c.in_ok-scalar.ensures.emits.labels;
      loop = c.in_ok-scalar.ensures.emits.code;
      placed = c.in_ok-place.ensures.labels;
      place = c.in_ok-place.ensures.code;
      guarded = c.in_ok-guard_by.ensures.emits.labels;
      guard = c.in_ok-guard_by.ensures.emits.code;
      lanes = c.in_ok-emit_vector.ensures.emits.code;
    } in
    let few = vector_code_words_le d c.in_ok-emit_begin.ensures.words c.in_ok-scalar.ensures.words c.in_ok-guard_by.ensures.words c.in_ok-emit_vector.ensures.words in
    record { few = omega (arith, few, c.few_items.ensures.size) }

-- the drafts, one after another
drafts : (c : goal.After-have_32_bits)
    → Emitted (register_in c.args.regs.now.x) (program c.args.facts.now.kernel.now) c.args.regs.now.z c.args.regs.now.p c.in_ok-vector.vector c.in_ok-scalar.field-0.at_iteration c.new-draft.result.labels c.label.new.self.labels c.emit_begin.new.draft.labels c.branch-draft.new.self.labels c.emit_scalar.new.draft.labels c.place.new.self.labels c.guard_by.new.draft.labels c.new-draft.result.entries c.label.new.self.entries c.emit_begin.new.draft.entries c.branch-draft.new.self.entries c.emit_scalar.new.draft.entries c.place.new.self.entries c.guard_by.new.draft.entries c.emit_vector.new.draft.entries
drafts c = record {
  none = c.new-draft.ensures.entries;
  first = c.new-draft.ensures.labels;
  label = c.in_ok-vector.ensures.next;
  one = c.in_ok-vector.ensures.count;
  same = c.in_ok-vector.ensures.entries;
  begun = c.in_ok-emit_begin.ensures.emits.labels;
  begin = c.in_ok-emit_begin.ensures.emits.code;
  branched = c.in_ok-branch.ensures.labels;
  branch = c.in_ok-branch.ensures.code;
  entry = c.in_ok-scalar.ensures.entry;
  looped = c.in_ok-scalar.ensures.emits.labels;
  loop = c.in_ok-scalar.ensures.emits.code;
  placed = c.in_ok-place.ensures.labels;
  place = c.in_ok-place.ensures.code;
  guarded = c.in_ok-guard_by.ensures.emits.labels;
  guard = c.in_ok-guard_by.ensures.emits.code;
  lanes = c.in_ok-emit_vector.ensures.emits.code;
}

pub returns-clause-short : goal.returns-clause-short
returns-clause-short c =
    let k = program c.args.facts.now.kernel.now in
    let few = vector_code_words_le (drafts c) c.in_ok-emit_begin.ensures.words c.in_ok-scalar.ensures.words c.in_ok-guard_by.ensures.words c.in_ok-emit_vector.ensures.words in
    let n = ap length c.in_ok-words.ensures.words in
    omega (arith, few, n, words_length c.emit_vector.new.draft.entries)

pub returns-clause-counted : goal.returns-clause-counted
returns-clause-counted c =
    let k = program c.args.facts.now.kernel.now in
    let same = ap size (is_whole (drafts c)).all in
    let few = whole_size (register_in c.args.regs.now.x) k c.args.regs.now.z c.args.regs.now.p c.branch-draft.new.self.labels c.place.new.self.labels c.guard_by.new.draft.labels c.requires.class in
    let n = ap length c.in_ok-words.ensures.words in
    omega (arith, same, few, n, words_length c.emit_vector.new.draft.entries)

registers_are_joined : (c : goal.After-have_32_bits) → IsJoined (program c.args.facts.now.kernel.now) c.args.regs.now.z c.args.regs.now.p c.args.regs.now.x
registers_are_joined c =
    let k = program c.args.facts.now.kernel.now in
    let arrays = few-arrays k (sound c.args.facts.now.kernel.now) (few_params k (spelled c.args.facts.now.kernel.now)) in
    record {
      spelled = spelled c.args.facts.now.kernel.now;
      sound = sound c.args.facts.now.kernel.now;
      vector = c.requires.class;
      few = few_params k (spelled c.args.facts.now.kernel.now);
      near = arrays.place;
      z = c.requires.vectors;
      p = c.requires.predicates;
      x = c.requires.scalars;
      begins = c.begin_runs.ensures;
      runs = c.scalar_runs.ensures;
      meets = c.meets_apart.ensures;
      vectors = c.vector_runs.ensures;
    }

promised : (c : goal.After-have_32_bits) → Promised (program c.args.facts.now.kernel.now) (file_of c.in_ok-words.words.items)
promised c =
    let k = program c.args.facts.now.kernel.now in
    let few = vector_code_words_le (drafts c) c.in_ok-emit_begin.ensures.words c.in_ok-scalar.ensures.words c.in_ok-guard_by.ensures.words c.in_ok-emit_vector.ensures.words in
    let small : All (λ w. w < 2 ^ 32) c.in_ok-words.words.items = subst (λ ws. All (λ w. w < 2 ^ 32) ws) c.deref-3.ensures.value c.have_32_bits.ensures in
    vector_file k c.args.regs.now.z c.args.regs.now.p c.args.regs.now.x c.emit_vector.new.draft.labels _ _ _ c.emit_vector.new.draft.entries c.in_ok-words.words.items (registers_are_joined c) (is_whole (drafts c)) c.in_ok-words.ensures.fit (omega (arith, few, c.few_items.ensures.size)) c.in_ok-words.ensures.words small

pub returns-clause-close : goal.returns-clause-close
returns-clause-close c = (promised c).close

pub returns-clause-ends : goal.returns-clause-ends
returns-clause-ends c = (promised c).ends

-- the entries leave the reserved registers alone, and have one exit call
alone : (c : goal.After-have_32_bits) → AreAlone 1 c.emit_vector.new.draft.entries
alone c =
    let scalar = c.in_ok-scalar.field-0.at_iteration in
    lanes_alone (drafts c) (c.scalar_code_leaves.ensures.begin c.label.new.self.labels) (c.scalar_code_leaves.ensures.scalar c.branch-draft.new.self.labels) (c.guard_leaves.ensures (program c.args.facts.now.kernel.now) scalar c.place.new.self.labels) (c.vector_code_leaves.ensures c.args.regs.now.z c.args.regs.now.p scalar c.guard_by.new.draft.labels)

pub returns-clause-reserved : goal.returns-clause-reserved
returns-clause-reserved c = subst (λ ws. All LeavesReserved ws) (sym c.in_ok-words.ensures.words) (c.words_leave.ensures c.emit_vector.new.draft.labels 1 c.emit_vector.new.draft.entries c.in_ok-words.ensures.fit (alone c))

pub returns-clause-one_exit : goal.returns-clause-one_exit
returns-clause-one_exit c = subst HasOneExit (sym c.in_ok-words.ensures.words) (c.words_exit.ensures c.emit_vector.new.draft.labels c.emit_vector.new.draft.entries c.in_ok-words.ensures.fit (alone c))

pub returns-clause-drafted : goal.returns-clause-drafted
returns-clause-drafted c =
    let k = program c.args.facts.now.kernel.now in
    let few = vector_code_words_le (drafts c) c.in_ok-emit_begin.ensures.words c.in_ok-scalar.ensures.words c.in_ok-guard_by.ensures.words c.in_ok-emit_vector.ensures.words in
    let follows = vector_followed k c.args.regs.now.z c.args.regs.now.p c.args.regs.now.x c.emit_vector.new.draft.labels _ _ _ c.emit_vector.new.draft.entries (registers_are_joined c) (is_whole (drafts c)) c.in_ok-words.ensures.fit in
    record {
      entries = c.emit_vector.new.draft.entries;
      labels = c.emit_vector.new.draft.labels;
      is = c.in_ok-words.ensures.words;
      fit = c.in_ok-words.ensures.fit;
      few = omega (arith, few, c.few_items.ensures.size);
      alone = alone c;
      holds = (follows.close, follows.ends);
    }

-- ---- where a call fails

pub returns-in_err-vector : goal.returns-in_err-vector
returns-in_err-vector c =
    let failed = c.from_residual.ensures.0 in
    record { close = IfOk-from_err _ _ failed; ends = IfOk-from_err _ _ failed; short = IfOk-from_err _ _ failed; counted = IfOk-from_err _ _ failed; reserved = IfOk-from_err _ _ failed; one_exit = IfOk-from_err _ _ failed; drafted = IfOk-from_err _ _ failed }

pub returns-in_err-emit_begin : goal.returns-in_err-emit_begin
returns-in_err-emit_begin c =
    let failed = c.from_residual-in_err-emit_begin.ensures.0 in
    record { close = IfOk-from_err _ _ failed; ends = IfOk-from_err _ _ failed; short = IfOk-from_err _ _ failed; counted = IfOk-from_err _ _ failed; reserved = IfOk-from_err _ _ failed; one_exit = IfOk-from_err _ _ failed; drafted = IfOk-from_err _ _ failed }

pub returns-in_err-branch : goal.returns-in_err-branch
returns-in_err-branch c =
    let failed = c.from_residual-in_err-branch.ensures.0 in
    record { close = IfOk-from_err _ _ failed; ends = IfOk-from_err _ _ failed; short = IfOk-from_err _ _ failed; counted = IfOk-from_err _ _ failed; reserved = IfOk-from_err _ _ failed; one_exit = IfOk-from_err _ _ failed; drafted = IfOk-from_err _ _ failed }

pub returns-in_err-scalar : goal.returns-in_err-scalar
returns-in_err-scalar c =
    let failed = c.from_residual-in_err-scalar.ensures.0 in
    record { close = IfOk-from_err _ _ failed; ends = IfOk-from_err _ _ failed; short = IfOk-from_err _ _ failed; counted = IfOk-from_err _ _ failed; reserved = IfOk-from_err _ _ failed; one_exit = IfOk-from_err _ _ failed; drafted = IfOk-from_err _ _ failed }

pub returns-in_err-place : goal.returns-in_err-place
returns-in_err-place c =
    let failed = c.from_residual-in_err-place.ensures.0 in
    record { close = IfOk-from_err _ _ failed; ends = IfOk-from_err _ _ failed; short = IfOk-from_err _ _ failed; counted = IfOk-from_err _ _ failed; reserved = IfOk-from_err _ _ failed; one_exit = IfOk-from_err _ _ failed; drafted = IfOk-from_err _ _ failed }

pub returns-in_err-guard_by : goal.returns-in_err-guard_by
returns-in_err-guard_by c =
    let failed = c.from_residual-in_err-guard_by.ensures.0 in
    record { close = IfOk-from_err _ _ failed; ends = IfOk-from_err _ _ failed; short = IfOk-from_err _ _ failed; counted = IfOk-from_err _ _ failed; reserved = IfOk-from_err _ _ failed; one_exit = IfOk-from_err _ _ failed; drafted = IfOk-from_err _ _ failed }

pub returns-in_err-emit_vector : goal.returns-in_err-emit_vector
returns-in_err-emit_vector c =
    let failed = c.from_residual-in_err-emit_vector.ensures.0 in
    record { close = IfOk-from_err _ _ failed; ends = IfOk-from_err _ _ failed; short = IfOk-from_err _ _ failed; counted = IfOk-from_err _ _ failed; reserved = IfOk-from_err _ _ failed; one_exit = IfOk-from_err _ _ failed; drafted = IfOk-from_err _ _ failed }

pub returns-in_err-words : goal.returns-in_err-words
returns-in_err-words c =
    let failed = c.from_residual-in_err-words.ensures.0 in
    record { close = IfOk-from_err _ _ failed; ends = IfOk-from_err _ _ failed; short = IfOk-from_err _ _ failed; counted = IfOk-from_err _ _ failed; reserved = IfOk-from_err _ _ failed; one_exit = IfOk-from_err _ _ failed; drafted = IfOk-from_err _ _ failed }
