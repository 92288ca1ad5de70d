use Rattle.std.specs.Prelude.{◌+◌, ◌*◌, ◌≤◌, length}
use Rattle.std.proofs.Common.{sym, ap, ◌∙◌, subst, arith}
use Rattle.loop_form.specs.View.{program}
use Rattle.machine_model.specs.Written.{file_of}
use Rattle.kernel_tree.specs.Items.{size_of}
use Rattle.promises.specs.Faithful.{FreeFaithful, FreeEnds, CloseFaithful}
use Rattle.promises.specs.Refusals.{IsRefusal}
use Rattle.sweep_run.proofs.file.sweep_file.Goals as goal

pub compiling_failed-requires : goal.compiling_failed-requires
compiling_failed-requires c = subst (λ k. IsRefusal k c.in-Err.fault) c.in_ok-kernel.ensures c.in-Err.ensures.refusal

pub returns : goal.returns
returns c =
    let is = c.in_ok-file.ensures.file ∙ ap file_of c.deref.ensures.value in
    record {
      words = c.in-Ok.code.words.items;
      few = omega (arith, c.in-Ok.ensures.short, c.few_items.ensures.size);
      short = subst (λ k. length c.in-Ok.code.words.items ≤ 1000 + 60 * size_of k) c.in_ok-kernel.ensures c.in-Ok.ensures.short;
      reserved = c.in-Ok.ensures.reserved;
      file_is = is;
      faithful = subst (λ k. FreeFaithful k c.in_ok-file.file.items) c.in_ok-kernel.ensures
          (subst (FreeFaithful (program c.in_ok-kernel.kernel)) (sym is) c.in-Ok.ensures.faithful);
      close = subst (λ k. CloseFaithful k c.in_ok-file.file.items) c.in_ok-kernel.ensures
          (subst (CloseFaithful (program c.in_ok-kernel.kernel)) (sym is) c.in-Ok.ensures.close);
      ends = subst (λ k. FreeEnds k c.in_ok-file.file.items) c.in_ok-kernel.ensures
          (subst (FreeEnds (program c.in_ok-kernel.kernel)) (sym is) c.in-Ok.ensures.ends);
    }
