use Rattle.std.proofs.Common.{◌∙◌, refl}
use Rattle.object_file.specs.Written.{behind}
use Rattle.object_file.proofs.Appended.{before, nothing}
use Rattle.object_file.proofs.write.front.Goals as goal

pub returns : goal.returns
returns c = λ n w e f.
    before c.put_u64-4.new.file.items c.put_bytes-4.new.file.items _ (behind n w) c.in_ok-put_bytes-4.ensures
    ∙ before c.put_bytes-3.new.file.items c.put_u64-4.new.file.items _ _ c.in_ok-put_u64-4.ensures
    ∙ before c.put_u64-3.new.file.items c.put_bytes-3.new.file.items _ _ c.in_ok-put_bytes-3.ensures
    ∙ before c.put_u64-2.new.file.items c.put_u64-3.new.file.items _ _ c.in_ok-put_u64-3.ensures
    ∙ before c.put_bytes-2.new.file.items c.put_u64-2.new.file.items _ _ c.in_ok-put_u64-2.ensures
    ∙ before c.put_u64.new.file.items c.put_bytes-2.new.file.items _ _ c.in_ok-put_bytes-2.ensures
    ∙ before c.put_bytes.new.file.items c.put_u64.new.file.items _ _ c.in_ok-put_u64.ensures
    ∙ before c.in_ok-file.file.items c.put_bytes.new.file.items _ _ c.in_ok-put_bytes.ensures
    ∙ nothing c.in_ok-file.file.items _ c.in_ok-file.ensures.items
    ∙ (rw (e, f) refl)
