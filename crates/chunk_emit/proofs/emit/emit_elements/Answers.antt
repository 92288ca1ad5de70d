use Rattle.std.proofs.Common.{◌≡◌, ◌≢◌, ℕ, zero, suc, ◌+◌, [], ◌∷◌, ◌++◌, refl, sym, ap, ap₂, ◌∙◌}
use Rattle.kernel_tree.specs.declared.ops.Ty.{Ty}
use Rattle.kernel_tree.specs.Wrap.{log_bytes}
use Rattle.sve_code.specs.Table.{lsl_imm}
use Rattle.machine_model.specs.InstructionTable.{Vector}
use Rattle.label_fix.specs.Draft.{word_view}
use Rattle.lane_emit.specs.LaneCode.{shift_word}
use Rattle.chunk_emit.specs.ChunkCode.{gather_word, gather_by, vectors, puts}
use Rattle.chunk_emit.proofs.emit.emit_elements.Goals as goal

shifted : (n : ℕ) (t : Ty) (d m b x : ℕ) → n ≢ 0 → gather_by n t d m b x ≡ shift_word lsl_imm d x (64 + n) ∷ gather_word t d m b d ∷ []
shifted zero t d m b x some = absurd (some refl)
shifted (suc n) t d m b x some = refl

two_words : (t : Ty) (n d m b x : ℕ) → n ≡ log_bytes t → n ≢ 0 → shift_word lsl_imm d x (64 + n) ∷ gather_word t d m b d ∷ [] ≡ gather_by (log_bytes t) t d m b x
two_words t n d m b x is some = sym (shifted n t d m b x some) ∙ ap (λ k. gather_by k t d m b x) is

pub returns-in_ok-put-3 : goal.returns-in_ok-put-3
returns-in_ok-put-3 c =
    let both = two_words c.args.ty c.log_bytes-shift.result c.args.d.number c.args.mask.number c.args.base.number c.args.index.number c.log_bytes-shift.ensures.value c.if-shift-eq0.false in
    record {
      labels = c.in_ok-put-3.ensures.labels ∙ c.in_ok-put-2.ensures.labels;
      code = λ rest.
          c.in_ok-put-3.ensures.code rest ∙ c.in_ok-put-2.ensures.code (puts (word_view c.gather-else-shift-eq0.result ∷ []) rest)
          ∙ ap (λ ws. c.args.draft.now.entries ++ puts ws rest) (ap₂ (λ a b. Vector a ∷ b ∷ []) c.shift_left.ensures c.gather-else-shift-eq0.ensures ∙ ap vectors both);
    }
