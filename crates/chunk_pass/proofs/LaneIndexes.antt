-- The loop variable in the lanes of a chunk.
use Rattle.std.proofs.Common.{◌≡◌, ◌≢◌, ℕ, ◌+◌, pos, Bool, true, false, List, [], length, refl, sym, ap, subst}
use Rattle.std.specs.Prelude.{slice_index, slice_index_or, if◌then◌else◌}
use Rattle.guest_types.specs.declared.length.Width.TheVariants.{D}
use Rattle.guest_types.specs.Length.{lanes}
use Rattle.machine_model.specs.InstructionTable.{Listed}
use Rattle.machine_model.specs.Machine.{State, x_at, z_at, p_at}
use Rattle.machine_model.specs.States.{IsState}
use Rattle.label_fix.specs.DraftRun.{DraftEntry, Laid}
use Rattle.label_fix.specs.Stretches.{Leads}
use Rattle.loop_form.specs.declared.loop_item.Operand.{Operand}
use Rattle.loop_form.specs.declared.loop_item.Operand.TheVariants.{LoopIndex}
use Rattle.lane_emit.specs.Right.{ZRight}
use Rattle.lane_emit.specs.Stretch.{OnlyZ, MakesZ}
use Rattle.lane_emit.specs.LaneCode.{index_code}
use Rattle.lane_emit.proofs.Throughout.{index_z}
use Rattle.chunk_emit.specs.ChunkCode.{vectors, puts}
use Rattle.chunk_emit.specs.Fits.{Assigned}
use Rattle.chunk_emit.specs.Head.{Ground, IndexHeld, layout, width}
use Rattle.first_fault.proofs.Stretches.{rest_at, words_lead, Plain, plain_none, plain_more}
use Rattle.chunk_pass.specs.PassCode.{index_words}
use Rattle.chunk_pass.proofs.LaneHeads.{Kept}

-- what the words of the loop variable leave
pub record Indexed (g : Ground) (i : ℕ) (d : Laid) (words : List Listed) (rest : List DraftEntry) (s : State) : Type 0 where
  pub end : State
  pub leads : Leads d (puts words rest) s rest end (length words)
  pub kept : Kept g s end
  pub top : p_at end 0 ≡ p_at s 0
  pub held_index : IndexHeld g i end

same_kept : (g : Ground) (s : State) → IsState s → Kept g s s
same_kept g s h = record { is = h; vl = refl; memory = refl; x = λ r le. refl; all = refl; held = λ x is ne. refl; sums = λ x is. refl }

index_plain : (d x : ℕ) → Plain (index_code d x)
index_plain d x = plain_more (λ s. refl) plain_none

module _ (g : Ground) (assigned : Assigned (layout g)) (apart : (layout g).held LoopIndex ≡ true → (x : Operand) → (layout g).held x ≡ true → x ≢ LoopIndex → (layout g).registers.source x ≢ (layout g).registers.source LoopIndex) (wide : (layout g).held LoopIndex ≡ true → width g ≡ D) (i : ℕ) (d : Laid) (rest : List DraftEntry) where
  abbrev register : ℕ
  register = (layout g).registers.source LoopIndex

  only_kept : (s end : State) → (layout g).held LoopIndex ≡ true → IsState end → OnlyZ register s end → Kept g s end
  only_kept s end is fine only = record {
    is = fine;
    vl = only.vl;
    memory = only.memory;
    x = λ r le. ap (λ x. slice_index x r) only.x;
    all = ap (λ p. slice_index_or p 1 []) only.p;
    held = λ x held ne. only.z ((layout g).registers.source x) (apart is x held ne);
    sums = λ x updated. only.z ((layout g).sum x) (assigned.sum_held x LoopIndex updated is);
  }

  index_made : (s : State) → (layout g).held LoopIndex ≡ true → IsState s → s.vl ≡ g.vl → x_at s 9 ≡ i → Indexed g i d (vectors (index_code register 9)) rest s
  index_made s is h vl at =
      let makes : MakesZ (index_code register 9) s register D (lanes s.vl D) (λ e. pos (i + e)) = index_z register 9 i h (assigned.held_small LoopIndex is) at in
      record {
        end = makes.end;
        leads = words_lead (index_code register 9) s makes.end (index_plain register 9) makes.runs;
        kept = only_kept s makes.end is makes.is makes.only;
        top = ap (λ p. slice_index_or p 0 []) makes.only.p;
        held_index = λ again. subst (λ v. ZRight (width g) (lanes v (width g)) (z_at makes.end register) (λ e. pos (i + e))) vl
            (subst (λ w. ZRight w (lanes s.vl w) (z_at makes.end register) (λ e. pos (i + e))) (sym (wide is)) makes.right);
      }

  pub indexed : (s : State) → IsState s → s.vl ≡ g.vl → x_at s 9 ≡ i → Indexed g i d (index_words (layout g)) rest s
  indexed s h vl at = by ((layout g).held LoopIndex) refl
    where
      by : (b : Bool) → (layout g).held LoopIndex ≡ b → Indexed g i d (if b then vectors (index_code register 9) else []) rest s
      by true is = index_made s is h vl at
      by false none = record {
        end = s;
        leads = rest_at 0;
        kept = same_kept g s h;
        top = refl;
        held_index = λ is. absurd cc;
      }
