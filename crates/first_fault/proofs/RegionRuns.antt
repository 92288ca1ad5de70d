-- The region over a chunk, and over one lane.
use Rattle.std.proofs.Common.{ℕ, ◌*◌, ◌<◌, ◌≤◌, false, length, refl, ap, ◌∙◌, subst, arith}
use Rattle.guest_types.specs.declared.length.Width.TheVariants.{B}
use Rattle.guest_types.specs.Length.{width_bytes, lanes}
use Rattle.guest_types.specs.Elements.{active, predicate}
use Rattle.guest_types.specs.Lanes.{all_at}
use Rattle.guest_types.proofs.AtWidths.{width_bytes-lanes}
use Rattle.machine_model.specs.declared.outcome.StopKind.TheVariants.{Read}
use Rattle.machine_model.specs.Machine.{State, p_at, with_ffr, next}
use Rattle.machine_model.proofs.StateSteps.{truths_made, ffr_put}
use Rattle.vector_order.specs.Orders.{Lanes}
use Rattle.lane_emit.specs.Right.{PRight}
use Rattle.lane_emit.specs.ItemCode.{truth_of}
use Rattle.chunk_emit.specs.Registers.{Layout, p_of}
use Rattle.chunk_emit.specs.ChunkCode.{puts}
use Rattle.chunk_emit.specs.Chunk.{Setting, chunk_of, ValueRight, Holds}
use Rattle.chunk_emit.specs.Fits.{Assigned, following_items}
use Rattle.chunk_emit.specs.StopPlaces.{OneComesTo}
use Rattle.chunk_emit.proofs.ChunkStates.{lane_below_and}
use Rattle.first_fault.specs.Region.{region_way}
use Rattle.first_fault.specs.RegionCode.{Early, Single, exits_words, single_words}
use Rattle.first_fault.specs.Prefix.{IsTop, with_count, lanes_of, Same, Inside}
use Rattle.first_fault.specs.RegionRuns.{RegionOutcome, ExitsRun, SingleRuns}
use Rattle.first_fault.proofs.Stretches.{word_leads}
use Rattle.first_fault.proofs.PrefixSteps.{in_bytes, byte_made}
use Rattle.first_fault.proofs.OutcomeLists.{outcome_following, region_runs}

-- nothing has changed yet
same_refl : (l : Layout) (s : State) → Same l s s
same_refl l s = record { memory = refl; vl = refl; x = λ r ne. refl; all = refl; held = λ x is. refl; sums = λ x is. refl }

module _ {l : Layout} (fit : Assigned l) {f : Setting} {p : ℕ} {t : Lanes} {s : State} (h : Holds l f p t s) where
  first_truths : (q : ℕ) → q < p → p ≤ l.p_last_use q → PRight f.w f.n (p_at s (p_of l q)) (truth_of (chunk_of f (lanes_of s.memory t.lane)) q)
  first_truths q lt le e en = h.truths q lt le e (omega (arith, en, h.few)) ∙ lane_below_and e f.n _ en

  first_values : (q : ℕ) → q < p → p ≤ l.z_last_use q → ValueRight l (with_count f f.n) (lanes_of s.memory t.lane) s q
  first_values q lt le = let old = h.values q lt le in record { right = old.right; typed = old.typed }

  first_inside : f.n ≤ 1 → IsTop f.w f.n (p_at s 0) → Inside Single l f s f.n p t.lane s
  first_inside one top = record {
    is = h.is;
    few = omega arith;
    alone = λ e. one;
    same = same_refl l s;
    top = top;
    ffr = λ e. absurd cc;
    values = first_values;
    truths = first_truths;
  }

  abbrev set_state : State
  set_state = next (with_ffr s (predicate 1 all_at (lanes s.vl B)))

  set_inside : IsTop f.w f.n (p_at s 0) → Inside Early l f s f.n p t.lane set_state
  set_inside top = record {
    is = ffr_put s set_state (predicate 1 all_at (lanes s.vl B)) h.is (truths_made s.vl 1 all_at (lanes s.vl B) (omega (arith, width_bytes-lanes s.vl B h.is.sized))) refl;
    few = omega arith;
    alone = λ e. absurd cc;
    same = record { memory = refl; vl = refl; x = λ r ne. refl; all = refl; held = λ x is. refl; sums = λ x is. refl };
    top = top;
    ffr = λ early e en. ap (λ v. active f.w (predicate 1 all_at (lanes v B)) e) h.vl ∙ byte_made fit h all_at (width_bytes f.w * e) (in_bytes fit h e (omega (arith, en, h.few)));
    values = λ q lt le. let old = first_values q lt le in record { right = old.right; typed = old.typed };
    truths = first_truths;
  }

pub exits_run : ExitsRun
exits_run l f d rest items p t s fit k h =
    subst (λ m. RegionOutcome Early l f d s f.n (following_items p items) (length (exits_words f.w l items)) t.lane (puts (exits_words f.w l items) rest) s rest (λ j. region_way f.names items j m) (OneComesTo f.names items Read f.i)) h.memory
    (outcome_following (length (exits_words f.w l items)) (omega arith) (word_leads false refl refl) (region_runs fit h d rest Early items k (set_inside fit h h.top)))

pub single_runs : SingleRuns
single_runs l f d rest items p t s fit k h one =
    subst (λ m. RegionOutcome Single l f d s f.n (following_items p items) (length (single_words f.w l items)) t.lane (puts (single_words f.w l items) rest) s rest (λ j. region_way f.names items j m) (OneComesTo f.names items Read f.i)) h.memory
    (region_runs fit h d rest Single items k (first_inside fit h one h.top))
