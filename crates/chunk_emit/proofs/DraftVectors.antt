-- Vector code as entries of a draft.
use Rattle.std.proofs.Common.{◌≡◌, ℕ, suc, List, [], ◌∷◌, length, refl, subst, arith}
use Rattle.machine_model.specs.Machine.{State, Step, Went, Ended, Stopped}
use Rattle.machine_model.specs.VectorEffects.{do_vector}
use Rattle.label_fix.specs.DraftRun.{DraftEntry, Laid}
use Rattle.label_fix.specs.Stretches.{Goes}
use Rattle.label_fix.proofs.StretchSteps.{stay, put_goes, chain}
use Rattle.lane_emit.specs.Stretch.{VectorInstruction, and_then, do_all}
use Rattle.chunk_emit.specs.ChunkCode.{vectors, puts}

went_same : {d : Laid} {c e : List DraftEntry} {s t u : State} {most : ℕ} → Went t ≡ Went u → Goes d c s e t most → Goes d c s e u most
went_same {d = d} {c = c} {e = e} {s = s} {t = t} {u = u} {most = most} h g = let same : t ≡ u = cc in subst (λ x. Goes d c s e x most) same g

-- a stretch of vector code that goes through
pub do_goes : {d : Laid} {rest : List DraftEntry} (c : List VectorInstruction) (s t : State) → do_all c s ≡ Went t → Goes d (puts (vectors c) rest) s rest t (length (vectors c))
do_goes [] s t h = went_same h (stay 0)
do_goes {d = d} {rest = rest} (v ∷ vs) s t h = by (do_vector v s) refl h (λ u k. do_goes vs u t k)
  where
    by : (o : Step) → do_vector v s ≡ o → and_then o (do_all vs) ≡ Went t → ((u : State) → do_all vs u ≡ Went t → Goes d (puts (vectors vs) rest) u rest t (length (vectors vs))) → Goes d (puts (vectors (v ∷ vs)) rest) s rest t (length (vectors (v ∷ vs)))
    by (Went u) e k more = chain (suc (length (vectors vs))) (omega arith) (put_goes e) (more u k)
    by (Ended result) e k more = absurd cc
    by (Stopped kind pc at memory) e k more = absurd cc
