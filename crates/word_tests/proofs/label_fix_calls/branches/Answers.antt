use Rattle.std.proofs.Common.{◌≡◌, ◌+◌, ◌≤◌, List, [], ◌∷◌, ◌++◌, ap, arith}
use Rattle.label_fix.specs.DraftRun.{DraftEntry, Put, Branch, Place}
use Rattle.label_fix.specs.Finished.{size}
use Rattle.label_fix.proofs.PlacedRuns.{size-append}
use Rattle.word_tests.proofs.label_fix_calls.branches.Goals as goal

size_of_one_entry : (e : DraftEntry) → size (e ∷ []) ≤ 1
size_of_one_entry (Put i) = omega arith
size_of_one_entry (Branch k l) = omega arith
size_of_one_entry (Place l) = omega arith

size_of_push : (new old : List DraftEntry) (e : DraftEntry) → ((rest : List DraftEntry) → new ++ rest ≡ old ++ e ∷ rest) → size new ≤ size old + 1
size_of_push new old e h = let a = ap size (h []) in omega (arith, a, size-append new [], size-append old (e ∷ []), size_of_one_entry e)

pub finish-requires : goal.finish-requires
finish-requires g c =
    let s0 = ap size c.in_ok-exit.ensures.entries in
    let s00 = ap size c.in_ok-head.ensures.entries in
    let s000 = ap size c.new-draft.ensures.entries in
    let s1 = size_of_push _ _ _ c.in_ok-place.ensures.code in
    let s2 = size_of_push _ _ _ c.in_ok-put.ensures.code in
    let s3 = size_of_push _ _ _ c.in_ok-branch.ensures.code in
    let s4 = size_of_push _ _ _ c.in_ok-branch-2.ensures.code in
    let s5 = size_of_push _ _ _ c.in_ok-put-2.ensures.code in
    let s6 = size_of_push _ _ _ c.in_ok-branch-3.ensures.code in
    let s7 = size_of_push _ _ _ c.in_ok-branch-4.ensures.code in
    let s8 = size_of_push _ _ _ c.in_ok-place-2.ensures.code in
    record { few = omega (arith, s0, s00, s000, s1, s2, s3, s4, s5, s6, s7, s8) }
