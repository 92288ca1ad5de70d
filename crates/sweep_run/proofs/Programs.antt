-- The pages of a sweep's program: they are few, and not those of the number.
use Rattle.std.proofs.Common.{◌≡◌, ℕ, ◌+◌, ◌*◌, ◌/◌, ◌-◌, ◌≤◌, List, length, Ok, ap, subst, ◌∙◌, arith, append-nil}
use Rattle.guest_types.specs.Memory.{DoNotMeet}
use Rattle.guest_types.proofs.Errors.{ok_unique}
use Rattle.machine_model.specs.Load.{Image, load, pages_from, pages_of as segment_pages}
use Rattle.machine_model.specs.Written.{file_of, whole, image_of_words}
use Rattle.elf_image.proofs.Memories.{length-pages_from}
use Rattle.kernel_tree.specs.Plain.{Program}
use Rattle.promises.specs.Faithful.{Faithful, SlowFaithful, FreeFaithful}
use Rattle.sweep_kernel.specs.Tree.{kernel_of}
use Rattle.sweep_kernel.specs.Pages.{pages_of}
use Rattle.sweep_kernel.specs.Runs.{FaithfulEnds}
use Rattle.sweep_run.specs.SweepText.{IsSweepFile}
use Rattle.sweep_run.specs.Lines.{SweepRunsEnd}
use Rattle.sweep_run.proofs.Causes.{loads}

count_pages : (words : List ℕ) → length (image_of_words words).pages ≡ (0x400000 + (120 + 4 * length words) - 1) / 4096 + 1 - 1024
unfolding segment_pages
count_pages words =
    let n = 120 + 4 * length words in
    ap (length {A = _}) (append-nil (pages_from (file_of words) (whole n) 1024 ((0x400000 + n - 1) / 4096 + 1 - 1024)))
    ∙ length-pages_from (file_of words) (whole n) 1024 ((0x400000 + n - 1) / 4096 + 1 - 1024)

few_pages : (words : List ℕ) → length words ≤ 65536 → length (image_of_words words).pages ≤ 66
few_pages words h =
    let count = count_pages words in
    omega (arith, count)

-- the image that the file was loaded as is that of its words
image_is : (number : ℕ) (file : List ℕ) (image : Image) → (f : IsSweepFile number file) → load file ≡ Ok image → image_of_words f.words ≡ image
image_is number file image f e = ok_unique (image_of_words f.words) image (load file) (loads number file f) e

pub runs_end : ((k : Program) (file : List ℕ) → FreeFaithful k file → Faithful k file) → ((k : Program) (file : List ℕ) → Faithful k file → SlowFaithful k file) → FaithfulEnds → SweepRunsEnd
runs_end free slow ends number file f =
    let faithful : FreeFaithful (kernel_of number) (file_of f.words) = subst (FreeFaithful (kernel_of number)) f.file_is f.faithful in
    ends f.words number f.few (slow (kernel_of number) (file_of f.words) (free (kernel_of number) (file_of f.words) faithful))

pub apart : SweepRunsEnd → (number : ℕ) (file : List ℕ) (image : Image) → IsSweepFile number file → load file ≡ Ok image → DoNotMeet image.pages (pages_of number)
apart ends number file image f e =
    subst (λ (i : Image). DoNotMeet i.pages (pages_of number)) (image_is number file image f e) (ends number file f).apart

pub few : (number : ℕ) (file : List ℕ) (image : Image) → IsSweepFile number file → load file ≡ Ok image → length image.pages ≤ 66
few number file image f e = subst (λ (i : Image). length i.pages ≤ 66) (image_is number file image f e) (few_pages f.words f.few)
