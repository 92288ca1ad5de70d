use Rattle.std.proofs.Common.{◌≡◌, ◌≤◌, false, length, refl}
use Rattle.kernel_tree.specs.declared.checked.Checked.{Checked}
use Rattle.kernel_tree.specs.Checked.{kernel_of}
use Rattle.kernel_tree.specs.Plain.{program_of}
use Rattle.loop_form.specs.View.{program}
use Rattle.machine_model.specs.Written.{file_of}
use Rattle.dependence.specs.Bound.{is_vector}
use Rattle.dependence.specs.Classes.{class_of}
use Rattle.dependence.specs.declared.reason.Class.{Class}
use Rattle.dependence.specs.declared.reason.Class.TheVariants.{Vector, Scalar}
use Rattle.dependence.specs.declared.reason.Why.{Why}
use Rattle.kernel_compile.proofs.SlowDrafts.{slow_is_close}
use Rattle.kernel_compile.proofs.CountedWords.{scalar_counted}
use Rattle.kernel_compile.proofs.compile.scalar_words.Goals as goal

why_scalar : (o : Class) → is_vector o ≡ false → (why : Why) × (o ≡ Scalar why)
why_scalar Vector e = absurd cc
why_scalar (Scalar why) e = (why, refl)

few : (kernel : Checked) → length (program_of (kernel_of kernel)).params ≤ 8 → length (program kernel).params ≤ 8
unfolding program
few kernel h = h

pub returns-clause-close : goal.returns-clause-close
returns-clause-close c =
    let why = why_scalar (class_of (program c.args.kernel.now)) c.requires.class in
    c.scalar_files.ensures.close (program c.args.kernel.now) (file_of c.in_ok-words.words.items) why.0 why.1 c.in_ok-words.ensures.faithful

pub returns-clause-counted : goal.returns-clause-counted
returns-clause-counted c = let n = c.in_ok-words.ensures.counted in scalar_counted (program c.args.kernel.now) c.requires.class (length c.in_ok-words.words.items) n

pub returns-clause-ends : goal.returns-clause-ends
returns-clause-ends c =
    let k = program c.args.kernel.now in
    let file = file_of c.in_ok-words.words.items in
    let why = why_scalar (class_of k) c.requires.class in
    c.faithful_files.ensures.ends k file (c.scalar_files.ensures.slow k file why.0 why.1 (few c.args.kernel.now c.few_params.ensures) c.in_ok-words.ensures.faithful)

pub returns-clause-drafted : goal.returns-clause-drafted
returns-clause-drafted c =
    let k = program c.args.kernel.now in
    let why = why_scalar (class_of k) c.requires.class in
    slow_is_close k c.in_ok-words.words.items why.0 why.1 (few c.args.kernel.now c.few_params.ensures) c.in_ok-words.ensures.drafted
