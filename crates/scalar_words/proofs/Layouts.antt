-- The layout of a kernel by the items of its listing.
use Rattle.std.proofs.Common.{◌≡◌, ℕ, suc, ◌+◌, List, [], ◌∷◌, length, map, Option, Some, None, refl, ap, ap₂, ◌∙◌, arith, length-append}
use Rattle.kernel_tree.specs.declared.ast.Param.{Param}
use Rattle.kernel_tree.specs.declared.ast.Var.{Var}
use Rattle.kernel_tree.specs.Plain.{Program, parameters_of, accumulators_of}
use Rattle.loop_form.specs.declared.item.Item.{Item}
use Rattle.reg_assign.specs.declared.interval.RegClass.TheVariants.{X}
use Rattle.loop_form.specs.Entries.{Entry, entries_of}
use Rattle.std.specs.List.{cons_option}
use Rattle.std.proofs.lemmas.List.{length-map}
use Rattle.reg_assign.specs.Registers.{Assignment}
use Rattle.loop_form.specs.Needs.{throughout, accumulating_of, span, spans_of, whole}
use Rattle.loop_form.specs.Registers.{FitsKernel}
use Rattle.loop_form.specs.Listing.{item_of, last_use_in, listing_of}
use Rattle.scalar_words.specs.Layout.{Constant, Loose, Layout}
use Rattle.scalar_words.specs.KernelRegisters.{counted_x, x_last_use, one_reg, one_value, count_values, regs_from, item_regs, item_last_use, layout_of_kernel}

one_same : (R : ℕ → ℕ) (j : ℕ) (o : Option ℕ) (f g : ℕ → List ℕ) → ((n : ℕ) → f n ≡ g n) → one_reg R j o f ≡ one_reg R j o g
one_same R j None f g h = ap (λ l. 0 ∷ l) (h j)
one_same R j (Some u) f g h = ap (λ l. counted_x (R j) ∷ l) (h (suc j))

regs_listed : (R : ℕ → ℕ) (all : List Entry) (j : ℕ) (es : List Entry) → item_regs R j (map (item_of all) es) ≡ regs_from R all j es
regs_listed R all j [] = refl
regs_listed R all j (e ∷ es) = one_same R j (last_use_in X all e) _ _ (λ n. regs_listed R all n es)

last_uses_listed : (all es : List Entry) → map item_last_use (map (item_of all) es) ≡ map (x_last_use all) es
last_uses_listed all [] = refl
last_uses_listed all (e ∷ es) = ap (λ l. x_last_use all e ∷ l) (last_uses_listed all es)

abbrev made : List Constant → List Loose → List ℕ → List ℕ → Layout
made constants loose regs last_uses = record { regs = regs; last_uses = last_uses; constants = constants; loose = loose }

pub layout_is : (R : ℕ → ℕ) (k : Program) (p : Layout) (j : ℕ) (items : List Item) → items ≡ listing_of k → j ≡ length k.vars → p.regs ≡ item_regs R j items → p.last_uses ≡ map item_last_use items → p.constants ≡ [] → p.loose ≡ [] → p ≡ layout_of_kernel R k
layout_is R k p j items e f g h none exact =
    let all = entries_of k in
    ap₂ (made p.constants p.loose)
    (g ∙ ap₂ (item_regs R) f e ∙ regs_listed R all (length k.vars) all)
    (h ∙ ap (map item_last_use) e ∙ last_uses_listed all all)
    ∙ ap₂ (λ cs ls. made cs ls (layout_of_kernel R k).regs (layout_of_kernel R k).last_uses) none exact

pub count_params : (ps : List Param) → length (parameters_of ps) ≡ length ps
count_params [] = refl
count_params (p ∷ ps) = ap suc (count_params ps)

pub count_vars : (vs : List Var) → length (accumulators_of vs) ≡ length vs
count_vars [] = refl
count_vars (v ∷ vs) = ap suc (count_vars vs)

-- ---- how many registers there are

count_spans : (all es : List Entry) → length (spans_of X all es) ≡ count_values (map (item_of all) es)
count_spans all [] = refl
count_spans all (e ∷ es) = by (last_use_in X all e) (count_spans all es)
  where
    by : (o : Option ℕ) → length (spans_of X all es) ≡ count_values (map (item_of all) es) → length (cons_option (span e.item o) (spans_of X all es)) ≡ one_value o + count_values (map (item_of all) es)
    by None h = omega (arith, h)
    by (Some u) h = omega (arith, h)

pub each_register : (k : Program) (a : Assignment) → FitsKernel k X a → length k.vars + count_values (listing_of k) ≡ length a.registers
each_register k a f =
    let each = f.assigned.each in
    let all = ap length f.intervals in
    let parts = length-append (map (whole k) (throughout k X)) (spans_of X (entries_of k) (entries_of k)) in
    let first = length-map (throughout k X) (whole k) in
    let vars = length-map k.vars accumulating_of in
    let rest = count_spans (entries_of k) (entries_of k) in
    omega (arith, each, all, parts, first, vars, rest)
