-- Runs with stop lists, as a model made outside of svec has them.
use Rattle.std.proofs.Common.{◌≡◌, ℕ, List, [], ◌∷◌, ◌++◌, false, refl, map}
use Rattle.guest_types.specs.EarlyLoads.{Each, Listed as Counted}
use Rattle.guest_types.specs.Elements.{bits_of, elements}
use Rattle.guest_types.specs.Lanes.{broken, folded}
use Rattle.guest_types.specs.declared.memory.Perm.TheVariants.{ReadWrite}
use Rattle.word_rows.specs.Row.{reads}
use Rattle.a64_code.specs.Table as a64
use Rattle.sve_code.specs.Table as sve
use Rattle.machine_model.specs.Machine.{State}
use Rattle.machine_model.specs.OneStep.{reads_word}
use Rattle.machine_model.specs.Run.{Outcome, Spent, run, suppressed}
use Rattle.machine_model.proofs.CaseShapes.{zeros, page, flags_from, state, with_stops, with_pages}

abbrev code : List ℕ
code = 0x252c9000 ∷ 0x2598e3e1 ∷ 0xa5426423 ∷ 0x2519f004 ∷ 0x25a08485 ∷ 0x252c9000 ∷ 0xa410a426 ∷ 0x2518f027 ∷ 0x252c9000 ∷ 0xa41f6428 ∷ 0x04a80063 ∷ 0xe5425023 ∷ []

-- the state before 12 steps, what they come to, and how many free elements they suppress
record Case : Type 0 where
  pub before : State
  pub after : Outcome
  pub cuts : ℕ

abbrev ends : State → (State → State) → ℕ → Case
ends s change cuts = record { before = s; after = Spent 20536 (change s).memory 12; cuts = cuts }

-- run, stops 3 and 14
abbrev run_196 : Case
run_196 = ends (with_stops (state code (page 16 ReadWrite (zeros 64 ++ (246 ∷ 233 ∷ 79 ∷ 234 ∷ 30 ∷ 119 ∷ 196 ∷ 148 ∷ 103 ∷ 18 ∷ 209 ∷ 231 ∷ 96 ∷ 193 ∷ 22 ∷ 63 ∷ 138 ∷ 215 ∷ 17 ∷ 40 ∷ 192 ∷ 123 ∷ 209 ∷ 73 ∷ 212 ∷ 145 ∷ 220 ∷ 64 ∷ 34 ∷ 139 ∷ 162 ∷ 65 ∷ 122 ∷ 4 ∷ 57 ∷ 29 ∷ 19 ∷ 201 ∷ 106 ∷ 114 ∷ 25 ∷ 131 ∷ 56 ∷ 168 ∷ 197 ∷ 65 ∷ 125 ∷ 48 ∷ 57 ∷ 104 ∷ 84 ∷ 192 ∷ 156 ∷ 187 ∷ 69 ∷ 117 ∷ 12 ∷ 155 ∷ 249 ∷ 65 ∷ 238 ∷ 242 ∷ 83 ∷ 163 ∷ 48 ∷ 205 ∷ 13 ∷ 94 ∷ 139 ∷ 148 ∷ 186 ∷ 181 ∷ 254 ∷ 136 ∷ 215 ∷ 194 ∷ 74 ∷ 69 ∷ 156 ∷ 200 ∷ 144 ∷ 81 ∷ 194 ∷ 131 ∷ 44 ∷ 36 ∷ 109 ∷ 103 ∷ 208 ∷ 226 ∷ 49 ∷ 7 ∷ 15 ∷ 48 ∷ 243 ∷ 138 ∷ zeros 8)) ∷ []) 384 0 (flags_from false false false false) ((1, 65600) ∷ (2, 2) ∷ []) [] [] (zeros 32)) (Counted (3 ∷ 14 ∷ []))) (λ s. with_pages s (page 16 ReadWrite (zeros 64 ++ (246 ∷ 233 ∷ 79 ∷ 234 ∷ 30 ∷ 119 ∷ 196 ∷ 148 ∷ 93 ∷ 19 ∷ 209 ∷ 231 ∷ 126 ∷ 193 ∷ 22 ∷ 63 ∷ 241 ∷ 215 ∷ 17 ∷ 40 ∷ 32 ∷ 124 ∷ 209 ∷ 73 ∷ 212 ∷ 145 ∷ 220 ∷ 64 ∷ 34 ∷ 139 ∷ 162 ∷ 65 ∷ 122 ∷ 4 ∷ 57 ∷ 29 ∷ 19 ∷ 201 ∷ 106 ∷ 114 ∷ 25 ∷ 131 ∷ 56 ∷ 168 ∷ 197 ∷ 65 ∷ 125 ∷ 48 ∷ 57 ∷ 104 ∷ 84 ∷ 192 ∷ 156 ∷ 187 ∷ 69 ∷ 117 ∷ 12 ∷ 155 ∷ 249 ∷ 65 ∷ 238 ∷ 242 ∷ 83 ∷ 163 ∷ 48 ∷ 205 ∷ 13 ∷ 94 ∷ 139 ∷ 148 ∷ 186 ∷ 181 ∷ 254 ∷ 136 ∷ 215 ∷ 194 ∷ 74 ∷ 69 ∷ 156 ∷ 200 ∷ 144 ∷ 81 ∷ 194 ∷ 131 ∷ 44 ∷ 36 ∷ 109 ∷ 103 ∷ 208 ∷ 226 ∷ 49 ∷ 7 ∷ 15 ∷ 48 ∷ 243 ∷ 138 ∷ zeros 8)) ∷ [])) 2

-- run, period 4
abbrev run_197 : Case
run_197 = ends (with_stops (state code (page 16 ReadWrite (zeros 64 ++ (121 ∷ 168 ∷ 79 ∷ 175 ∷ 225 ∷ 175 ∷ 244 ∷ 184 ∷ 145 ∷ 154 ∷ 137 ∷ 39 ∷ 157 ∷ 139 ∷ 14 ∷ 71 ∷ 229 ∷ 1 ∷ 180 ∷ 129 ∷ 51 ∷ 249 ∷ 192 ∷ 119 ∷ 58 ∷ 194 ∷ 13 ∷ 159 ∷ 151 ∷ 9 ∷ 43 ∷ 140 ∷ 148 ∷ 253 ∷ 167 ∷ 167 ∷ 249 ∷ 76 ∷ 174 ∷ 231 ∷ 74 ∷ 171 ∷ 50 ∷ 238 ∷ 67 ∷ 217 ∷ 223 ∷ 149 ∷ 239 ∷ 119 ∷ 242 ∷ 135 ∷ 221 ∷ 81 ∷ 211 ∷ 218 ∷ 60 ∷ 32 ∷ 223 ∷ 253 ∷ 180 ∷ 86 ∷ 109 ∷ 112 ∷ 175 ∷ 155 ∷ 86 ∷ 79 ∷ 152 ∷ 155 ∷ 58 ∷ 14 ∷ 54 ∷ 222 ∷ 72 ∷ 26 ∷ 230 ∷ 223 ∷ 68 ∷ 219 ∷ 183 ∷ 201 ∷ 159 ∷ 192 ∷ 187 ∷ 47 ∷ 3 ∷ 145 ∷ 144 ∷ 15 ∷ 255 ∷ 190 ∷ 214 ∷ 201 ∷ 6 ∷ 53 ∷ zeros 8)) ∷ []) 384 0 (flags_from false false false false) ((1, 65600) ∷ (2, 2) ∷ []) [] [] (zeros 32)) (Each 4 0)) (λ s. with_pages s (page 16 ReadWrite (zeros 64 ++ (121 ∷ 168 ∷ 79 ∷ 175 ∷ 225 ∷ 175 ∷ 244 ∷ 184 ∷ 10 ∷ 155 ∷ 137 ∷ 39 ∷ 126 ∷ 140 ∷ 14 ∷ 71 ∷ 118 ∷ 2 ∷ 180 ∷ 129 ∷ 208 ∷ 249 ∷ 192 ∷ 119 ∷ 58 ∷ 194 ∷ 13 ∷ 159 ∷ 151 ∷ 9 ∷ 43 ∷ 140 ∷ 148 ∷ 253 ∷ 167 ∷ 167 ∷ 249 ∷ 76 ∷ 174 ∷ 231 ∷ 74 ∷ 171 ∷ 50 ∷ 238 ∷ 67 ∷ 217 ∷ 223 ∷ 149 ∷ 239 ∷ 119 ∷ 242 ∷ 135 ∷ 221 ∷ 81 ∷ 211 ∷ 218 ∷ 60 ∷ 32 ∷ 223 ∷ 253 ∷ 180 ∷ 86 ∷ 109 ∷ 112 ∷ 175 ∷ 155 ∷ 86 ∷ 79 ∷ 152 ∷ 155 ∷ 58 ∷ 14 ∷ 54 ∷ 222 ∷ 72 ∷ 26 ∷ 230 ∷ 223 ∷ 68 ∷ 219 ∷ 183 ∷ 201 ∷ 159 ∷ 192 ∷ 187 ∷ 47 ∷ 3 ∷ 145 ∷ 144 ∷ 15 ∷ 255 ∷ 190 ∷ 214 ∷ 201 ∷ 6 ∷ 53 ∷ zeros 8)) ∷ [])) 3

abbrev cases : List Case
cases = run_196 ∷ run_197 ∷ []

ran : map (λ c. run 12 0 c.before) cases ≡ map (λ c. c.after) cases
unfolding reads_word reads a64.add_sub_imm a64.add_sub_shifted a64.logical a64.move_wide a64.multiply_add a64.shift_variable a64.bitfield a64.select a64.branch a64.branch_if a64.branch_zero a64.ret_form a64.exception a64.nop_form a64.umov_form a64.byte_imm a64.wide_imm a64.byte_register a64.wide_register sve.true_form sve.false_form sve.while_below sve.test_form sve.pred_logic sve.break_form sve.read_ffr sve.read_ffr_zeroing sve.set_ffr sve.write_ffr sve.count sve.increment_by_count sve.count_true sve.duplicate sve.index sve.select sve.add_sub sve.logic sve.shift_imm sve.merging sve.unary sve.extend_byte sve.extend_half sve.extend_word sve.reduce sve.compare sve.load sve.load_first_fault sve.load_no_fault sve.load_gather sve.store elements bits_of folded broken
ran = refl

stop_cases_cut : map (λ c. suppressed 12 c.before) cases ≡ map (λ c. c.cuts) cases
unfolding reads_word reads a64.add_sub_imm a64.add_sub_shifted a64.logical a64.move_wide a64.multiply_add a64.shift_variable a64.bitfield a64.select a64.branch a64.branch_if a64.branch_zero a64.ret_form a64.exception a64.nop_form a64.umov_form a64.byte_imm a64.wide_imm a64.byte_register a64.wide_register sve.true_form sve.false_form sve.while_below sve.test_form sve.pred_logic sve.break_form sve.read_ffr sve.read_ffr_zeroing sve.set_ffr sve.write_ffr sve.count sve.increment_by_count sve.count_true sve.duplicate sve.index sve.select sve.add_sub sve.logic sve.shift_imm sve.merging sve.unary sve.extend_byte sve.extend_half sve.extend_word sve.reduce sve.compare sve.load sve.load_first_fault sve.load_no_fault sve.load_gather sve.store elements bits_of folded broken
stop_cases_cut = refl
