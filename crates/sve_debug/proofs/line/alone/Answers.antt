use Rattle.std.proofs.Common.{sym}
use Rattle.sve_debug.proofs.Named.{named, none_alone, pc_alone, sp_alone, nzcv_alone, ffr_alone, past_alone, quit_alone}
use Rattle.sve_debug.proofs.line.alone.Goals as goal

pub returns-then-eq : goal.returns-then-eq
returns-then-eq c = record {
  value = sym (pc_alone c.args.name.now
      (named c.args.name.now c.as_slice.result.now _ _ _ c.as_slice.ensures c.eq.ensures c.if-eq.true));
  within = tt;
}

pub returns-then-eq-2 : goal.returns-then-eq-2
returns-then-eq-2 c = record {
  value = sym (sp_alone c.args.name.now
      (named c.args.name.now c.as_slice.result.now _ _ _ c.as_slice.ensures c.eq.ensures c.if-eq.false)
      (named c.args.name.now c.as_slice-2.result.now _ _ _ c.as_slice-2.ensures c.eq-2.ensures c.if-eq-2.true));
  within = tt;
}

pub returns-then-eq-3 : goal.returns-then-eq-3
returns-then-eq-3 c = record {
  value = sym (nzcv_alone c.args.name.now
      (named c.args.name.now c.as_slice.result.now _ _ _ c.as_slice.ensures c.eq.ensures c.if-eq.false)
      (named c.args.name.now c.as_slice-2.result.now _ _ _ c.as_slice-2.ensures c.eq-2.ensures c.if-eq-2.false)
      (named c.args.name.now c.as_slice-3.result.now _ _ _ c.as_slice-3.ensures c.eq-3.ensures c.if-eq-3.true));
  within = tt;
}

pub returns-then-eq-4 : goal.returns-then-eq-4
returns-then-eq-4 c = record {
  value = sym (ffr_alone c.args.name.now
      (named c.args.name.now c.as_slice.result.now _ _ _ c.as_slice.ensures c.eq.ensures c.if-eq.false)
      (named c.args.name.now c.as_slice-2.result.now _ _ _ c.as_slice-2.ensures c.eq-2.ensures c.if-eq-2.false)
      (named c.args.name.now c.as_slice-3.result.now _ _ _ c.as_slice-3.ensures c.eq-3.ensures c.if-eq-3.false)
      (named c.args.name.now c.as_slice-4.result.now _ _ _ c.as_slice-4.ensures c.eq-4.ensures c.if-eq-4.true));
  within = tt;
}

pub returns-then-eq-5 : goal.returns-then-eq-5
returns-then-eq-5 c = record {
  value = sym (past_alone c.args.name.now
      (named c.args.name.now c.as_slice.result.now _ _ _ c.as_slice.ensures c.eq.ensures c.if-eq.false)
      (named c.args.name.now c.as_slice-2.result.now _ _ _ c.as_slice-2.ensures c.eq-2.ensures c.if-eq-2.false)
      (named c.args.name.now c.as_slice-3.result.now _ _ _ c.as_slice-3.ensures c.eq-3.ensures c.if-eq-3.false)
      (named c.args.name.now c.as_slice-4.result.now _ _ _ c.as_slice-4.ensures c.eq-4.ensures c.if-eq-4.false)
      (named c.args.name.now c.as_slice-5.result.now _ _ _ c.as_slice-5.ensures c.eq-5.ensures c.if-eq-5.true));
  within = tt;
}

pub returns-then-eq-6 : goal.returns-then-eq-6
returns-then-eq-6 c = record {
  value = sym (quit_alone c.args.name.now
      (named c.args.name.now c.as_slice.result.now _ _ _ c.as_slice.ensures c.eq.ensures c.if-eq.false)
      (named c.args.name.now c.as_slice-2.result.now _ _ _ c.as_slice-2.ensures c.eq-2.ensures c.if-eq-2.false)
      (named c.args.name.now c.as_slice-3.result.now _ _ _ c.as_slice-3.ensures c.eq-3.ensures c.if-eq-3.false)
      (named c.args.name.now c.as_slice-4.result.now _ _ _ c.as_slice-4.ensures c.eq-4.ensures c.if-eq-4.false)
      (named c.args.name.now c.as_slice-5.result.now _ _ _ c.as_slice-5.ensures c.eq-5.ensures c.if-eq-5.false)
      (named c.args.name.now c.as_slice-6.result.now _ _ _ c.as_slice-6.ensures c.eq-6.ensures c.if-eq-6.true));
  within = tt;
}

pub returns : goal.returns
returns c = record {
  value = sym (none_alone c.args.name.now
      (named c.args.name.now c.as_slice.result.now _ _ _ c.as_slice.ensures c.eq.ensures c.if-eq.false)
      (named c.args.name.now c.as_slice-2.result.now _ _ _ c.as_slice-2.ensures c.eq-2.ensures c.if-eq-2.false)
      (named c.args.name.now c.as_slice-3.result.now _ _ _ c.as_slice-3.ensures c.eq-3.ensures c.if-eq-3.false)
      (named c.args.name.now c.as_slice-4.result.now _ _ _ c.as_slice-4.ensures c.eq-4.ensures c.if-eq-4.false)
      (named c.args.name.now c.as_slice-5.result.now _ _ _ c.as_slice-5.ensures c.eq-5.ensures c.if-eq-5.false)
      (named c.args.name.now c.as_slice-6.result.now _ _ _ c.as_slice-6.ensures c.eq-6.ensures c.if-eq-6.false));
  within = tt;
}
