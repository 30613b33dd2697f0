-- A condition that is false ends the search, and a header without one is gone past.
use Rattle.std.proofs.Common.{sym, ◌∙◌, arith}
use Rattle.s2_elf.proofs.HeaderLoops.{load_all, load_more, load_found, load_done, segments_more, segments_all}
use Rattle.s2_elf.proofs.conditions.load_fault.Goals as goal

pub returns-in-Some-clause-fault : goal.returns-in-Some-clause-fault
returns-in-Some-clause-fault c =
    sym (sym (load_all c.args.bytes.now) ∙ c.loop-i.invariant.none
    ∙ load_found c.args.bytes.now c.loop-i.i c.in-Some.fault (omega (arith, c.header_count-i-end.ensures))
    (sym c.header_fault.ensures.fault ∙ c.in-Some.is))

pub loop-i-preserved : goal.loop-i-preserved
loop-i-preserved c = record {
  none =
      c.loop-i.invariant.none
      ∙ load_more c.args.bytes.now c.loop-i.i (omega (arith, c.header_count-i-end.ensures))
      (sym c.header_fault.ensures.fault ∙ c.in_default.is);
  segments = segments_more c.args.bytes.now c.loop-i.i c.loop-i.invariant.segments c.in_default.ensures.segment;
}

pub returns-clause-fault : goal.returns-clause-fault
returns-clause-fault c =
    sym (sym (load_all c.args.bytes.now) ∙ c.loop-i.invariant.none
    ∙ load_done c.args.bytes.now c.loop-i.i (omega (arith, c.header_count-i-end.ensures, c.loop-i-test.false)))

pub returns-clause-segments : goal.returns-clause-segments
returns-clause-segments c =
    segments_all c.args.bytes.now c.loop-i.i (omega (arith, c.header_count-i-end.ensures, c.loop-i-test.false))
    c.loop-i.invariant.segments
