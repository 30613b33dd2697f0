-- A header that asks for linking ends the search, and another one is gone past.
use Rattle.std.proofs.Common.{sym, ap, ◌∙◌, arith}
use Rattle.s2_elf.specs.Files.{is_dynamic}
use Rattle.s2_elf.proofs.HeaderLoops.{static_all, static_more, static_found, static_done}
use Rattle.s2_elf.proofs.conditions.static_fault.Goals as goal

pub returns-then-is_dynamic : goal.returns-then-is_dynamic
returns-then-is_dynamic c =
    sym (sym (static_all c.args.bytes.now) ∙ c.loop-i.invariant
    ∙ static_found c.args.bytes.now c.loop-i.i (omega (arith, c.header_count-i-end.ensures))
    (sym (ap is_dynamic c.program_header.ensures) ∙ sym c.is_dynamic.ensures ∙ c.if-is_dynamic.true))

pub loop-i-preserved : goal.loop-i-preserved
loop-i-preserved c =
    c.loop-i.invariant
    ∙ static_more c.args.bytes.now c.loop-i.i (omega (arith, c.header_count-i-end.ensures))
    (sym (ap is_dynamic c.program_header.ensures) ∙ sym c.is_dynamic.ensures ∙ c.if-is_dynamic.false)

pub returns : goal.returns
returns c =
    sym (sym (static_all c.args.bytes.now) ∙ c.loop-i.invariant
    ∙ static_done c.args.bytes.now c.loop-i.i (omega (arith, c.header_count-i-end.ensures, c.loop-i-test.false)))
