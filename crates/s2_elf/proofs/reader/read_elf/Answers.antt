-- A file without a refusal is accepted.
use Rattle.std.proofs.Common.{sym, ◌∙◌}
use Rattle.s2_elf.proofs.FirstFalse.{accepted}
use Rattle.s2_elf.proofs.reader.read_elf.Goals as goal

pub returns-in-Ok-clause-accepted : goal.returns-in-Ok-clause-accepted
returns-in-Ok-clause-accepted c = record {
  accepted = accepted c.args.bytes.now (sym c.refusal.ensures.refusal ∙ c.in-None.is);
  same = c.in-Ok.ensures;
}

pub returns-in-Err-clause-refused : goal.returns-in-Err-clause-refused
returns-in-Err-clause-refused c = accepted c.args.bytes.now (sym c.refusal.ensures.refusal ∙ c.in-None.is)
