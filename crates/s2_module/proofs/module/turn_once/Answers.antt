use Rattle.std.proofs.Common.{◌≡◌, arith}
use Rattle.s2_module.proofs.TurnRuns.{once}
use Rattle.s2_module.proofs.module.turn_once.Goals as goal

pub returns-clause-local : goal.returns-clause-local
returns-clause-local c = (once _ c.turns_on-ran.result (record { cpu = c.args.cpu.now; local = c.args.pages.now.words; marks = c.args.pages.now.marks }) c.turns_on-ran.new.cpu c.turns_on-ran.new.pages.words c.turns_on-ran.new.pages.marks c.turns_on-ran.ensures.most c.turns_on-ran.ensures.cpu c.turns_on-ran.ensures.words c.turns_on-ran.ensures.marks c.turns_on-ran.ensures.turns (λ none. c.turns_on-ran.ensures.asks none (omega arith))).asks

pub returns-clause-cpu : goal.returns-clause-cpu
returns-clause-cpu c = (once _ c.turns_on-ran.result (record { cpu = c.args.cpu.now; local = c.args.pages.now.words; marks = c.args.pages.now.marks }) c.turns_on-ran.new.cpu c.turns_on-ran.new.pages.words c.turns_on-ran.new.pages.marks c.turns_on-ran.ensures.most c.turns_on-ran.ensures.cpu c.turns_on-ran.ensures.words c.turns_on-ran.ensures.marks c.turns_on-ran.ensures.turns (λ none. c.turns_on-ran.ensures.asks none (omega arith))).cpu

pub returns-clause-words : goal.returns-clause-words
returns-clause-words c = (once _ c.turns_on-ran.result (record { cpu = c.args.cpu.now; local = c.args.pages.now.words; marks = c.args.pages.now.marks }) c.turns_on-ran.new.cpu c.turns_on-ran.new.pages.words c.turns_on-ran.new.pages.marks c.turns_on-ran.ensures.most c.turns_on-ran.ensures.cpu c.turns_on-ran.ensures.words c.turns_on-ran.ensures.marks c.turns_on-ran.ensures.turns (λ none. c.turns_on-ran.ensures.asks none (omega arith))).words

pub returns-clause-marks : goal.returns-clause-marks
returns-clause-marks c = (once _ c.turns_on-ran.result (record { cpu = c.args.cpu.now; local = c.args.pages.now.words; marks = c.args.pages.now.marks }) c.turns_on-ran.new.cpu c.turns_on-ran.new.pages.words c.turns_on-ran.new.pages.marks c.turns_on-ran.ensures.most c.turns_on-ran.ensures.cpu c.turns_on-ran.ensures.words c.turns_on-ran.ensures.marks c.turns_on-ran.ensures.turns (λ none. c.turns_on-ran.ensures.asks none (omega arith))).marks
