use Rattle.std.proofs.Common.{sym, ◌∙◌}
use Rattle.s2_saved.proofs.WordLists.{control_word, buffer_word}
use Rattle.s2_saved.proofs.words.save_word.Goals as goal

pub returns-then-k-lt-FIRST_ENTRY_WORD : goal.returns-then-k-lt-FIRST_ENTRY_WORD
returns-then-k-lt-FIRST_ENTRY_WORD c =
    c.control_word.ensures ∙ sym (control_word c.args.cpu.now c.args.k c.processor_state.ensures.general.count c.if-k-lt-HI_WORD.false c.if-k-lt-FIRST_ENTRY_WORD.true)

pub returns-else-k-lt-FIRST_ENTRY_WORD : goal.returns-else-k-lt-FIRST_ENTRY_WORD
returns-else-k-lt-FIRST_ENTRY_WORD c =
    c.buffer_word.ensures ∙ sym (buffer_word c.args.cpu.now c.args.k c.processor_state.ensures.general.count c.if-k-lt-FIRST_ENTRY_WORD.false)
