use Rattle.std.proofs.Common.{◌≡◌, ℕ, take, ap, sym, ◌∙◌, arith}
use Rattle.std.proofs.lemmas.List.{take_all}
use Rattle.s2_cpu.specs.Processor.{Processor}
use Rattle.s2_saved.specs.SavedWords.{saved_words, after_word_load}
use Rattle.s2_saved.specs.SavedLaws.{after_word_loads}
use Rattle.s2_saved.proofs.WordLists.{length-saved_words}
use Rattle.s2_saved.proofs.Restoration.{restores, after_word_loads-none, after_word_loads-take-more}
use Rattle.s2_saved.proofs.words.copy_state.Goals as goal

pub loop-k-init : goal.loop-k-init
loop-k-init c = sym (after_word_loads-none c.args.to.now 0)

pub loop-k-preserved : goal.loop-k-preserved
loop-k-preserved c =
    let from = c.processor_state.ensures in
    let size = length-saved_words c.args.from.now from.general.count from.entries.count in
    c.load_part.ensures ∙ (ap (λ (p : Processor). after_word_load p c.loop-k.k c.save_word-word.result) c.loop-k.invariant ∙
    (ap (λ (v : ℕ). after_word_load (after_word_loads c.args.to.now 0 (take c.loop-k.k (saved_words c.args.from.now))) c.loop-k.k v) c.save_word-word.ensures ∙
    sym (after_word_loads-take-more c.args.to.now (saved_words c.args.from.now) c.loop-k.k (omega arith))))

pub returns : goal.returns
returns c =
    let from = c.processor_state.ensures in
    let all : take c.loop-k.k (saved_words c.args.from.now) ≡ saved_words c.args.from.now = take_all c.loop-k.k (saved_words c.args.from.now) (let size = length-saved_words c.args.from.now from.general.count from.entries.count in omega arith) in
    c.loop-k.invariant ∙ (ap (after_word_loads c.args.to.now 0) all ∙ restores c.args.from.now c.args.to.now from c.processor_state-2.ensures)
