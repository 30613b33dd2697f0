use Rattle.s2_mnemonics.specs.LineWords.{shown}
use Rattle.s2_mnemonics.specs.declared.line.Line.TheVariants.{Word}
use Rattle.s2_mnemonics.proofs.LineLaws.{word_gives, shown_gives, its_word, no_word, no_name, shown_again, word_again}
use Rattle.s2_mnemonics.proofs.writing.disassemble.Goals as goal

pub returns-then-encode-word-clause-line : goal.returns-then-encode-word-clause-line
returns-then-encode-word-clause-line c = (Word c.args.word, word_gives c.args.at c.args.word c.ranges.word.fits (no_word c.args.word c.encode.result c.decode-i.result c.decode-i.ensures.row c.encode.ensures.round_trip c.encode.ensures.least c.if-encode-word.true), c.word_text.ensures)

pub returns-then-encode-word-clause-again : goal.returns-then-encode-word-clause-again
returns-then-encode-word-clause-again c = word_again c.args.at c.args.word c.word_text.result.items c.ranges.word.fits c.word_text.ensures

pub returns-in-Some-clause-line : goal.returns-in-Some-clause-line
returns-in-Some-clause-line c =
    let shows = c.in-Some.ensures.some in
    (shown c.args.at c.decode-i.result, shown_gives c.args.at c.args.word c.decode-i.result c.in-Some.text.items c.decode-i.ensures.row shows (its_word c.args.word c.encode.result c.decode-i.result c.encode.ensures.round_trip c.encode.ensures.least c.if-encode-word.false), shows.is)

pub returns-in-Some-clause-again : goal.returns-in-Some-clause-again
returns-in-Some-clause-again c = shown_again c.args.at c.args.word c.decode-i.result c.in-Some.text.items c.in-Some.ensures.some (its_word c.args.word c.encode.result c.decode-i.result c.encode.ensures.round_trip c.encode.ensures.least c.if-encode-word.false)

pub returns-in-None-clause-line : goal.returns-in-None-clause-line
returns-in-None-clause-line c = (Word c.args.word, word_gives c.args.at c.args.word c.ranges.word.fits (no_name c.args.word c.decode-i.result c.decode-i.ensures.row c.in-None.ensures.none), c.word_text-in-None.ensures)

pub returns-in-None-clause-again : goal.returns-in-None-clause-again
returns-in-None-clause-again c = word_again c.args.at c.args.word c.word_text-in-None.result.items c.ranges.word.fits c.word_text-in-None.ensures
