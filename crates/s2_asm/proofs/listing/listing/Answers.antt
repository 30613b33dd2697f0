use Rattle.s2_mnemonics.specs.declared.line.Line.TheVariants.{Entry}
use Rattle.s2_mnemonics.specs.LineWords.{line_text}
use Rattle.std.proofs.Common.{List, ℕ, ap, ◌∙◌, ◌++◌, [], ◌∷◌}
use Rattle.s2_asm.specs.ImageListings.{program_of}
use Rattle.s2_asm.proofs.ListedLines.{listing_of}
use Rattle.s2_asm.proofs.listing.listing.Goals as goal

pub returns : goal.returns
returns c =
    listing_of (program_of c.args.image.now) c.new-text.result.items c.put_line.new.text.items c.put_image.new.text.items c.new-text.ensures.items
    (c.in_ok-put_line.ensures ∙ ap (λ (t : List ℕ). c.new-text.result.items ++ (t ++ 10 ∷ [])) (c.as_slice.ensures.value ∙ (c.entry_text.ensures ∙ ap (λ (e : ℕ). line_text (Entry e)) c.entry_of-entry.ensures))) c.in_ok-put_image.ensures
