use Rattle.std.proofs.Common.{List, ℕ, ap, ◌∙◌, ◌++◌, [], ◌∷◌}
use Rattle.s2_asm.proofs.ListedLines.{part_written, on_map}
use Rattle.s2_asm.proofs.listing.put_part.Goals as goal

pub returns : goal.returns
returns c =
    on_map c.put_words.result _ _
    (λ w. part_written (record { at = c.args.at; words = c.args.words.now }) c.args.text.now.items c.put_line.new.text.items c.put_words.new.text.items
    (c.in_ok-put_line.ensures ∙ ap (λ (t : List ℕ). c.args.text.now.items ++ (t ++ 10 ∷ [])) (c.as_slice.ensures.value ∙ c.org_text.ensures)) w)
    c.put_words.ensures
