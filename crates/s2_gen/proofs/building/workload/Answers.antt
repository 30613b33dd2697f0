-- The program is laid over a blank image.
use Rattle.std.proofs.Common.{◌≡◌, ℕ, List, arith, ap, ◌∙◌, length}
use Rattle.std.specs.Prelude.{slice_index}
use Rattle.std.proofs.lemmas.List.{with_items_is}
use Rattle.s2_elf.specs.MemoryImage.{MemoryImage}
use Rattle.s2_gen.proofs.LaidWords.{image_made}
use Rattle.s2_gen.proofs.building.workload.Goals as goal

pub returns-clause-image : goal.returns-clause-image
returns-clause-image c =
    let before : c.as_mut_slice.result.now ≡ c.in_ok-image.image.local = c.as_mut_slice.ensures.value ∙ ap (λ (i : MemoryImage). i.local) c.image.view_is in
    image_made c.args.n c.program.result c.lay.new.words c.in_ok-image.image _ c.program.ensures.instructions c.in_ok-image.ensures
    (ap (λ (i : MemoryImage). i.entry) c.image.view_is)
    (with_items_is c.image.inside.local c.lay.new.words (omega (arith, c.lay.auto.words, c.as_mut_slice.ensures.len, ap length c.as_mut_slice.ensures.value)))
    (ap (λ (i : MemoryImage). i.global) c.image.view_is)
    (c.lay.auto.words ∙ ap length before)
    c.lay.ensures.code
    (λ i outside. c.lay.ensures.others i outside ∙ ap (λ (ws : List ℕ). slice_index ws i) before)
