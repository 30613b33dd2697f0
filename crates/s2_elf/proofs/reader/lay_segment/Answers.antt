-- A segment that is loaded makes each word the next one, and another header leaves it.
use Rattle.std.proofs.Common.{◌<◌, get_or, ap, sym, ◌∙◌, subst, arith}
use Rattle.std.proofs.lemmas.Bool.{ne_eqb}
use Rattle.s2_elf.specs.Files.{ProgramHeader}
use Rattle.s2_elf.specs.Images.{local_address, global_address}
use Rattle.s2_elf.specs.Placing.{placed_word}
use Rattle.s2_elf.proofs.ImageWords.{laid_more, laid_same}
use Rattle.s2_elf.proofs.reader.lay_segment.Goals as goal

pub returns-then-header-eq-LOAD-clause-local : goal.returns-then-header-eq-LOAD-clause-local
returns-then-header-eq-LOAD-clause-local c = λ i within.
    let bytes = c.args.bytes.now in
    let kind = ap (λ (h : ProgramHeader). h.kind) (sym c.program_header-header.ensures) ∙ c.if-header-eq-LOAD.true in
    let inside = subst (λ n. i < n) (c.place_local.auto.words) within in
    c.place_local.ensures i inside
    ∙ ap (λ (h : ProgramHeader). placed_word bytes (local_address i) (get_or c.args.local.now i 0) h) c.program_header-header.ensures
    ∙ laid_more bytes c.args.index (local_address i) _ (λ k. omega (arith, c.type_inv.bytes k)) (c.requires.local_laid i inside) kind

pub returns-then-header-eq-LOAD-clause-global : goal.returns-then-header-eq-LOAD-clause-global
returns-then-header-eq-LOAD-clause-global c = λ i within.
    let bytes = c.args.bytes.now in
    let kind = ap (λ (h : ProgramHeader). h.kind) (sym c.program_header-header.ensures) ∙ c.if-header-eq-LOAD.true in
    let inside = subst (λ n. i < n) (c.place_over.auto.words) within in
    c.place_over.ensures i inside
    ∙ ap (λ (h : ProgramHeader). placed_word bytes (global_address i) (get_or c.args.global.now i 0) h) c.program_header-header.ensures
    ∙ laid_more bytes c.args.index (global_address i) _ (λ k. omega (arith, c.type_inv.bytes k)) (c.requires.global_laid i inside) kind

pub returns-else-header-eq-LOAD-clause-local : goal.returns-else-header-eq-LOAD-clause-local
returns-else-header-eq-LOAD-clause-local c = λ i within.
    let kind = ap (λ (h : ProgramHeader). h.kind) (sym c.program_header-header.ensures) in
    c.requires.local_laid i within
    ∙ laid_same c.args.bytes.now c.args.index (local_address i)
    (ne_eqb _ _ (λ e. c.if-header-eq-LOAD.false (sym kind ∙ e)))

pub returns-else-header-eq-LOAD-clause-global : goal.returns-else-header-eq-LOAD-clause-global
returns-else-header-eq-LOAD-clause-global c = λ i within.
    let kind = ap (λ (h : ProgramHeader). h.kind) (sym c.program_header-header.ensures) in
    c.requires.global_laid i within
    ∙ laid_same c.args.bytes.now c.args.index (global_address i)
    (ne_eqb _ _ (λ e. c.if-header-eq-LOAD.false (sym kind ∙ e)))
