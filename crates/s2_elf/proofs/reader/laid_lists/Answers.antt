-- The lists begin as zeros, and what is laid over them is what they hold at the end.
use Rattle.std.proofs.Common.{◌≡◌, ℕ, ◌<◌, List, length, get_or, sym, ap, subst, ◌∙◌, arith}
use Rattle.s2_elf.specs.Images.{local_address, global_address}
use Rattle.s2_elf.specs.Files.{header_count}
use Rattle.s2_elf.specs.Placing.{AreLaid}
use Rattle.s2_elf.proofs.ImageWords.{written_back}
use Rattle.s2_elf.proofs.reader.laid_lists.Goals as goal

pub lay_segments-requires-clause-local_blank : goal.lay_segments-requires-clause-local_blank
lay_segments-requires-clause-local_blank c =
    subst (λ (xs : List ℕ). (i : ℕ) → i < length xs → get_or xs i 0 ≡ 0) (sym c.deref_mut.ensures.value) c.in_ok-local.ensures.words

pub lay_segments-requires-clause-global_blank : goal.lay_segments-requires-clause-global_blank
lay_segments-requires-clause-global_blank c =
    subst (λ (xs : List ℕ). (i : ℕ) → i < length xs → get_or xs i 0 ≡ 0) (sym c.deref_mut-2.ensures.value) c.in_ok-global.ensures.words

pub returns-clause-local_long : goal.returns-clause-local_long
returns-clause-local_long c =
    ap length (written_back c.in_ok-local.local.len c.lay_segments.new.local c.in_ok-local.local.items (omega (arith, c.lay_segments.auto.local, c.deref_mut.ensures.len, ap length c.deref_mut.ensures.value, c.in_ok-local.ensures.count))
    (omega (arith, c.lay_segments.auto.local, c.deref_mut.ensures.len, ap length c.deref_mut.ensures.value, c.in_ok-local.ensures.count)))
    ∙ omega (arith, c.lay_segments.auto.local, c.deref_mut.ensures.len, ap length c.deref_mut.ensures.value, c.in_ok-local.ensures.count)

pub returns-clause-global_long : goal.returns-clause-global_long
returns-clause-global_long c =
    ap length (written_back c.in_ok-global.global.len c.lay_segments.new.global c.in_ok-global.global.items (omega (arith, c.lay_segments.auto.global, c.deref_mut-2.ensures.len, ap length c.deref_mut-2.ensures.value, c.in_ok-global.ensures.count))
    (omega (arith, c.lay_segments.auto.global, c.deref_mut-2.ensures.len, ap length c.deref_mut-2.ensures.value, c.in_ok-global.ensures.count)))
    ∙ omega (arith, c.lay_segments.auto.global, c.deref_mut-2.ensures.len, ap length c.deref_mut-2.ensures.value, c.in_ok-global.ensures.count)

pub returns-clause-local : goal.returns-clause-local
returns-clause-local c =
    subst (λ (xs : List ℕ). AreLaid c.args.bytes.now (header_count c.args.bytes.now) local_address xs)
    (sym (written_back c.in_ok-local.local.len c.lay_segments.new.local c.in_ok-local.local.items (omega (arith, c.lay_segments.auto.local, c.deref_mut.ensures.len, ap length c.deref_mut.ensures.value, c.in_ok-local.ensures.count))
    (omega (arith, c.lay_segments.auto.local, c.deref_mut.ensures.len, ap length c.deref_mut.ensures.value, c.in_ok-local.ensures.count))))
    c.lay_segments.ensures.local

pub returns-clause-global : goal.returns-clause-global
returns-clause-global c =
    subst (λ (xs : List ℕ). AreLaid c.args.bytes.now (header_count c.args.bytes.now) global_address xs)
    (sym (written_back c.in_ok-global.global.len c.lay_segments.new.global c.in_ok-global.global.items (omega (arith, c.lay_segments.auto.global, c.deref_mut-2.ensures.len, ap length c.deref_mut-2.ensures.value, c.in_ok-global.ensures.count))
    (omega (arith, c.lay_segments.auto.global, c.deref_mut-2.ensures.len, ap length c.deref_mut-2.ensures.value, c.in_ok-global.ensures.count))))
    c.lay_segments.ensures.global
