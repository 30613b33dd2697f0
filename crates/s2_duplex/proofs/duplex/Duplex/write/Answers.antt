use Rattle.std.proofs.Common.{◌≡◌, ℕ, ap, ◌∙◌}
use Rattle.std.specs.Prelude.{slice_index, slice_set}
use Rattle.s2_base.specs.Words.{bytes_into_of}
use Rattle.s2_duplex.specs.DuplexBoards.{BoardPair, pair_of, contents, valid_word}
use Rattle.s2_duplex.proofs.DuplexInvariant.{written_duplex, written_contents, written_valid, valid_in_contents}
use Rattle.s2_duplex.proofs.duplex.Duplex.write.Goals as goal

pub invariant_of-self : goal.invariant_of-self
invariant_of-self c =
    rw (c.write.ensures, c.write-2.ensures) (written_duplex (pair_of c.self.inside.first c.self.inside.second) c.args.i c.bytes_into-merged.result c.requires.index c.self.invariant)

pub returns-clause-contents : goal.returns-clause-contents
returns-clause-contents c =
    let s = pair_of c.self.inside.first c.self.inside.second in
    let merged : c.bytes_into-merged.result ≡ bytes_into_of (slice_index (contents s) c.args.i) c.args.word c.args.mask =
    c.bytes_into-merged.ensures.value ∙ ap (λ (w : ℕ). bytes_into_of w c.args.word c.args.mask) (c.valid.ensures ∙ valid_in_contents s c.args.i c.requires.index c.self.invariant) in
    rw (c.write.ensures, c.write-2.ensures) (written_contents s c.args.i c.bytes_into-merged.result c.requires.index c.self.invariant ∙
    (ap (λ (w : ℕ). slice_set (contents s) c.args.i w) merged ∙ ap (λ (p : BoardPair). slice_set (contents p) c.args.i (bytes_into_of (slice_index (contents p) c.args.i) c.args.word c.args.mask)) c.self.view_is))

pub returns-clause-valid : goal.returns-clause-valid
returns-clause-valid c =
    let s = pair_of c.self.inside.first c.self.inside.second in
    let merged : c.bytes_into-merged.result ≡ bytes_into_of (valid_word s c.args.i) c.args.word c.args.mask =
    c.bytes_into-merged.ensures.value ∙ ap (λ (w : ℕ). bytes_into_of w c.args.word c.args.mask) c.valid.ensures in
    rw (c.write.ensures, c.write-2.ensures) (written_valid s c.args.i c.bytes_into-merged.result c.requires.index c.self.invariant ∙
    (merged ∙ ap (λ (p : BoardPair). bytes_into_of (valid_word p c.args.i) c.args.word c.args.mask) c.self.view_is))
