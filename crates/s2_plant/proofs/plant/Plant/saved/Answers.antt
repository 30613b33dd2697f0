use Rattle.std.proofs.Common.{ap, ◌∙◌}
use Rattle.std.specs.Prelude.{slice_index}
use Rattle.s2_saved.specs.SavedWords.{saved_words}
use Rattle.s2_triplex.specs.TriplexState.{TriplexState, module_at}
use Rattle.s2_plant.proofs.plant.Plant.saved.Goals as goal

pub returns : goal.returns
returns c = c.saved.ensures ∙ ap (λ (d : TriplexState). slice_index (saved_words (module_at d.modules c.args.p).cpu) c.args.k) c.self.view_is
