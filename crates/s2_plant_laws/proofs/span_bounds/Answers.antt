use Rattle.s2_plant_laws.proofs.Spans.{span_bounds}
use Rattle.s2_plant_laws.proofs.span_bounds.Goals as goal

pub returns : goal.returns
returns c = span_bounds
