use Rattle.s2_triplex_laws.proofs.FrameStays.{steps_keep_frame}
use Rattle.s2_triplex_laws.proofs.executions.steps_keep_frame.Goals as goal

pub returns : goal.returns
returns c = steps_keep_frame
