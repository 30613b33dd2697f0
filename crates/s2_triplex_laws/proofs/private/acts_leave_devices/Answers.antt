use Rattle.s2_triplex_laws.proofs.PrivateFacts.{acts_leave_devices}
use Rattle.s2_triplex_laws.proofs.private.acts_leave_devices.Goals as goal

pub returns : goal.returns
returns c = acts_leave_devices
