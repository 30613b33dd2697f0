-- Texts that are joined.
use Rattle.std.proofs.Common.{append_assoc}
use Rattle.std.proofs.lemmas.List.{append-nil, length-append}

pub ruleset texts = (append_assoc, append-nil, length-append)
