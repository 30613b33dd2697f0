-- A proper act is in its ranges.
use Rattle.std.proofs.Common.{◌≡◌, refl, arith}
use Rattle.std.specs.Prelude.{true}
use Rattle.s2_ports.specs.Events.{comes_from_outside}
use Rattle.s2_ports.specs.declared.events.Event.{Event}
use Rattle.s2_ports.specs.declared.events.Event.TheVariants.{Tick, Key, Private}
use Rattle.s2_ports.specs.declared.events.BoardFault.TheVariants.{Dead, Flip}
use Rattle.s2_script.specs.declared.entry.Act.{Act}
use Rattle.s2_script.specs.declared.entry.Act.TheVariants.{Event as EventAct, Poke, PokeLocal, Drive, Mute, Remove, Revive, Board, Mend}
use Rattle.s2_script.specs.declared.entry.Entry.TheVariants.{One}
use Rattle.s2_script.specs.ScriptLines.{IsProperEntry}
use Rattle.s2_plant.specs.ActRanges.{IsActInRange}

proper_event : (event : Event) → IsProperEntry (One (EventAct event)) → comes_from_outside event ≡ true
proper_event Tick h = refl
proper_event (Key byte) h = refl
proper_event (Private a b c) h = absurd h

pub act_in_range : (act : Act) → IsProperEntry (One act) → IsActInRange act
act_in_range (EventAct event) h = proper_event event h
act_in_range (Poke p k v) h = (let a = h.0.1 in omega arith, let b = h.1.0.1 in omega arith)
act_in_range (PokeLocal p i v) h = (let a = h.0.1 in omega arith, let b = h.1.0.1 in omega arith)
act_in_range (Drive p posted) h = let a = h.0.1 in omega arith
act_in_range (Mute p) h = let a = h.0.1 in omega arith
act_in_range (Remove p) h = let a = h.0.1 in omega arith
act_in_range (Revive p) h = let a = h.0.1 in omega arith
act_in_range (Mend board) h = let a = h.0.1 in omega arith
act_in_range (Board (Dead board)) h = let a = h.0.1 in omega arith
act_in_range (Board (Flip board index bit)) h = (let a = h.0.1 in omega arith, let b = h.1.0.1 in omega arith, let d = h.1.1.0.1 in omega arith)
