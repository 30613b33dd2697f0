-- What an agreed request does: it is performed once, on the boards, the devices or the events that wait. Before a
-- store to PRIV the private values of the processors that agree are delivered.
use Rattle.std.specs.Prelude.{ℕ, ◌-◌, List, [], ◌∷◌, ◌++◌, take, drop, Some, None, if◌then◌else◌}
use Rattle.std.specs.declared.option.Option.{Option}
use Rattle.s2_base.specs.Map.{place_at}
use Rattle.s2_base.specs.declared.places.Place.{Place}
use Rattle.s2_base.specs.declared.places.Place.TheVariants.{Local, Boot, Global, Device as DevicePlace, Nowhere}
use Rattle.s2_ports.specs.declared.events.Event.{Event}
use Rattle.s2_ports.specs.declared.requests.Request.{Request}
use Rattle.s2_ports.specs.declared.requests.Posted.{Posted}
use Rattle.s2_ports.specs.declared.requests.Kind.{Kind}
use Rattle.s2_ports.specs.declared.requests.Kind.TheVariants.{Load, Store, Sync}
use Rattle.s2_private.specs.PrivateValues.{gathered}
use Rattle.s2_agree.specs.AgreedCount.{agreed_count}
use Rattle.s2_device.specs.DeviceState.{Device, device_after}
use Rattle.s2_revive.specs.MendingBoards.{MendingBoards, MendingRead, memory_of}
use Rattle.s2_voter.specs.VoterState.{VoterState, latch_of}
use Rattle.s2_voter.specs.RequestEquality.{is_same_request}
use Rattle.s2_machine.specs.declared.deliveries.Delivery.{Delivery}
use Rattle.s2_machine.specs.OutsideAccess.{AccessResult}
use Rattle.s2_machine.specs.PrivateArea.{stores_at}
use Rattle.s2_machine.specs.Cores.{halt_after}
use Rattle.s2_triplex.specs.TriplexCores.{TriplexCore}
use Rattle.s2_triplex.specs.ModuleState.{ModuleState}
use Rattle.s2_triplex.specs.TriplexState.{TriplexState, three_of, module_at}

-- a word that was rewritten: the board and the word's index
pub record RepairedWord : Type 0 where
  pub board : ℕ
  pub index : ℕ

-- the word read, the boards, devices and waiting events after the access, the events delivered so far, the halt
-- value, the byte for the console, the deliveries, and the word that was rewritten
pub record VotedAccess : Type 0 where
  pub word : ℕ
  pub boards : MendingBoards
  pub device : Device
  pub inbox : List Event
  pub delivered : ℕ
  pub halt : Option ℕ
  pub out : Option ℕ
  pub deliveries : List Delivery
  pub repaired : Option RepairedWord

-- the devices after some events
abbrev pub device_after_events : Device → List Event → Device
device_after_events device [] = device
device_after_events device (e ∷ es) = device_after_events (device_after device e) es

-- these events, delivered at a run count
abbrev pub deliveries_at : ℕ → List Event → List Delivery
deliveries_at run [] = []
deliveries_at run (e ∷ es) = record { run = run; event = e } ∷ deliveries_at run es

-- the number of accepted events that a latch has seen, where it asks for this request
abbrev pub seen_of : Request → Option Posted → List ℕ
seen_of request None = []
seen_of request (Some posted) = if is_same_request request posted.request then posted.seen ∷ [] else []

-- the numbers that all latches with this request have seen, in the order of the processors
abbrev pub seen_in : VoterState → Request → List ℕ
seen_in v request = seen_of request (latch_of v 0) ++ (seen_of request (latch_of v 1) ++ seen_of request (latch_of v 2))

-- a synchronisation delivers the waiting events up to the agreed count, at its run count
abbrev pub sync_access : TriplexState → ℕ → ℕ → VotedAccess
sync_access d run count =
    let events = take (count - d.delivered) d.inbox in
    record {
      word = 0;
      boards = d.boards;
      device = device_after_events d.device events;
      inbox = drop (count - d.delivered) d.inbox;
      delivered = count;
      halt = d.halt;
      out = None;
      deliveries = deliveries_at run events;
      repaired = None;
    }

-- the place of a word that was rewritten on a board
abbrev pub global_index : Place → ℕ
global_index (Global i) = i
global_index (Local i) = 0
global_index (Boot i) = 0
global_index (DevicePlace i) = 0
global_index Nowhere = 0

abbrev pub repaired_at : ℕ → Option ℕ → Option RepairedWord
repaired_at address None = None
repaired_at address (Some board) = Some (record { board = board; index = global_index (place_at address) })

-- the private values of the three modules
abbrev pub private_values : List ModuleState → List ℕ
private_values modules = three_of (λ p. (module_at modules p).private)

-- the event of a store to PRIV: it is delivered before the store acts
abbrev pub private_events : TriplexState → Request → Kind → List Event
private_events d r kind = if stores_at kind (place_at r.address) then gathered d.voter r (private_values d.modules) ∷ [] else []

-- a load or a store acts on the boards and the devices, after these events at its run count
abbrev pub outside_access : TriplexState → Request → List Event → AccessResult → MendingRead → VotedAccess
outside_access d r events a s = record {
  word = a.word;
  boards = s.boards;
  device = a.device;
  inbox = d.inbox;
  delivered = d.delivered;
  halt = halt_after d.halt a.halt;
  out = a.out;
  deliveries = deliveries_at r.run events;
  repaired = repaired_at r.address s.repaired;
}

abbrev pub access_after : TriplexCore → TriplexState → Request → List Event → VotedAccess
access_after k d r events = outside_access d r events (k.core.access (memory_of d.boards) (device_after_events d.device events) r) (k.boards_after d.boards r)

-- what an agreed request of a kind does
abbrev pub access_of_kind : TriplexCore → TriplexState → Request → Kind → VotedAccess
access_of_kind k d r Sync = sync_access d r.run (agreed_count (seen_in d.voter r) d.delivered)
access_of_kind k d r Load = access_after k d r (private_events d r Load)
access_of_kind k d r Store = access_after k d r (private_events d r Store)

abbrev pub voted_access : TriplexCore → TriplexState → Request → VotedAccess
voted_access k d r = access_of_kind k d r r.kind
