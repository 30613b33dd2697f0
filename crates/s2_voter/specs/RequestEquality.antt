-- When two requests are equal, as a test that computes.
use Rattle.std.specs.Prelude.{◌==◌, ◌&&◌, Bool, true, false}
use Rattle.s2_ports.specs.declared.requests.Kind.{Kind}
use Rattle.s2_ports.specs.declared.requests.Kind.TheVariants.{Load, Store, Sync}
use Rattle.s2_ports.specs.declared.requests.Request.{Request}

-- whether two requests ask for a thing of one kind
abbrev pub is_same_kind : Kind → Kind → Bool
is_same_kind Load Load = true
is_same_kind Store Store = true
is_same_kind Sync Sync = true
is_same_kind a b = false

-- whether all five fields of two requests are equal
abbrev pub is_same_request : Request → Request → Bool
is_same_request a b = is_same_kind a.kind b.kind && ((a.address == b.address) && ((a.word == b.word) && ((a.mask == b.mask) && (a.run == b.run))))
