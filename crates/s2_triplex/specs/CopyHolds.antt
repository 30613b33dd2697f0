-- A reintegration within the ticks: at an agreed Sync words are set to be copied; then the machine holds, and a
-- word is copied in each tick; the last saved word brings the processor in.
use Rattle.std.specs.Prelude.{ℕ, ◌+◌, ◌==◌, ◌||◌, ◌&&◌, not, List, [], ◌∷◌, Bool, true, false, Some, None, slice_index_or, slice_set, if◌then◌else◌}
use Rattle.std.specs.declared.option.Option.{Option}
use Rattle.s2_clock.specs.ClockWatch.{is_firing, windows_after}
use Rattle.s2_join.specs.declared.item.Item.{Item}
use Rattle.s2_join.specs.declared.item.Item.TheVariants.{Local, Saved}
use Rattle.s2_join.specs.CopyOrder.{CopyState, copy_after_sync, copy_after_item, none_left, is_last_item}
use Rattle.s2_voter.specs.VoterState.{VoterState, is_member}
use Rattle.s2_triplex.specs.declared.membership.Membership.{Membership}
use Rattle.s2_triplex.specs.declared.membership.Membership.TheVariants.{In}
use Rattle.s2_triplex.specs.ModuleState.{ModuleState}
use Rattle.s2_triplex.specs.ModuleFiring.{module_idled}
use Rattle.s2_triplex.specs.ModuleFaults.{module_unmarked, module_restored}
use Rattle.s2_triplex.specs.TriplexState.{TriplexState, Reintegration, three_of, module_at, membership_at}

-- the member that is lowest in number
abbrev pub lowest_member : VoterState → ℕ
lowest_member v = if is_member v 0 then 0 else if is_member v 1 then 1 else 2

-- the pages that are clean after these marks were taken over: a marked page is not
abbrev pub clean_without : List Bool → List Bool → List Bool
clean_without [] marks = []
clean_without (clean ∷ rest) [] = clean ∷ rest
clean_without (clean ∷ rest) (mark ∷ marks) = (clean && not mark) ∷ clean_without rest marks

-- an agreed Sync takes over the marks of the lowest member and sets the words to copy
abbrev pub copying_after_sync : TriplexState → CopyState → CopyState
copying_after_sync d j = copy_after_sync (record j { clean = clean_without j.clean (module_at d.modules (lowest_member d.voter)).marks })

-- the marks of the members are cleared
abbrev pub unmarked_if : Bool → ModuleState → ModuleState
unmarked_if true m = module_unmarked m
unmarked_if false m = m

abbrev pub unmarked_at : TriplexState → ℕ → ModuleState
unmarked_at d p = unmarked_if (is_member d.voter p) (module_at d.modules p)

abbrev pub hold_begun : TriplexState → Option Reintegration → TriplexState
hold_begun d None = d
hold_begun d (Some j) = record d { modules = three_of (unmarked_at d); reintegration = Some (record j { copying = copying_after_sync d j.copying }) }

-- after an agreed Sync
abbrev pub hold_begun_if : Bool → TriplexState → TriplexState
hold_begun_if true d = hold_begun d d.reintegration
hold_begun_if false d = d

-- the machine holds where words are still to copy
abbrev pub is_holding : Option Reintegration → Bool
is_holding None = false
is_holding (Some j) = not (none_left j.copying.left)

-- in a hold a firing is counted alone
abbrev pub idled_if : Bool → ModuleState → ModuleState
idled_if true m = module_idled m
idled_if false m = m

abbrev pub idled_at : TriplexState → ℕ → ℕ → ModuleState
idled_at d mask p = idled_if (is_firing mask p) (module_at d.modules p)

-- the time that passes in a tick of a hold; the members resume anew
abbrev pub after_idle_tick : TriplexState → ℕ → TriplexState
after_idle_tick d mask = record d {
  modules = three_of (idled_at d mask);
  ticks = d.ticks + 1;
  windows = windows_after mask d.tainted d.windows;
  resumed = d.ticks + 1;
}

-- one word less is to copy
abbrev pub after_copy : Reintegration → Reintegration
after_copy j = record j { copying = copy_after_item j.copying; copied = j.copied + 1 }

-- a word of the local list is copied from the lowest member to the joining processor, and marks no page
abbrev pub word_set_if : Bool → ℕ → ℕ → ModuleState → ModuleState
word_set_if true i v m = record m { local = slice_set m.local i v }
word_set_if false i v m = m

abbrev pub word_copied_at : TriplexState → Reintegration → ℕ → ℕ → ModuleState
word_copied_at d j i p = word_set_if (j.copying.joiner == p) i (slice_index_or (module_at d.modules (lowest_member d.voter)).local i 0) (module_at d.modules p)

abbrev pub word_copied : TriplexState → Reintegration → ℕ → TriplexState
word_copied d j i = record d { modules = three_of (word_copied_at d j i); reintegration = Some (after_copy j) }

-- the joining processor is in
abbrev pub membership_joined : Bool → Membership → Membership
membership_joined true membership = In
membership_joined false membership = membership

-- it stays tainted where an act disturbed it meanwhile
abbrev pub tainted_if : Bool → Option ℕ → Option ℕ
tainted_if true tainted = tainted
tainted_if false tainted = None

-- the end: the processor of each module is that of the lowest member, and all wait for nothing
abbrev pub restored_at : TriplexState → ℕ → ModuleState
restored_at d p = module_restored (module_at d.modules (lowest_member d.voter)).cpu (module_at d.modules p)

abbrev pub joined : TriplexState → Reintegration → TriplexState
joined d j =
    let joiner = j.copying.joiner in
    record d {
      modules = three_of (restored_at d);
      memberships = three_of (λ p. membership_joined (joiner == p) (membership_at d.memberships p));
      voter = record d.voter { members = three_of (λ p. (joiner == p) || is_member d.voter p) };
      tainted = tainted_if j.disturbed d.tainted;
      reintegration = None;
    }

-- a saved word is copied; the last one is the end
abbrev pub saved_word_copied : Bool → TriplexState → Reintegration → TriplexState
saved_word_copied true d j = joined d j
saved_word_copied false d j = record d { reintegration = Some (after_copy j) }

-- the first word that is to copy is copied
abbrev pub item_copied : TriplexState → Reintegration → List Item → TriplexState
item_copied d j [] = d
item_copied d j (Local i ∷ left) = word_copied d j i
item_copied d j (Saved n ∷ left) = saved_word_copied (is_last_item (Saved n)) d j

abbrev pub copied : TriplexState → Option Reintegration → TriplexState
copied d None = d
copied d (Some j) = item_copied d j j.copying.left

-- a tick of a hold
abbrev pub after_hold_tick : TriplexState → ℕ → TriplexState
after_hold_tick d mask = copied (after_idle_tick d mask) d.reintegration
