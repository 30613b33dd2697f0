-- The steps of a repair, each as what it is to the three local lists, and that copied pages stay equal.
use Rattle.std.specs.Prelude.{ℕ, ◌≡◌, ◌<◌, true, false, List, [], ◌∷◌, length, slice_set}
use Rattle.s2_base.specs.declared.map.TheConstants.{LOCAL_WORDS}
use Rattle.s2_join.specs.declared.item.Item.{Item}
use Rattle.s2_join.specs.declared.item.Item.TheVariants.{Local, Saved}
use Rattle.s2_join.specs.CopyOrder.{CopyState, copy_start, copy_after_sync, copy_after_item, none_left, is_last_item}
use Rattle.s2_plant_laws.specs.DirtyPages.{is_marked, UnmarkedPagesStay, clean_without}
use Rattle.s2_plant_laws.specs.LocalReplicas.{LocalReplicas, replica_words, replica_marks, replica_word, joiner_of, lowest_member, IsMember, MembersEqual}
use Rattle.s2_plant_laws.specs.CopiedPages.{CopiedPages}

-- the repair of processor p begins
pub record IsRepairStart (p : ℕ) (new : LocalReplicas) : Type 0 where
  pub known : p < 3
  pub join : new.join ≡ copy_start p
  pub sizes : (q : ℕ) → q < 3 → length (replica_words new q) ≡ LOCAL_WORDS

-- copied pages are equal at the start, since there is none
abbrev pub CopiedPagesAtStart : Type 0
CopiedPagesAtStart = (p : ℕ) (new : LocalReplicas) → IsRepairStart p new → CopiedPages new

-- The members run on, each at its own speed, and the processor that joins stands still. Nothing is to copy.
pub record IsLocalRun (old new : LocalReplicas) : Type 0 where
  pub join : new.join ≡ old.join
  pub disturbed : new.disturbed ≡ old.disturbed
  pub joining : replica_words new (joiner_of old) ≡ replica_words old (joiner_of old)
  pub members : (q : ℕ) → IsMember old q → UnmarkedPagesStay (replica_words old q) (replica_marks old q) (replica_words new q) (replica_marks new q)
  pub sizes : (q : ℕ) → q < 3 → length (replica_words new q) ≡ length (replica_words old q)

-- a local run leaves copied pages equal
abbrev pub CopiedPagesAfterRun : Type 0
CopiedPagesAfterRun = (old new : LocalReplicas) → none_left old.join.left ≡ true → IsLocalRun old new → CopiedPages old → CopiedPages new

-- At an agreed Sync the marked pages of the lowest member are no longer clean.
abbrev pub join_with_marks : LocalReplicas → CopyState
join_with_marks old = record old.join { clean = clean_without old.join.clean (replica_marks old (lowest_member old)) }

-- all marks of members are cleared, and the local lists stay
pub record ClearsMarks (old new : LocalReplicas) : Type 0 where
  pub disturbed : new.disturbed ≡ old.disturbed
  pub locals : (q : ℕ) → q < 3 → replica_words new q ≡ replica_words old q
  pub cleared : (q page : ℕ) → IsMember old q → is_marked (replica_marks new q) page ≡ false

-- the words to copy are set from the pages that are clean, and the marks cleared
pub record IsCopySync (old new : LocalReplicas) : Type 0 where
  pub join : new.join ≡ copy_after_sync (join_with_marks old)
  pub clears : ClearsMarks old new

-- a Sync leaves copied pages equal
abbrev pub CopiedPagesAfterSync : Type 0
CopiedPagesAfterSync = (old new : LocalReplicas) → none_left old.join.left ≡ true → IsCopySync old new → MembersEqual old → CopiedPages old → CopiedPages new

-- A word is copied from the lowest member. A saved word changes no local list.
abbrev pub words_after_copy : LocalReplicas → Item → List ℕ
words_after_copy d (Local i) = slice_set (replica_words d (joiner_of d)) i (replica_word d (lowest_member d) i)
words_after_copy d (Saved k) = replica_words d (joiner_of d)

-- the first word that was to copy is copied
pub record IsWordCopy (item : Item) (left : List Item) (old new : LocalReplicas) : Type 0 where
  pub next : old.join.left ≡ item ∷ left
  pub join : new.join ≡ copy_after_item old.join
  pub disturbed : new.disturbed ≡ old.disturbed
  pub joining : replica_words new (joiner_of old) ≡ words_after_copy old item
  pub members : (q : ℕ) → IsMember old q → (replica_words new q ≡ replica_words old q) × (replica_marks new q ≡ replica_marks old q)

-- a word copied leaves copied pages equal
abbrev pub CopiedPagesAfterWord : Type 0
CopiedPagesAfterWord = (item : Item) (left : List Item) (old new : LocalReplicas) → IsWordCopy item left old new → is_last_item item ≡ false → MembersEqual old →
    CopiedPages old → CopiedPages new

-- An act on the processor that joins, which may change its local list in any way, or one that touches nothing
-- of all this.
pub record IsActInRepair (old new : LocalReplicas) : Type 0 where
  pub join : new.join ≡ old.join
  pub disturbed : (new.disturbed ≡ false) → (new.disturbed ≡ old.disturbed) × (replica_words new (joiner_of old) ≡ replica_words old (joiner_of old))
  pub members : (q : ℕ) → IsMember old q → (replica_words new q ≡ replica_words old q) × (replica_marks new q ≡ replica_marks old q)
  pub sizes : (q : ℕ) → q < 3 → length (replica_words new q) ≡ length (replica_words old q)

-- an act leaves copied pages equal
abbrev pub CopiedPagesAfterAct : Type 0
CopiedPagesAfterAct = (old new : LocalReplicas) → IsActInRepair old new → CopiedPages old → CopiedPages new

-- At the last saved word nothing else is to copy, and the three local lists are equal where no act disturbed
-- the processor that joins.
pub record IsRepairEnd (left : List Item) (d : LocalReplicas) : Type 0 where
  pub nothing : left ≡ []
  pub equal : d.disturbed ≡ false → (q : ℕ) → q < 3 → replica_words d q ≡ replica_words d (lowest_member d)

-- the last saved word ends a repair
abbrev pub ListsEqualAtLastWord : Type 0
ListsEqualAtLastWord = (item : Item) (left : List Item) (d : LocalReplicas) → d.join.left ≡ item ∷ left → is_last_item item ≡ true → MembersEqual d → CopiedPages d → IsRepairEnd left d
