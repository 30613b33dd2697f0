-- The line of a proper entry is a line of the table, and says the entry.
use Rattle.std.proofs.Common.{◌≡◌, [], ◌∷◌, refl, ap, inl, inr}
use Rattle.s2_ports.specs.declared.requests.Kind.{Kind}
use Rattle.s2_ports.specs.declared.requests.Kind.TheVariants.{Load, Store, Sync}
use Rattle.s2_ports.specs.declared.events.Event.TheVariants.{Tick, Key, Private}
use Rattle.s2_ports.specs.declared.events.BoardFault.TheVariants.{Dead, Flip}
use Rattle.s2_text.specs.LineGrammar.{nums}
use Rattle.s2_text.specs.LineTables.{SaysIn}
use Rattle.s2_script.specs.declared.entry.Act.TheVariants.{Event as Happens, Poke, PokeLocal, Drive, Mute, Remove, Revive, Board, Mend}
use Rattle.s2_script.specs.declared.entry.Entry.{Entry}
use Rattle.s2_script.specs.declared.entry.Entry.TheVariants.{Ticks, One}
use Rattle.s2_script.specs.ScriptLines.{script_rows, kind_of, letter_of, numbers_of, IsProperEntry, entry_text}

same_kind : (k : Kind) → k ≡ kind_of (letter_of k)
same_kind Load = refl
same_kind Store = refl
same_kind Sync = refl

pub in_table : (e : Entry) → IsProperEntry e → SaysIn script_rows e (entry_text e)
in_table (Ticks m n) h = inl (nums (m ∷ n ∷ []), h, refl, refl)
in_table (One (Happens Tick)) h = inr (inl ([], h, refl, refl))
in_table (One (Happens (Key b))) h = inr (inr (inl (nums (b ∷ []), h, refl, refl)))
in_table (One (Happens (Private a b c))) h = absurd h
in_table (One (Poke p k v)) h = inr (inr (inr (inl (nums (p ∷ k ∷ v ∷ []), h, refl, refl))))
in_table (One (PokeLocal p i v)) h = inr (inr (inr (inr (inl (nums (p ∷ i ∷ v ∷ []), h, refl, refl)))))
in_table (One (Drive p d)) h =
    inr (inr (inr (inr (inr (inl (nums (numbers_of (One (Drive p d))), h, refl, ap (λ (k : Kind). One (Drive p (record { request = record { kind = k; address = d.request.address; word = d.request.word; mask = d.request.mask; run = d.request.run }; seen = d.seen }))) (same_kind d.request.kind)))))))
in_table (One (Mute p)) h = inr (inr (inr (inr (inr (inr (inl (nums (p ∷ []), h, refl, refl)))))))
in_table (One (Remove p)) h = inr (inr (inr (inr (inr (inr (inr (inl (nums (p ∷ []), h, refl, refl))))))))
in_table (One (Revive p)) h = inr (inr (inr (inr (inr (inr (inr (inr (inl (nums (p ∷ []), h, refl, refl)))))))))
in_table (One (Board (Dead b))) h = inr (inr (inr (inr (inr (inr (inr (inr (inr (inl (nums (b ∷ []), h, refl, refl))))))))))
in_table (One (Board (Flip b i t))) h = inr (inr (inr (inr (inr (inr (inr (inr (inr (inr (inl (nums (b ∷ i ∷ t ∷ []), h, refl, refl)))))))))))
in_table (One (Mend b)) h = inr (inr (inr (inr (inr (inr (inr (inr (inr (inr (inr (inl (nums (b ∷ []), h, refl, refl))))))))))))
