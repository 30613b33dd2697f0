-- What a line of a script says is in the ranges of its fields.
use Rattle.std.proofs.Common.{ℕ, List, [], ◌∷◌, refl, sym, subst, inl, inr}
use Rattle.std.specs.Prelude.{IsTrue}
use Rattle.s2_ports.specs.declared.requests.Kind.{Kind}
use Rattle.s2_ports.specs.declared.requests.Kind.TheVariants.{Load, Store, Sync}
use Rattle.s2_text.specs.LineGrammar.{is_one_of}
use Rattle.s2_text.specs.LineTables.{SaysIn}
use Rattle.s2_text.proofs.NumberForms.{SaysNumbers, numbers_said}
use Rattle.s2_script.specs.declared.entry.Entry.{Entry}
use Rattle.s2_script.specs.ScriptLines.{script_rows, ticks_row, tick_row, key_row, poke_row, local_row, drive_row, mute_row, remove_row, revive_row, dead_row, flip_row, mend_row, kind_letters, kind_of, letter_of, IsProperEntry}

ticks_proper : (x : Entry) → SaysNumbers ticks_row.form ticks_row.says x → IsProperEntry x
ticks_proper x ([], h, is) = absurd (h)
ticks_proper x (a ∷ [], h, is) = absurd (h.1)
ticks_proper x (a ∷ b ∷ [], h, is) = subst IsProperEntry (sym is) h
ticks_proper x (a ∷ b ∷ z ∷ zs, h, is) = absurd (h.1.1)

tick_proper : (x : Entry) → SaysNumbers tick_row.form tick_row.says x → IsProperEntry x
tick_proper x ([], h, is) = subst IsProperEntry (sym is) h
tick_proper x (z ∷ zs, h, is) = absurd (h)

key_proper : (x : Entry) → SaysNumbers key_row.form key_row.says x → IsProperEntry x
key_proper x ([], h, is) = absurd (h)
key_proper x (a ∷ [], h, is) = subst IsProperEntry (sym is) h
key_proper x (a ∷ z ∷ zs, h, is) = absurd (h.1)

poke_proper : (x : Entry) → SaysNumbers poke_row.form poke_row.says x → IsProperEntry x
poke_proper x ([], h, is) = absurd (h)
poke_proper x (a ∷ [], h, is) = absurd (h.1)
poke_proper x (a ∷ b ∷ [], h, is) = absurd (h.1.1)
poke_proper x (a ∷ b ∷ c ∷ [], h, is) = subst IsProperEntry (sym is) h
poke_proper x (a ∷ b ∷ c ∷ z ∷ zs, h, is) = absurd (h.1.1.1)

local_proper : (x : Entry) → SaysNumbers local_row.form local_row.says x → IsProperEntry x
local_proper x ([], h, is) = absurd (h)
local_proper x (a ∷ [], h, is) = absurd (h.1)
local_proper x (a ∷ b ∷ [], h, is) = absurd (h.1.1)
local_proper x (a ∷ b ∷ c ∷ [], h, is) = subst IsProperEntry (sym is) h
local_proper x (a ∷ b ∷ c ∷ z ∷ zs, h, is) = absurd (h.1.1.1)

mute_proper : (x : Entry) → SaysNumbers mute_row.form mute_row.says x → IsProperEntry x
mute_proper x ([], h, is) = absurd (h)
mute_proper x (a ∷ [], h, is) = subst IsProperEntry (sym is) h
mute_proper x (a ∷ z ∷ zs, h, is) = absurd (h.1)

remove_proper : (x : Entry) → SaysNumbers remove_row.form remove_row.says x → IsProperEntry x
remove_proper x ([], h, is) = absurd (h)
remove_proper x (a ∷ [], h, is) = subst IsProperEntry (sym is) h
remove_proper x (a ∷ z ∷ zs, h, is) = absurd (h.1)

revive_proper : (x : Entry) → SaysNumbers revive_row.form revive_row.says x → IsProperEntry x
revive_proper x ([], h, is) = absurd (h)
revive_proper x (a ∷ [], h, is) = subst IsProperEntry (sym is) h
revive_proper x (a ∷ z ∷ zs, h, is) = absurd (h.1)

dead_proper : (x : Entry) → SaysNumbers dead_row.form dead_row.says x → IsProperEntry x
dead_proper x ([], h, is) = absurd (h)
dead_proper x (a ∷ [], h, is) = subst IsProperEntry (sym is) h
dead_proper x (a ∷ z ∷ zs, h, is) = absurd (h.1)

flip_proper : (x : Entry) → SaysNumbers flip_row.form flip_row.says x → IsProperEntry x
flip_proper x ([], h, is) = absurd (h)
flip_proper x (a ∷ [], h, is) = absurd (h.1)
flip_proper x (a ∷ b ∷ [], h, is) = absurd (h.1.1)
flip_proper x (a ∷ b ∷ c ∷ [], h, is) = subst IsProperEntry (sym is) h
flip_proper x (a ∷ b ∷ c ∷ z ∷ zs, h, is) = absurd (h.1.1.1)

mend_proper : (x : Entry) → SaysNumbers mend_row.form mend_row.says x → IsProperEntry x
mend_proper x ([], h, is) = absurd (h)
mend_proper x (a ∷ [], h, is) = subst IsProperEntry (sym is) h
mend_proper x (a ∷ z ∷ zs, h, is) = absurd (h.1)

letter_is : (k : Kind) → IsTrue (is_one_of kind_letters (letter_of k))
letter_is Load = refl
letter_is Store = refl
letter_is Sync = refl

drive_proper : (x : Entry) → SaysNumbers drive_row.form drive_row.says x → IsProperEntry x
drive_proper x ([], h, is) = absurd (h)
drive_proper x (a ∷ [], h, is) = absurd (h.1)
drive_proper x (a ∷ b ∷ [], h, is) = absurd (h.1.1)
drive_proper x (a ∷ b ∷ c ∷ [], h, is) = absurd (h.1.1.1)
drive_proper x (a ∷ b ∷ c ∷ d ∷ [], h, is) = absurd (h.1.1.1.1)
drive_proper x (a ∷ b ∷ c ∷ d ∷ e ∷ [], h, is) = absurd (h.1.1.1.1.1)
drive_proper x (a ∷ b ∷ c ∷ d ∷ e ∷ f ∷ [], h, is) = absurd (h.1.1.1.1.1.1)
drive_proper x (a ∷ b ∷ c ∷ d ∷ e ∷ f ∷ g ∷ [], h, is) = subst IsProperEntry (sym is) (h.0, (letter_is (kind_of b), h.1.1))
drive_proper x (a ∷ b ∷ c ∷ d ∷ e ∷ f ∷ g ∷ z ∷ zs, h, is) = absurd (h.1.1.1.1.1.1.1)

-- an entry that a line says is in the ranges of its fields
pub said_proper : (x : Entry) (line : List ℕ) → SaysIn script_rows x line → IsProperEntry x
said_proper x line (inl h) = ticks_proper x (numbers_said ticks_row.form ticks_row.says x line refl h)
said_proper x line (inr (inl h)) = tick_proper x (numbers_said tick_row.form tick_row.says x line refl h)
said_proper x line (inr (inr (inl h))) = key_proper x (numbers_said key_row.form key_row.says x line refl h)
said_proper x line (inr (inr (inr (inl h)))) = poke_proper x (numbers_said poke_row.form poke_row.says x line refl h)
said_proper x line (inr (inr (inr (inr (inl h))))) = local_proper x (numbers_said local_row.form local_row.says x line refl h)
said_proper x line (inr (inr (inr (inr (inr (inl h)))))) = drive_proper x (numbers_said drive_row.form drive_row.says x line refl h)
said_proper x line (inr (inr (inr (inr (inr (inr (inl h))))))) = mute_proper x (numbers_said mute_row.form mute_row.says x line refl h)
said_proper x line (inr (inr (inr (inr (inr (inr (inr (inl h)))))))) = remove_proper x (numbers_said remove_row.form remove_row.says x line refl h)
said_proper x line (inr (inr (inr (inr (inr (inr (inr (inr (inl h))))))))) = revive_proper x (numbers_said revive_row.form revive_row.says x line refl h)
said_proper x line (inr (inr (inr (inr (inr (inr (inr (inr (inr (inl h)))))))))) = dead_proper x (numbers_said dead_row.form dead_row.says x line refl h)
said_proper x line (inr (inr (inr (inr (inr (inr (inr (inr (inr (inr (inl h))))))))))) = flip_proper x (numbers_said flip_row.form flip_row.says x line refl h)
said_proper x line (inr (inr (inr (inr (inr (inr (inr (inr (inr (inr (inr (inl h)))))))))))) = mend_proper x (numbers_said mend_row.form mend_row.says x line refl h)
said_proper x line (inr (inr (inr (inr (inr (inr (inr (inr (inr (inr (inr (inr (h))))))))))))) = absurd h
