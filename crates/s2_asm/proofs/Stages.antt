-- What is built, line by line.
use Rattle.std.proofs.Common.{◌≡◌, ℕ, suc, ◌+◌, ◌*◌, Bool, true, false, List, [], ◌∷◌, ◌++◌, length, Option, Some, None, Result, Ok, Err, refl, sym, ap, ◌∙◌, subst, append_assoc, arith}
use Rattle.arrayvec.specs.ArrayVec.{ArrayVec}
use Rattle.s2_mnemonics.specs.declared.line.Line.{Line}
use Rattle.s2_mnemonics.specs.declared.line.Line.TheVariants.{Org, Entry, Word, Label, Plain, Jump, Branch}
use Rattle.s2_mnemonics.specs.LineWords.{LineWord}
use Rattle.s2_asm.specs.TextMeaning.{after, after_all, Parts, later_fault_by}
use Rattle.s2_asm.specs.LineFaults.{IsWritten, WordOrFault}
use Rattle.std.specs.Prelude.{OnOk, OnErr}
use Rattle.std.proofs.lemmas.List.{append-nil, length-append}
use Rattle.s2_asm.specs.declared.fault.AsmFail.{AsmFail}
use Rattle.s2_asm.specs.declared.fault.AsmFail.TheVariants.{Memory}
use Rattle.s2_program.specs.Programs.{PartData}
use Rattle.s2_asm.specs.declared.building.Building.{Building}
use Rattle.s2_asm.specs.TextMeaning.{addressed, entry_after, four_on, NoLater}
use Rattle.s2_asm.specs.Building.{view_part, views, built, next_of, Opens, Same, Begins, Writes, LineBuilds, Builds, entry_or}
use Rattle.s2_asm.proofs.Steps.{after_more}
use Rattle.s2_asm.proofs.Growing.{is_word, parts_org, parts_same, parts_word}

pub views_more : (ps : List PartData) (p : PartData) → views (ps ++ p ∷ []) ≡ views ps ++ view_part p ∷ []
views_more [] p = refl
views_more (q ∷ ps) p = ap (λ (t : List (ℕ × List (ℕ × ℕ))). view_part q ∷ t) (views_more ps p)

pub nothing_opened : (ps : List (ℕ × List (ℕ × ℕ))) → ps ++ [] ≡ ps
nothing_opened ps = append-nil ps

-- the code's step
written_is : (labels : List (List ℕ × ℕ)) (old new : Building) (n : ℕ) (l : Line) → IsWritten l → Writes labels old new n l → LineBuilds labels old new n l (Ok tt)
written_is labels old new n (Org y) written w = absurd written
written_is labels old new n (Entry y) written w = absurd written
written_is labels old new n (Label y) written w = absurd written
written_is labels old new n (Word v) written w = w
written_is labels old new n (Plain i) written w = w
written_is labels old new n (Jump link to) written w = w
written_is labels old new n (Branch op s t to) written w = w

memory_is : (labels : List (List ℕ × ℕ)) (old new : Building) (n : ℕ) (l : Line) → LineBuilds labels old new n l (Err Memory)
memory_is labels old new n (Org y) = tt
memory_is labels old new n (Entry y) = tt
memory_is labels old new n (Label y) = tt
memory_is labels old new n (Word v) = tt
memory_is labels old new n (Plain i) = tt
memory_is labels old new n (Jump link to) = tt
memory_is labels old new n (Branch op s t to) = tt

pub word_builds : (labels : List (List ℕ × ℕ)) (old new : Building) (n at w : ℕ) (l : Line) (r : Result (Unit {0}) AsmFail) → IsWritten l → Some at ≡ next_of old.open → WordOrFault labels at n l (Ok w) → new.closed.items ≡ old.closed.items → OnOk r (Opens old.open w new.open) → new.entry ≡ old.entry → OnErr r (r ≡ Err Memory) → Builds labels old new n l r
word_builds labels old new n at w l (Ok u) written next gives closed opens entry memory =
    record { is = written_is labels old new n l written (record { at = at; word = w; next = sym next; clean = gives.0; gives = gives.1; closed = closed; opens = opens; entry = entry }) }
word_builds labels old new n at w l (Err e) written next gives closed opens entry memory = rw memory (record { is = memory_is labels old new n l })

-- ---- what is built stands for the lines

pub record Stage (labels : List (List ℕ × ℕ)) (b : Building) (done : List (Option Line)) : Type 0 where
  pub parts : Parts labels done (built b)
  pub next : next_of b.open ≡ after_all None done
  pub entry : (e : ℕ) → entry_after e done ≡ entry_or b.entry e
  pub later : NoLater labels [] done

abbrev is_entry : Option Line → Bool
is_entry (Some (Entry x)) = true
is_entry _ = false

entry_keeps : (e : ℕ) (done : List (Option Line)) (l : Option Line) → is_entry l ≡ false → entry_after e (done ++ l ∷ []) ≡ entry_after e done
entry_keeps e [] None other = refl
entry_keeps e [] (Some (Org y)) other = refl
entry_keeps e [] (Some (Entry y)) other = absurd cc
entry_keeps e [] (Some (Label y)) other = refl
entry_keeps e [] (Some (Word v)) other = refl
entry_keeps e [] (Some (Plain i)) other = refl
entry_keeps e [] (Some (Jump link to)) other = refl
entry_keeps e [] (Some (Branch op s t to)) other = refl
entry_keeps e (None ∷ done) l other = entry_keeps e done l other
entry_keeps e ((Some (Org y)) ∷ done) l other = entry_keeps e done l other
entry_keeps e ((Some (Entry y)) ∷ done) l other = entry_keeps y done l other
entry_keeps e ((Some (Label y)) ∷ done) l other = entry_keeps e done l other
entry_keeps e ((Some (Word v)) ∷ done) l other = entry_keeps e done l other
entry_keeps e ((Some (Plain i)) ∷ done) l other = entry_keeps e done l other
entry_keeps e ((Some (Jump link to)) ∷ done) l other = entry_keeps e done l other
entry_keeps e ((Some (Branch op s t to)) ∷ done) l other = entry_keeps e done l other

entry_sets : (e : ℕ) (done : List (Option Line)) (x : ℕ) → entry_after e (done ++ Some (Entry x) ∷ []) ≡ x
entry_sets e [] x = refl
entry_sets e (None ∷ done) x = entry_sets e done x
entry_sets e ((Some (Org y)) ∷ done) x = entry_sets e done x
entry_sets e ((Some (Entry y)) ∷ done) x = entry_sets y done x
entry_sets e ((Some (Label y)) ∷ done) x = entry_sets e done x
entry_sets e ((Some (Word v)) ∷ done) x = entry_sets e done x
entry_sets e ((Some (Plain i)) ∷ done) x = entry_sets e done x
entry_sets e ((Some (Jump link to)) ∷ done) x = entry_sets e done x
entry_sets e ((Some (Branch op s t to)) ∷ done) x = entry_sets e done x

later_more : (labels : List (List ℕ × ℕ)) (before done : List (Option Line)) (l : Option Line) → NoLater labels before done → later_fault_by labels (after_all None (before ++ done)) (length (before ++ done) + 1) l ≡ None → NoLater labels before (done ++ l ∷ [])
later_more labels before [] l clean free = (subst (λ (d : List (Option Line)). later_fault_by labels (after_all None d) (length d + 1) l ≡ None) (append-nil before) free, tt)
later_more labels before (x ∷ done) l clean free =
    (clean.0, later_more labels (before ++ x ∷ []) done l clean.1 (subst (λ (d : List (Option Line)). later_fault_by labels (after_all None d) (length d + 1) l ≡ None) (sym (append_assoc before (x ∷ []) done)) free))

free_org : (labels : List (List ℕ × ℕ)) (h : Option ℕ) (n x : ℕ) → later_fault_by labels h n (Some (Org x)) ≡ None
free_org labels None n x = refl
free_org labels (Some a) n x = refl

free_entry : (labels : List (List ℕ × ℕ)) (h : Option ℕ) (n x : ℕ) → later_fault_by labels h n (Some (Entry x)) ≡ None
free_entry labels None n x = refl
free_entry labels (Some a) n x = refl

free_label : (labels : List (List ℕ × ℕ)) (h : Option ℕ) (n : ℕ) (x : ArrayVec ℕ) → later_fault_by labels h n (Some (Label x)) ≡ None
free_label labels None n x = refl
free_label labels (Some a) n x = refl

free_remark : (labels : List (List ℕ × ℕ)) (h : Option ℕ) (n : ℕ) → later_fault_by labels h n None ≡ None
free_remark labels None n = refl
free_remark labels (Some a) n = refl

pub stage_org : (labels : List (List ℕ × ℕ)) (old new : Building) (done : List (Option Line)) (x : ℕ) → Stage labels old done → Begins old new x → Stage labels new (done ++ Some (Org x) ∷ [])
stage_org labels old new done x s b = record {
  parts = rw b.parts (parts_org labels done (built old) x s.parts);
  next = b.next ∙ sym (after_more None done (Some (Org x)));
  entry = λ e. entry_keeps e done (Some (Org x)) refl ∙ (s.entry e ∙ ap (λ (o : Option ℕ). entry_or o e) (sym b.entry));
  later = later_more labels [] done (Some (Org x)) s.later (free_org labels (after_all None done) (length done + 1) x);
}

same_built : (old new : Building) → Same old new → built new ≡ built old
same_built old new s = rw (s.closed, s.open_part) refl

pub stage_entry : (labels : List (List ℕ × ℕ)) (old new : Building) (done : List (Option Line)) (x : ℕ) → Stage labels old done → Same old new → new.entry ≡ Some x → Stage labels new (done ++ Some (Entry x) ∷ [])
stage_entry labels old new done x s same entry = record {
  parts = rw (same_built old new same) (parts_same labels done (built old) (Some (Entry x)) refl refl s.parts);
  next = ap next_of same.open_part ∙ (s.next ∙ sym (after_more None done (Some (Entry x))));
  entry = λ e. entry_sets e done x ∙ ap (λ (o : Option ℕ). entry_or o e) (sym entry);
  later = later_more labels [] done (Some (Entry x)) s.later (free_entry labels (after_all None done) (length done + 1) x);
}

pub stage_label : (labels : List (List ℕ × ℕ)) (old new : Building) (done : List (Option Line)) (x : ArrayVec ℕ) → Stage labels old done → Same old new → new.entry ≡ old.entry → Stage labels new (done ++ Some (Label x) ∷ [])
stage_label labels old new done x s same entry = record {
  parts = rw (same_built old new same) (parts_same labels done (built old) (Some (Label x)) refl refl s.parts);
  next = ap next_of same.open_part ∙ (s.next ∙ sym (after_more None done (Some (Label x))));
  entry = λ e. entry_keeps e done (Some (Label x)) refl ∙ (s.entry e ∙ ap (λ (o : Option ℕ). entry_or o e) (sym entry));
  later = later_more labels [] done (Some (Label x)) s.later (free_label labels (after_all None done) (length done + 1) x);
}

pub stage_remark : (labels : List (List ℕ × ℕ)) (b : Building) (done : List (Option Line)) → Stage labels b done → Stage labels b (done ++ None ∷ [])
stage_remark labels b done s = record {
  parts = parts_same labels done (built b) None refl refl s.parts;
  next = s.next ∙ sym (after_more None done None);
  entry = λ e. entry_keeps e done None refl ∙ s.entry e;
  later = later_more labels [] done None s.later (free_remark labels (after_all None done) (length done + 1));
}

addressed_more : (a : ℕ) (ws : List ℕ) (w : ℕ) → addressed a (ws ++ w ∷ []) ≡ addressed a ws ++ (a + 4 * length ws, w) ∷ []
addressed_more a [] w = (let e : a ≡ a + 4 * 0 = omega arith in ap (λ (x : ℕ). (x, w) ∷ []) e)
addressed_more a (v ∷ ws) w =
    let e : (a + 4) + 4 * length ws ≡ a + 4 * suc (length ws) = omega arith in
    ap (λ (t : List (ℕ × ℕ)). (a, v) ∷ t) (addressed_more (a + 4) ws w ∙ ap (λ (x : ℕ). addressed (a + 4) ws ++ (x, w) ∷ []) e)

word_after : (h : Option ℕ) (l : Line) → is_word (Some l) ≡ true → after h (Some l) ≡ four_on h
word_after h (Org y) e = absurd cc
word_after h (Entry y) e = absurd cc
word_after h (Label y) e = absurd cc
word_after h (Word v) e = refl
word_after h (Plain i) e = refl
word_after h (Jump link to) e = refl
word_after h (Branch op s t to) e = refl

word_entry : (l : Line) → is_word (Some l) ≡ true → is_entry (Some l) ≡ false
word_entry (Org y) e = refl
word_entry (Entry y) e = absurd cc
word_entry (Label y) e = refl
word_entry (Word v) e = refl
word_entry (Plain i) e = refl
word_entry (Jump link to) e = refl
word_entry (Branch op s t to) e = refl

some_same : (x y : ℕ) → Some x ≡ Some y → x ≡ y
some_same x y e = cc

-- a word more in the open part, seen as a part
one_more : (p q : PartData) (a w : ℕ) → Opens (Some p) w (Some q) → next_of (Some p) ≡ Some a → (view_part q ≡ (p.at, addressed p.at p.words ++ (a, w) ∷ [])) × (next_of (Some q) ≡ Some (a + 4))
one_more p q a w o next =
    let here : p.at + 4 * length p.words ≡ a = some_same _ a next in
    let size : length q.words ≡ length p.words + 1 = ap (λ (t : List ℕ). length t) o.1 ∙ length-append p.words (w ∷ []) in
    let place : q.at + 4 * length q.words ≡ a + 4 = (let e = o.0 in omega arith) in
    ((rw (o.0, o.1, addressed_more p.at p.words w, here) refl), ap Some place)

built_word : (old new : Building) (x y : Option PartData) (a w : ℕ) → old.open ≡ x → new.open ≡ y → new.closed.items ≡ old.closed.items → Opens x w y → next_of x ≡ Some a
    → (labels : List (List ℕ × ℕ)) (done : List (Option Line)) (l : Line) → Parts labels done (built old) → after_all None done ≡ Some a → is_word (Some l) ≡ true → LineWord labels a l w
    → Parts labels (done ++ Some l ∷ []) (built new) × (next_of new.open ≡ Some (a + 4))
built_word old new None y a w from to closed o next labels done l parts here written is = absurd o
built_word old new (Some p) None a w from to closed o next labels done l parts here written is = absurd o
built_word old new (Some p) (Some q) a w from to closed o next labels done l parts here written is =
    let m = one_more p q a w o next in
    let g : Parts labels done (views old.closed.items ++ view_part p ∷ []) = rw from at parts in
    let h = parts_word labels done (views old.closed.items) p.at (addressed p.at p.words) a l w g here written is in
    (rw (closed, to, m.0) h, rw to m.1)

word_free : (labels : List (List ℕ × ℕ)) (a n m : ℕ) (h : Option ℕ) (l : Line) → n ≡ m → h ≡ Some a → later_fault_by labels (Some a) n (Some l) ≡ None → later_fault_by labels h m (Some l) ≡ None
word_free labels a n m h l count here clean =
    subst (λ (o : Option ℕ). later_fault_by labels o m (Some l) ≡ None) (sym here) (subst (λ (k : ℕ). later_fault_by labels (Some a) k (Some l) ≡ None) count clean)

pub stage_word : (labels : List (List ℕ × ℕ)) (old new : Building) (done : List (Option Line)) (l : Line) (n : ℕ) → Stage labels old done → n ≡ length done + 1 → is_word (Some l) ≡ true → Writes labels old new n l → Stage labels new (done ++ Some l ∷ [])
stage_word labels old new done l n s count written w =
    let here : after_all None done ≡ Some w.at = sym s.next ∙ w.next in
    let b = built_word old new old.open new.open w.at w.word refl refl w.closed w.opens w.next labels done l s.parts here written w.gives in
    record {
      parts = b.0;
      next = b.1 ∙ sym (after_more None done (Some l) ∙ (word_after (after_all None done) l written ∙ ap four_on here));
      entry = λ e. entry_keeps e done (Some l) (word_entry l written) ∙ (s.entry e ∙ ap (λ (o : Option ℕ). entry_or o e) (sym w.entry));
      later = later_more labels [] done (Some l) s.later (word_free labels w.at n (length done + 1) (after_all None done) l count here w.clean);
    }
