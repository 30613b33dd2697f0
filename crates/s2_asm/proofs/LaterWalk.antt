-- The second pass over the lines of a text.
use Rattle.std.proofs.Common.{◌≡◌, ℕ, ◌+◌, ◌<◌, ◌≤◌, true, List, [], ◌∷◌, ◌++◌, length, Option, Some, None, Result, Ok, Err, refl, sym, ap, ◌∙◌, subst, append_assoc, arith, inl, inr}
use Rattle.arrayvec.specs.ArrayVec.{ArrayVec}
use Rattle.s2_text.proofs.LiteralWords.{cases}
use Rattle.s2_text.specs.LineTables.{ReadsLine}
use Rattle.s2_text.specs.declared.stops.BadLine.{BadLine}
use Rattle.s2_mnemonics.specs.declared.line.Line.{Line}
use Rattle.s2_mnemonics.specs.declared.line.Line.TheVariants.{Org, Entry, Word, Label, Plain, Jump, Branch}
use Rattle.s2_mnemonics.specs.TextTable.{text_rows}
use Rattle.s2_asm.specs.TextMeaning.{Say, after_all, labels_from, Parts, later_fault_by}
use Rattle.s2_asm.specs.LineFaults.{IsWritten}
use Rattle.std.specs.Prelude.{OnErr, IfOk}
use Rattle.std.proofs.lemmas.List.{append-nil, length-append}
use Rattle.std.specs.BTreeMap.{BTreeMap}
use Rattle.std.proofs.lemmas.Bool.Decides.{nat_tests}
use Rattle.s2_text.proofs.DisjointForms.{says_text}
use Rattle.s2_asm.specs.declared.fault.AsmFault.{AsmFault}
use Rattle.s2_asm.specs.declared.fault.AsmFail.{AsmFail}
use Rattle.s2_asm.specs.declared.fault.AsmFail.TheVariants.{Fault, Memory}
use Rattle.s2_program.specs.Programs.{PartData}
use Rattle.s2_program.specs.Programs.{ProgramData}
use Rattle.s2_asm.specs.declared.building.Building.{Building}
use Rattle.s2_asm.specs.TextMeaning.{text_lines, is_placed, word_fault, fault_of, NoFault, NoLater, entry_after, first_part}
use Rattle.s2_asm.specs.Cutting.{cut, Holds, PassesOne, FirstPass}
use Rattle.s2_asm.specs.Building.{views, built, next_of, HasPlace, Fails, LineBuilds, LaterLine, TakesLater, entry_or, MeansOnly, Assembled}
use Rattle.s2_asm.proofs.Walk.{cut_lines, cut_shorter}
use Rattle.s2_asm.proofs.Growing.{reads_one}
use Rattle.s2_asm.proofs.Stages.{Stage, stage_org, stage_entry, stage_label, stage_remark, stage_word}

pub record Later (text rest : List ℕ) (map : BTreeMap (ArrayVec ℕ) ℕ) (b : Building) (i : ℕ) : Type 0 where
  pub said : List (Option Line)
  pub say : Say (text_lines text) said
  pub clean : NoFault [] said
  pub holds : Holds map (labels_from None said)
  pub done : List (Option Line)
  pub coming : List (Option Line)
  pub parts : said ≡ done ++ coming
  pub ahead : Say (text_lines rest) coming
  pub stage : Stage (labels_from None said) b done
  pub count : length done ≡ i
  pub left : length rest + i ≤ length text

stage_start : (labels : List (List ℕ × ℕ)) (b : Building) → b.closed.items ≡ [] → b.open ≡ None → b.entry ≡ None → Stage labels b []
stage_start labels b closed none entry = record {
  parts = rw (closed, none) refl;
  next = ap next_of none;
  entry = λ e. rw entry refl;
  later = tt;
}

pub later_start : (text : List ℕ) (map : BTreeMap (ArrayVec ℕ) ℕ) (b : Building) → PassesOne (text_lines text) map → b.closed.items ≡ [] → b.open ≡ None → b.entry ≡ None → Later text text map b 0
later_start text map b p closed none entry = record {
  said = p.said;
  say = p.say;
  clean = p.clean;
  holds = p.holds;
  done = [];
  coming = p.said;
  parts = refl;
  ahead = p.say;
  stage = stage_start (labels_from None p.said) b closed none entry;
  count = refl;
  left = omega arith;
}

-- the next line
record First (rest : List ℕ) (coming : List (Option Line)) : Type 0 where
  l : Option Line
  others : List (Option Line)
  is : coming ≡ l ∷ others
  reads : ReadsLine text_rows (cut rest).0 (Ok l)
  ahead : Say (text_lines (cut rest).1) others

first_say : (rest line : List ℕ) (lines : List (List ℕ)) (coming : List (Option Line)) → line ≡ (cut rest).0 → lines ≡ text_lines (cut rest).1 → Say (line ∷ lines) coming → First rest coming
first_say rest line lines [] line_is lines_is say = absurd say
first_say rest line lines (l ∷ others) line_is lines_is say = record {
  l = l;
  others = others;
  is = refl;
  reads = subst (λ (t : List ℕ). ReadsLine text_rows t (Ok l)) line_is say.0;
  ahead = subst (λ (t : List (List ℕ)). Say t others) lines_is say.1;
}

first_of : (rest : List ℕ) (coming : List (Option Line)) → (length rest ≡ 0 → ⊥) → Say (text_lines rest) coming → First rest coming
first_of [] coming some say = absurd (some refl)
first_of (b ∷ bytes) coming some say = first_say (b ∷ bytes) (cut (b ∷ bytes)).0 (text_lines (cut (b ∷ bytes)).1) coming refl refl (subst (λ (t : List (List ℕ)). Say t coming) (cut_lines b bytes) say)

shorter : (rest : List ℕ) → (length rest ≡ 0 → ⊥) → length (cut rest).1 < length rest
shorter [] some = absurd (some refl)
shorter (b ∷ bytes) some = cut_shorter b bytes

-- ---- a word has a place

pub clean_at : (before done coming : List (Option Line)) (l : Option Line) → NoFault before (done ++ l ∷ coming) → fault_of (before ++ done) l ≡ None
clean_at before [] coming l clean = subst (λ (d : List (Option Line)). fault_of d l ≡ None) (sym (append-nil before)) clean.0
clean_at before (x ∷ done) coming l clean = subst (λ (d : List (Option Line)). fault_of d l ≡ None) (append_assoc before (x ∷ []) done) (clean_at (before ++ x ∷ []) done coming l clean.1)

placed_of : (words : ℕ) (here : Option ℕ) (n : ℕ) → word_fault words here n ≡ None → is_placed here ≡ true
placed_of words here n e =
    elim (cases (is_placed here)) [
      | inl fine ↦ fine
      | inr less ↦ absurd (let f = rw less at e in cc)
    ]

written_placed : (done : List (Option Line)) (l : Line) → IsWritten l → fault_of done (Some l) ≡ None → is_placed (after_all None done) ≡ true
written_placed done (Org y) written free = absurd written
written_placed done (Entry y) written free = absurd written
written_placed done (Label y) written free = absurd written
written_placed done (Word v) written free = placed_of _ (after_all None done) _ free
written_placed done (Plain i) written free = placed_of _ (after_all None done) _ free
written_placed done (Jump link to) written free = placed_of _ (after_all None done) _ free
written_placed done (Branch op s t to) written free = placed_of _ (after_all None done) _ free

has_place : (x : Option PartData) (h : Option ℕ) → next_of x ≡ h → is_placed h ≡ true → HasPlace x
has_place None h next placed = absurd (let f = rw (sym next) at placed in cc)
has_place (Some p) h next placed = (let f = rw (sym next) at placed in grind (arith, nat_tests))

pub later_place : (text rest line : List ℕ) (map : BTreeMap (ArrayVec ℕ) ℕ) (b : Building) (i : ℕ) → Later text rest map b i → (length rest ≡ 0 → ⊥) → line ≡ (cut rest).0 → (l : Line) → ReadsLine text_rows line (Ok (Some l)) → IsWritten l → HasPlace b.open
later_place text rest line map b i g some line_is l reads written =
    let f = first_of rest g.coming some g.ahead in
    let same : f.l ≡ Some l = reads_one (cut rest).0 f.l (Some l) f.reads (subst (λ (t : List ℕ). ReadsLine text_rows t (Ok (Some l))) line_is reads) in
    let all : g.said ≡ g.done ++ Some l ∷ f.others = g.parts ∙ ap (λ (t : List (Option Line)). g.done ++ t) (f.is ∙ ap (λ (o : Option Line). o ∷ f.others) same) in
    let free : fault_of g.done (Some l) ≡ None = clean_at [] g.done f.others (Some l) (subst (λ (t : List (Option Line)). NoFault [] t) all g.clean) in
    has_place b.open (after_all None g.done) g.stage.next (written_placed g.done l written free)

-- ---- one line more

builds_stage : (labels : List (List ℕ × ℕ)) (old new : Building) (done : List (Option Line)) (l : Line) (n : ℕ) → Stage labels old done → n ≡ length done + 1 → LineBuilds labels old new n l (Ok tt) → Stage labels new (done ++ Some l ∷ [])
builds_stage labels old new done (Org y) n g count b = stage_org labels old new done y g b
builds_stage labels old new done (Entry y) n g count b = stage_entry labels old new done y g b.0 b.1
builds_stage labels old new done (Label y) n g count b = stage_label labels old new done y g b.0 b.1
builds_stage labels old new done (Word v) n g count b = stage_word labels old new done (Word v) n g count refl b
builds_stage labels old new done (Plain i) n g count b = stage_word labels old new done (Plain i) n g count refl b
builds_stage labels old new done (Jump link to) n g count b = stage_word labels old new done (Jump link to) n g count refl b
builds_stage labels old new done (Branch op s t to) n g count b = stage_word labels old new done (Branch op s t to) n g count refl b

line_stage : (labels : List (List ℕ × ℕ)) (old new : Building) (done : List (Option Line)) (l : Option Line) (n : ℕ) → Stage labels old done → n ≡ length done + 1 → LaterLine labels old new n l (Ok tt) → Stage labels new (done ++ l ∷ [])
line_stage labels old new done None n s count b = subst (λ (x : Building). Stage labels x (done ++ None ∷ [])) (sym b.1) (stage_remark labels old done s)
line_stage labels old new done (Some l) n s count b = builds_stage labels old new done l n s count b.is

pub later_on : (text rest line more : List ℕ) (map : BTreeMap (ArrayVec ℕ) ℕ) (old new : Building) (i n : ℕ) → (g : Later text rest map old i) → (length rest ≡ 0 → ⊥) → line ≡ (cut rest).0 → more ≡ (cut rest).1 → n ≡ i + 1
    → ((list : List (List ℕ × ℕ)) → Holds map list → TakesLater list old new n line (Ok tt)) → Later text more map new (i + 1)
later_on text rest line more map old new i n g some line_is more_is n_is takes =
    let f = first_of rest g.coming some g.ahead in
    let size = shorter rest some in
    let step = (takes (labels_from None g.said) g.holds).is f.l (subst (λ (t : List ℕ). ReadsLine text_rows t (Ok f.l)) (sym line_is) f.reads) in
    record {
      said = g.said;
      say = g.say;
      clean = g.clean;
      holds = g.holds;
      done = g.done ++ f.l ∷ [];
      coming = f.others;
      parts = g.parts ∙ (ap (λ (t : List (Option Line)). g.done ++ t) f.is ∙ sym (append_assoc g.done (f.l ∷ []) f.others));
      ahead = subst (λ (t : List ℕ). Say (text_lines t) f.others) (sym more_is) f.ahead;
      stage = line_stage (labels_from None g.said) old new g.done f.l n g.stage (n_is ∙ (let c = g.count in omega arith)) step;
      count = (let c = g.count in omega (arith, length-append g.done (f.l ∷ [])));
      left = (let l = g.left in let m : length more ≡ length (cut rest).1 = ap (λ (t : List ℕ). length t) more_is in omega arith);
    }

fails_of : (labels : List (List ℕ × ℕ)) (old new : Building) (n : ℕ) (l : Line) (fault : AsmFault) → LineBuilds labels old new n l (Err (Fault fault)) → Fails labels old n l fault
fails_of labels old new n (Org y) fault b = b
fails_of labels old new n (Entry y) fault b = b
fails_of labels old new n (Label y) fault b = b
fails_of labels old new n (Word v) fault b = b
fails_of labels old new n (Plain i) fault b = b
fails_of labels old new n (Jump link to) fault b = b
fails_of labels old new n (Branch op s t to) fault b = b

line_fault : (labels : List (List ℕ × ℕ)) (old new : Building) (done : List (Option Line)) (l : Option Line) (n : ℕ) (fault : AsmFault) → Stage labels old done → n ≡ length done + 1 → LaterLine labels old new n l (Err (Fault fault)) → later_fault_by labels (after_all None done) (length done + 1) l ≡ Some fault
line_fault labels old new done None n fault s count b = absurd (let e = b.0 in cc)
line_fault labels old new done (Some l) n fault s count b =
    let f = fails_of labels old new n l fault b.is in
    subst (λ (h : Option ℕ). later_fault_by labels h (length done + 1) (Some l) ≡ Some fault) (sym f.next ∙ s.next) (subst (λ (k : ℕ). later_fault_by labels (Some f.at) k (Some l) ≡ Some fault) count f.is)

pub later_fails : (text rest line : List ℕ) (map : BTreeMap (ArrayVec ℕ) ℕ) (old new : Building) (i n : ℕ) (fail : AsmFail) → (g : Later text rest map old i) → (length rest ≡ 0 → ⊥) → line ≡ (cut rest).0 → n ≡ i + 1
    → ((list : List (List ℕ × ℕ)) → Holds map list → TakesLater list old new n line (Err fail)) → Assembled text (Err fail)
later_fails text rest line map old new i n Memory g some line_is n_is takes = tt
later_fails text rest line map old new i n (Fault fault) g some line_is n_is takes =
    let f = first_of rest g.coming some g.ahead in
    let step = (takes (labels_from None g.said) g.holds).is f.l (subst (λ (t : List ℕ). ReadsLine text_rows t (Ok f.l)) (sym line_is) f.reads) in
    inr (record {
      said = g.said;
      say = g.say;
      clean = g.clean;
      is = record {
        before = g.done;
        line = f.l;
        after_it = f.others;
        parts = g.parts ∙ ap (λ (t : List (Option Line)). g.done ++ t) f.is;
        clean = g.stage.later;
        fault_here = line_fault (labels_from None g.said) old new g.done f.l n fault g.stage (n_is ∙ (let c = g.count in omega arith)) step;
      };
    })

none_coming : (rest : List ℕ) (coming : List (Option Line)) → length rest ≡ 0 → Say (text_lines rest) coming → coming ≡ []
none_coming [] [] e say = refl
none_coming [] (x ∷ coming) e say = absurd say
none_coming (b ∷ rest) coming e say = absurd (omega arith)

means_done : (text : List ℕ) (b : Building) (said done : List (Option Line)) (entry : ℕ) (parts : List (ℕ × List (ℕ × ℕ))) → said ≡ done → Say (text_lines text) said → NoFault [] said → Stage (labels_from None said) b done → parts ≡ built b → entry ≡ entry_or b.entry (first_part (built b)) → MeansOnly text entry parts
means_done text b said done entry parts same say clean s parts_is entry_is =
    let p : Parts (labels_from None said) said parts = subst (λ (d : List (Option Line)). Parts (labels_from None said) d parts) (sym same) (rw parts_is s.parts) in
    let e : entry ≡ entry_after (first_part parts) said = entry_is ∙ (sym (s.entry (first_part (built b))) ∙ (rw (parts_is, same) refl)) in
    record {
      means = (said, say, p, e);
      clean = clean;
      later = subst (λ (d : List (Option Line)). NoLater (labels_from None said) [] d) (sym same) s.later;
    }

pub later_done : (text rest : List ℕ) (map : BTreeMap (ArrayVec ℕ) ℕ) (b : Building) (i : ℕ) (r : Result ProgramData AsmFail) → Later text rest map b i → length rest ≡ 0 → IfOk r (λ p. views p.parts ≡ built b) → IfOk r (λ p. p.entry ≡ entry_or b.entry (first_part (built b))) → OnErr r (r ≡ Err Memory) → Assembled text r
later_done text rest map b i (Ok p) g none parts entry memory =
    let c = none_coming rest g.coming none g.ahead in
    means_done text b g.said g.done p.entry (views p.parts) (g.parts ∙ (ap (λ (t : List (Option Line)). g.done ++ t) c ∙ append-nil g.done)) g.say g.clean g.stage parts entry
later_done text rest map b i (Err e) g none parts entry memory = subst (λ (x : Result ProgramData AsmFail). Assembled text x) (sym memory) tt

pub first_fails : (text : List ℕ) (fail : AsmFail) → FirstPass text (Err fail) → Assembled text (Err fail)
first_fails text Memory h = tt
first_fails text (Fault fault) h = inl h

-- ---- what was read is what the text says

pub read_again : (labels : List (List ℕ × ℕ)) (old new : Building) (n : ℕ) (line : List ℕ) (r : Result (Unit {0}) AsmFail) (l : Option Line) → ReadsLine text_rows line (Ok l) → LaterLine labels old new n l r → TakesLater labels old new n line r
read_again labels old new n line r l reads takes = record { is = λ k h. subst (λ (o : Option Line). LaterLine labels old new n o r) (reads_one line l k reads h) takes }

pub bad_or : (line : List ℕ) (bad : BadLine) (l : Option Line) → ReadsLine text_rows line (Err bad) → ReadsLine text_rows line (Ok l) → ⊥
bad_or line bad None h k = h.1.outside (inl k)
bad_or line bad (Some x) h k = h.1.outside (inr (says_text text_rows x line k))

pub read_bad : (labels : List (List ℕ × ℕ)) (old new : Building) (n : ℕ) (line : List ℕ) (r : Result (Unit {0}) AsmFail) (bad : BadLine) → ReadsLine text_rows line (Err bad) → TakesLater labels old new n line r
read_bad labels old new n line r bad reads = record { is = λ k h. absurd (bad_or line bad k reads h) }
