-- The first pass over the lines of a text.
use Rattle.std.proofs.Common.{◌≡◌, ℕ, suc, ◌+◌, ◌<◌, ◌≤◌, List, [], ◌∷◌, ◌++◌, length, Option, None, Ok, Err, refl, sym, ap, ◌∙◌, subst, append_assoc, arith, inl, inr}
use Rattle.std.specs.Prelude.{◌==◌}
use Rattle.std.proofs.lemmas.List.{append-nil, length-append}
use Rattle.std.specs.BTreeMap.{BTreeMap, IsEmpty}
use Rattle.arrayvec.specs.ArrayVec.{ArrayVec}
use Rattle.s2_text.specs.InputLines.{lines_of}
use Rattle.s2_text.proofs.LiteralWords.{cases}
use Rattle.s2_text.proofs.PlainTexts.{with_text}
use Rattle.s2_text.specs.LineTables.{ReadsLine}
use Rattle.s2_mnemonics.specs.declared.line.Line.{Line}
use Rattle.s2_mnemonics.specs.TextTable.{text_rows}
use Rattle.s2_asm.specs.declared.fault.AsmFail.{AsmFail}
use Rattle.s2_asm.specs.declared.fault.AsmFail.TheVariants.{Fault, Memory}
use Rattle.s2_asm.specs.declared.progress.Progress.{Progress}
use Rattle.s2_asm.specs.TextMeaning.{text_lines, Say, fault_of, NoFault}
use Rattle.s2_asm.specs.Cutting.{cut, Bounded, Stands, TakesOne, FirstPass}

-- ---- lines

pub cut_lines : (b : ℕ) (bytes : List ℕ) → text_lines (b ∷ bytes) ≡ (cut (b ∷ bytes)).0 ∷ text_lines (cut (b ∷ bytes)).1
cut_lines b [] =
    elim (cases (b == 10)) [
      | inl feed ↦ rw feed refl
      | inr other ↦ rw other refl
    ]
cut_lines b (c ∷ bytes) =
    elim (cases (b == 10)) [
      | inl feed ↦ rw feed refl
      | inr other ↦ rw other (with_text b (lines_of (c ∷ bytes)) (cut (c ∷ bytes)).0 (text_lines (cut (c ∷ bytes)).1) (cut_lines c bytes))
    ]

cut_size : (bytes : List ℕ) → length (cut bytes).1 ≤ length bytes
cut_size [] = omega arith
cut_size (b ∷ bytes) =
    elim (cases (b == 10)) [
      | inl feed ↦ rw feed (omega arith)
      | inr other ↦ (let h = cut_size bytes in rw other (omega arith))
    ]

pub cut_shorter : (b : ℕ) (bytes : List ℕ) → length (cut (b ∷ bytes)).1 < length (b ∷ bytes)
cut_shorter b bytes =
    elim (cases (b == 10)) [
      | inl feed ↦ rw feed (omega arith)
      | inr other ↦ (let h = cut_size bytes in rw other (omega arith))
    ]

say_more : (before : List (List ℕ)) (said : List (Option Line)) (line : List ℕ) (l : Option Line) → Say before said → ReadsLine text_rows line (Ok l) → Say (before ++ line ∷ []) (said ++ l ∷ [])
say_more [] [] line l say reads = (reads, tt)
say_more [] (x ∷ said) line l say reads = absurd say
say_more (y ∷ before) [] line l say reads = absurd say
say_more (y ∷ before) (x ∷ said) line l say reads = (say.0, say_more before said line l say.1 reads)

say_long : (before : List (List ℕ)) (said : List (Option Line)) → Say before said → length before ≡ length said
say_long [] [] say = refl
say_long [] (x ∷ said) say = absurd say
say_long (y ∷ before) [] say = absurd say
say_long (y ∷ before) (x ∷ said) say = ap suc (say_long before said say.1)

clean_more : (done said : List (Option Line)) (l : Option Line) → NoFault done said → fault_of (done ++ said) l ≡ None → NoFault done (said ++ l ∷ [])
clean_more done [] l clean free = (subst (λ (d : List (Option Line)). fault_of d l ≡ None) (append-nil done) free, tt)
clean_more done (x ∷ said) l clean free =
    (clean.0, clean_more (done ++ x ∷ []) said l clean.1 (subst (λ (d : List (Option Line)). fault_of d l ≡ None) (sym (append_assoc done (x ∷ []) said)) free))

-- ---- the walk

-- so many lines were taken, they have no fault, and they lead here
pub record Going (text rest : List ℕ) (p : Progress) (i : ℕ) : Type 0 where
  pub before : List (List ℕ)
  pub said : List (Option Line)
  pub parts : text_lines text ≡ before ++ text_lines rest
  pub say : Say before said
  pub clean : NoFault [] said
  pub stands : Stands p said
  pub count : length said ≡ i
  pub bounded : Bounded p
  pub left : length rest + i ≤ length text

pub going_start : (text : List ℕ) (map : BTreeMap (ArrayVec ℕ) ℕ) → IsEmpty map → Going text text (record { orgs = 0; words = 0; here = None; labels = map }) 0
going_start text map empty = record {
  before = [];
  said = [];
  parts = refl;
  say = tt;
  clean = tt;
  stands = record { orgs = refl; words = refl; here = refl; labels = λ q. rw empty refl };
  count = refl;
  bounded = record { orgs = omega arith; words = omega arith; here = tt };
  left = omega arith;
}

pub going_on : (text rest line more : List ℕ) (p new : Progress) (i n : ℕ) → Going text rest p i → (length rest ≡ 0 → ⊥) → line ≡ (cut rest).0 → more ≡ (cut rest).1 → n ≡ i + 1 → TakesOne p new line n (Ok tt) → Bounded new → Going text more new (i + 1)
going_on text [] line more p new i n g some line_is more_is n_is takes bounded = absurd (some refl)
going_on text (b ∷ bytes) line more p new i n g some line_is more_is n_is takes bounded =
    let one = takes.is g.said g.stands (n_is ∙ (let c = g.count in omega arith)) in
    let size = cut_shorter b bytes in
    record {
      before = g.before ++ line ∷ [];
      said = g.said ++ one.0 ∷ [];
      parts = g.parts ∙ (ap (λ (t : List (List ℕ)). g.before ++ t) (cut_lines b bytes) ∙ (rw (line_is, more_is) (sym (append_assoc g.before ((cut (b ∷ bytes)).0 ∷ []) (text_lines (cut (b ∷ bytes)).1)))));
      say = say_more g.before g.said line one.0 g.say one.1;
      clean = clean_more [] g.said one.0 g.clean one.2;
      stands = one.3;
      count = (let c = g.count in omega (arith, length-append g.said (one.0 ∷ [])));
      bounded = bounded;
      left = (let l = g.left in let m : length more ≡ length (cut (b ∷ bytes)).1 = ap (λ (t : List ℕ). length t) more_is in omega arith);
    }

pub going_fault : (text rest line : List ℕ) (p new : Progress) (i n : ℕ) (fail : AsmFail) → Going text rest p i → (length rest ≡ 0 → ⊥) → line ≡ (cut rest).0 → n ≡ i + 1 → TakesOne p new line n (Err fail) → FirstPass text (Err fail)
going_fault text [] line p new i n fail g some line_is n_is takes = absurd (some refl)
going_fault text (b ∷ bytes) line p new i n Memory g some line_is n_is takes = tt
going_fault text (b ∷ bytes) line p new i n (Fault fault) g some line_is n_is takes =
    record {
      before = g.before;
      line = line;
      after_it = text_lines (cut (b ∷ bytes)).1;
      parts = g.parts ∙ (ap (λ (t : List (List ℕ)). g.before ++ t) (cut_lines b bytes) ∙ (rw line_is refl));
      said = g.said;
      say = g.say;
      clean = g.clean;
      fault_here = takes.is g.said g.stands (n_is ∙ (let c = g.count in omega arith));
    }

pub going_done : (text rest : List ℕ) (p : Progress) (i : ℕ) → Going text rest p i → length rest ≡ 0 → FirstPass text (Ok p.labels)
going_done text [] p i g none =
    record {
      said = g.said;
      say = subst (λ (t : List (List ℕ)). Say t g.said) (sym (g.parts ∙ append-nil g.before)) g.say;
      clean = g.clean;
      holds = g.stands.labels;
    }
going_done text (b ∷ bytes) p i g none = absurd (omega arith)
