-- An input has one run.
use Rattle.std.proofs.Common.{◌≡◌, ℕ, ◌+◌, List, [], ◌∷◌, ◌++◌, drop, length, append_assoc, append-nil, refl, sym, ap, arith, ◌∙◌, subst, inl, inr, ◌⊎◌}
use Rattle.std.specs.Prelude.{Some, None, is_some, true}
use Rattle.std.specs.declared.option.Option.{Option}
use Rattle.std.specs.declared.result.Result.{Result}
use Rattle.s2_text.specs.declared.stops.BadLine.{BadLine}
use Rattle.s2_script.specs.declared.entry.Entry.{Entry}
use Rattle.s2_journal.specs.declared.note.End.{End}
use Rattle.s2_triplex.specs.TriplexState.{TriplexState}
use Rattle.s2_text.specs.InputLines.{InputLine, lines_of, size_of}
use Rattle.s2_run.specs.ScriptRuns.{Stage, ScriptRun, resting, joined_runs, read_run, RunsText, RunsLine, RunsLines}
use Rattle.s2_run.specs.ScriptEndings.{RunsInput, bytes_taken}
use Rattle.s2_run.specs.ScriptLaws.{InputsHaveOneRun}
use Rattle.s2_run.proofs.FrameChoice.{one_reading}

-- ---- lines have one run

one_text : (line : ℕ) (d : TriplexState) (text : List ℕ) (run other : ScriptRun) → RunsText line d text run → RunsText line d text other → run ≡ other
one_text line d text run other x y = x.run_is ∙ (ap (λ (r : Result (Option Entry) BadLine). read_run line d r) (one_reading line text x.read y.read x.grammar y.grammar) ∙ sym y.run_is)

one_line : (line bytes : ℕ) (d : TriplexState) (text : List ℕ) (run other : ScriptRun) → RunsLine line bytes d text run → RunsLine line bytes d text other → run ≡ other
one_line line bytes d text run other (inl x) (inl y) = x.1 ∙ sym y.1
one_line line bytes d text run other (inl x) (inr y) = let over = x.0 in let few = y.0 in absurd (omega arith)
one_line line bytes d text run other (inr x) (inl y) = let few = x.0 in let over = y.0 in absurd (omega arith)
one_line line bytes d text run other (inr x) (inr y) = one_text line d text run other x.1 y.1

-- lines that have run up to an end, with the bytes to the end of the line that came to it
abbrev Stops : ℕ → ScriptRun → (ScriptRun → Option ℕ → Type 0) → ScriptRun → Option ℕ → Type 0
Stops bytes first More run taken = ((is_some first.end ≡ true) × (run ≡ first) × (taken ≡ Some bytes)) ⊎ ((first.end ≡ None) × (rest : ScriptRun) × More rest taken × (run ≡ joined_runs first rest))

abbrev RunUntil : ℕ → ℕ → TriplexState → List InputLine → ScriptRun → Option ℕ → Type 0
RunUntil line bytes d [] run taken = (run ≡ resting d) × (taken ≡ None)
RunUntil line bytes d (next ∷ lines) run taken =
    (first : ScriptRun) × RunsLine (line + 1) (bytes + next.size) d next.text first × Stops (bytes + next.size) first (RunUntil (line + 1) (bytes + next.size) first.state lines) run taken

pub not_both : (o : Option End) → is_some o ≡ true → o ≡ None → ⊥
not_both (Some e) h k = cc
not_both None h k = cc

abbrev Same : ScriptRun → ScriptRun → Option ℕ → Option ℕ → Type 0
Same run other taken other_taken = (run ≡ other) × (taken ≡ other_taken)

same_stop : (bytes : ℕ) (first : ScriptRun) (More : ScriptRun → Option ℕ → Type 0) (run other : ScriptRun) (t s : Option ℕ) → ((a b : ScriptRun) (m n : Option ℕ) → More a m → More b n → Same a b m n) → Stops bytes first More run t → Stops bytes first More other s → Same run other t s
same_stop bytes first More run other t s one (inl x) (inl y) = (x.1 ∙ sym y.1, x.2 ∙ sym y.2)
same_stop bytes first More run other t s one (inl x) (inr y) = absurd (not_both first.end x.0 y.0)
same_stop bytes first More run other t s one (inr x) (inl y) = absurd (not_both first.end y.0 x.0)
same_stop bytes first More run other t s one (inr (none, rest, more, is)) (inr (none', rest', more', is')) =
    let same = one rest rest' t s more more' in
    (is ∙ (ap (joined_runs first) same.0 ∙ sym is'), same.1)

one_until : (line bytes : ℕ) (d : TriplexState) (lines : List InputLine) (run other : ScriptRun) (t s : Option ℕ) → RunUntil line bytes d lines run t → RunUntil line bytes d lines other s → Same run other t s
one_until line bytes d [] run other t s x y = (x.0 ∙ sym y.0, x.1 ∙ sym y.1)
one_until line bytes d (next ∷ lines) run other t s (first, ran, stops) (first', ran', stops') =
    let same = one_line (line + 1) (bytes + next.size) d next.text first' first ran' ran in
    same_stop (bytes + next.size) first (RunUntil (line + 1) (bytes + next.size) first.state lines) run other t s (one_until (line + 1) (bytes + next.size) first.state lines) stops
    (subst (λ (f : ScriptRun). Stops (bytes + next.size) f (RunUntil (line + 1) (bytes + next.size) f.state lines) other s) same stops')

-- ---- a run of an input is one of its lines

until_all : (line bytes : ℕ) (d : TriplexState) (lines : List InputLine) (run : ScriptRun) → RunsLines line bytes d lines run → run.end ≡ None → RunUntil line bytes d lines run None
until_all line bytes d [] run is going = (is, refl)
until_all line bytes d (next ∷ lines) run (first, ran, inl (some, is)) going = absurd (not_both first.end some (ap (λ (r : ScriptRun). r.end) (sym is) ∙ going))
until_all line bytes d (next ∷ lines) run (first, ran, inr (none, rest, more, is)) going =
    (first, ran, inr (none, rest, until_all (line + 1) (bytes + next.size) first.state lines rest more (ap (λ (r : ScriptRun). r.end) (sym is) ∙ going), is))

until_end : (line bytes : ℕ) (d : TriplexState) (lines : List InputLine) (run : ScriptRun) (next : InputLine) (more : List InputLine) (last : ScriptRun) (at count : ℕ) →
    RunsLines line bytes d lines run → run.end ≡ None → at ≡ line + length lines + 1 → count ≡ bytes + size_of lines + next.size → RunsLine at count run.state next.text last → is_some last.end ≡ true →
    RunUntil line bytes d (lines ++ next ∷ more) (joined_runs run last) (Some count)
until_end line bytes d [] run next more last at count is going number size ran ends =
    let state : run.state ≡ d = ap (λ (r : ScriptRun). r.state) is in
    let none : run.stages ≡ [] = ap (λ (r : ScriptRun). r.stages) is in
    let number' : at ≡ line + 1 = omega arith in
    let size' : count ≡ bytes + next.size = omega arith in
    let first : RunsLine (line + 1) (bytes + next.size) d next.text last =
    subst (λ (q : TriplexState). RunsLine (line + 1) (bytes + next.size) q next.text last) state
    (subst (λ (n : ℕ). RunsLine n (bytes + next.size) run.state next.text last) number'
    (subst (λ (n : ℕ). RunsLine at n run.state next.text last) size' ran)) in
    (last, first, inl (ends, ap (λ (s : List Stage). record { state = last.state; stages = s ++ last.stages; end = last.end }) none, ap Some size'))
until_end line bytes d (x ∷ xs) run next more last at count (first, ran_first, inl (some, is)) going number size ran ends =
    absurd (not_both first.end some (ap (λ (r : ScriptRun). r.end) (sym is) ∙ going))
until_end line bytes d (x ∷ xs) run next more last at count (first, ran_first, inr (none, rest, rest_ran, is)) going number size ran ends =
    let rest_going : rest.end ≡ None = ap (λ (r : ScriptRun). r.end) (sym is) ∙ going in
    let state : run.state ≡ rest.state = ap (λ (r : ScriptRun). r.state) is in
    let stages : run.stages ≡ first.stages ++ rest.stages = ap (λ (r : ScriptRun). r.stages) is in (
      first,
      ran_first,
      inr (
        none,
        joined_runs rest last,
        until_end (line + 1) (bytes + x.size) first.state xs rest next more last at count rest_ran rest_going (omega arith) (omega arith) (subst (λ (q : TriplexState). RunsLine at count q next.text last) state ran) ends,
        ap (λ (s : List Stage). record { state = last.state; stages = s; end = last.end }) (ap (λ (s : List Stage). s ++ last.stages) stages ∙ append_assoc first.stages rest.stages last.stages),
      ),
    )

-- what is left of the input behind so many bytes, or at its end
abbrev left_behind : List ℕ → Option ℕ → Option (List ℕ)
left_behind input None = Some []
left_behind input (Some count) = Some (drop (bytes_taken count) input)

record IsUntil (d : TriplexState) (input : List ℕ) (run : ScriptRun) (left : Option (List ℕ)) : Type 0 where
  taken : Option ℕ
  ran : RunUntil 0 0 d (lines_of input) run taken
  left_is : left ≡ left_behind input taken

input_until : (d : TriplexState) (input : List ℕ) (run : ScriptRun) (left : Option (List ℕ)) → RunsInput d input run left → IsUntil d input run left
input_until d input run left (inl x) =
    let lines : x.place.before ≡ lines_of input = sym (x.place.lines_are ∙ (ap (λ (after : List InputLine). x.place.before ++ after) x.all ∙ append-nil x.place.before)) in
    record {
      taken = None;
      ran = subst (λ (ls : List InputLine). RunUntil 0 0 d ls run None) lines (until_all 0 0 d x.place.before run x.place.ran x.place.going);
      left_is = x.left_is;
    }
input_until d input run left (inr x) =
    let count = size_of x.place.before + x.line.size in
    let lines : x.place.before ++ x.line ∷ x.more ≡ lines_of input = sym (x.place.lines_are ∙ ap (λ (after : List InputLine). x.place.before ++ after) x.next) in
    record {
      taken = Some count;
      ran = subst (λ (ls : List InputLine). RunUntil 0 0 d ls run (Some count)) lines (subst (λ (r : ScriptRun). RunUntil 0 0 d (x.place.before ++ x.line ∷ x.more) r (Some count)) (sym x.run_is)
          (until_end 0 0 d x.place.before x.first x.line x.more x.last (length x.place.before + 1) count x.place.ran x.place.going (omega arith) (omega arith) x.ran x.ends));
      left_is = x.left_is;
    }

pub inputs_have_one_run : InputsHaveOneRun
inputs_have_one_run d input run other left other_left x y =
    let a = input_until d input run left x in
    let b = input_until d input other other_left y in
    let same = one_until 0 0 d (lines_of input) run other a.taken b.taken a.ran b.ran in
    (same.0, a.left_is ∙ (ap (left_behind input) same.1 ∙ sym b.left_is))
