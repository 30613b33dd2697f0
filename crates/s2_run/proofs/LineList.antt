-- The lines of an input, as far as its bytes are read.
use Rattle.std.proofs.Common.{◌≡◌, ℕ, zero, suc, ◌+◌, ◌≤◌, ◌<◌, Bool, true, false, cond, List, [], ◌∷◌, ◌++◌, ◌-◌, take, drop, length, append_assoc, append-nil, length-append, refl, sym, ap, arith, ◌∙◌, subst}
use Rattle.std.specs.Prelude.{Some, None, Ok, ◌==◌, nat_lt, not, ◌&&◌}
use Rattle.std.specs.declared.option.Option.{Option}
use Rattle.std.proofs.Math.Seq.{drop-append_seam, take-add, take-append_seam}
use Rattle.std.proofs.lemmas.Bool.{ne_eqb, le-ltb, lt-ltb, cases_lt}
use Rattle.std.proofs.lemmas.List.{drop-drop, take_all, length-take}
use Rattle.std.specs.Prelude.{◌⊎◌}
use Rattle.std.proofs.Common.{inl, inr}
use Rattle.s2_io.specs.declared.traits.Failed.{Failed}
use Rattle.s2_io.specs.Sources.{dropped}
use Rattle.s2_text.specs.HeldLine.{held_after}
use Rattle.s2_run.specs.SentPieces.{next_of, byte_count}
use Rattle.s2_run.specs.declared.limits.TheConstants.{INPUT_LIMIT}
use Rattle.s2_text.specs.InputLines.{InputLine, IsPlain, empty_line, with_byte, lines_of, size_of}
use Rattle.s2_run.specs.FailedReads.{IsFed, IsUnreadBehind}
use Rattle.s2_run.specs.NextLine.{HasLine, HasLongLine, HasFront}

plain_more : (bs : List ℕ) (b : ℕ) → IsPlain bs → (b ≡ 10 → ⊥) → IsPlain (bs ++ b ∷ [])
plain_more [] b p other = (other, tt)
plain_more (x ∷ bs) b p other = (p.0, plain_more bs b p.1 other)

-- a byte that is no line feed joins the first line
joins : (b : ℕ) (bs : List ℕ) → (b ≡ 10 → ⊥) → lines_of (b ∷ bs) ≡ with_byte b (lines_of bs)
joins b bs other = ap (λ (t : Bool). cond t (empty_line ∷ lines_of bs) (with_byte b (lines_of bs))) (ne_eqb b 10 other)

abbrev line_of_size : List ℕ → ℕ → InputLine
line_of_size text size = record { text = text; size = size }

-- a line feed ends the line before it
pub feed_ends : (front rest : List ℕ) → IsPlain front → lines_of (front ++ 10 ∷ rest) ≡ line_of_size front (length front + 1) ∷ lines_of rest
feed_ends [] rest p = refl
feed_ends (b ∷ front) rest p =
    let size : length front + 1 + 1 ≡ length (b ∷ front) + 1 = omega arith in
    joins b (front ++ 10 ∷ rest) p.0 ∙ (ap (with_byte b) (feed_ends front rest p.1) ∙ ap (λ (n : ℕ). line_of_size (b ∷ front) n ∷ lines_of rest) size)

-- the end of the input ends a line that has a byte
pub end_ends : (front : List ℕ) → IsPlain front → 1 ≤ length front → lines_of front ≡ line_of_size front (length front) ∷ []
end_ends [] p some = absurd (omega arith)
end_ends (b ∷ []) p some = joins b [] p.0
end_ends (b ∷ c ∷ front) p some =
    let size : length (c ∷ front) + 1 ≡ length (b ∷ c ∷ front) = omega arith in
    joins b (c ∷ front) p.0 ∙ (ap (with_byte b) (end_ends (c ∷ front) p.1 (omega arith)) ∙ ap (λ (n : ℕ). line_of_size (b ∷ c ∷ front) n ∷ []) size)

-- an input begins with a line of so many bytes at least
record BeginsLong (input : List ℕ) (bytes : ℕ) : Type 0 where
  pub line : InputLine
  pub more : List InputLine
  pub lines_are : lines_of input ≡ line ∷ more
  pub long : bytes ≤ line.size

joined_long : (b n : ℕ) (lines : List InputLine) (line : InputLine) (more : List InputLine) → lines ≡ line ∷ more → n ≤ line.size → (first : InputLine) × (rest : List InputLine) × (with_byte b lines ≡ first ∷ rest) × (n + 1 ≤ first.size)
joined_long b n lines line more e long = (line_of_size (b ∷ line.text) (line.size + 1), more, ap (with_byte b) e, omega arith)

one_by : (b : ℕ) (bs : List ℕ) (lines : List InputLine) → (first : InputLine) × (rest : List InputLine) × (with_byte b lines ≡ first ∷ rest) × (1 ≤ first.size)
one_by b bs [] = (line_of_size (b ∷ []) 1, [], refl, omega arith)
one_by b bs (line ∷ lines) = (line_of_size (b ∷ line.text) (line.size + 1), lines, refl, omega arith)

one_long : (b : ℕ) (bs : List ℕ) (t : Bool) → (first : InputLine) × (rest : List InputLine) × (cond t (empty_line ∷ lines_of bs) (with_byte b (lines_of bs)) ≡ first ∷ rest) × (1 ≤ first.size)
one_long b bs true = (empty_line, lines_of bs, refl, omega arith)
one_long b bs false = one_by b bs (lines_of bs)

begins_long : (front : List ℕ) (b : ℕ) (rest : List ℕ) → IsPlain front → BeginsLong (front ++ b ∷ rest) (length front + 1)
begins_long [] b rest p = let x = one_long b rest (b == 10) in record { line = x.0; more = x.1; lines_are = x.2; long = x.3 }
begins_long (a ∷ front) b rest p =
    let i = begins_long front b rest p.1 in
    let x = joined_long a (length front + 1) (lines_of (front ++ b ∷ rest)) i.line i.more i.lines_are i.long in
    record { line = x.0; more = x.1; lines_are = joins a (front ++ b ∷ rest) p.0 ∙ x.2; long = omega (arith, x.3) }

-- a front of the input was read, with no line feed in it, of which a line's first bytes are held
pub record ReadPart (input : List ℕ) (bytes : ℕ) (held : List ℕ) (left : Option (List ℕ)) : Type 0 where
  pub front : List ℕ
  pub rest : List ℕ
  pub input_is : input ≡ front ++ rest
  pub count : length front ≡ bytes
  pub plain : IsPlain front
  pub held_is : held ≡ take 129 front
  pub left_is : left ≡ Some rest

pub read_none : (input held : List ℕ) (left : Option (List ℕ)) → held ≡ [] → left ≡ Some input → ReadPart input 0 held left
read_none input held left none left_is = record { front = []; rest = input; input_is = refl; count = refl; plain = tt; held_is = none; left_is = left_is }

-- the next byte of the rest
record Took (rest : List ℕ) (b : ℕ) (left : Option (List ℕ)) : Type 0 where
  pub bytes : List ℕ
  pub rest_is : rest ≡ b ∷ bytes
  pub left_is : left ≡ Some bytes

took : (rest : List ℕ) (left left' : Option (List ℕ)) (next : Option ℕ) (b : ℕ) → left ≡ Some rest → next ≡ Some b → next ≡ next_of rest → left' ≡ dropped left (byte_count {E = Failed} (Ok next)) → Took rest b left'
took [] left left' next b left_is is h step = cc
took (x ∷ xs) left left' next b left_is is h step =
    let same : x ≡ b = cc in
    record {
      bytes = xs;
      rest_is = ap (λ (y : ℕ). y ∷ xs) same;
      left_is = step ∙ (ap (λ (o : Option (List ℕ)). dropped o (byte_count {E = Failed} (Ok next))) left_is ∙ ap (λ (o : Option ℕ). dropped (Some (x ∷ xs)) (byte_count {E = Failed} (Ok o))) is);
    }

keep_front : (n : ℕ) (o : List ℕ) (b : ℕ) → take n (take n o ++ b ∷ []) ≡ take n (o ++ b ∷ [])
keep_front zero o b = refl
keep_front (suc n) [] b = refl
keep_front (suc n) (x ∷ o) b = ap (λ (xs : List ℕ). x ∷ xs) (keep_front n o b)

held_by : (n : ℕ) (held : List ℕ) (b : ℕ) → length held ≤ n → (length held < n) ⊎ (n ≤ length held) → cond (nat_lt (length held) n) (held ++ b ∷ []) held ≡ take n (held ++ b ∷ [])
held_by n held b most (inl room) = ap (λ (t : Bool). cond t (held ++ b ∷ []) held) (lt-ltb (length held) n room) ∙ sym (take_all n (held ++ b ∷ []) (omega (arith, length-append held (b ∷ []))))
held_by n held b most (inr full) =
    let same : length held ≡ n = omega arith in
    ap (λ (t : Bool). cond t (held ++ b ∷ []) held) (le-ltb (length held) n full) ∙ subst (λ (k : ℕ). held ≡ take k (held ++ b ∷ [])) same (sym (take-append_seam held (b ∷ [])))

holds : (held front : List ℕ) (b : ℕ) → held ≡ take 129 front → (b ≡ 10 → ⊥) → held_after held b ≡ take 129 (front ++ b ∷ [])
holds held front b held_is other =
    let size : length held ≤ 129 = omega (arith, ap length held_is, length-take 129 front) in
    ap (λ (t : Bool). cond (not t && nat_lt (length held) 129) (held ++ b ∷ []) held) (ne_eqb b 10 other)
    ∙ (held_by 129 held b size (cases_lt (length held) 129) ∙ (ap (λ (h : List ℕ). take 129 (h ++ b ∷ [])) held_is ∙ keep_front 129 front b))

-- a byte that is no line feed
pub read_byte : {input held held' : List ℕ} {bytes : ℕ} {left left' : Option (List ℕ)} (next : Option ℕ) (b : ℕ) → (r : ReadPart input bytes held left) → next ≡ Some b → next ≡ next_of r.rest → left' ≡ dropped left (byte_count {E = Failed} (Ok next)) → (b ≡ 10 → ⊥) → held' ≡ held_after held b → ReadPart input (bytes + 1) held' left'
read_byte {input} {held} {held'} {bytes} {left} {left'} next b r is h step other feed =
    let t = took r.rest left left' next b r.left_is is h step in
    record {
      front = r.front ++ b ∷ [];
      rest = t.bytes;
      input_is = r.input_is ∙ (ap (λ (x : List ℕ). r.front ++ x) t.rest_is ∙ sym (append_assoc r.front (b ∷ []) t.bytes));
      count = omega (arith, length-append r.front (b ∷ []), r.count);
      plain = plain_more r.front b r.plain other;
      held_is = feed ∙ holds held r.front b r.held_is other;
      left_is = t.left_is;
    }

rest_after : (input front rest : List ℕ) (n : ℕ) → input ≡ front ++ rest → length front ≡ n → rest ≡ drop n input
rest_after input front rest n whole count = sym (ap (λ (k : ℕ). drop k input) (sym count) ∙ (ap (drop (length front)) whole ∙ drop-append_seam front rest))

front_of : (input front rest : List ℕ) (n : ℕ) → input ≡ front ++ rest → length front ≡ n → take n input ≡ front
front_of input front rest n whole count = ap (λ (k : ℕ). take k input) (sym count) ∙ (ap (take (length front)) whole ∙ take-append_seam front rest)

-- a line feed
pub read_feed : {input held held' : List ℕ} {bytes : ℕ} {left left' : Option (List ℕ)} (next : Option ℕ) (b : ℕ) → (r : ReadPart input bytes held left) → next ≡ Some b → next ≡ next_of r.rest → left' ≡ dropped left (byte_count {E = Failed} (Ok next)) → b ≡ 10 → held' ≡ held_after held b → HasLine input (bytes + 1) held' left'
read_feed {input} {held} {held'} {bytes} {left} {left'} next b r is h step feed held_is =
    let t = took r.rest left left' next b r.left_is is h step in
    let whole : input ≡ r.front ++ 10 ∷ t.bytes = r.input_is ∙ (ap (λ (x : List ℕ). r.front ++ x) t.rest_is ∙ ap (λ (y : ℕ). r.front ++ y ∷ t.bytes) feed) in
    let all : input ≡ (r.front ++ 10 ∷ []) ++ t.bytes = whole ∙ sym (append_assoc r.front (10 ∷ []) t.bytes) in
    record {
      text = r.front;
      rest = t.bytes;
      lines_are = ap lines_of whole ∙ (feed_ends r.front t.bytes r.plain ∙ ap (λ (n : ℕ). line_of_size r.front (n + 1) ∷ lines_of t.bytes) r.count);
      held_is = held_is ∙ (ap (held_after held) feed ∙ r.held_is);
      left_is = t.left_is;
      rest_is = rest_after input (r.front ++ 10 ∷ []) t.bytes (bytes + 1) all (omega (arith, length-append r.front (10 ∷ []), r.count));
    }

-- it is the last byte of the line
pub read_fed : {input held : List ℕ} {bytes : ℕ} {left left' : Option (List ℕ)} (next : Option ℕ) (b : ℕ) → (r : ReadPart input bytes held left) →
    next ≡ Some b → next ≡ next_of r.rest → left' ≡ dropped left (byte_count {E = Failed} (Ok next)) → b ≡ 10 →
    (front : List ℕ) × (take (bytes + 1) input ≡ front ++ 10 ∷ [])
read_fed {input} {held} {bytes} {left} {left'} next b r is h step feed =
    let t = took r.rest left left' next b r.left_is is h step in
    let whole : input ≡ r.front ++ 10 ∷ t.bytes = r.input_is ∙ (ap (λ (x : List ℕ). r.front ++ x) t.rest_is ∙ ap (λ (y : ℕ). r.front ++ y ∷ t.bytes) feed) in
    let all : input ≡ (r.front ++ 10 ∷ []) ++ t.bytes = whole ∙ sym (append_assoc r.front (10 ∷ []) t.bytes) in
    (r.front, front_of input (r.front ++ 10 ∷ []) t.bytes (bytes + 1) all (omega (arith, length-append r.front (10 ∷ []), r.count)))

-- so what was taken with it ends with a line feed
pub fed_more : (input rest : List ℕ) (bytes size : ℕ) → rest ≡ drop bytes input → (front : List ℕ) × (take size rest ≡ front ++ 10 ∷ []) →
    IsFed (take (bytes + size) input)
fed_more input rest bytes size is (front, ends) = inr (
  take bytes input ++ front,
  take-add bytes size input
      ∙ (ap (λ (r : List ℕ). take bytes input ++ take size r) (sym is)
      ∙ (ap (λ (x : List ℕ). take bytes input ++ x) ends ∙ sym (append_assoc (take bytes input) front (10 ∷ [])))),
)

at_end : (rest : List ℕ) → None ≡ next_of rest → rest ≡ []
at_end [] h = refl
at_end (x ∷ xs) h = cc

-- the end of the input: all of it was read
pub record ReadAll (input : List ℕ) (bytes : ℕ) (held : List ℕ) (left : Option (List ℕ)) : Type 0 where
  pub plain : IsPlain input
  pub count : length input ≡ bytes
  pub held_is : held ≡ take 129 input
  pub left_is : left ≡ Some []

pub read_end : {input held : List ℕ} {bytes : ℕ} {left left' : Option (List ℕ)} (next : Option ℕ) → (r : ReadPart input bytes held left) → next ≡ None → next ≡ next_of r.rest → left' ≡ dropped left (byte_count {E = Failed} (Ok next)) → ReadAll input bytes held left'
read_end {input} {held} {bytes} {left} {left'} next r is h step =
    let none = at_end r.rest (sym is ∙ h) in
    let all : r.front ≡ input = sym (append-nil r.front) ∙ (ap (λ (x : List ℕ). r.front ++ x) (sym none) ∙ sym r.input_is) in
    record {
      plain = subst IsPlain all r.plain;
      count = ap length (sym all) ∙ r.count;
      held_is = r.held_is ∙ ap (take 129) all;
      left_is = step ∙ (ap (λ (o : Option (List ℕ)). dropped o (byte_count {E = Failed} (Ok next))) (r.left_is ∙ ap Some none) ∙ ap (λ (o : Option ℕ). dropped (Some []) (byte_count {E = Failed} (Ok o))) is);
    }

none_left : (xs : List ℕ) → length xs ≡ 0 → xs ≡ []
none_left [] h = refl
none_left (x ∷ xs) h = absurd (omega arith)

pub end_none : {input held : List ℕ} {bytes : ℕ} {left : Option (List ℕ)} → ReadAll input bytes held left → bytes ≡ 0 → (input ≡ []) × (left ≡ Some [])
end_none {input} r none = (none_left input (r.count ∙ none), r.left_is)

pub end_some : {input held : List ℕ} {bytes : ℕ} {left : Option (List ℕ)} → ReadAll input bytes held left → 1 ≤ bytes → HasLine input bytes held left
end_some {input} {held} {bytes} {left} r some = record {
  text = input;
  rest = [];
  lines_are = end_ends input r.plain (omega (arith, r.count)) ∙ ap (λ (n : ℕ). line_of_size input n ∷ []) r.count;
  held_is = r.held_is;
  left_is = r.left_is;
  rest_is = rest_after input input [] bytes (sym (append-nil input)) r.count;
}

-- what is left is nothing
pub none_rest : {left : Option (List ℕ)} {rest : List ℕ} → left ≡ Some rest → left ≡ Some [] → rest ≡ []
none_rest {left} {rest} a b = (let e : Some rest ≡ Some [] = sym a ∙ b in cc)

-- a byte beyond the room
pub read_long : {input held : List ℕ} {bytes room : ℕ} {left left' : Option (List ℕ)} (next : Option ℕ) (b : ℕ) → (r : ReadPart input bytes held left) → next ≡ Some b → next ≡ next_of r.rest → left' ≡ dropped left (byte_count {E = Failed} (Ok next)) → bytes ≡ room → HasLongLine input room left'
read_long {input} {held} {bytes} {room} {left} {left'} next b r is h step full =
    let t = took r.rest left left' next b r.left_is is h step in
    let whole : input ≡ r.front ++ b ∷ t.bytes = r.input_is ∙ ap (λ (x : List ℕ). r.front ++ x) t.rest_is in
    let all : input ≡ (r.front ++ b ∷ []) ++ t.bytes = whole ∙ sym (append_assoc r.front (b ∷ []) t.bytes) in
    let l = begins_long r.front b t.bytes r.plain in
    record {
      line = l.line;
      more = l.more;
      lines_are = ap lines_of whole ∙ l.lines_are;
      long = omega (arith, l.long, r.count);
      left_is = t.left_is ∙ ap Some (rest_after input (r.front ++ b ∷ []) t.bytes (room + 1) all (omega (arith, length-append r.front (b ∷ []), r.count)));
    }

-- a read that fails leaves the rest
pub read_failed : {input held : List ℕ} {bytes room : ℕ} {left left' : Option (List ℕ)} → ReadPart input bytes held left → bytes ≤ room → left' ≡ dropped left 0 → HasFront input room left'
read_failed {input} {held} {bytes} {room} {left} {left'} r most step = record {
  bytes = bytes;
  plain = subst IsPlain (sym (front_of input r.front r.rest bytes r.input_is r.count)) r.plain;
  within = most;
  left_is = step ∙ (ap (λ (o : Option (List ℕ)). dropped o 0) r.left_is ∙ ap Some (rest_after input r.front r.rest bytes r.input_is r.count));
}

-- and so does one behind lines
pub unread_behind : (input rest : List ℕ) (before : List InputLine) (bytes : ℕ) {left' : Option (List ℕ)} → rest ≡ drop bytes input →
    bytes ≡ size_of before → IsFed (take bytes input) → HasFront rest (INPUT_LIMIT - bytes) left' → bytes ≤ INPUT_LIMIT →
    IsUnreadBehind input before left'
unread_behind input rest before bytes rest_is bytes_are fed f most =
    let at : rest ≡ drop (size_of before) input = rest_is ∙ ap (λ (n : ℕ). drop n input) bytes_are in
    record {
      fed = subst (λ (n : ℕ). IsFed (take n input)) bytes_are fed;
      part = f.bytes;
      plain = subst (λ (r : List ℕ). IsPlain (take f.bytes r)) at f.plain;
      within = omega (arith, f.within, bytes_are);
      left_is = f.left_is ∙ ap Some (ap (drop f.bytes) at ∙ drop-drop f.bytes (size_of before) input);
    }

-- the first line of an input has at most one byte more than its text
abbrev FirstFits : List InputLine → Type 0
FirstFits [] = Unit {0}
FirstFits (line ∷ more) = line.size ≤ length line.text + 1

with_fits : (b : ℕ) (lines : List InputLine) → FirstFits lines → FirstFits (with_byte b lines)
with_fits b [] h = omega arith
with_fits b (line ∷ lines) h = omega arith

first_fits_by : (b : ℕ) (bs : List ℕ) (t : Bool) → FirstFits (lines_of bs) → FirstFits (cond t (empty_line ∷ lines_of bs) (with_byte b (lines_of bs)))
first_fits_by b bs true h = omega arith
first_fits_by b bs false h = with_fits b (lines_of bs) h

first_fits : (bs : List ℕ) → FirstFits (lines_of bs)
first_fits [] = tt
first_fits (b ∷ bs) = first_fits_by b bs (b == 10) (first_fits bs)

pub line_fits : (bs : List ℕ) (line : InputLine) (more : List InputLine) → lines_of bs ≡ line ∷ more → line.size ≤ length line.text + 1
line_fits bs line more is = subst FirstFits is (first_fits bs)
