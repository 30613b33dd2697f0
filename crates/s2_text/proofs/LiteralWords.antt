-- Words: what is read, and where reading stops.
use Rattle.std.proofs.Common.{◌≡◌, ℕ, suc, ◌<◌, Bool, true, false, List, [], ◌∷◌, ◌++◌, length, drop, Ok, Err, refl, ap, arith, ◌⊎◌, inl, inr}
use Rattle.std.specs.Prelude.{◌==◌}
use Rattle.std.proofs.Math.Seq.{drop-cons}
use Rattle.s2_text.specs.LineReading.{word_reading}

pub at_end : (text : List ℕ) (i : ℕ) (rest : List ℕ) → i < length text → length rest ≡ 0 → word_reading (drop i text) rest ≡ Err 0
at_end text i [] below e = rw (drop-cons text i 0 below) refl
at_end text i (b ∷ bs) below e = absurd (omega arith)

pub cases : (b : Bool) → (b ≡ true) ⊎ (b ≡ false)
cases true = inl refl
cases false = inr refl

-- what the reader of a word took
pub word_found : (ws bytes rest : List ℕ) → word_reading ws bytes ≡ Ok rest → bytes ≡ ws ++ rest
word_found [] bytes rest e = cc
word_found (w ∷ ws) [] rest e = absurd cc
word_found (w ∷ ws) (b ∷ bytes) rest e =
    elim (cases (b == w)) [
      | inl same ↦ grind (arith, word_found ws bytes rest (rw same at e))
      | inr other ↦ absurd (let f = rw other at e in cc)
    ]

pub word_again : (ws rest : List ℕ) → word_reading ws (ws ++ rest) ≡ Ok rest
word_again [] rest = refl
word_again (w ∷ ws) rest = elim (cases (w == w)) [
  | inl same ↦ rw same (word_again ws rest)
  | inr other ↦ absurd (grind arith)
]

-- Reading a word stopped: it had read front, back stands there, and how back goes on doesn't matter.
pub record WordStops (ws bytes : List ℕ) (left : ℕ) : Type 0 where
  pub front : List ℕ
  pub back : List ℕ
  pub rest : List ℕ
  pub parts : bytes ≡ front ++ back
  pub size : length back ≡ left
  pub some : ws ≡ front ++ rest
  pub near : (b : ℕ) (more new : List ℕ) → back ≡ b ∷ more → word_reading ws (front ++ b ∷ new) ≡ Err (suc (length new))

pub word_stops : (ws bytes : List ℕ) (left : ℕ) → word_reading ws bytes ≡ Err left → WordStops ws bytes left
word_stops [] bytes left e = absurd cc
word_stops (w ∷ ws) [] left e = record { front = []; back = []; rest = w ∷ ws; parts = refl; size = cc; some = refl; near = λ b more new h. absurd cc }
word_stops (w ∷ ws) (b ∷ bytes) left e =
    elim (cases (b == w)) [
      | inl same ↦
          let s = word_stops ws bytes left (rw same at e) in
          record {
            front = b ∷ s.front;
            back = s.back;
            rest = s.rest;
            parts = ap (λ (t : List ℕ). b ∷ t) s.parts;
            size = s.size;
            some = (let p : ws ≡ s.front ++ s.rest = s.some in grind arith);
            near = λ c more new h. rw same (s.near c more new h);
          }
      | inr other ↦ record {
        front = [];
        back = b ∷ bytes;
        rest = w ∷ ws;
        parts = refl;
        some = refl;
        size = (let f = rw other at e in cc);
        near = λ c more new h. (let g : c ≡ b = cc in rw (g, other) refl);
      }
    ]
