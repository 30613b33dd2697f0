-- What a sink has taken, piece by piece.
use Rattle.std.proofs.Common.{◌≡◌, ℕ, ◌+◌, ◌-◌, List, [], ◌∷◌, ◌++◌, take, drop, length, length-drop, append_assoc, append-nil, length-append, refl, sym, ap, arith, ◌∙◌}
use Rattle.std.specs.Prelude.{Some, None}
use Rattle.std.specs.declared.option.Option.{Option}
use Rattle.std.proofs.lemmas.Grind.{common_steps}
use Rattle.std.proofs.Math.Seq.{take-add, take-append-add}
use Rattle.s2_io.specs.Sinks.{appended}
use Rattle.s2_run.specs.ReportText.{line_with}

-- two pieces are one
pub appended_twice : (o : Option (List ℕ)) (xs ys : List ℕ) → appended (appended o xs) ys ≡ appended o (xs ++ ys)
appended_twice (Some zs) xs ys = ap Some (append_assoc zs xs ys)
appended_twice None xs ys = refl

-- no bytes change nothing
pub appended_none : (o : Option (List ℕ)) → appended o [] ≡ o
appended_none (Some zs) = ap Some (append-nil zs)
appended_none None = refl

-- the rest of a list as a slice gives it
pub rest_is : (xs : List ℕ) (d : ℕ) → take (length xs - d) (drop d xs) ≡ drop d xs
rest_is xs d = grind (arith, common_steps, length-drop d xs)

-- a front, and then a front of the rest
pub take_on : (xs : List ℕ) (d n : ℕ) → take d xs ++ take n (drop d xs) ≡ take (d + n) xs
take_on xs d n = sym (take-add d n xs)

-- a whole list, and then a front of the next
pub take_over : (xs ys : List ℕ) (n : ℕ) → xs ++ take n ys ≡ take (length xs + n) (xs ++ ys)
take_over xs ys n = sym (take-append-add xs ys n)

-- two whole lists, and then a front of the next
pub take_over_two : (xs ys zs : List ℕ) (n : ℕ) → (xs ++ ys) ++ take n zs ≡ take (length xs + length ys + n) ((xs ++ ys) ++ zs)
take_over_two xs ys zs n = take_over (xs ++ ys) zs n ∙ ap (λ (k : ℕ). take (k + n) ((xs ++ ys) ++ zs)) (length-append xs ys)

pub ruleset pieces = (appended_twice, appended_none, rest_is, take_on, take_over, take_over_two)

-- two lines have two line feeds
pub two_lines : (xs ys : List ℕ) → length (line_with xs ++ line_with ys) ≡ length xs + length ys + 2
two_lines xs ys = omega (arith, length-append (line_with xs) (line_with ys), length-append xs (10 ∷ []), length-append ys (10 ∷ []))

-- a whole piece, and then a front of the next
pub appended_front : (o o' o'' : Option (List ℕ)) (xs ys : List ℕ) (n : ℕ) → o' ≡ appended o xs → o'' ≡ appended o' (take n ys) → o'' ≡ appended o (take (length xs + n) (xs ++ ys))
appended_front o o' o'' xs ys n first second = second ∙ (ap (λ (q : Option (List ℕ)). appended q (take n ys)) first ∙ (appended_twice o xs (take n ys) ∙ ap (appended o) (take_over xs ys n)))
