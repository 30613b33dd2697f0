-- The words of a command line, one by one.
use Rattle.std.proofs.Common.{◌≡◌, ℕ, ◌≤◌, ◌<◌, List, [], ◌∷◌, length, map, slice_index_or, refl, sym, ap, arith, ◌∙◌, subst}
use Rattle.std.specs.Prelude.{decimal}
use Rattle.std.proofs.lemmas.Fmt.{decimal_injective}
use Rattle.std.specs.declared.option.Option.{Option}
use Rattle.s2_triplex.specs.TriplexState.{TriplexState}
use Rattle.s2_run.specs.CommandWords.{Request, run, single, check, load, words_of, IsOffered}
use Rattle.s2_run.specs.SeenObjects.{Seen}
use Rattle.s2_run.specs.ServedCommands.{Answers}
use Rattle.s2_run.specs.declared.status.Status.{Status}

-- a list of one
pub one_word : {A B : Type 0} (f : A → B) (xs : List A) (x : A) (t : B) → 1 ≤ length xs → length xs < 2 → x ≡ slice_index_or xs 0 x → f x ≡ t → map f xs ≡ t ∷ []
one_word f [] x t some few is e = absurd (omega arith)
one_word f (y ∷ []) x t some few is e = ap (λ z. z ∷ []) (ap f (sym is) ∙ e)
one_word f (y ∷ z ∷ ys) x t some few is e = absurd (omega arith)

-- words ask for one thing
one_request : (a b : Request) → IsOffered a → IsOffered b → words_of a ≡ words_of b → a ≡ b
one_request (run x) (run y) h k e = ap run (let f : x ≡ y = cc in f)
one_request (run x) (single y) h k e = absurd cc
one_request (run x) check h k e = absurd cc
one_request (run x) (load n) h k e = absurd cc
one_request (single x) (run y) h k e = absurd cc
one_request (single x) (single y) h k e = ap single (let f : x ≡ y = cc in f)
one_request (single x) check h k e = absurd cc
one_request (single x) (load n) h k e = absurd cc
one_request check (run y) h k e = absurd cc
one_request check (single y) h k e = absurd cc
one_request check check h k e = refl
one_request check (load n) h k e = absurd cc
one_request (load m) (run y) h k e = absurd cc
one_request (load m) (single y) h k e = absurd cc
one_request (load m) check h k e = absurd cc
one_request (load m) (load n) h k e = ap load (decimal_injective m n (omega (arith, h.1)) (omega (arith, k.1)) (let f : decimal m ≡ decimal n = cc in f))

-- so an answer to what they ask for is one to every request with these words
pub answers : (words : List (List ℕ)) (said request : Request) (answer : Status) (last : Option TriplexState) (old new : Seen) → IsOffered said → IsOffered request → words ≡ words_of said → words ≡ words_of request → Answers said answer last old new → Answers request answer last old new
answers words said request answer last old new h k a b x = subst (λ (q : Request). Answers q answer last old new) (one_request said request h k (sym a ∙ b)) x
