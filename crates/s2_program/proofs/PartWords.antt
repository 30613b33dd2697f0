-- One word more.
use Rattle.std.proofs.Common.{◌≡◌, ℕ, zero, suc, ◌+◌, ◌*◌, ◌^◌, ◌≤◌, ◌<◌, List, [], ◌∷◌, ◌++◌, length, take, drop, get_or, refl, sym, ap, ◌∙◌, subst, append_assoc, append-nil, add-one, arith}
use Rattle.s2_program.specs.Programs.{PartData, words_in, AreWords, FitsPart, FitParts}
use Rattle.s2_program.specs.PlainFiles.{word_bytes, words_bytes, size_of, part_header, part_headers, contents}

pub words_more : (ws : List ℕ) (w : ℕ) → AreWords ws → w < 2 ^ 32 → AreWords (ws ++ w ∷ [])
words_more [] w fit small = (small, tt)
words_more (v ∷ ws) w fit small = (fit.0, words_more ws w fit.1 small)

pub words_bytes_append : (xs ys : List ℕ) → words_bytes (xs ++ ys) ≡ words_bytes xs ++ words_bytes ys
words_bytes_append [] ys = refl
words_bytes_append (x ∷ xs) ys = ap (λ t. word_bytes x ++ t) (words_bytes_append xs ys)

-- ---- one part more

pub fit_more : (ps : List PartData) (p : PartData) → FitParts ps → FitsPart p → FitParts (ps ++ p ∷ [])
fit_more [] p fit here = (here, tt)
fit_more (q ∷ ps) p fit here = (fit.0, fit_more ps p fit.1 here)

pub contents_append : (ps qs : List PartData) → contents (ps ++ qs) ≡ contents ps ++ contents qs
contents_append [] qs = refl
contents_append (p ∷ ps) qs = ap (λ t. words_bytes p.words ++ t) (contents_append ps qs) ∙ sym (append_assoc (words_bytes p.words) (contents ps) (contents qs))

pub words_in_append : (ps qs : List PartData) → words_in (ps ++ qs) ≡ words_in ps + words_in qs
words_in_append [] qs = omega arith
words_in_append (p ∷ ps) qs = (let h = words_in_append ps qs in omega arith)

pub headers_append : (offset : ℕ) (ps qs : List PartData) → part_headers offset (ps ++ qs) ≡ part_headers offset ps ++ part_headers (offset + 4 * words_in ps) qs
headers_append offset [] qs = ap (λ k. part_headers k qs) (omega arith)
headers_append offset (p ∷ ps) qs =
    let more = headers_append (offset + size_of p) ps qs in
    let same : offset + size_of p + 4 * words_in ps ≡ offset + 4 * words_in (p ∷ ps) = omega arith in
    ap (λ t. part_header offset p ++ t) (more ∙ ap (λ k. part_headers (offset + size_of p) ps ++ part_headers k qs) same)
    ∙ sym (append_assoc (part_header offset p) (part_headers (offset + size_of p) ps) (part_headers (offset + 4 * words_in (p ∷ ps)) qs))

-- the parts up to an index and the part there
pub words_up_to : (ps : List PartData) (i : ℕ) (d : PartData) → i < length ps → words_in (take i ps) + length (get_or ps i d).words ≤ words_in ps
words_up_to [] i d below = absurd (omega arith)
words_up_to (p ∷ ps) zero d below = omega arith
words_up_to (p ∷ ps) (suc i) d below = (let h = words_up_to ps i d (omega arith) in omega arith)

-- ---- steps of the loops

take_next : {A : Type 0} (xs : List A) (i : ℕ) (x : A) → i < length xs → x ≡ get_or xs i x → take (i + 1) xs ≡ take i xs ++ x ∷ []
take_next [] i x below is = absurd (omega arith)
take_next (y ∷ xs) zero x below is = rw is refl
take_next (y ∷ xs) (suc i) x below is = rw add-one (ap (λ t. y ∷ t) ((let h = take_next xs i x (omega arith) is in rw add-one at h)))

pub fit_step : (ps : List PartData) (i : ℕ) (p : PartData) → i < length ps → p ≡ get_or ps i p → FitParts (take i ps) → FitsPart p → FitParts (take (i + 1) ps)
fit_step ps i p below is fit here = subst FitParts (sym (take_next ps i p below is)) (fit_more (take i ps) p fit here)

pub words_step : (old new front ws : List ℕ) (i w : ℕ) → i < length ws → w ≡ get_or ws i w → old ≡ front ++ words_bytes (take i ws) → new ≡ old ++ word_bytes w → new ≡ front ++ words_bytes (take (i + 1) ws)
words_step old new front ws i w below is before now =
    let t = take_next ws i w below is in
    now ∙ (ap (λ x. x ++ word_bytes w) before ∙ (append_assoc front (words_bytes (take i ws)) (word_bytes w)
    ∙ ap (λ x. front ++ x) (sym (words_bytes_append (take i ws) (w ∷ [])) ∙ ap words_bytes (sym t))))

pub contents_step : (old new front : List ℕ) (ps : List PartData) (i : ℕ) (p : PartData) → i < length ps → p ≡ get_or ps i p → old ≡ front ++ contents (take i ps) → new ≡ old ++ words_bytes p.words → new ≡ front ++ contents (take (i + 1) ps)
contents_step old new front ps i p below is before now =
    let t = take_next ps i p below is in
    now ∙ (ap (λ x. x ++ words_bytes p.words) before ∙ (append_assoc front (contents (take i ps)) (words_bytes p.words)
    ∙ ap (λ x. front ++ x) (ap (λ x. contents (take i ps) ++ x) (sym (append-nil (words_bytes p.words))) ∙ (sym (contents_append (take i ps) (p ∷ [])) ∙ ap contents (sym t)))))

pub headers_step : (old new front : List ℕ) (offset next : ℕ) (ps : List PartData) (i : ℕ) (p : PartData) → i < length ps → p ≡ get_or ps i p → next ≡ offset + 4 * words_in (take i ps)
    → old ≡ front ++ part_headers offset (take i ps) → new ≡ old ++ part_header next p → new ≡ front ++ part_headers offset (take (i + 1) ps)
headers_step old new front offset next ps i p below is at before now =
    let t = take_next ps i p below is in
    now ∙ (ap (λ x. x ++ part_header next p) before ∙ (append_assoc front (part_headers offset (take i ps)) (part_header next p)
    ∙ ap (λ x. front ++ x) (ap (λ k. part_headers offset (take i ps) ++ part_header k p) at ∙ (sym (headers_append offset (take i ps) (p ∷ [])) ∙ ap (λ x. part_headers offset x) (sym t)))))

pub next_step : (offset next size : ℕ) (ps : List PartData) (i : ℕ) (p : PartData) → i < length ps → p ≡ get_or ps i p → next ≡ offset + 4 * words_in (take i ps) → size ≡ size_of p → next + size ≡ offset + 4 * words_in (take (i + 1) ps)
next_step offset next size ps i p below is at long =
    let t = take_next ps i p below is in
    let n : words_in (take (i + 1) ps) ≡ words_in (take i ps) + words_in (p ∷ []) = ap words_in t ∙ words_in_append (take i ps) (p ∷ []) in
    omega arith

pub next_fits : (offset next : ℕ) (ps : List PartData) (i : ℕ) (p : PartData) → i < length ps → p ≡ get_or ps i p → next ≡ offset + 4 * words_in (take i ps) → offset + 4 * words_in ps < 2 ^ 32 → next + size_of p < 2 ^ 32
next_fits offset next ps i p below is at room =
    let h = words_up_to ps i p below in
    let same : length p.words ≡ length (get_or ps i p).words = ap (λ (q : PartData). length q.words) is in
    omega arith

pub ruleset writes = (append_assoc, append-nil)
