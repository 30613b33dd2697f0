-- The misses that the watch shows, and the refreshes.
use Rattle.std.proofs.Common.{◌≡◌, ℕ, zero, suc, ◌+◌, ◌-◌, ◌*◌, ◌/◌, ◌%◌, ◌<◌, ◌≤◌, List, [], ◌∷◌, take, refl, ap, subst, arith, inl, inr}
use Rattle.std.specs.Prelude.{Bool, true, false}
use Rattle.std.proofs.lemmas.Bool.{cases_lt}
use Rattle.std.proofs.lemmas.List.{take-take}
use Rattle.s2_plant_laws.specs.WorkSpan.{windows_of, periods_of, sure_work}
use Rattle.s2_clock.specs.TickWindow.{miss_of, misses_in, window_after}
use Rattle.s2_plant_laws.specs.TickHistory.{misses_allowed, refreshes}

pub missed_take : (n : ℕ) (w : List Bool) → (misses_in (take n w) ≤ misses_in w) × (misses_in (take n w) ≤ n)
missed_take zero w = omega arith
missed_take (suc n) [] = omega arith
missed_take (suc n) (true ∷ w) = let h = missed_take n w in omega arith
missed_take (suc n) (false ∷ w) = let h = missed_take n w in omega arith

-- at most 4 and at most one a tick beyond whole groups of 64
pub allowed_most : (e : ℕ) (w : List Bool) → misses_in w ≤ 4 → (x : ℕ) × (misses_allowed e w ≡ 4 * (e / 64) + x) × (x ≤ 4) × (x ≤ e % 64)
allowed_most e w h = let t = missed_take (e % 64) w in (misses_in (take (e % 64) w), refl, omega arith, omega arith)

-- the misses among the first few of a watch that took one more tick
take_watched : (n : ℕ) (b : Bool) (w : List Bool) → n < 64 → misses_in (take (suc n) (window_after b w)) ≡ miss_of b + misses_in (take n w)
take_watched n b w h = ap misses_in (take-take (suc n) 64 (b ∷ w) (omega arith))

whole_watched : (b : Bool) (w : List Bool) → misses_in (window_after b w) ≡ miss_of b + misses_in (take 63 w)
whole_watched b w = refl

allowed_at : (e r q : ℕ) (w : List Bool) → e % 64 ≡ r → e / 64 ≡ q → misses_allowed e w ≡ 4 * q + misses_in (take r w)
allowed_at e r q w hr hq = subst (λ (x : ℕ). misses_allowed e w ≡ 4 * q + misses_in (take x w)) hr (ap (λ (x : ℕ). 4 * x + misses_in (take (e % 64) w)) hq)

allowed_inner : (e : ℕ) (b : Bool) (w : List Bool) → e % 64 < 63 → misses_allowed (e + 1) (window_after b w) ≡ misses_allowed e w + miss_of b
allowed_inner e b w h =
    let t = take_watched (e % 64) b w (omega arith) in
    let a = allowed_at (e + 1) (suc (e % 64)) (e / 64) (window_after b w) (omega arith) (omega arith) in
    omega arith

allowed_edge : (e : ℕ) (b : Bool) (w : List Bool) → 63 ≤ e % 64 → misses_in (window_after b w) ≤ 4 → misses_allowed e w + miss_of b ≤ misses_allowed (e + 1) (window_after b w)
allowed_edge e b w h fair_after =
    let t = whole_watched b w in
    let o = allowed_at e 63 (e / 64) w (omega arith) refl in
    let a = allowed_at (e + 1) 0 (e / 64 + 1) (window_after b w) (omega arith) (omega arith) in
    omega arith

pub allowed_more : (e : ℕ) (b : Bool) (w : List Bool) → misses_in (window_after b w) ≤ 4 → misses_allowed e w + miss_of b ≤ misses_allowed (e + 1) (window_after b w)
allowed_more e b w fair_after = elim (cases_lt (e % 64) 63) [ inl h ↦ let a = allowed_inner e b w h in omega arith | inr h ↦ allowed_edge e b w h fair_after ]

pub refreshes_none : (f : ℕ) → refreshes f 0 ≡ 0
refreshes_none f = omega arith

pub refreshes_skip : (f n : ℕ) → f < 254 → refreshes ((f + 1) % 256) (n + 1) ≡ refreshes f n
refreshes_skip f n h = omega arith

pub refreshes_more : (f n : ℕ) → 254 ≤ f → f < 256 → refreshes ((f + 1) % 256) (n + 1) ≡ refreshes f n + 1
refreshes_more f n low high = omega arith

pub refreshes_most : (f n : ℕ) → f < 256 → (refreshes f n ≤ n) × ((y : ℕ) × (refreshes f n ≤ 2 * (n / 256) + y) × (y ≤ 2) × (y ≤ n % 256))
refreshes_most f n h = (omega arith, (refreshes f n - 2 * (n / 256), omega arith, omega arith, omega arith))

-- few misses leave many firings, and few refreshes leave much work
pub firings_most : (s e misses firings x : ℕ) → s ≤ e → misses + firings ≡ e → misses ≤ 4 * (e / 64) + x → x ≤ 4 → x ≤ e % 64 → s ≤ firings + 4 * windows_of s
firings_most s e misses firings x le split within four few = omega arith

pub work_most : (n firings work lost y : ℕ) → n ≤ firings → firings ≡ work + lost → lost ≤ 2 * (firings / 256) + y → y ≤ 2 → y ≤ firings % 256 → n ≤ work + 2 * periods_of n
work_most n firings work lost y le split within two few = omega arith

pub ceil_mono : (n s : ℕ) → n ≤ s → periods_of n ≤ periods_of s
ceil_mono n s h = omega arith

-- from s ticks on, the sure work of s ticks is done
pub work_sure : (s e misses firings work f : ℕ) (w : List Bool) → s ≤ e → f < 256 → misses_in w ≤ 4 → misses + firings ≡ e → misses ≤ misses_allowed e w → firings ≡ work + refreshes f firings →
    sure_work s ≤ work
work_sure s e misses firings work f w le turn fair split within fits =
    let a = allowed_most e w fair in
    let r = refreshes_most f firings turn in
    let fm = firings_most s e misses firings a.0 le split (omega arith) a.2 a.3 in
    let wm = work_most (s - 4 * windows_of s) firings work (refreshes f firings) r.1.0 (omega arith) fits r.1.1 r.1.2 r.1.3 in
    let cm = ceil_mono (s - 4 * windows_of s) s (omega arith) in
    omega arith
