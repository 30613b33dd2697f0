-- The test on requests is equality.
use Rattle.std.proofs.Common.{◌≡◌, ℕ, refl, ap, subst, ◌∙◌, arith}
use Rattle.std.specs.Prelude.{Bool, true, false, ◌==◌, ◌&&◌, ◌↔◌, IsTrue}
use Rattle.std.proofs.lemmas.Bool.Decides.{nat_tests}
use Rattle.s2_ports.specs.declared.requests.Request.{Request}
use Rattle.s2_ports.specs.declared.requests.Kind.{Kind}
use Rattle.s2_ports.specs.declared.requests.Kind.TheVariants.{Load, Store, Sync}
use Rattle.s2_voter.specs.RequestEquality.{is_same_kind, is_same_request}

same_number : (n : ℕ) → (n == n) ≡ true
same_number n = grind (arith, nat_tests)

same_kind : (a : Kind) → is_same_kind a a ≡ true
same_kind Load = refl
same_kind Store = refl
same_kind Sync = refl

pub same_self : (r : Request) → is_same_request r r ≡ true
same_self r = rw (same_kind r.kind, same_number r.address, same_number r.word, same_number r.mask, same_number r.run) refl

kind_is : (a b : Kind) → is_same_kind a b ≡ true → a ≡ b
kind_is Load Load h = refl
kind_is Store Store h = refl
kind_is Sync Sync h = refl
kind_is Load Store h = absurd cc
kind_is Load Sync h = absurd cc
kind_is Store Load h = absurd cc
kind_is Store Sync h = absurd cc
kind_is Sync Load h = absurd cc
kind_is Sync Store h = absurd cc

and_true : (a b : Bool) → (a && b) ≡ true → (a ≡ true) × (b ≡ true)
and_true true b h = (refl, h)
and_true false b h = absurd cc

number_is : (n m : ℕ) → (n == m) ≡ true → n ≡ m
number_is n m h = grind (arith, nat_tests)

abbrev request_made : Kind → ℕ → ℕ → ℕ → ℕ → Request
request_made kind address word mask run = record { kind = kind; address = address; word = word; mask = mask; run = run }

pub same_is : (a b : Request) → is_same_request a b ≡ true → a ≡ b
same_is a b h =
    let h1 = and_true (is_same_kind a.kind b.kind) _ h in
    let h2 = and_true (a.address == b.address) _ h1.1 in
    let h3 = and_true (a.word == b.word) _ h2.1 in
    let h4 = and_true (a.mask == b.mask) _ h3.1 in
    ap (λ (x : Kind). request_made x a.address a.word a.mask a.run) (kind_is a.kind b.kind h1.0) ∙
    (ap (λ (x : ℕ). request_made b.kind x a.word a.mask a.run) (number_is a.address b.address h2.0) ∙
    (ap (λ (x : ℕ). request_made b.kind b.address x a.mask a.run) (number_is a.word b.word h3.0) ∙
    (ap (λ (x : ℕ). request_made b.kind b.address b.word x a.run) (number_is a.mask b.mask h4.0) ∙ ap (λ (x : ℕ). request_made b.kind b.address b.word b.mask x) (number_is a.run b.run h4.1))))

bool_is : (b c : Bool) → (b ≡ true → c ≡ true) → (c ≡ true → b ≡ true) → b ≡ c
bool_is true true f g = refl
bool_is false false f g = refl
bool_is true false f g = absurd (let x = f refl in cc)
bool_is false true f g = absurd (let x = g refl in cc)

-- a result that is true exactly where two requests are equal is the test
pub test_is : (b : Bool) (x y : Request) → (IsTrue b ↔ (x ≡ y)) → b ≡ is_same_request x y
test_is b x y h =
    bool_is b (is_same_request x y) (λ t. subst (λ (z : Request). is_same_request x z ≡ true) (h.0 t) (same_self x)) (λ s. h.1 (same_is x y s))
