-- What the laws of copied pages read of a machine is what its modules hold.
use Rattle.std.proofs.Common.{◌≡◌, ℕ, zero, suc, ◌<◌, List, length, refl, sym, ap, subst, ◌∙◌, arith}
use Rattle.std.specs.Prelude.{Bool}
use Rattle.s2_plant_laws.specs.DirtyPages.{UnmarkedPagesStay}
use Rattle.s2_plant_laws.specs.LocalReplicas.{replica_words, replica_marks}
use Rattle.s2_plant_laws.specs.CopiedPages.{CopiedPages}
use Rattle.s2_plant_laws.proofs.CopiedPages.{copied_pages_after_act}
use Rattle.s2_triplex.specs.TriplexState.{TriplexState, Reintegration, module_at}
use Rattle.s2_triplex_laws.specs.RepairInvariant.{local_replicas}

pub local_of_is : (d : TriplexState) (j : Reintegration) (q : ℕ) → q < 3 → replica_words (local_replicas d j) q ≡ (module_at d.modules q).local
local_of_is d j zero h = refl
local_of_is d j (suc zero) h = refl
local_of_is d j (suc (suc zero)) h = refl
local_of_is d j (suc (suc (suc q))) h = absurd (omega arith)

pub marks_of_is : (d : TriplexState) (j : Reintegration) (q : ℕ) → q < 3 → replica_marks (local_replicas d j) q ≡ (module_at d.modules q).marks
marks_of_is d j zero h = refl
marks_of_is d j (suc zero) h = refl
marks_of_is d j (suc (suc zero)) h = refl
marks_of_is d j (suc (suc (suc q))) h = absurd (omega arith)

pub leaves_moved : (a b c e : List ℕ) (x y z w : List Bool) → a ≡ c → x ≡ z → b ≡ e → y ≡ w → UnmarkedPagesStay c z e w → UnmarkedPagesStay a x b y
leaves_moved a b c e x y z w ea ex eb ey h =
    subst (λ (l : List ℕ). UnmarkedPagesStay l x b y) (sym ea)
    (subst (λ (l : List Bool). UnmarkedPagesStay c l b y) (sym ex) (subst (λ (l : List ℕ). UnmarkedPagesStay c z l y) (sym eb) (subst (λ (l : List Bool). UnmarkedPagesStay c z e l) (sym ey) h)))

-- where no local list and no mark changes
pub same_copied : (d e : TriplexState) (j : Reintegration) → ((q : ℕ) → q < 3 → (module_at e.modules q).local ≡ (module_at d.modules q).local) →
    ((q : ℕ) → q < 3 → (module_at e.modules q).marks ≡ (module_at d.modules q).marks) → CopiedPages (local_replicas d j) → CopiedPages (local_replicas e j)
same_copied d e j locals marks h =
    copied_pages_after_act (local_replicas d j) (local_replicas e j) (record {
      join = refl;
      disturbed = λ calm. (refl, local_same j.copying.joiner h.joiner);
      members = λ q m. (local_same q m.0, marks_of_is e j q m.0 ∙ (marks q m.0 ∙ sym (marks_of_is d j q m.0)));
      sizes = λ q hq. ap length (local_same q hq);
    }) h
  where
    local_same : (q : ℕ) → q < 3 → replica_words (local_replicas e j) q ≡ replica_words (local_replicas d j) q
    local_same q hq = local_of_is e j q hq ∙ (locals q hq ∙ sym (local_of_is d j q hq))
