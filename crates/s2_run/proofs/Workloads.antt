-- Every workload's run is masked, and where no count rises its end is the answer.
use Rattle.std.proofs.Common.{◌≡◌, ℕ, length, ap, sym, ◌∙◌, inl, inr, refl, subst, rules}
use Rattle.std.specs.Prelude.{Some, None, Ok, Err, ◌⊎◌}
use Rattle.std.specs.declared.option.Option.{Option}
use Rattle.std.specs.declared.result.Result.{Result}
use Rattle.std.proofs.lemmas.List.{length-replicate}
use Rattle.s2_base.specs.declared.map.TheConstants.{GLOBAL_WORDS}
use Rattle.s2_elf.specs.MemoryImage.{MemoryImage}
use Rattle.s2_gen.specs.ProgramImage.{IsWorkloadImage}
use Rattle.s2_gen.specs.WorkloadScript.{workload_entries}
use Rattle.s2_gen.proofs.UniqueImages.{images_equal}
use Rattle.s2_journal.specs.declared.note.End.{End}
use Rattle.s2_triplex.specs.TriplexState.{TriplexState}
use Rattle.s2_run.specs.SeenObjects.{SinkSeen, SinkRose}
use Rattle.s2_run.specs.ScriptRuns.{end_of}
use Rattle.s2_run.specs.MaskedRuns.{first_triplex, RunIsMasked}
use Rattle.s2_run.specs.EntryRuns.{AreProperEntries, WrittenRun}
use Rattle.s2_run.specs.RunTranscript.{Taken}
use Rattle.s2_run.specs.Headline.{whole, cut, cut_closing}
use Rattle.s2_run.specs.RunCommand.{end_status}
use Rattle.s2_run.specs.LoadCommand.{workload_run, load_status, both_taken, LeavesWorkload, LoadEnds, WorkloadHeadline}
use Rattle.s2_run.specs.declared.load.WorkloadFault.{WorkloadFault}
use Rattle.s2_run.specs.declared.load.WorkloadFault.TheVariants.{Write, Memory as NoMemory}
use Rattle.s2_run.specs.declared.status.Status.{Status}
use Rattle.s2_run.specs.declared.status.Status.TheVariants.{Done, WriteFault, Memory}
use Rattle.s2_triplex_laws.proofs.FirstState.{first_frame}
use Rattle.s2_run.proofs.CompleteRuns.{whole_is_done}
use Rattle.s2_run.proofs.Headlines.{whole_promise, cut_promise, closing_promise}
use Rattle.s2_run.proofs.WorkloadEnds.{workload_ends}
use Rattle.s2_run.proofs.MaskedScripts.{run_masked}
use Rattle.s2_run.proofs.EntryRuns.{entries_lawful}

pub workload_proper : AreProperEntries workload_entries
workload_proper = (search rules, (search rules, (search rules, (search rules, (search rules, tt)))))

pub workload_is_masked : (n : ℕ) (image : MemoryImage) → IsWorkloadImage n image → RunIsMasked 1024 image (workload_run image)
workload_is_masked n image is =
    run_masked 1024 image first_frame (record { local = is.size; global = ap length is.global ∙ length-replicate {A = ℕ} GLOBAL_WORDS 0 }) (workload_run image)
    (entries_lawful 1 (first_triplex 1024 image) workload_entries workload_proper refl)

by_outcome : (n : ℕ) (image : MemoryImage) (outcome : Result End WorkloadFault) (last : Option TriplexState) (c c' r r' : SinkSeen) → IsWorkloadImage n image → LoadEnds n outcome last c c' r r' → (SinkRose c c' → ⊥) → (SinkRose r r' → ⊥) →
    (load_status outcome ≡ end_status (end_of (workload_run image).end)) ⊎ (load_status outcome ≡ Memory)
by_outcome n image (Ok end) last c c' r r' is h console report =
    inl (ap end_status (h.ends.end_is ∙ ap (λ (i : MemoryImage). end_of (workload_run i).end) (images_equal n h.image image h.image_is is)))
by_outcome n image (Err Write) last c c' r r' is (h, inl rose) console report = absurd (console rose)
by_outcome n image (Err Write) last c c' r r' is (h, inr rose) console report = absurd (report rose)
by_outcome n image (Err NoMemory) last c c' r r' is h console report = inr refl

by_end : (n : ℕ) (outcome : Result End WorkloadFault) (last : Option TriplexState) (c c' r r' : SinkSeen) → LoadEnds n outcome last c c' r r' →
    (load_status outcome ≡ Done) ⊎ (((load_status outcome ≡ WriteFault) × (SinkRose c c' ⊎ SinkRose r r')) ⊎ (load_status outcome ≡ Memory))
by_end n (Ok end) last c c' r r' h = inl (ap end_status h.ends.end_is ∙ whole_is_done (end_of (workload_run h.image).end) (workload_ends h.image))
by_end n (Err Write) last c c' r r' h = inr (inl (refl, h.1))
by_end n (Err NoMemory) last c c' r r' h = inr (inr refl)

pub load_always_ends : (n : ℕ) (outcome : Result End WorkloadFault) (answer : Status) (last : Option TriplexState) (c c' r r' : SinkSeen) → answer ≡ load_status outcome → LoadEnds n outcome last c c' r r' →
    (answer ≡ Done) ⊎ (((answer ≡ WriteFault) × (SinkRose c c' ⊎ SinkRose r r')) ⊎ (answer ≡ Memory))
load_always_ends n outcome answer last c c' r r' answered h =
    subst (λ (s : Status). (s ≡ Done) ⊎ (((s ≡ WriteFault) × (SinkRose c c' ⊎ SinkRose r r')) ⊎ (s ≡ Memory))) (sym answered) (by_end n outcome last c c' r r' h)

pub load_is_complete : (n : ℕ) (image : MemoryImage) (outcome : Result End WorkloadFault) (answer : Status) (last : Option TriplexState) (c c' r r' : SinkSeen) → answer ≡ load_status outcome → IsWorkloadImage n image → LoadEnds n outcome last c c' r r' → (SinkRose c c' → ⊥) → (SinkRose r r' → ⊥) →
    (answer ≡ end_status (end_of (workload_run image).end)) ⊎ (answer ≡ Memory)
load_is_complete n image outcome answer last c c' r r' answered is h console report =
    subst (λ (s : Status). (s ≡ end_status (end_of (workload_run image).end)) ⊎ (s ≡ Memory)) (sym answered) (by_outcome n image outcome last c c' r r' is h console report)

-- the promise on the run that a machine is left by
headline_by : (n : ℕ) (image : MemoryImage) (outcome : Result End WorkloadFault) (d : TriplexState) (before now : Taken) → IsWorkloadImage n image →
    WrittenRun (workload_run image) outcome d before now → ((outcome ≡ Err NoMemory) → ⊥) → WorkloadHeadline n outcome d before now
headline_by n image (Ok end) d before now is h made = record {
  image = image;
  image_is = is;
  extent = whole;
  made = ap (λ (e : End). Ok e) h.end_is;
  promise = whole_promise 1024 image (workload_run image) (workload_is_masked n image is) d before now h.state_is h.wrote;
}
headline_by n image (Err Write) d before now is (inl h) made = record {
  image = image;
  image_is = is;
  extent = cut;
  made = refl;
  promise = cut_promise 1024 image (workload_run image) (workload_is_masked n image is) d before now h;
}
headline_by n image (Err Write) d before now is (inr h) made = record {
  image = image;
  image_is = is;
  extent = cut_closing;
  made = refl;
  promise = closing_promise 1024 image (workload_run image) (workload_is_masked n image is) d before now h.bytes h.state_is h.short h.wrote;
}
headline_by n image (Err NoMemory) d before now is h made = absurd (made refl)

one_machine : (s d : TriplexState) (last : Option TriplexState) → last ≡ Some s → last ≡ Some d → s ≡ d
one_machine s d last x y = cc

left_headline : (n : ℕ) (outcome : Result End WorkloadFault) (last : Option TriplexState) (d : TriplexState) (before now : Taken) →
    LeavesWorkload n outcome last before now → last ≡ Some d → ((outcome ≡ Err NoMemory) → ⊥) → WorkloadHeadline n outcome d before now
left_headline n outcome last d before now h is made =
    headline_by n h.image outcome d before now h.image_is
    (subst (λ (e : TriplexState). WrittenRun (workload_run h.image) outcome e before now) (one_machine h.state d last h.last_is is) h.ends) made

pub load_headline : (n : ℕ) (outcome : Result End WorkloadFault) (last : Option TriplexState) (d : TriplexState) (c c' r r' : SinkSeen) →
    LoadEnds n outcome last c c' r r' → last ≡ Some d → WorkloadHeadline n outcome d (both_taken c r) (both_taken c' r')
load_headline n (Ok end) last d c c' r r' h is = left_headline n (Ok end) last d (both_taken c r) (both_taken c' r') h is (λ e. cc)
load_headline n (Err Write) last d c c' r r' h is = left_headline n (Err Write) last d (both_taken c r) (both_taken c' r') h.0 is (λ e. cc)
load_headline n (Err NoMemory) last d c c' r r' h is = absurd (let e : None ≡ Some d = sym h.2 ∙ is in cc)
