-- From the parts of a module to the module.
use Rattle.std.proofs.Common.{◌≡◌, ◌≢◌, ℕ, zero, suc, ◌%◌, List, Bool, false, refl, sym, ap, subst, ◌∙◌, arith, true, if◌then◌else◌}
use Rattle.s2_core.specs.Working.{is_local}
use Rattle.s2_machine.specs.Cores.{is_sync}
use Rattle.s2_ports.specs.declared.requests.Kind.{Kind}
use Rattle.s2_ports.specs.declared.requests.Kind.TheVariants.{Load, Store, Sync}
use Rattle.s2_triplex.specs.TriplexCores.{TriplexCore}
use Rattle.s2_module.specs.ModuleFinish.{answered_unless}
use Rattle.std.proofs.lemmas.Bool.Decides.{nat_tests}
use Rattle.std.specs.Prelude.{replicate, None, ◌&&◌}
use Rattle.s2_pages.specs.declared.page_store.TheConstants.{LOCAL_PAGES}
use Rattle.s2_pages.specs.PageMarks.{PagedWords, unmarked_words}
use Rattle.s2_cpu.specs.Processor.{Processor, start_of}
use Rattle.s2_ports.specs.declared.requests.Request.{Request}
use Rattle.s2_machine.specs.LocalWork.{ask_of, after_turn, local_after_turn, marks_after_turn, after_finish}
use Rattle.s2_machine.specs.declared.ask.Ask.{Ask}
use Rattle.s2_machine.specs.declared.ask.Ask.TheVariants.{Local, Outside}
use Rattle.s2_triplex.specs.R2000Triplex.{r2000_triplex}
use Rattle.s2_triplex.specs.ModuleState.{ModuleState, Replica, no_marks, replica_ask, replica_of, with_replica, ask_unless_due, started_module, is_frame_end}
use Rattle.s2_triplex.specs.ModuleFiring.{after_work, is_outside}
use Rattle.s2_triplex.specs.ModuleAnswer.{after_answered_cycle, finished_replica, is_asking}
use Rattle.s2_triplex.specs.ModuleFaults.{module_unmarked}

-- no page is marked
pub no_marks_list : no_marks ≡ replicate LOCAL_PAGES false
unfolding no_marks
no_marks_list = refl

-- the pages of a module at the start
pub started_by : (frame entry : ℕ) (local : List ℕ) (cpu : Processor) (s : PagedWords) → cpu ≡ start_of entry → s ≡ unmarked_words local
    → record { cpu = cpu; local = s.words; marks = s.marks; fires = 0; due = false; muted = false; port = None; frame = frame; private = 0 } ≡ started_module frame entry local
started_by frame entry local cpu s a b =
    ap (λ (p : Processor). record { cpu = p; local = s.words; marks = s.marks; fires = 0; due = false; muted = false; port = None; frame = frame; private = 0 }) a
    ∙ (ap (λ (t : PagedWords). record { cpu = start_of entry; local = t.words; marks = t.marks; fires = 0; due = false; muted = false; port = None; frame = frame; private = 0 }) b
    ∙ ap (λ (ms : List Bool). record { cpu = start_of entry; local = local; marks = ms; fires = 0; due = false; muted = false; port = None; frame = frame; private = 0 }) (sym no_marks_list))

-- the pages of a module without a mark
pub unmarked_by : (m n : ModuleState) (s : PagedWords) → n ≡ m → s ≡ unmarked_words n.local → record n { local = s.words; marks = s.marks } ≡ module_unmarked m
unmarked_by m n s seen a =
    ap (λ (t : PagedWords). record n { local = t.words; marks = t.marks }) a
    ∙ (ap (λ (ms : List Bool). record n { marks = ms }) (sym no_marks_list) ∙ ap module_unmarked seen)

-- a replica whose frame's end is not due asks for what its processor asks
pub asks_for_cycle : (cpu : Processor) (local : List ℕ) (due : Bool) (frame : ℕ) → due ≡ false
    → ask_of cpu local ≡ replica_ask r2000_triplex (record { cpu = cpu; local = local; due = due; frame = frame })
asks_for_cycle cpu local due frame none = ap (λ (b : Bool). ask_unless_due r2000_triplex (record { cpu = cpu; local = local; due = due; frame = frame }) b) (sym none)

-- a frame of no cycles never ends
pub no_frame_end : (run : ℕ) → is_frame_end 0 run ≡ false
no_frame_end zero = refl
no_frame_end (suc run) = let whole : suc run % 0 ≡ suc run = omega arith in grind (arith, nat_tests)

-- a cycle that asks nothing
pub turned_by : (m n : ModuleState) (seen : ℕ) (p : Processor) (s : PagedWords) (due : Bool) → n ≡ m → Local ≡ ask_of n.cpu n.local
    → p ≡ after_turn n.cpu n.local → s.words ≡ local_after_turn n.cpu n.local → s.marks ≡ marks_after_turn n.cpu n.local n.marks → due ≡ is_frame_end n.frame p.run
    → record n { cpu = p; local = s.words; marks = s.marks; due = due } ≡ after_work r2000_triplex seen m (ask_of m.cpu m.local)
turned_by m n seen p s due same asked a b c d =
    ap (λ (x : Bool). record n { cpu = p; local = s.words; marks = s.marks; due = x }) d
    ∙ (ap (λ (q : Processor). record n { cpu = q; local = s.words; marks = s.marks; due = is_frame_end n.frame q.run }) a
    ∙ (ap (λ (l : List ℕ). record n { cpu = after_turn n.cpu n.local; local = l; marks = s.marks; due = is_frame_end n.frame (after_turn n.cpu n.local).run }) b
    ∙ (ap (λ (l : List Bool). record n { cpu = after_turn n.cpu n.local; local = local_after_turn n.cpu n.local; marks = l; due = is_frame_end n.frame (after_turn n.cpu n.local).run }) c
    ∙ (ap (λ (x : Ask). after_work r2000_triplex seen n x) asked
    ∙ ap (λ (x : ModuleState). after_work r2000_triplex seen x (ask_of x.cpu x.local)) same))))

-- a cycle that asks for an access is posted
pub posted_by : (m n : ModuleState) (seen : ℕ) (p : Processor) (s : PagedWords) (r : Request) → n ≡ m → Outside r ≡ ask_of n.cpu n.local
    → p ≡ n.cpu → s.words ≡ n.local → s.marks ≡ n.marks
    → after_work r2000_triplex seen (record n { cpu = p; local = s.words; marks = s.marks }) (Outside r) ≡ after_work r2000_triplex seen m (ask_of m.cpu m.local)
posted_by m n seen p s r same asked a b c =
    ap (λ (q : Processor). after_work r2000_triplex seen (record n { cpu = q; local = s.words; marks = s.marks }) (Outside r)) a
    ∙ (ap (λ (l : List ℕ). after_work r2000_triplex seen (record n { local = l; marks = s.marks }) (Outside r)) b
    ∙ (ap (λ (l : List Bool). after_work r2000_triplex seen (record n { marks = l }) (Outside r)) c
    ∙ (ap (λ (x : Ask). after_work r2000_triplex seen n x) asked
    ∙ ap (λ (x : ModuleState). after_work r2000_triplex seen x (ask_of x.cpu x.local)) same)))

-- whether it is posted
pub posts_by : (m n : ModuleState) (a : Ask) → n ≡ m → a ≡ ask_of n.cpu n.local → is_outside a ≡ is_outside (ask_of m.cpu m.local)
posts_by m n a same asked = ap is_outside asked ∙ ap (λ (x : ModuleState). is_outside (ask_of x.cpu x.local)) same

-- the end of a cycle that asked for an access
pub finished_by : (m n : ModuleState) (word lines : ℕ) (p : Processor) (s : PagedWords) (due : Bool) → n ≡ m
    → p ≡ after_finish n.cpu n.local word lines → s ≡ record { words = n.local; marks = n.marks } → due ≡ is_frame_end n.frame p.run
    → record n { cpu = p; local = s.words; marks = s.marks; due = due } ≡ with_replica m (after_answered_cycle r2000_triplex word lines (replica_of m))
finished_by m n word lines p s due same a b d =
    ap (λ (x : Bool). record n { cpu = p; local = s.words; marks = s.marks; due = x }) d
    ∙ (ap (λ (t : PagedWords). record n { cpu = p; local = t.words; marks = t.marks; due = is_frame_end n.frame p.run }) b
    ∙ (ap (λ (q : Processor). record n { cpu = q; due = is_frame_end n.frame q.run }) a
    ∙ ap (λ (x : ModuleState). with_replica x (after_answered_cycle r2000_triplex word lines (replica_of x))) same))

-- a module whose state is seen in its parts asks the same
pub asked_by : (m n : ModuleState) → n ≡ m → (ask_of m.cpu m.local ≢ Local) → ask_of n.cpu n.local ≢ Local
asked_by m n same = subst (λ (x : ModuleState). ask_of x.cpu x.local ≢ Local) (sym same)

-- what a cycle left that was run, and one that was not
pub ran : {A : Type 0} (b : Bool) (x after before : A) → b ≡ true → x ≡ (if b then after else before) → x ≡ after
ran true x after before e h = h
ran false x after before e h = absurd cc

pub rested : {A : Type 0} (b : Bool) (x after before : A) → b ≡ false → x ≡ (if b then after else before) → x ≡ before
rested true x after before e h = absurd cc
rested false x after before e h = h

pub same_parts : (m n : ModuleState) (p : Processor) (s : PagedWords) → n ≡ m → p ≡ n.cpu → s.words ≡ n.local → s.marks ≡ n.marks
    → record n { cpu = p; local = s.words; marks = s.marks } ≡ m
same_parts m n p s same a b c =
    ap (λ (q : Processor). record n { cpu = q; local = s.words; marks = s.marks }) a
    ∙ (ap (λ (l : List ℕ). record n { local = l; marks = s.marks }) b
    ∙ (ap (λ (l : List Bool). record n { marks = l }) c ∙ same))

asking : (m : ModuleState) → is_local (ask_of m.cpu m.local) ≡ false → ask_of m.cpu m.local ≢ Local
asking m e h = let yes : is_local (ask_of m.cpu m.local) ≡ true = ap is_local h in cc

pub asking_by : (m n e : ModuleState) (b : Bool) → e ≡ m → n ≡ m → b ≡ false → b ≡ is_local (ask_of n.cpu n.local) → ask_of e.cpu e.local ≢ Local
asking_by m n e b seen same rests is = asking e (ap (λ (x : ModuleState). is_local (ask_of x.cpu x.local)) (seen ∙ sym same) ∙ (sym is ∙ rests))

outside_not : (a : Ask) → is_local a ≡ true → false ≡ is_outside a
outside_not Local e = refl
outside_not (Outside r) e = absurd cc

outside_yes : (a : Ask) → is_local a ≡ false → true ≡ is_outside a
outside_yes Local e = absurd cc
outside_yes (Outside r) e = refl

pub outside_of : (m n : ModuleState) (b : Bool) → n ≡ m → b ≡ true → b ≡ is_local (ask_of n.cpu n.local) → false ≡ is_outside (ask_of m.cpu m.local)
outside_of m n b same runs is = outside_not (ask_of m.cpu m.local) (ap (λ (x : ModuleState). is_local (ask_of x.cpu x.local)) (sym same) ∙ (sym is ∙ runs))

pub outside_is : (m n : ModuleState) (b : Bool) → n ≡ m → b ≡ false → b ≡ is_local (ask_of n.cpu n.local) → true ≡ is_outside (ask_of m.cpu m.local)
outside_is m n b same rests is = outside_yes (ask_of m.cpu m.local) (ap (λ (x : ModuleState). is_local (ask_of x.cpu x.local)) (sym same) ∙ (sym is ∙ rests))

pub posted_as : (m n e : ModuleState) (seen : ℕ) (r : Request) → n ≡ m → Outside r ≡ ask_of n.cpu n.local → e ≡ after_work r2000_triplex seen n (Outside r) → e ≡ after_work r2000_triplex seen m (ask_of m.cpu m.local)
posted_as m n e seen r same asked is =
    is ∙ (ap (λ (a : Ask). after_work r2000_triplex seen n a) asked ∙ ap (λ (x : ModuleState). after_work r2000_triplex seen x (ask_of x.cpu x.local)) same)

-- an answer to a load or store
access_finished : (k : TriplexCore) (kind : Kind) (word lines : ℕ) (s : Replica) → is_sync kind ≡ false → finished_replica k kind word lines s ≡ after_answered_cycle k word lines s
access_finished k Load word lines s e = refl
access_finished k Store word lines s e = refl
access_finished k Sync word lines s e = absurd cc

answered_by_test : (n : ModuleState) (word lines : ℕ) (asks : Bool) (p : Processor) (due : Bool) → n.due ≡ false
    → p ≡ (if asks then after_finish n.cpu n.local word lines else n.cpu) → due ≡ (asks && is_frame_end n.frame p.run)
    → record n { cpu = p; due = due } ≡ (if asks then with_replica n (after_answered_cycle r2000_triplex word lines (replica_of n)) else n)
answered_by_test n word lines true p due none a d =
    ap (λ (x : Bool). record n { cpu = p; due = x }) d
    ∙ ap (λ (q : Processor). record n { cpu = q; due = is_frame_end n.frame q.run }) a
answered_by_test n word lines false p due none a d =
    ap (λ (x : Bool). record n { cpu = p; due = x }) (d ∙ sym none) ∙ ap (λ (q : Processor). record n { cpu = q }) a

pub answered_by : (m n : ModuleState) (r : Request) (word lines : ℕ) (asks : Bool) (p : Processor) (due : Bool) → n ≡ m → m.due ≡ false → is_sync r.kind ≡ false
    → asks ≡ is_asking (ask_of n.cpu n.local) r → p ≡ (if asks then after_finish n.cpu n.local word lines else n.cpu) → due ≡ (asks && is_frame_end n.frame p.run)
    → record n { cpu = p; due = due } ≡ answered_unless r2000_triplex r word lines m
answered_by m n r word lines asks p due same none kind is a d =
    let no : n.due ≡ false = ap (λ (x : ModuleState). x.due) same ∙ none in
    answered_by_test n word lines asks p due no a d
    ∙ (ap (λ (b : Bool). if b then with_replica n (after_answered_cycle r2000_triplex word lines (replica_of n)) else n) (is ∙ ap (λ (x : Ask). is_asking x r) (asks_for_cycle n.cpu n.local n.due n.frame no))
    ∙ (ap (λ (s : Replica). if is_asking (replica_ask r2000_triplex (replica_of n)) r then with_replica n s else n) (sym (access_finished r2000_triplex r.kind word lines (replica_of n) kind))
    ∙ ap (answered_unless r2000_triplex r word lines) same))
