-- The words of the command line.
use Rattle.std.specs.Prelude.{ℕ, ◌≡◌, ◌≢◌, ◌≤◌, List, [], ◌∷◌, codes, decimal}
use Rattle.s2_run.specs.declared.words.Command.{Command}
use Rattle.s2_run.specs.declared.words.Command.TheVariants.{Run, Single, Check, Load}
use Rattle.s2_gen.specs.declared.workloads.TheConstants.{WORKLOADS}

-- what a command line asks for
pub data Request : Type 0 where
  -- a script is run on the program of a file
  run : List ℕ → Request
  -- a report is run again on the program of a file, by one processor
  single : List ℕ → Request
  -- a script is checked
  check : Request
  -- a workload is run
  load : ℕ → Request

-- its words
abbrev pub words_of : Request → List (List ℕ)
words_of (run name) = codes "run" ∷ name ∷ []
words_of (single name) = codes "single" ∷ name ∷ []
words_of check = codes "check" ∷ []
words_of (load n) = codes "load" ∷ decimal n ∷ []

-- a workload has a number from 1 on
abbrev pub IsOffered : Request → Type 0
IsOffered (run name) = Unit {0}
IsOffered (single name) = Unit {0}
IsOffered check = Unit {0}
IsOffered (load n) = (1 ≤ n) × (n ≤ WORKLOADS)

-- for the parts of the top call: a word is the number of a workload
pub record IsWorkload (word : List ℕ) (n : ℕ) : Type 0 where
  pub text : word ≡ decimal n
  pub first : 1 ≤ n
  pub last : n ≤ WORKLOADS

-- the words ask for nothing that is offered
abbrev pub IsUsage : List (List ℕ) → Type 0
IsUsage words = (request : Request) → IsOffered request → words ≢ words_of request

-- for the parts of the top call: the request that a command is
abbrev pub request_of : Command → Request
request_of (Run name) = run name.now
request_of (Single name) = single name.now
request_of Check = check
request_of (Load n) = load n
