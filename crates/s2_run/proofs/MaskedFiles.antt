-- Every run of an accepted file's program is masked, and a run that no count disturbs is done.
use Rattle.std.proofs.Common.{◌≡◌, ℕ, List, length}
use Rattle.std.proofs.lemmas.List.FromFn.{length-map-range_with_len}
use Rattle.s2_base.specs.declared.map.TheConstants.{LOCAL_WORDS, GLOBAL_WORDS}
use Rattle.s2_elf.specs.Images.{image_of, image_word, local_address, global_address}
use Rattle.s2_run.specs.MaskedRuns.{ScriptsAreMasked}
use Rattle.s2_run.proofs.MaskedScripts.{every_script_is_masked}

local_size : (file : List ℕ) → length (image_of file).local ≡ LOCAL_WORDS
unfolding image_of
local_size file = length-map-range_with_len (λ (i : ℕ). image_word file (local_address i)) 0 LOCAL_WORDS

global_size : (file : List ℕ) → length (image_of file).global ≡ GLOBAL_WORDS
unfolding image_of
global_size file = length-map-range_with_len (λ (i : ℕ). image_word file (global_address i)) 0 GLOBAL_WORDS

pub file_is_masked : (file : List ℕ) → ScriptsAreMasked (image_of file)
file_is_masked file = every_script_is_masked (image_of file) (local_size file) (global_size file)
