-- Main of the second program runs the same in both languages: by the theorem, and by computing.
use Rattle.std.proofs.Common.{◌≡◌, refl, ℕ, List, [], Some, None, true}
use Rattle.std.specs.Fmt.{digits}
use Rattle.bound_tree.specs.RuleSets.{has, none, both}
use Rattle.run_base.specs.Outcomes.{outputs}
use Rattle.vb6_run.specs.Programs.{run6}
use Rattle.net_run.specs.Program.{run_net}
use Rattle.run_matches.specs.Agreeing.{Agrees, ResultMatch}
use Rattle.run_matches.specs.Maps.{mark}
use Rattle.run_matches.specs.Runs.{call_pledge, with_inputs}
use Rattle.run_matches.specs.Upgrades.{runnable_of, written_number}
use Rattle.inhabited_laws.specs.Memories.{is_given}
use Rattle.inhabited_laws.specs.Objects.{object_sample}
use Rattle.inhabited_laws.specs.ObjectMemories.{object_source, object_target, object_world, said}
use Rattle.inhabited_laws.proofs.ObjectStores.{objects_may_start}
use Rattle.inhabited_laws.proofs.ObjectsWritten.{objects_are_clean, objects_are_covered, objects_are_written}
use Rattle.inhabited_laws.proofs.Stated.{run_as}

-- Main is written as the first procedure
main_goes : written_number object_sample 0 ≡ Some 0
unfolding has none both
main_goes = refl

pub objects_run_the_same : (inputs : List (List ℕ)) (n : ℕ)
    → Agrees object_sample (call_pledge object_sample 0 (mark object_source) None [] []) object_world (ResultMatch object_sample)
    (run6 (runnable_of object_sample) 0 None [] inputs n object_source)
    (run_net object_sample.written n 0 None [] (with_inputs inputs object_target))
objects_run_the_same inputs n =
    run_as object_sample objects_are_written 0 0 (objects_are_clean 0) objects_are_covered main_goes object_world None [] [] inputs n objects_may_start

pub source_prints : outputs (run6 (runnable_of object_sample) 0 None [] [] 120 object_source) ≡ said
unfolding digits
source_prints = refl

pub target_prints : outputs (run_net object_sample.written 120 0 None [] object_target) ≡ said
unfolding digits has none both
target_prints = refl

pub source_is_given : is_given (run6 (runnable_of object_sample) 0 None [] [] 120 object_source) ≡ true
unfolding digits
source_is_given = refl
