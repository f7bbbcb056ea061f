-- Main runs the same in both languages: by the theorem, and by computing.
use Rattle.std.proofs.Common.{◌≡◌, refl, sym, subst, ◌∙◌, ℕ, List, [], ◌∷◌, ◌++◌, codes, Some, None, true}
use Rattle.std.specs.Fmt.{digits}
use Rattle.bound_tree.specs.RuleSets.{has, none, both}
use Rattle.run_base.specs.Outcomes.{outputs, printed}
use Rattle.vb6_run.specs.Programs.{run6}
use Rattle.net_run.specs.Program.{run_net}
use Rattle.run_matches.specs.Agreeing.{Agrees, ResultMatch}
use Rattle.run_matches.specs.Maps.{mark}
use Rattle.run_matches.specs.Runs.{RunsTheSame, SameRun, call_pledge, with_inputs}
use Rattle.run_matches.specs.Upgrades.{Upgrade, runnable_of, written_number}
use Rattle.run_matches.specs.Covered.{IsCovered}
use Rattle.run_statements.specs.Written.{IsWritten}
use Rattle.bound_facts.specs.Clean.{IsClean}
use Rattle.name_laws.proofs.Lists.{some_same}
use Rattle.run_laws.proofs.Composed.{same_runs}
use Rattle.inhabited_laws.specs.Memories.{is_given, sample_source, sample_target, sample_world}
use Rattle.inhabited_laws.specs.Sample.{sample}
use Rattle.inhabited_laws.proofs.Stores.{may_start}
use Rattle.inhabited_laws.proofs.Written.{main_is_covered, sample_is_clean, sample_is_written}

-- Main is written as the first procedure
main_goes : written_number sample 0 ≡ Some 0
unfolding has none both
main_goes = refl

-- a procedure and the one that is written for it run the same, by the theorem
pub run_as : (U : Upgrade) → IsWritten U → (p q : ℕ) → IsClean U.program U.facts.marks p → IsCovered U.program p → written_number U p ≡ Some q → SameRun U p q
run_as U is p q clean covered goes =
    let runs : RunsTheSame U p = same_runs U is p clean covered in
    subst (λ n. SameRun U p n) (some_same runs.written q (sym runs.is_written ∙ goes)) runs.same

pub sample_runs_the_same : (inputs : List (List ℕ)) (n : ℕ)
    → Agrees sample (call_pledge sample 0 (mark sample_source) None [] []) sample_world (ResultMatch sample)
    (run6 (runnable_of sample) 0 None [] inputs n sample_source)
    (run_net sample.written n 0 None [] (with_inputs inputs sample_target))
sample_runs_the_same inputs n = run_as sample sample_is_written 0 0 (sample_is_clean 0) main_is_covered main_goes sample_world None [] [] inputs n may_start

pub source_prints : outputs (run6 (runnable_of sample) 0 None [] [] 60 sample_source) ≡ printed (codes " 6  2  8 " ++ 13 ∷ 10 ∷ []) ∷ printed (codes " 9 " ++ 13 ∷ 10 ∷ []) ∷ []
unfolding digits
source_prints = refl

pub target_prints : outputs (run_net sample.written 60 0 None [] sample_target) ≡ printed (codes " 6  2  8 " ++ 13 ∷ 10 ∷ []) ∷ printed (codes " 9 " ++ 13 ∷ 10 ∷ []) ∷ []
unfolding digits has none both
target_prints = refl

pub source_is_given : is_given (run6 (runnable_of sample) 0 None [] [] 60 sample_source) ≡ true
unfolding digits
source_is_given = refl
