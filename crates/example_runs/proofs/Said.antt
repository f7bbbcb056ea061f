-- What is said of the run of a program: all that it puts out, and how it ends.
use Rattle.std.proofs.Common.{ℕ, ℤ, pos, Bool, false, cond, nat_eq, List, [], ◌∷◌, ◌++◌, codes, Option, Some, None}
use Rattle.std.specs.Prelude.{suc, zero, slice_get}
use Rattle.vb_tree.specs.declared.declared.VarId.{VarId}
use Rattle.bound_tree.specs.Tree.{Program}
use Rattle.run_base.specs.Outcomes.{Output, printed, asked, boxed, Outcome, gives, raises, spent, outside, line_end}
use Rattle.vb6_run.specs.Runnables.{Runnable}
use Rattle.vb6_run.specs.Programs.{run_program}
use Rattle.net_tree.specs.Tree.{Project}
use Rattle.net_run.specs.Program.{program_runs}

pub data Ending : Type 0 where
  ended : Ending
  raised : ℕ → Ending
  steps_spent : Ending
  is_outside : Ending

-- a box and a question are marked
abbrev pub text_of : Output → List ℕ
text_of (printed s) = s
text_of (asked s) = codes "[ask] " ++ s ++ 10 ∷ []
text_of (boxed s) = codes "[box] " ++ s ++ 10 ∷ []

abbrev pub texts_of : List Output → List ℕ
texts_of [] = []
texts_of (o ∷ outputs) = text_of o ++ texts_of outputs

abbrev pub told : {M A : Type 0} → Outcome M A → List ℕ × Ending
told (gives o a w) = (texts_of o, ended)
told (raises o e w) = (texts_of o, raised e)
told (spent o w) = (texts_of o, steps_spent)
told (outside o) = (texts_of o, is_outside)

-- a line that is printed
abbrev pub line : List ℕ → List ℕ
line s = s ++ line_end

abbrev pub note : List ℕ → List ℕ
note s = s ++ 10 ∷ []

-- ---- what analyses find, as lists

abbrev pub is_some_true : Option Bool → Bool
is_some_true None = false
is_some_true (Some b) = b

abbrev pub flag_in : Option (List Bool) → ℕ → Bool
flag_in None i = false
flag_in (Some flags) i = is_some_true (slice_get flags i)

abbrev pub quiet_in : List (List Bool) → (procedure place : ℕ) → Bool
quiet_in table p i = flag_in (slice_get table p) i

abbrev pub low_of : (dimension : ℕ) → (first second : ℤ) → ℤ
low_of zero a b = a
low_of (suc zero) a b = b
low_of (suc (suc d)) a b = pos 0

abbrev pub low_in : List (VarId × ℤ × ℤ) → (variable dimension : ℕ) → ℤ
low_in [] v d = pos 0
low_in (l ∷ lows) v d = cond (nat_eq l.0.0 v) (low_of d l.1 l.2) (low_in lows v d)

abbrev pub runnable_of : Program → List (List Bool) → List (VarId × ℤ × ℤ) → Runnable
runnable_of P quiet lows = record { program = P; quiet = quiet_in quiet; low = low_in lows }

-- how a program runs from a procedure, with at most n steps and these answers to its questions
abbrev pub ran_with : Runnable → (procedure n : ℕ) → (answers : List (List ℕ)) → List ℕ × Ending
ran_with R p n answers = told (run_program R p answers n)

abbrev pub ran : Runnable → (procedure n : ℕ) → List ℕ × Ending
ran R p n = ran_with R p n []

-- the same of a written project
abbrev pub ran_written_with : Project → (procedure n : ℕ) → (answers : List (List ℕ)) → List ℕ × Ending
ran_written_with N p n answers = told (program_runs N n p answers)

abbrev pub ran_written : Project → (procedure n : ℕ) → List ℕ × Ending
ran_written N p n = ran_written_with N p n []
