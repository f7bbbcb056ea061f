-- Worked examples of the expressions of lines.
use Rattle.std.proofs.Common.{◌≡◌, false, [], ◌∷◌, Some, None, refl, codes}
use Rattle.vb_tree.specs.declared.token.Suffix.TheVariants as suffix
use Rattle.vb_tree.specs.Tree.{assign, case_line, case_range, case_value, else_line, for_each, for_head, given, index, invoke, next_arg, no_args, redim, word}
use Rattle.binder.specs.declared.parts.Task.TheVariants as task
use Rattle.binder.specs.Parts.{part, parts}
use Rattle.binder.proofs.Sample.{one, plain}

-- a = 1
assigned : parts (assign (plain (codes "a")) one) ≡ part task.LetTarget (plain (codes "a")) ∷ part task.LetValue one ∷ []
assigned = refl

-- Foo
alone : parts (invoke (plain (codes "Foo")) no_args) ≡ part task.Callee (plain (codes "Foo")) ∷ []
alone = refl

-- Foo 1
with_an_argument : parts (invoke (plain (codes "Foo")) (next_arg None false (given one) no_args))
    ≡ part task.Callee (index (plain (codes "Foo")) (next_arg None false (given one) no_args)) ∷ []
with_an_argument = refl

-- For i = 1 To n Step 1
counting : parts (for_head (plain (codes "i")) one (plain (codes "n")) (Some one))
    ≡ part task.Counter (plain (codes "i")) ∷ part task.Limit one ∷ part task.Limit (plain (codes "n")) ∷ part task.Limit one ∷ []
counting = refl

-- For Each x In y
each : parts (for_each (codes "x") suffix.Absent (plain (codes "y"))) ≡ part task.Array (word (codes "x") suffix.Absent) ∷ part task.Whole (plain (codes "y")) ∷ []
each = refl

-- Case 1, a To b
cases : parts (case_line (case_value one ∷ case_range (plain (codes "a")) (plain (codes "b")) ∷ []))
    ≡ part task.Choice one ∷ part task.Choice (plain (codes "a")) ∷ part task.Choice (plain (codes "b")) ∷ []
cases = refl

-- ReDim a(1 To n, m), b(1)
resized : parts
    (redim false
    (record { array = plain (codes "a"); bounds = record { lower = Some one; upper = plain (codes "n") } ∷ record { lower = None; upper = plain (codes "m") } ∷ []; ty = None }
    ∷ record { array = plain (codes "b"); bounds = record { lower = None; upper = one } ∷ []; ty = None } ∷ []))
    ≡ part task.Array (plain (codes "a")) ∷ part task.Bound one ∷ part task.Bound (plain (codes "n")) ∷ part task.Bound (plain (codes "m"))
    ∷ part task.Array (plain (codes "b")) ∷ part task.Bound one ∷ []
resized = refl

nothing_in_else : parts else_line ≡ []
nothing_in_else = refl
