-- How many steps programs take: with one step fewer they stop before their last line. And a question that is answered.
use Rattle.std.proofs.Common.{◌≡◌, refl, ◌++◌, [], ◌∷◌, codes}
use Rattle.std.specs.Fmt.{digits}
use Rattle.example_runs.proofs.Said.{ended, line, note, ran, ran_with, ran_written, ran_written_with, steps_spent}
use Rattle.example_runs.proofs.Hello as hello
use Rattle.example_runs.proofs.Steps5 as calls
use Rattle.example_runs.proofs.StepsOfBlocks14 as blocks
use Rattle.example_runs.proofs.StepsOfACreation7 as creation
use Rattle.example_runs.proofs.BoxAndAsk as questions

-- ---- the entry and one line

hello_in_two : ran hello.runnable 0 2 ≡ (line (codes "hi"), ended)
hello_in_two = refl

hello_in_two_written : ran_written hello.written 0 2 ≡ (line (codes "hi"), ended)
hello_in_two_written = refl

hello_in_one : ran hello.runnable 0 1 ≡ ([], steps_spent)
hello_in_one = refl

hello_in_one_written : ran_written hello.written 0 1 ≡ ([], steps_spent)
hello_in_one_written = refl

-- ---- the entry of Main, the head of its For, a call, the entry of what it calls, and the line there that prints

calls_in_four : ran calls.runnable 1 4 ≡ ([], steps_spent)
calls_in_four = refl

calls_in_four_written : ran_written calls.written 1 4 ≡ ([], steps_spent)
calls_in_four_written = refl

-- ---- each head, part and closing line of a block that control comes to

blocks_in_fifteen : ran blocks.runnable 0 15 ≡ (line (codes "zero") ++ line (codes "select") ++ line (codes "end"), ended)
blocks_in_fifteen = refl

blocks_in_fifteen_written : ran_written blocks.written 0 15 ≡ (line (codes "zero") ++ line (codes "select") ++ line (codes "end"), ended)
blocks_in_fifteen_written = refl

-- ---- a creation: the entry of Class_Initialize and its lines

creation_in_six : ran creation.runnable 0 6 ≡ (line (codes "start") ++ line (codes "made"), steps_spent)
creation_in_six = refl

creation_in_six_written : ran_written creation.written 0 6 ≡ (line (codes "start") ++ line (codes "made"), steps_spent)
creation_in_six_written = refl

-- ---- an answer

answered : ran_with questions.runnable 0 2000 (codes "Ann" ∷ []) ≡
    (note (codes "[box] hello") ++ note (codes "[ask] name?") ++ line (codes "[Ann]") ++ note (codes "[box] 5"), ended)
unfolding digits
answered = refl

answered_written : ran_written_with questions.written 0 2000 (codes "Ann" ∷ []) ≡
    (note (codes "[box] hello") ++ note (codes "[ask] name?") ++ line (codes "[Ann]") ++ note (codes "[box] 5"), ended)
unfolding digits
answered_written = refl
