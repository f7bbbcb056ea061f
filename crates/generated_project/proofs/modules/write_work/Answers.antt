use Rattle.std.specs.Prelude.{codes}
use Rattle.std.proofs.Common.{ℕ, List, [], ◌∷◌, ◌++◌}
use Rattle.std.proofs.lemmas.Result.{on_ok_weaker}
use Rattle.generated_project.specs.Generated.{halving_lines, product_line}
use Rattle.generated_project.proofs.Pieces.{more_lines}
use Rattle.generated_project.proofs.modules.write_work.Goals as goal

abbrev loop_opening : List (List ℕ)
loop_opening =
    codes "Public Sub Work(ByVal n As Long)"
    ∷ codes "Dim a(1 To 10) As Integer"
    ∷ codes "Dim i As Integer"
    ∷ codes "For i = 1 To 10"
    ∷ []

abbrev loop_closing : List (List ℕ)
loop_closing = codes "total = total + a(i) * n" ∷ codes "Next i" ∷ codes "Debug.Print total" ∷ []

pub returns : goal.returns
returns c =
    let start = c.args.out.now in
    let product = product_line c.args.number ∷ [] in
    let halving = halving_lines c.args.number in
    let filled = more_lines start _ _ loop_opening product c.in_ok-write_lines.ensures c.in_ok-write_product.ensures in
    let closed = more_lines start _ _ (loop_opening ++ product) loop_closing filled c.in_ok-write_lines-2.ensures in
    let halved = more_lines start _ _ (loop_opening ++ product ++ loop_closing) halving closed c.in_ok-write_halving.ensures in
    on_ok_weaker c.write_line.result
    (λ e. more_lines start _ _ (loop_opening ++ product ++ loop_closing ++ halving) (codes "End Sub" ∷ []) halved e)
    c.write_line.ensures
