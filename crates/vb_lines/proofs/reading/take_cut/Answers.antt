use Rattle.std.proofs.Common.{◌≡◌, ◌∷◌, [], codes, refl, ap}
use Rattle.vb_tree.specs.Tree.{Line, end_if}
use Rattle.vb_lines.specs.Cuts.{cut_of}
use Rattle.vb_lines.specs.Parts.{gives, StatementGives, HeadGives}
use Rattle.vb_lines.specs.Reading.{FaultOfLines, FaultOfGiven, FaultOfParts}
use Rattle.vb_lines.specs.Statements.{statement_cut, head_cut, end_cut}
use Rattle.vb_lines.proofs.Passing.{fault_passed, line_given, line_given_fault}
use Rattle.vb_lines.proofs.Taking.{part_added, part_fault}
use Rattle.vb_lines.proofs.reading.take_cut.Goals as goal

pub returns-in_err-take_statement-in-Statement-clause-fault : goal.returns-in_err-take_statement-in-Statement-clause-fault
returns-in_err-take_statement-in-Statement-clause-fault c =
    let place = c.args.place in
    let text = c.args.text.now in
    let tokens = c.in-Statement.tokens.now in
    fault_passed
    (λ f. FaultOfGiven (λ s o. StatementGives s place text tokens o) place c.args.build.now f)
    (λ f. FaultOfParts (record { place = place; text = text; cut = cut_of c.args.cut } ∷ []) c.args.build.now f)
    c.take_statement.result c.from_residual-in_err-take_statement-in-Statement.result c.in_err-take_statement-in-Statement.field-0.0
    c.in_err-take_statement-in-Statement.was c.from_residual-in_err-take_statement-in-Statement.ensures.1
    (λ f p. part_fault place text (cut_of c.args.cut) (statement_cut tokens) c.args.build.now f (ap cut_of c.in-Statement.is) p)
    c.take_statement.ensures.fault

pub returns-in_err-take_head-in-Head-clause-fault : goal.returns-in_err-take_head-in-Head-clause-fault
returns-in_err-take_head-in-Head-clause-fault c =
    let place = c.args.place in
    let text = c.args.text.now in
    let tokens = c.in-Head.tokens.now in
    fault_passed
    (λ f. FaultOfGiven (λ s o. HeadGives s place text tokens o) place c.args.build.now f)
    (λ f. FaultOfParts (record { place = place; text = text; cut = cut_of c.args.cut } ∷ []) c.args.build.now f)
    c.take_head.result c.from_residual-in_err-take_head-in-Head.result c.in_err-take_head-in-Head.field-0.0
    c.in_err-take_head-in-Head.was c.from_residual-in_err-take_head-in-Head.ensures.1
    (λ f p. part_fault place text (cut_of c.args.cut) (head_cut tokens) c.args.build.now f (ap cut_of c.in-Head.is) p)
    c.take_head.ensures.fault

pub returns-in_err-take_end-in-End-clause-fault : goal.returns-in_err-take_end-in-End-clause-fault
returns-in_err-take_end-in-End-clause-fault c =
    let place = c.args.place in
    let text = c.args.text.now in
    let l : Line = record { place = place; text = codes "End If"; form = end_if } in
    fault_passed
    (λ f. FaultOfLines (l ∷ []) place c.args.build.now f)
    (λ f. FaultOfParts (record { place = place; text = text; cut = cut_of c.args.cut } ∷ []) c.args.build.now f)
    c.take_end.result c.from_residual-in_err-take_end-in-End.result c.in_err-take_end-in-End.field-0.0
    c.in_err-take_end-in-End.was c.from_residual-in_err-take_end-in-End.ensures.1
    (λ f p. part_fault place text (cut_of c.args.cut) end_cut c.args.build.now f (ap cut_of c.in-End.is) (line_given_fault (λ s o. o ≡ gives (l ∷ [])) l place c.args.build.now f (λ s. refl) p))
    c.take_end.ensures.fault

pub returns-in_ok-take_end-in-End-clause-ok : goal.returns-in_ok-take_end-in-End-clause-ok
returns-in_ok-take_end-in-End-clause-ok c =
    let place = c.args.place in
    let l : Line = record { place = place; text = codes "End If"; form = end_if } in
    part_added place c.args.text.now (cut_of c.args.cut) end_cut c.args.build.now c.take_end.new.build (ap cut_of c.in-End.is)
    (line_given (λ s o. o ≡ gives (l ∷ [])) l c.args.build.now c.take_end.new.build (λ s. refl) c.in_ok-take_end-in-End.ensures.ok)
