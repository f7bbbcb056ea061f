use Rattle.std.proofs.Common.{false, ◌&&◌, ap, sym, ◌∙◌, Some, Err}
use Rattle.net_tree.specs.Spelling.{is_identifier}
use Rattle.net_exprs.specs.Fitting.{fits_name}
use Rattle.net_reader.proofs.ResponseLines.{main_is, no_main, other_main}
use Rattle.net_reader.proofs.response_file.main_in.Goals as goal

pub returns-then-not-is_identifier : goal.returns-then-not-is_identifier
returns-then-not-is_identifier c =
    let name = c.in-Some.name.now in
    sym (other_main c.args.line.now name c.in-Some.ensures (ap (λ b. b && fits_name name) (sym c.if-not-is_identifier.ensures)))

pub returns-in-Ok : goal.returns-in-Ok
returns-in-Ok c =
    let name = c.in-Some.name.now in
    sym (main_is c.args.line.now name c.in-Some.ensures (sym c.if-not-is_identifier.ensures) c.in-Ok.ensures.name ∙ ap (λ name. Some name) (sym c.in-Ok.ensures.bytes))

pub returns-in-Err-NotName : goal.returns-in-Err-NotName
returns-in-Err-NotName c =
    let name = c.in-Some.name.now in
    let fails = c.in-Err-NotName.ensures.not_name (ap (λ e. Err e) c.in-Err-NotName.field-0-is) in
    sym (other_main c.args.line.now name c.in-Some.ensures (ap (λ b. is_identifier name && b) fails ∙ ap (λ b. b && false) (sym c.if-not-is_identifier.ensures)))

pub returns-in-None : goal.returns-in-None
returns-in-None c = sym (no_main c.args.line.now c.in-None.ensures)
