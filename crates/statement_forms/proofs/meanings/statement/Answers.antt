use Rattle.std.proofs.Common.{sym, ◌∙◌, ◌++◌}
use Rattle.statement_forms.specs.LineForms.{first_kinds, branch_kinds, loop_kinds, jump_kinds, last_kinds}
use Rattle.statement_forms.proofs.Choosing.{in_front, further}
use Rattle.statement_forms.proofs.meanings.statement.Goals as goal

pub returns-then-not-not_found : goal.returns-then-not-not_found
returns-then-not-not_found c =
    in_front (branch_kinds ++ (loop_kinds ++ (jump_kinds ++ last_kinds))) c.args.tokens.now first_kinds c.first_forms-first.result c.first_forms-first.ensures (sym c.not_found.ensures ∙ c.if-not-not_found.true)

pub returns-then-not-not_found-2 : goal.returns-then-not-not_found-2
returns-then-not-not_found-2 c =
    let here = in_front (loop_kinds ++ (jump_kinds ++ last_kinds)) c.args.tokens.now branch_kinds c.branch_forms-branch.result c.branch_forms-branch.ensures (sym c.not_found-2.ensures ∙ c.if-not-not_found-2.true) in
    further (branch_kinds ++ (loop_kinds ++ (jump_kinds ++ last_kinds))) c.args.tokens.now first_kinds c.first_forms-first.result c.branch_forms-branch.result c.first_forms-first.ensures (sym c.not_found.ensures ∙ c.if-not-not_found.false) here

pub returns-then-not-not_found-3 : goal.returns-then-not-not_found-3
returns-then-not-not_found-3 c =
    let here = in_front (jump_kinds ++ last_kinds) c.args.tokens.now loop_kinds c.loop_forms-looped.result c.loop_forms-looped.ensures (sym c.not_found-3.ensures ∙ c.if-not-not_found-3.true) in
    let a = further (loop_kinds ++ (jump_kinds ++ last_kinds)) c.args.tokens.now branch_kinds c.branch_forms-branch.result c.loop_forms-looped.result c.branch_forms-branch.ensures (sym c.not_found-2.ensures ∙ c.if-not-not_found-2.false) here in
    further (branch_kinds ++ (loop_kinds ++ (jump_kinds ++ last_kinds))) c.args.tokens.now first_kinds c.first_forms-first.result c.loop_forms-looped.result c.first_forms-first.ensures (sym c.not_found.ensures ∙ c.if-not-not_found.false) a

pub returns-then-not-not_found-4 : goal.returns-then-not-not_found-4
returns-then-not-not_found-4 c =
    let here = in_front last_kinds c.args.tokens.now jump_kinds c.jump_forms-jump.result c.jump_forms-jump.ensures (sym c.not_found-4.ensures ∙ c.if-not-not_found-4.true) in
    let b = further (jump_kinds ++ last_kinds) c.args.tokens.now loop_kinds c.loop_forms-looped.result c.jump_forms-jump.result c.loop_forms-looped.ensures (sym c.not_found-3.ensures ∙ c.if-not-not_found-3.false) here in
    let a = further (loop_kinds ++ (jump_kinds ++ last_kinds)) c.args.tokens.now branch_kinds c.branch_forms-branch.result c.jump_forms-jump.result c.branch_forms-branch.ensures (sym c.not_found-2.ensures ∙ c.if-not-not_found-2.false) b in
    further (branch_kinds ++ (loop_kinds ++ (jump_kinds ++ last_kinds))) c.args.tokens.now first_kinds c.first_forms-first.result c.jump_forms-jump.result c.first_forms-first.ensures (sym c.not_found.ensures ∙ c.if-not-not_found.false) a

pub returns : goal.returns
returns c =
    let d = further last_kinds c.args.tokens.now jump_kinds c.jump_forms-jump.result c.last_forms.result c.jump_forms-jump.ensures (sym c.not_found-4.ensures ∙ c.if-not-not_found-4.false) c.last_forms.ensures in
    let b = further (jump_kinds ++ last_kinds) c.args.tokens.now loop_kinds c.loop_forms-looped.result c.last_forms.result c.loop_forms-looped.ensures (sym c.not_found-3.ensures ∙ c.if-not-not_found-3.false) d in
    let a = further (loop_kinds ++ (jump_kinds ++ last_kinds)) c.args.tokens.now branch_kinds c.branch_forms-branch.result c.last_forms.result c.branch_forms-branch.ensures (sym c.not_found-2.ensures ∙ c.if-not-not_found-2.false) b in
    further (branch_kinds ++ (loop_kinds ++ (jump_kinds ++ last_kinds))) c.args.tokens.now first_kinds c.first_forms-first.result c.last_forms.result c.first_forms-first.ensures (sym c.not_found.ensures ∙ c.if-not-not_found.false) a
