use Rattle.std.proofs.Common.{sym, ◌∙◌}
use Rattle.bound_tree.specs.declared.declared.ProcDecl.{ProcDecl}
use Rattle.bound_tree.specs.View.{procedure_of}
use Rattle.name_tables.proofs.Firsts.{note_end, note_step, position_map}
use Rattle.expression_words.specs.Members.{is_part}
use Rattle.expression_words.proofs.member_tables.parts_of.Goals as goal

pub loop-i-preserved : goal.loop-i-preserved
loop-i-preserved c = λ first.
    note_step (λ (q : ProcDecl). is_part first c.args.kind (procedure_of q)) c.args.procs.now c.loop-i.i c.index-procs-i.result _ _ c.loop-i-test.true c.index-procs-i.is
    (c.loop-i.invariant first) (c.in_ok-note_part.ensures first)

pub returns : goal.returns
returns c = λ first.
    c.loop-i.invariant first
    ∙ note_end (λ (q : ProcDecl). is_part first c.args.kind (procedure_of q)) c.args.procs.now c.loop-i.i c.loop-i-test.false
    ∙ sym (position_map (is_part first c.args.kind) procedure_of c.args.procs.now)
