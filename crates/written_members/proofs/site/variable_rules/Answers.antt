use Rattle.std.proofs.Common.{ℕ, List, map, refl}
use Rattle.bound_tree.specs.Tree.{Variable}
use Rattle.written_rows.specs.View.{facts_of}
use Rattle.written_trees.specs.Facts.{variable_set}
use Rattle.written_trees.specs.Prologues.{union}
use Rattle.written_members.specs.declared.statements.VarRef.{VarRef}
use Rattle.written_members.specs.Shown.{variable_shown}
use Rattle.written_members.proofs.Unions.{rules_end, rules_step}
use Rattle.written_members.proofs.site.variable_rules.Goals as goal

pub loop-v-preserved : goal.loop-v-preserved
loop-v-preserved c =
    rules_step (λ (rs : List VarRef). union (map (λ (x : ℕ × Variable). variable_set (facts_of c.args.facts.now) x.0) (map variable_shown rs)))
    (λ (r : VarRef). variable_set (facts_of c.args.facts.now) r.number) (λ r rs. refl) c.args.vars.now c.loop-v.v-index c.v-item.result c.loop-v.rules
    c.union-rules.result c.variable_set.result _ c.loop-v-test.true c.v-item.is c.union-rules.ensures c.variable_set.ensures c.loop-v.invariant

pub returns : goal.returns
returns c =
    rules_end (λ (rs : List VarRef). union (map (λ (x : ℕ × Variable). variable_set (facts_of c.args.facts.now) x.0) (map variable_shown rs))) refl c.args.vars.now
    c.loop-v.v-index c.loop-v.rules _ c.loop-v-test.false c.loop-v.invariant
