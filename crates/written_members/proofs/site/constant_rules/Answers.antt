use Rattle.std.proofs.Common.{ℕ, List, map, refl}
use Rattle.bound_tree.specs.Tree.{Constant}
use Rattle.written_rows.specs.View.{facts_of}
use Rattle.written_trees.specs.Facts.{constant_set}
use Rattle.written_trees.specs.Prologues.{union}
use Rattle.written_members.specs.declared.statements.ConstRef.{ConstRef}
use Rattle.written_members.specs.Shown.{constant_shown}
use Rattle.written_members.proofs.Unions.{rules_end, rules_step}
use Rattle.written_members.proofs.site.constant_rules.Goals as goal

pub loop-c-preserved : goal.loop-c-preserved
loop-c-preserved c =
    rules_step (λ (rs : List ConstRef). union (map (λ (x : ℕ × Constant). constant_set (facts_of c.args.facts.now) x.0) (map constant_shown rs)))
    (λ (r : ConstRef). constant_set (facts_of c.args.facts.now) r.number) (λ r rs. refl) c.args.consts.now c.loop-c.c-index c.c-item.result c.loop-c.rules
    c.union-rules.result c.constant_set.result _ c.loop-c-test.true c.c-item.is c.union-rules.ensures c.constant_set.ensures c.loop-c.invariant

pub returns : goal.returns
returns c =
    rules_end (λ (rs : List ConstRef). union (map (λ (x : ℕ × Constant). constant_set (facts_of c.args.facts.now) x.0) (map constant_shown rs))) refl c.args.consts.now
    c.loop-c.c-index c.loop-c.rules _ c.loop-c-test.false c.loop-c.invariant
