use Rattle.std.proofs.Common.{Bool, List, map, ap, sym, subst, ◌∙◌, arith}
use Rattle.std.specs.Prelude.{◌↔◌, IsTrue, slice_get}
use Rattle.std.proofs.lemmas.List.{length-map}
use Rattle.reach_table.specs.Chains.{is_marked}
use Rattle.vb_tree.specs.declared.module.Module6.{Module6}
use Rattle.vb_tree.specs.View.{module_of, project_of}
use Rattle.bound_facts.specs.Node.{is_array_type}
use Rattle.bound_tree.specs.declared.rule_set.RuleSet.{RuleSet}
use Rattle.bound_tree.specs.View.{declarations_of, program_of, variable_of}
use Rattle.array_bounds.specs.Types.{Holds, is_made}
use Rattle.written_trees.specs.Facts.{list_set}
use Rattle.written_rows.specs.declared.facts.ArrayShape.{ArrayShape}
use Rattle.written_rows.specs.declared.facts.WrittenFacts.{WrittenFacts}
use Rattle.written_facts.specs.Shapes.{shape_at}
use Rattle.written_facts.specs.Statements.{sets_by_file}
use Rattle.written_facts.proofs.Arrays.{facts_are}
use Rattle.written_facts.proofs.ByFile.{by_file}
use Rattle.written_facts.proofs.facts.written_facts.Goals as goal

pub returns-clause-facts : goal.returns-clause-facts
returns-clause-facts c =
    let declared = c.args.bound.now.declared in
    let found = c.in_ok-found.ensures in
    let f : WrittenFacts = record {
      shapes = c.from_vec.result;
      holds_array = c.from_vec-2.result;
      is_made = c.from_vec-3.result;
      marks = c.in_ok-marks.marks;
      statements = c.in_ok-statements.statements;
    } in
    facts_are (program_of c.args.bound.now) f c.args.arrays.now.lows c.args.arrays.now.ranks c.requires.lows c.requires.ranks found.exact
    (λ v low. ap (λ (xs : List ArrayShape). shape_at xs v) c.from_vec.ensures ∙ found.shapes v (omega (arith, low, length-map declared.vars variable_of)))
    (λ t. subst (λ (xs : List Bool). IsTrue (is_marked xs t) ↔ Holds (declarations_of declared) is_array_type t) (sym c.from_vec-2.ensures) (found.holds_array t))
    (λ t. subst (λ (xs : List Bool). IsTrue (is_marked xs t) ↔ Holds (declarations_of declared) is_made t) (sym c.from_vec-3.ensures) (found.is_made t))

pub returns-clause-statements : goal.returns-clause-statements
returns-clause-statements c file n =
    ap (λ (sets : List (List RuleSet)). list_set (slice_get sets file) n)
    (c.in_ok-statements.ensures ∙ ap (λ (ms : List Module6). sets_by_file (map module_of ms)) c.as_slice.ensures)
    ∙ by_file (project_of c.args.bound.now.declared.project).modules file n
