use Rattle.std.proofs.Common.{ap, cond, map, nat_eq, ◌&&◌, ◌∙◌}
use Rattle.std.specs.Prelude.{None, Some, position}
use Rattle.std.proofs.lemmas.List.{take_all}
use Rattle.indexmap.specs.IndexMap.{get}
use Rattle.bound_tree.specs.View.{variable_of}
use Rattle.bound_facts.specs.Members.{is_of_module, variables_from}
use Rattle.name_tables.specs.Places.{is_same_pair}
use Rattle.name_tables.specs.Scopes.{first_of}
use Rattle.expression_words.specs.MemberTables.{counted}
use Rattle.expression_words.proofs.Placing.{count_more, place_more}
use Rattle.expression_words.proofs.member_tables.places_of.Goals as goal

pub loop-i-preserved : goal.loop-i-preserved
loop-i-preserved c = record {
  counts = λ f. count_more f c.loop-i.i c.args.vars.now c.index-vars-i.result _ _ c.loop-i-test.true c.index-vars-i.is (c.loop-i.invariant.counts f) (c.in_ok-note_variable.ensures.counts f);
  places = λ f w.
      place_more f w c.loop-i.i c.args.vars.now c.index-vars-i.result _ _ _ c.loop-i-test.true c.index-vars-i.is (c.loop-i.invariant.counts f) (c.loop-i.invariant.places f w)
      (c.in_ok-note_variable.ensures.places f w
      ∙ ap (λ n. first_of (get is_same_pair c.loop-i.all (f, w)) (cond (is_of_module f c.index-vars-i.result.owner && nat_eq w n) (Some (counted c.loop-i.counts f)) None)) c.in_ok-number.ensures);
}

pub returns : goal.returns
returns c = λ f w.
    c.loop-i.invariant.places f w
    ∙ ap (λ vs. position (nat_eq w) (variables_from f 0 (map variable_of vs))) (take_all c.loop-i.i c.args.vars.now c.loop-i-test.false)
