use Rattle.std.proofs.Common.{map, rules}
use Rattle.std.proofs.lemmas.Slice.Zip.{Zip-more, either_empty_from_Zip}
use Rattle.std.specs.Iterator.Adapters.{zip_first, zip_second}
use Rattle.std.specs.Slice.Iter.{iter_rest}
use Rattle.declared_names.specs.View.{procedure_of as named_procedure}
use Rattle.declarations.specs.Bare.{bare_procedures}
use Rattle.declarations.proofs.Firsts.{all_made, one_more}
use Rattle.declarations.proofs.bare.bare_procedures.Goals as goal

pub loop-first-preserved : goal.loop-first-preserved
loop-first-preserved c =
    let turn = Zip-more c.loop-first.first-iterator c.next.new.self c.next.result (c.in-Some.first, c.in-Some.p) c.in-Some.is c.next.ensures.steps in
    one_more (bare_procedures c.args.firsts.now (map named_procedure c.args.all.now)) c.loop-first.procs.items c.push.new.self.items c.in-Some.first.now c.in-Some.p.now c.in_ok-p.p
    (iter_rest (zip_first c.loop-first.first-iterator)) (iter_rest (zip_first c.next.new.self))
    (iter_rest (zip_second c.loop-first.first-iterator)) (iter_rest (zip_second c.next.new.self))
    turn.0 turn.1 (search rules) c.in_ok-p.ensures c.loop-first.invariant

pub returns : goal.returns
returns c =
    all_made (bare_procedures c.args.firsts.now (map named_procedure c.args.all.now)) c.loop-first.procs.items
    (iter_rest (zip_first c.loop-first.first-iterator)) (iter_rest (zip_second c.loop-first.first-iterator))
    (either_empty_from_Zip c.loop-first.first-iterator c.next.new.self c.next.result c.in-None.is c.next.ensures.steps) c.loop-first.invariant
