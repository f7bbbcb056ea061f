use Rattle.std.proofs.Common.{map}
use Rattle.written_facts.specs.declared.marks.Kind.TheVariants as kind
use Rattle.written_facts.specs.United.{shown_marks}
use Rattle.written_facts.proofs.Unions.{declared_sets, line_sets}
use Rattle.written_facts.proofs.marks.united_marks.Goals as goal

pub returns : goal.returns
returns c =
    let given = map shown_marks c.args.marks.now in
    record {
      lines = line_sets given _ c.in_ok-united_lines.ensures;
      heads = declared_sets kind.Heads given _ c.in_ok-united_of.ensures;
      vars = declared_sets kind.Vars given _ c.in_ok-united_of-2.ensures;
      consts = declared_sets kind.Consts given _ c.in_ok-united_of-3.ensures;
      types = declared_sets kind.Types given _ c.in_ok-united_of-4.ensures;
      enums = declared_sets kind.Enums given _ c.in_ok-united_of-5.ensures;
    }
