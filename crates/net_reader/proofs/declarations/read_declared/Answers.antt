use Rattle.net_tree.specs.View.{type_name_of}
use Rattle.net_reader.proofs.Declaring.{declared_fails_at_type, declared_reads}
use Rattle.net_reader.proofs.declarations.read_declared.Goals as goal

pub returns-in-Ok-type_behind-clause-answers : goal.returns-in-Ok-type_behind-clause-answers
returns-in-Ok-type_behind-clause-answers c =
    declared_reads c.args.text.now c.in-Ok.name c.in-Ok.text.now (type_name_of c.in-Ok-type_behind.ty) c.in-Ok-type_behind.rest.now c.in-Ok.ensures.answers c.in-Ok-type_behind.ensures.answers

pub returns-in-Err-type_behind-clause-answers : goal.returns-in-Err-type_behind-clause-answers
returns-in-Err-type_behind-clause-answers c =
    declared_fails_at_type c.args.text.now c.in-Ok.name c.in-Ok.text.now c.in-Err-type_behind.e c.in-Ok.ensures.answers c.in-Err-type_behind.ensures.answers
