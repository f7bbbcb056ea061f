use Rattle.std.proofs.Common.{refl}
use Rattle.project_file.proofs.ModuleNames.{module_is_name}
use Rattle.project_file.proofs.Saying.{adds_entry, same_entry}
use Rattle.project_file.proofs.reading.ProjectReading.take_entry.Goals as goal

pub name_of-requires : goal.name_of-requires
name_of-requires c = module_is_name c.args.name.now c.requires.module_name

pub returns-clause-ok : goal.returns-clause-ok
returns-clause-ok c =
    let old = c.args.self.now in
    adds_entry c.args.number c.args.class c.args.name.now c.args.file.now old _ refl refl (same_entry old.file.entries _ c.args.number c.args.class _ _ _ _ c.in_ok-name.ensures c.in_ok-file.ensures c.in_ok-push.ensures.ok) refl refl refl refl
