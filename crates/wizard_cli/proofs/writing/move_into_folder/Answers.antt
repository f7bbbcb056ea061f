use Rattle.up_base.specs.Names.{is_name}
use Rattle.wizard_cli.specs.Headline.{in_folder}
use Rattle.wizard_cli.proofs.Puts.{moved_next, passes_next}
use Rattle.wizard_cli.proofs.writing.move_into_folder.Goals as goal

pub folder_name-requires : goal.folder_name-requires
folder_name-requires c =
    passes_next (λ f. is_name (in_folder f.0)) c.deref_mut-file-items.result.now c.loop-file.file-items c.loop-file.file-index c.file-item.result c.loop-file.invariant c.loop-file-test.true
    (rw c.deref_mut-file-items.ensures.value c.requires)

pub loop-file-preserved : goal.loop-file-preserved
loop-file-preserved c =
    moved_next c.deref_mut-file-items.result.now c.loop-file.file-items c.loop-file.file-index c.file-item.result c.in_ok-file.field-0 c.loop-file.invariant c.loop-file-test.true c.in_ok-file.ensures
