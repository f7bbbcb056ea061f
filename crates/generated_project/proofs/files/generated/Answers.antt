use Rattle.generated_project.proofs.Pieces.{more_files}
use Rattle.generated_project.proofs.files.generated.Goals as goal

pub loop-k-preserved : goal.loop-k-preserved
loop-k-preserved c =
    more_files c.args.n c.loop-k.k _ _ _ c.loop-k.invariant c.in_ok-module_file.ensures c.in_ok-push-2.ensures.items
