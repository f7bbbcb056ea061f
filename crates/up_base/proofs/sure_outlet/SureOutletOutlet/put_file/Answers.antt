use Rattle.std.proofs.Common.{◌≡◌, false}
use Rattle.up_base.proofs.Files.{lookup-push, push-changes_only}
use Rattle.up_base.proofs.sure_outlet.SureOutletOutlet.put_file.Goals as goal
use Rattle.up_base.proofs.sure_outlet.SureOutletOutlet.put_file.Goals.{then-self, else-self}

pub returns-then-not-self-clause-held : goal.returns-then-not-self-clause-held
returns-then-not-self-clause-held c =
    let fits : c.if-self.self ≡ false = c.if-not-self.true in
    let fitted : c.self.inside.is_past ≡ false = elim c.if-self.branch [ then-self w ↦ cc (w.self-is, fits) | else-self w ↦ w.if-self.false ] in
    rw (fits, c.append.ensures, c.remove.ensures, ← c.self.view_is, fitted) (lookup-push c.args.name.now c.args.bytes.now c.self.inside.store.files, push-changes_only c.args.name.now c.args.bytes.now c.self.inside.store.files)
