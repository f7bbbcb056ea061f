use Rattle.std.proofs.Common.{inl}
use Rattle.up_base.proofs.Files.{lookup-without, without-changes_only, lookup-push, push-changes_only}
use Rattle.up_base.proofs.memory_outlet.MemoryOutletOutlet.put_file.Goals as goal

pub returns-then-count-clause-held : goal.returns-then-count-clause-held
returns-then-count-clause-held c =
    rw (c.remove.ensures, ← c.self.view_is) (inl (lookup-without c.args.name.now c.self.inside.store.files), without-changes_only c.args.name.now c.self.inside.store.files)

pub returns-clause-held : goal.returns-clause-held
returns-clause-held c =
    rw (c.append.ensures, c.remove.ensures, ← c.self.view_is) (lookup-push c.args.name.now c.args.bytes.now c.self.inside.store.files, push-changes_only c.args.name.now c.args.bytes.now c.self.inside.store.files)
