use Rattle.std.proofs.Common.{arith, refl, vec_len}
use Rattle.up_base.proofs.Buffer.{files_of-push}
use Rattle.up_base.proofs.file_store.FileStore.append.Goals as goal

pub returns : goal.returns
returns c =
    let same = files_of-push c.self.inside.buffer.items c.args.name.now c.args.bytes.now c.self.inside.entries.items (vec_len c.self.inside.buffer) (omega arith) c.self.invariant.within in
    rw (← c.self.view_is, ← same, c.in-Ok-extend_from_slice-2.ensures.items, c.in-Ok-extend_from_slice.ensures.items, c.in-Ok.ensures.items, c.as_bytes-name.ensures.bytes, c.len.ensures) refl
