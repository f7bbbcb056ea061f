use Rattle.std.proofs.Common.{arith, length, ◌≡◌, ◌≤◌, ◌∙◌}
use Rattle.std.proofs.lemmas.List.{length-set}
use Rattle.up_base.proofs.PathText.{path_of-more, path_of-whole, length-le_from_is_name, IsAscii-path}
use Rattle.up_base.proofs.file_path.FilePath.new.Goals as goal

pub loop-i-preserved : goal.loop-i-preserved
loop-i-preserved c =
    let short : length c.as_bytes-name.result.now ≤ 512 = rw c.as_bytes-name.ensures.bytes (length-le_from_is_name _ c.as_bytes-name.ensures.name) in
    let size = c.loop-i.invariant.0 in
    (length-set _ _ _ ∙ size, path_of-more c.loop-i.bytes c.as_bytes-name.result.now c.loop-i.i c.separator.result c.loop-i.invariant.1 (omega arith) (omega arith) c.separator.ensures)

pub invariant_of-result : goal.invariant_of-result
invariant_of-result c =
    let short : length c.as_bytes-name.result.now ≤ 512 = rw c.as_bytes-name.ensures.bytes (length-le_from_is_name _ c.as_bytes-name.ensures.name) in
    let all : c.loop-i.i ≡ length c.as_bytes-name.result.now = omega arith in
    let whole = path_of-whole c.loop-i.bytes c.as_bytes-name.result.now c.loop-i.i all c.loop-i.invariant.1 in
    (omega arith, IsAscii-path _ _ _ whole c.as_bytes-name.ensures.bytes c.as_bytes-name.ensures.name)
