use Rattle.std.proofs.lemmas.Str.{IsUtf8-from_ascii}
use Rattle.up_base.proofs.file_path.FilePath.as_str.Goals as goal

pub unreachable-requires : goal.unreachable-requires
unreachable-requires c = c.in_default.ensures.cases.0 (IsUtf8-from_ascii _ c.self.invariant.1)
