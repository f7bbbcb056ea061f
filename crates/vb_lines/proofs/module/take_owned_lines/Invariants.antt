use Rattle.std.proofs.Common.{◌≡◌, ◌++◌, drop, length}
use Rattle.vb_lines.specs.Modules.{comments_of}
use Rattle.vb_lines.specs.Parts.{all_parts}
use Rattle.vb_lines.specs.Reading.{AddsParts}
use Rattle.vb_lines.proofs.Owned.{IsPassed}
use Rattle.vb_lines.proofs.module.take_owned_lines.Given as goal

abbrev pub invariant-loop-line : goal.invariant-loop-line
invariant-loop-line l = record {
  parts : l.yielded ++ l.line-iterator.rest.items ≡ l.fn.lines.items;
  passed : IsPassed l.head l.passed (length l.yielded);
  adds : AddsParts (all_parts (drop l.head l.yielded)) l.initial.build l.build;
  comments : l.comments ≡ l.initial.comments ++ comments_of (drop l.head l.yielded);
}
