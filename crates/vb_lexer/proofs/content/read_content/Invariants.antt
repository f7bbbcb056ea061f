use Rattle.std.proofs.Common.{◌≡◌, ◌+◌, ◌-◌, ◌≤◌, [], drop, length}
use Rattle.vb_tree.specs.LogicalLines.{content_from, joints}
use Rattle.vb_lexer.specs.Contents.{IsBefore, kinds_back, with_front}
use Rattle.vb_lexer.proofs.content.read_content.Given as goal

abbrev pub invariant-parts : goal.invariant-parts
invariant-parts l = record {
  within : l.at ≤ length l.units;
  lines : l.line + joints (drop l.at l.units) ≤ l.fn.number + joints l.units;
  before : IsBefore l.before (kinds_back l.tokens);
  whole : with_front l.tokens (content_from (kinds_back l.tokens) l.line l.at 0 (drop l.at l.units)) ≡ content_from [] l.fn.number 0 0 l.units;
}

abbrev pub decreases-parts : goal.decreases-parts
decreases-parts l = length l.units - l.at
