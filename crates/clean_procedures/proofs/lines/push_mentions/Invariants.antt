use Rattle.std.proofs.Common.{◌≡◌, ◌++◌, take}
use Rattle.std.specs.List.{flat_map}
use Rattle.clean_procedures.specs.Classes.{seen}
use Rattle.clean_procedures.specs.Pairs.{mention_pairs}
use Rattle.clean_procedures.proofs.lines.push_mentions.Given as goal

abbrev pub invariant-loop-mention : goal.invariant-loop-mention
invariant-loop-mention l = l.to.items ≡ l.initial.to.items ++ flat_map (mention_pairs (seen l.home) l.i) (take l.mention-index l.mentions)
