use Rattle.std.proofs.Common.{◌≡◌, ℕ, length, nat_eq}
use Rattle.std.specs.Prelude.{position}
use Rattle.indexmap.specs.IndexMap.{get}
use Rattle.name_tables.specs.Places.{is_same_pair}
use Rattle.expression_words.specs.MemberTables.{counted}
use Rattle.expression_words.proofs.Placing.{places_before}
use Rattle.expression_words.proofs.member_tables.places_of.Given as goal

abbrev pub invariant-loop-i : goal.invariant-loop-i
invariant-loop-i l = record {
  counts : (f : ℕ) → counted l.counts f ≡ length (places_before f l.i l.vars);
  places : (f w : ℕ) → get is_same_pair l.all (f, w) ≡ position (nat_eq w) (places_before f l.i l.vars);
}
