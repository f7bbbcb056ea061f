use Rattle.std.proofs.Common.{◌≡◌, ℕ, ◌++◌, drop, map}
use Rattle.reach_table.specs.Chains.{is_marked}
use Rattle.declared_names.specs.Declaring.{NamedConstant}
use Rattle.declared_names.specs.View.{constant_of as named_constant}
use Rattle.expression_words.specs.View.{declared_in}
use Rattle.declarations.specs.Constants.{constant_rules}
use Rattle.declarations.specs.Numbered.{numbered}
use Rattle.declarations.proofs.constants.constants_rules.Given as goal

abbrev pub invariant-loop-c : goal.invariant-loop-c
invariant-loop-c l = record {
  counted : l.k ≡ l.c-index;
  items :
      l.rules.items ++ numbered (λ (k : ℕ) (c : NamedConstant). constant_rules (declared_in l.known.context) (is_marked l.members k) c) l.k (map named_constant (drop l.c-index l.all))
      ≡ numbered (λ (k : ℕ) (c : NamedConstant). constant_rules (declared_in l.known.context) (is_marked l.members k) c) 0 (map named_constant l.all);
}
