-- What isn't well formed may do something else than what is written for it.
use Rattle.std.proofs.Common.{◌≡◌, refl, [], true, false}
use Rattle.vb_tree.specs.BoundTree.{byte}
use Rattle.vb_tree.specs.declared.value.Value6.TheVariants as held
use Rattle.bound_tree.specs.declared.expression.Origin.TheVariants.{Literal}
use Rattle.bound_tree.specs.Tree.{Expr, typed, constant}
use Rattle.run_base.specs.Outcomes.{gives, raises}
use Rattle.vb6_run.specs.Expressions as source
use Rattle.vb6_run.specs.Expressions.{Context}
use Rattle.vb6_run.specs.Store as store
use Rattle.vb6_run.specs.Values.{scalar}
use Rattle.net_run.specs.Expressions as target
use Rattle.net_run.specs.Making.{Jobs}
use Rattle.net_run.specs.Names as net_names
use Rattle.net_run.specs.Store as net
use Rattle.written_trees.specs.Exprs.{exp_of}
use Rattle.written_trees.specs.Names.{Scope}
use Rattle.run_matches.specs.CoveredExprs.{Uses, covers_expr}
use Rattle.run_matches.specs.Formed.{is_formed}

-- a Byte beyond its limits
abbrev large : Expr
large = typed byte (constant (held.Byte 300) Literal)

large_is_covered : (uses : Uses) → covers_expr uses large ≡ true
large_is_covered uses = refl

large_is_given : (C : Context) (w : store.Memory) → source.value_of C large w ≡ gives [] (scalar byte (held.Byte 300)) w
large_is_given C w = refl

large_is_raised : (S : net_names.Scope) (oracle : Jobs) (T : Scope) (w : net.Memory) → target.value_of S oracle (exp_of T large) w ≡ raises [] 6 w
large_is_raised S oracle T w = refl

large_is_not_formed : is_formed large ≡ false
large_is_not_formed = refl
