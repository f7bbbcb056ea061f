-- The Err number.
use Rattle.std.proofs.Common.{◌≡◌, refl, sym, ap, subst, ◌∙◌, ℕ, ◌<◌, pos, Bool, true, false, [], arith, le-leb, ltb-true}
use Rattle.std.specs.Prelude.{nat_lt}
use Rattle.vb_tree.specs.BoundTree.{Ty, long}
use Rattle.vb_tree.specs.declared.value.Value6.TheVariants as v6
use Rattle.vb6_meaning.specs.Kinds.{fits}
use Rattle.vb6_meaning.specs.declared.number.NumberKind.TheVariants as kinds
use Rattle.bound_tree.specs.Tree.{err_number, typed}
use Rattle.bound_facts.specs.Locks.{is_same_type}
use Rattle.net_meaning.specs.declared.value.ValueN.TheVariants as n
use Rattle.net_meaning.specs.ValueMatch.{longs}
use Rattle.run_base.specs.Outcomes.{gives}
use Rattle.written_trees.specs.Exprs.{exp_of}
use Rattle.written_trees.specs.Names.{Scope}
use Rattle.vb6_run.specs.Expressions as source
use Rattle.vb6_run.specs.Expressions.{Context, at_address}
use Rattle.vb6_run.specs.Store.{constant, provided}
use Rattle.vb6_run.specs.Values.{scalar}
use Rattle.net_run.specs.Expressions as target
use Rattle.net_run.specs.Making.{Jobs}
use Rattle.net_run.specs.Names as net_names
use Rattle.net_run.specs.Values.{single}
use Rattle.row_laws.specs.Uncaptured.{IsUncaptured}
use Rattle.row_laws.proofs.Stated as rows
use Rattle.run_matches.specs.Agreeing.{Agrees}
use Rattle.run_matches.specs.Likeness.{like_scalar}
use Rattle.run_matches.specs.Maps.{World}
use Rattle.run_matches.specs.Match.{MemoryMatch}
use Rattle.run_matches.specs.Pledges.{Pledge}
use Rattle.run_matches.specs.Upgrades.{Upgrade}
use Rattle.run_statements.specs.Frames.{ScalarMatch}
use Rattle.agreeing_laws.proofs.Agreeing.{agrees_gives, agrees_outside}
use Rattle.expression_laws.proofs.Checks.{TermMatch, term_agrees}
use Rattle.expression_laws.proofs.Types.{same_of}

small_fits : (m : ℕ) → nat_lt m 65536 ≡ true → fits kinds.Long (pos m) ≡ true
small_fits m small = let below : m < 65536 = ltb-true m 65536 small in le-leb m 2147483647 (omega arith)

module _ (U : Upgrade) (K : Pledge) (C : Context) (S : net_names.Scope) (oracle : Jobs) (free : IsUncaptured S) (T : Scope) (w : World) (start : MemoryMatch U w) where
  number_agrees : (b : Bool) → nat_lt w.src.err 65536 ≡ b
      → Agrees U K w (TermMatch U long) (provided b (λ s. source.value_parts (scalar long (v6.Long (pos s.err))) s) w.src)
      (target.value_of S oracle (exp_of T (typed long err_number)) w.net)
  number_agrees false e = agrees_outside U K w (TermMatch U long) (target.value_of S oracle (exp_of T (typed long err_number)) w.net)
  number_agrees true e =
      subst (λ z. Agrees U K w (TermMatch U long) (gives [] (at_address (constant (scalar long (v6.Long (pos w.src.err))))) w.src) z)
      (sym (rows.err_number_is_given S oracle free w.net ∙ ap (λ m. gives [] (single (n.Integer (pos m))) w.net) start.stores.errors))
      (agrees_gives U K w (TermMatch U long) (at_address (constant (scalar long (v6.Long (pos w.src.err))))) (single (n.Integer (pos w.src.err))) start
      (v6.Long (pos w.src.err), refl, like_scalar long (v6.Long (pos w.src.err)) (n.Integer (pos w.src.err)) (longs (pos w.src.err) (small_fits w.src.err e))))

  pub err_number_agrees : (ty : Ty) → is_same_type long ty ≡ true
      → Agrees U K w (ScalarMatch U ty) (source.value_of C (typed ty err_number) w.src) (target.value_of S oracle (exp_of T (typed ty err_number)) w.net)
  err_number_agrees ty same =
      subst (λ z. Agrees U K w (ScalarMatch U z) (source.value_of C (typed z err_number) w.src) (target.value_of S oracle (exp_of T (typed z err_number)) w.net))
      (sym (same_of long ty refl same))
      (term_agrees U K C long long err_number w (target.value_of S oracle (exp_of T (typed long err_number)) w.net) refl refl start
      (number_agrees (nat_lt w.src.err 65536) refl))
