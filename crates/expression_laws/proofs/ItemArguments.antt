-- Elements that are given by reference, as arguments.
use Rattle.run_matches.specs.Keeping.{given_by}
use Rattle.expression_laws.proofs.GivenElements as given_elements
use Rattle.std.proofs.Common.{◌≡◌, ◌∙◌, refl, ap, ℕ, suc, Bool, true, false, cond, List, [], ◌∷◌, inl}
use Rattle.vb_tree.specs.BoundTree.{Ty}
use Rattle.bound_tree.specs.Tree.{Expr, typed, element, Exprs, by_reference}
use Rattle.bound_facts.specs.Node.{is_array_type, type_at}
use Rattle.net_tree.specs.declared.declaration.NetPassing.{NetPassing}
use Rattle.net_tree.specs.declared.declaration.NetPassing.TheVariants as passing
use Rattle.net_tree.specs.Tree.{Exp}
use Rattle.run_base.specs.Outcomes.{Outcome, gives, then}
use Rattle.vb6_run.specs.Expressions as source
use Rattle.vb6_run.specs.Expressions.{Context}
use Rattle.vb6_run.specs.Store.{Memory, SourceGiven}
use Rattle.net_run.specs.Calls.{Arguments}
use Rattle.net_run.specs.Expressions as target
use Rattle.net_run.specs.Making.{Jobs}
use Rattle.net_run.specs.Names as net_names
use Rattle.net_run.specs.Store as net
use Rattle.written_trees.specs.Arguments.{argument_exp, kept, temporary_exp}
use Rattle.written_trees.specs.Exprs.{exp_of}
use Rattle.written_trees.specs.Names.{Scope}
use Rattle.run_matches.specs.Addresses.{TakesAddresses}
use Rattle.run_matches.specs.Agreeing.{Agrees}
use Rattle.run_matches.specs.Covered.{hands_argument, is_item}
use Rattle.run_matches.specs.CoveredVariables.{covers_type}
use Rattle.run_matches.specs.Maps.{World}
use Rattle.run_matches.specs.Match.{MemoryMatch}
use Rattle.run_matches.specs.Pledges.{Pledge, Later}
use Rattle.run_matches.specs.Upgrades.{Upgrade}
use Rattle.run_statements.specs.Frames.{ElementMatch, IsOne}
use Rattle.run_statements.specs.Arguments.{ArgumentsMatch}
use Rattle.expression_laws.proofs.References.{first, or_true}

-- an element is written as it stands
item_written : (T : Scope) (referred : Bool) (ty : Ty) (a : Expr) (indexes : Exprs) (x : Exp)
    → argument_exp T referred (by_reference (typed ty (element a indexes))) x ≡ x
item_written T referred ty a indexes x = ap (λ b. cond b x (temporary_exp T (typed ty (element a indexes)) x)) (or_true (is_array_type ty))

module _ (U : Upgrade) (C : Context) (S : net_names.Scope) (net_oracle : Jobs) (T : Scope) where
  abbrev pub ItemAgrees : Pledge → World → Expr → Type 0
  ItemAgrees K w (typed ty (element a indexes)) =
      Agrees U K w (ElementMatch U ty) (source.term_parts C ty (element a indexes) w.src)
      (target.reach S net_oracle false (exp_of T (typed ty (element a indexes))) w.net)
  ItemAgrees K w (typed ty t) = Unit {0}

  pub item_passed : (K : Pledge) (q i : ℕ) (w : World) (quiet : Bool) (mode : NetPassing) (referred : Bool) (e : Expr) (rest : Memory → Outcome Memory (List SourceGiven))
      (rest' : net.Memory → Outcome net.Memory Arguments) → mode ≡ passing.Reference → is_item e ≡ true → covers_type (type_at e) ≡ true
      → ((t : Ty) → IsOne (given_by (by_reference e)) t → K.keeps t) → hands_argument U.program q i (by_reference e) ≡ true → TakesAddresses U q
      → MemoryMatch U w → ItemAgrees K w e
      → ((v : World) → Later U K w v → Agrees U K v (ArgumentsMatch U K q (suc i)) (rest v.src) (rest' v.net))
      → Agrees U K w (ArgumentsMatch U K q i)
      (then (source.argument_of C quiet (by_reference e) w.src) (λ g w. then (rest w) (λ gs w. gives [] (g ∷ gs) w)))
      (then (target.given S net_oracle mode (target.reach S net_oracle false (argument_exp T referred (by_reference e) (exp_of T e)) w.net))
      (λ g w. then (rest' w) (λ gs w. gives [] (g ∷ gs) w)))
  item_passed K q i w quiet mode referred (typed ty (element a indexes)) rest rest' m is covers kept hands addresses start first more =
      let e : Expr = typed ty (element a indexes) in
      given_elements.element_agrees U K ty covers (kept ty (inl refl)) q i quiet addresses (λ b r. absurd (cc (hands, r))) C a indexes S net_oracle w
      (target.reach S net_oracle false (exp_of T e) w.net)
      (target.given S net_oracle mode (target.reach S net_oracle false (argument_exp T referred (by_reference e) (exp_of T e)) w.net))
      (ap (λ z. target.given S net_oracle z (target.reach S net_oracle false (argument_exp T referred (by_reference e) (exp_of T e)) w.net)) m
      ∙ ap (λ z. target.given S net_oracle passing.Reference (target.reach S net_oracle false z w.net)) (item_written T referred ty a indexes (exp_of T e)))
      start first rest rest' more
  item_passed K q i w quiet mode referred (typed ty _) rest rest' m is covers kept hands addresses start first more = absurd (cc is)
