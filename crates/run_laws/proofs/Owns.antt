-- What the lines of a procedure declare are variables and constants of the declarations, and sound where that is known of each.
use Rattle.std.proofs.Common.{◌≡◌, refl, subst, ℕ, zero, suc, ◌+◌, Bool, true, false, cond, Some, List, [], ◌∷◌, ◌++◌, arith}
use Rattle.std.specs.Prelude.{slice_get}
use Rattle.std.specs.List.{Contains}
use Rattle.std.proofs.lemmas.List.Elements.{Contains-append_left, Contains-append_right, Contains-push}
use Rattle.vb_tree.specs.Tree.{Form}
use Rattle.vb_tree.specs.Tree as source
use Rattle.bound_tree.specs.Tree.{Constant, Declarations, Procedure, Variable}
use Rattle.written_trees.specs.Bodies.{inside_procedure}
use Rattle.written_trees.specs.Prologues.{constants_of, is_statement, variables_from, variables_of}
use Rattle.run_matches.specs.Sites.{Own, Site, own_constant, own_constants, own_variable, own_variables, owns_from, owns_of, site_lines, first_statement, statement_owns}
use Rattle.vb_tree.specs.Blocks.{is_code}
use Rattle.written_trees.specs.Prologues.{declares}
use Rattle.run_matches.specs.Upgrades.{Upgrade}
use Rattle.run_statements.specs.Kept.{OwnsAreKept}
use Rattle.run_statements.specs.Written.{WrittenProcedure, site_scope}
use Rattle.run_laws.specs.Entered.{AllSound, IsSound}

contains_first : {A : Type 0} (x : A) (xs : List A) → Contains (x ∷ xs) x
contains_first x xs = Contains-append_left (x ∷ []) xs x (Contains-push [] x)

contains_next : {A : Type 0} (x y : A) (xs : List A) → Contains xs y → Contains (x ∷ xs) y
contains_next x y xs h = Contains-append_right (x ∷ []) xs y h

-- ---- declarations

module _ (D : Declarations) where
  abbrev IsDeclared : Own → Type 0
  IsDeclared (own_variable v x) = slice_get D.vars v ≡ Some x
  IsDeclared (own_constant c x) = Unit {0}

  abbrev AllDeclared : List Own → Type 0
  AllDeclared [] = Unit {0}
  AllDeclared (o ∷ os) = IsDeclared o × AllDeclared os

  declared_append : (xs ys : List Own) → AllDeclared xs → AllDeclared ys → AllDeclared (xs ++ ys)
  declared_append [] ys h k = k
  declared_append (x ∷ xs) ys h k = (h.0, declared_append xs ys h.1 k)

  declared_if : (b : Bool) (xs : List Own) → AllDeclared xs → AllDeclared (cond b xs [])
  declared_if true xs h = h
  declared_if false xs h = tt

  one_more : (i k : ℕ) → suc i + k ≡ i + suc k
  one_more i k = omega arith

  no_more : (i : ℕ) → i ≡ i + 0
  no_more i = omega arith

  none_first : (k : ℕ) → 0 + k ≡ k
  none_first k = omega arith

  declared_from : (file n k : ℕ) (xs : List Variable) → ((i : ℕ) (x : Variable) → slice_get xs i ≡ Some x → slice_get D.vars (i + k) ≡ Some x)
      → AllDeclared (own_variables (variables_from file n k xs))
  declared_from file n k [] found = tt
  declared_from file n k (x ∷ xs) found =
      by (is_statement file n x.place x.statement)
      (declared_from file n (suc k) xs (λ i y e. subst (λ j. slice_get D.vars j ≡ Some y) (one_more i k) (found (suc i) y e)))
    where
      by : (b : Bool) → AllDeclared (own_variables (variables_from file n (suc k) xs))
          → AllDeclared (own_variables (cond b ((k, x) ∷ variables_from file n (suc k) xs) (variables_from file n (suc k) xs)))
      by true rest = (subst (λ j. slice_get D.vars j ≡ Some x) (none_first k) (found zero x refl), rest)
      by false rest = rest

  declared_constants : (cs : List (ℕ × Constant)) → AllDeclared (own_constants cs)
  declared_constants [] = tt
  declared_constants (c ∷ cs) = (tt, declared_constants cs)

  declared_here : (file n : ℕ) → AllDeclared (statement_owns D file n)
  declared_here file n =
      declared_append (own_variables (variables_of D file n)) (own_constants (constants_of D file n))
      (declared_from file n 0 D.vars (λ i x e. subst (λ j. slice_get D.vars j ≡ Some x) (no_more i) e)) (declared_constants (constants_of D file n))

  declared_lines : (file : ℕ) (test : Form → Bool) (n : ℕ) (ls : List source.Line) → AllDeclared (owns_from D file test n ls)
  declared_lines file test n [] = tt
  declared_lines file test n (l ∷ ls) =
      declared_append (cond (test l.form) (statement_owns D file n) []) (owns_from D file test (suc n) ls)
      (declared_if (test l.form) (statement_owns D file n) (declared_here file n)) (declared_lines file test (suc n) ls)

  pub owns_declared : (s : Site) → AllDeclared (owns_of D s)
  owns_declared s =
      declared_append (owns_from D s.source_module.file declares (first_statement s) (site_lines s))
      (owns_from D s.source_module.file is_code (first_statement s) (site_lines s))
      (declared_lines s.source_module.file declares (first_statement s) (site_lines s))
      (declared_lines s.source_module.file is_code (first_statement s) (site_lines s))

-- ---- what is sound

module _ (U : Upgrade) (p : ℕ) (s : Site) (x : Procedure) (W : WrittenProcedure U p s x) (kept : OwnsAreKept U p s x W) where
  one_sound : (o : Own) → Contains (owns_of U.program.declarations s) o → IsDeclared U.program.declarations o
      → IsSound U (inside_procedure (site_scope U s) p) o
  one_sound (own_variable v y) h e = (kept.variables v y h, e)
  one_sound (own_constant c y) h e = kept.constants c y h

  sound_among : (os : List Own) → ((o : Own) → Contains os o → Contains (owns_of U.program.declarations s) o) → AllDeclared U.program.declarations os
      → AllSound U (inside_procedure (site_scope U s) p) os
  sound_among [] among h = tt
  sound_among (o ∷ os) among h =
      (one_sound o (among o (contains_first o os)) h.0, sound_among os (λ q c. among q (contains_next o q os c)) h.1)

  pub owns_sound : AllSound U (inside_procedure (site_scope U s) p) (owns_of U.program.declarations s)
  owns_sound = sound_among (owns_of U.program.declarations s) (λ o c. c) (owns_declared U.program.declarations s)
