-- Why an expression has no type.
use Rattle.std.specs.Prelude.{◌≡◌, ◌⊎◌, ℕ, Bool, true, false, ◌||◌, nat_eq, is_some}
use Rattle.std.specs.List.{list_all, list_any}
use Rattle.vb_tree.specs.BoundTree.{Ty, array, unknown}
use Rattle.vb_tree.specs.Tree.{Exp}
use Rattle.bound_tree.specs.RuleSets.{is_broken, rule_numbers}
use Rattle.bound_tree.specs.Tree.{Variable, Constant, Procedure, Declarations}
use Rattle.bound_facts.specs.Node.{type_at}
use Rattle.expression_words.specs.declared.typed.Flaw.{Flaw}
use Rattle.expression_words.specs.Flaws as flaws
use Rattle.expression_words.specs.Flaws.{Typed}
use Rattle.expression_words.specs.Meanings.{Scope, Kept, no_with, keeps, keeps_unknown}
use Rattle.bound_exprs.specs.Resolved.{resolved}

-- a rule is broken, or a declaration is used that has no type
abbrev pub has_cause : Flaw → Bool
has_cause f = is_some f.cause || is_broken f.rules

-- a type that is known, to the elements of an array
abbrev pub is_known_type : Ty → Bool
is_known_type unknown = false
is_known_type (array e rank) = is_known_type e
is_known_type _ = true

-- no array has elements without a type
abbrev pub is_whole : Ty → Bool
is_whole unknown = true
is_whole ty = is_known_type ty

pub record AreWhole (D : Declarations) : Type 0 where
  pub variables : list_all (λ (v : Variable). is_whole v.ty) D.vars ≡ true
  pub constants : list_all (λ (c : Constant). is_whole c.ty) D.consts ≡ true
  pub results : list_all (λ (p : Procedure). is_whole p.result) D.procs ≡ true

abbrev pub is_rule : ℕ → Bool
is_rule n = list_any (nat_eq n) rule_numbers

-- an expression has a type, or there is a cause why it has none
abbrev pub IsFounded : Typed → Type 0
IsFounded (flaws.known e) = is_known_type (type_at e) ≡ true
IsFounded (flaws.unknown f) = has_cause f ≡ true

-- a With over an expression without a type that uses no declaration without one: it breaks a rule
abbrev pub is_kept : Kept → Bool
is_kept no_with = true
is_kept (keeps ty r) = is_known_type ty
is_kept (keeps_unknown m) = is_some m

abbrev pub IsCaused : Scope → Exp → Type 0
IsCaused S e = IsFounded (resolved S e) ⊎ (is_kept S.kept ≡ false)
