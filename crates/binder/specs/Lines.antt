-- What is bound in a code line: its expressions, and the rules that it breaks by itself.
use Rattle.std.specs.Prelude.{ℕ, ◌+◌, Bool, true, false, ◌&&◌, not, is_some, Option, Some, None, List, [], ◌∷◌, ◌++◌, map, slice_get}
use Rattle.vb_tree.specs.BoundTree.{Ty, user}
use Rattle.vb_tree.specs.BoundTree as types
use Rattle.vb_tree.specs.declared.form_parts.Label6.{Label6}
use Rattle.vb_tree.specs.Tree.{Exp, Form, goto, on_error_goto, resume_at, for_each, with_head, redim, opaque, TypeName, fixed_string, ReDimItem, Line}
use Rattle.vb_tree.specs.Tree as source
use Rattle.bound_tree.specs.declared.rule_set.RuleSet.{RuleSet}
use Rattle.bound_tree.specs.RuleSets.{none, with_rule, with_if, both}
use Rattle.bound_tree.specs.Tree.{Declarations, Expr, typed, Term, field, element, loose}
use Rattle.bound_facts.specs.Node.{type_at}
use Rattle.name_tables.specs.Scopes.{found_label}
use Rattle.typing_rows.specs.declared.cases.CaseType.{CaseType}
use Rattle.typing_rows.specs.declared.conversions.Conversion.{Conversion}
use Rattle.typing_rows.specs.declared.conversions.Conversion.TheVariants.{Breaks}
use Rattle.typing_rows.specs.Cases.{case_converts}
use Rattle.typing_rows.specs.Conversions.{assigned, condition, index, limit, printed, set_to}
use Rattle.expression_words.specs.Flaws.{Typed, known, unknown, flawed_by, flaws_of, on_known}
use Rattle.expression_words.specs.Converting.{wanted}
use Rattle.expression_words.specs.Meanings.{Meaning, Scope, valued}
use Rattle.expression_words.specs.Targets.{counter, let_target, resized, set_target, statement}
use Rattle.bound_exprs.specs.Resolved.{meaning, resolved}
use Rattle.bound_exprs.specs.Spelled.{spelled}
use Rattle.declarations.specs.ConstantExpressions.{resolved_as}
use Rattle.declarations.specs.Constants.{length_by}
use Rattle.declarations.specs.NamedTypes.{by_name}
use Rattle.declarations.specs.Plans.{length_rules}
use Rattle.binder.specs.declared.parts.Task.{Task}
use Rattle.binder.specs.declared.parts.Task.TheVariants as task
use Rattle.binder.specs.Parts.{Part, lookup_of}

-- ---- expressions

-- the type of what is given a value or counted in; what has none takes any value as it is
abbrev pub target_type : Typed → Ty
target_type (known e) = type_at e
target_type (unknown f) = types.unknown

abbrev pub asked : Scope → (Ty → Conversion) → Typed → Typed
asked S asks t = on_known (wanted S.declarations asks) t

abbrev pub flawed_where : Conversion → Typed → Typed
flawed_where (Breaks rule) t = flawed_by rule t
flawed_where _ t = t

-- the value of a Set, which a Variant doesn't take whatever it is
abbrev pub set_value : Scope → (target : Ty) → Typed → Typed
set_value S target (known e) = wanted S.declarations (λ (s : Ty). set_to s target) e
set_value S target (unknown f) = flawed_where (set_to types.unknown target) (unknown f)

-- what is given a value, entered, counted in or made anew, by what it means
abbrev pub used_as : Declarations → Task → Meaning → Typed
used_as D task.LetTarget m = let_target D m
used_as D task.SetTarget m = set_target D m
used_as D task.Counter m = counter D m
used_as D task.Array m = resized D m
used_as D task.Callee m = statement D m
used_as D _ m = valued D m

abbrev pub used : Scope → Task → Exp → Typed
used S t e = used_as S.declarations t (meaning S (lookup_of t) e)

-- what an expression of a line is, under the common type of a Select Case, and beside a target of a type
abbrev pub typed_as : Scope → CaseType → (target : Ty) → Task → Exp → Typed
typed_as S cases target task.LetValue e = asked S (λ (s : Ty). assigned s target) (resolved_as S e target)
typed_as S cases target task.SetValue e = set_value S target (resolved S e)
typed_as S cases target task.Limit e = asked S (λ (s : Ty). limit s target) (resolved S e)
typed_as S cases target task.Condition e = asked S condition (resolved S e)
typed_as S cases target task.Printed e = asked S printed (resolved S e)
typed_as S cases target task.Bound e = asked S index (resolved S e)
typed_as S cases target task.Choice e = asked S (case_converts cases) (resolved S e)
typed_as S cases target t e = used S t e

abbrev pub typed_part : Scope → CaseType → Ty → Part → Typed
typed_part S cases target p = typed_as S cases target p.task p.exp

abbrev pub behind_target : Scope → CaseType → Typed → List Part → List Typed
behind_target S cases t ps = t ∷ map (typed_part S cases (target_type t)) ps

-- a line's target is the first of its expressions
abbrev pub typed_parts : Scope → CaseType → List Part → List Typed
typed_parts S cases [] = []
typed_parts S cases (p ∷ ps) = behind_target S cases (typed_part S cases types.unknown p) ps

abbrev pub spelled_part : Scope → Part → Exp
spelled_part S p = spelled S (lookup_of p.task) p.exp

-- an expression without a type is kept as it is written
abbrev pub settled : Scope → Part → Typed → Expr
settled S p (known e) = e
settled S p (unknown f) = typed types.unknown (loose (spelled_part S p) f.rules)

abbrev pub settled_at : Scope → Option Part → Typed → List Expr
settled_at S None t = []
settled_at S (Some p) t = settled S p t ∷ []

-- each of these is the part with its number, from i on
abbrev pub settled_from : Scope → List Part → (i : ℕ) → List Typed → List Expr
settled_from S ps i [] = []
settled_from S ps i (t ∷ ts) = settled_at S (slice_get ps i) t ++ settled_from S ps (i + 1) ts

-- ---- rules

abbrev pub is_user : Ty → Bool
is_user (user t) = true
is_user _ = false

-- an element of an array, or a user type inside of one
abbrev mutual
  pub is_in_element : Expr → Bool
  is_in_element (typed ty t) = is_element ty t

  pub is_element : Ty → Term → Bool
  is_element ty (element e indexes) = true
  is_element ty (field e k) = is_user (type_at e) && is_user ty && is_in_element e
  is_element ty _ = false

-- a With keeps no such thing
abbrev pub kept_rules : List Typed → RuleSet
kept_rules (known e ∷ ts) = with_if none 4 (is_in_element e)
kept_rules _ = none

abbrev pub label_rules : List Line → Label6 → RuleSet
label_rules lines l = with_if none 3 (not (is_some (found_label lines l)))

-- a type behind As of a ReDim is looked up, and changes nothing
abbrev pub type_rules : Scope → Option TypeName → RuleSet
type_rules S None = none
type_rules S (Some (source.named name)) = (by_name S.declarations S.site.file false name).rules
type_rules S (Some (fixed_string e)) = length_rules (length_by S e)

-- those of items, beside others
abbrev pub redim_rules : Scope → RuleSet → List ReDimItem → RuleSet
redim_rules S rules [] = rules
redim_rules S rules (i ∷ is) = redim_rules S (both rules (type_rules S i.ty)) is

-- the rules that a line breaks beside those of its expressions; the lines of its procedure have the labels
abbrev pub own_rules : Scope → List Line → Form → List Typed → RuleSet
own_rules S lines (goto l) ts = label_rules lines l
own_rules S lines (on_error_goto l) ts = label_rules lines l
own_rules S lines (resume_at l) ts = label_rules lines l
own_rules S lines (for_each name s e) ts = with_rule none 4
own_rules S lines (with_head e) ts = kept_rules ts
own_rules S lines (redim preserve items) ts = redim_rules S none items
own_rules S lines (opaque tokens) ts = with_rule none 4
own_rules S lines _ ts = none

abbrev pub line_rules : Scope → List Line → Form → List Typed → RuleSet
line_rules S lines f ts = both (own_rules S lines f ts) (flaws_of ts).rules
