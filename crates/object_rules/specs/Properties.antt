-- The shape of properties: what the parts of one must have in common.
use Rattle.std.specs.Prelude.{ℕ, ◌-◌, Bool, true, false, cond, not, ◌||◌, ◌&&◌, nat_eq, Option, Some, None, is_some, List, length, take, slice_get}
use Rattle.std.specs.List.{list_any, list_all, zip}
use Rattle.up_base.specs.Names.{is_same_name}
use Rattle.vb_tree.specs.declared.declared.ProcKind.{ProcKind}
use Rattle.vb_tree.specs.declared.declared.ProcKind.TheVariants as kind
use Rattle.vb_tree.specs.declared.declared.VarId.{VarId}
use Rattle.vb_tree.specs.declared.form_parts.Visibility.{Visibility}
use Rattle.vb_tree.specs.declared.form_parts.Visibility.TheVariants as word
use Rattle.bound_tree.specs.Tree.{Variable, Procedure, Declarations}
use Rattle.bound_facts.specs.Locks.{is_same_type}

abbrev pub is_property : ProcKind → Bool
is_property kind.Get = true
is_property kind.Let = true
is_property kind.Set = true
is_property _ = false

abbrev pub is_let : ProcKind → Bool
is_let kind.Let = true
is_let _ = false

abbrev pub is_set : ProcKind → Bool
is_set kind.Set = true
is_set _ = false

-- ---- one part

-- whether the last parameter of a part is the value that it takes
abbrev pub takes_value : ProcKind → Bool
takes_value k = is_let k || is_set k

abbrev pub last : List VarId → Option VarId
last params = slice_get params (length params - 1)

abbrev pub before_last : List VarId → List VarId
before_last params = take (length params - 1) params

-- what a part gives or takes: the result variable of a Get, the last parameter of a Let or Set
abbrev pub value_of : Procedure → Option VarId
value_of p = cond (takes_value p.kind) (last p.params) p.answer

-- its further parameters
abbrev pub indexes_of : Procedure → List VarId
indexes_of p = cond (takes_value p.kind) (before_last p.params) p.params

-- a Let or Set without a value parameter
abbrev pub lacks_value : Procedure → Bool
lacks_value p = takes_value p.kind && not (is_some (last p.params))

-- ---- two parts

abbrev pub is_same_word : Visibility → Visibility → Bool
is_same_word word.Public word.Public = true
is_same_word word.Private word.Private = true
is_same_word word.Friend word.Friend = true
is_same_word word.Global word.Global = true
is_same_word _ _ = false

abbrev pub variable_at : List Variable → Option VarId → Option Variable
variable_at vars None = None
variable_at vars (Some v) = slice_get vars v.0

-- whether two declarations name the same type
abbrev pub have_same_type : Option Variable → Option Variable → Bool
have_same_type None None = true
have_same_type (Some v) (Some w) = is_same_type v.named w.named
have_same_type _ _ = false

abbrev pub have_same_name : Option Variable → Option Variable → Bool
have_same_name None None = true
have_same_name (Some v) (Some w) = is_same_name v.name w.name
have_same_name _ _ = false

abbrev pub are_same_values : List Variable → (v w : Option VarId) → Bool
are_same_values vars v w = have_same_type (variable_at vars v) (variable_at vars w)

abbrev pub is_same_index : List Variable → (v w : VarId) → Bool
is_same_index vars v w = have_same_name (slice_get vars v.0) (slice_get vars w.0) && have_same_type (slice_get vars v.0) (slice_get vars w.0)

abbrev pub are_same_indexes : List Variable → (vs ws : List VarId) → Bool
are_same_indexes vars vs ws = nat_eq (length vs) (length ws) && list_all (λ p. is_same_index vars p.0 p.1) (zip vs ws)

-- whether two parts have the same visibility, the same type, and as many index parameters of the same names and types
abbrev pub are_alike : Declarations → (p q : Procedure) → Bool
are_alike D p q = is_same_word p.visibility q.visibility && are_same_values D.vars (value_of p) (value_of q) && are_same_indexes D.vars (indexes_of p) (indexes_of q)

-- ---- a property, by the number of its first part

-- whether some part of it passes a test
abbrev pub some_part : Declarations → (first : ℕ) → (Procedure → Bool) → Bool
some_part D first test = list_any (λ p. (is_property p.kind && nat_eq first p.first.0) && test p) D.procs

-- whether a part of it differs from the first one or lacks its value, or both a Let and a Set are there
abbrev pub breaks_with : Declarations → (number : ℕ) → (first : Procedure) → Bool
breaks_with D number first =
    some_part D number (λ p. not (are_alike D first p) || lacks_value p)
    || (some_part D number (λ p. is_let p.kind) && some_part D number (λ p. is_set p.kind))

abbrev pub breaks_first : Declarations → (number : ℕ) → Option Procedure → Bool
breaks_first D number None = false
breaks_first D number (Some first) = breaks_with D number first

-- whether a procedure is a part of a property that has no right shape
abbrev pub breaks_shape : Declarations → Procedure → Bool
breaks_shape D p = is_property p.kind && breaks_first D p.first.0 (slice_get D.procs p.first.0)
