-- Default members: those with VB_UserMemId 0.
use Rattle.std.specs.Prelude.{ℕ, pos, ◌&&◌, Bool, true, false, cond, nat_eq, Option, Some, None, List, [], ◌∷◌, codes}
use Rattle.std.specs.List.{flat_map}
use Rattle.std.specs.Ordering.{int_eq}
use Rattle.std.specs.Cmp.Lexicographic.{pointwise}
use Rattle.up_base.specs.Names.{is_same_name, lower_case}
use Rattle.vb_tree.specs.declared.declared.ProcId.{ProcId}
use Rattle.vb_tree.specs.declared.token.Literal6.TheVariants as literal
use Rattle.vb_tree.specs.declared.token.Sign.TheVariants as sign
use Rattle.vb_tree.specs.declared.token.Token.{Token}
use Rattle.vb_tree.specs.declared.token.TokenKind.{TokenKind}
use Rattle.vb_tree.specs.declared.token.TokenKind.TheVariants as token
use Rattle.vb_tree.specs.FlatLines.{flat_lines}
use Rattle.vb_tree.specs.Tree.{Form, attribute, Line, Member, alone, proc, Module, Project}
use Rattle.bound_tree.specs.Tree.{Procedure}

abbrev pub is_dot : TokenKind → Bool
is_dot (token.Sign sign.Dot) = true
is_dot _ = false

abbrev pub is_equal : TokenKind → Bool
is_equal (token.Sign sign.Equal) = true
is_equal _ = false

abbrev pub is_member_id : TokenKind → Bool
is_member_id (token.Word name suffix) = pointwise nat_eq (lower_case name) (codes "vb_usermemid")
is_member_id _ = false

abbrev pub is_zero : TokenKind → Bool
is_zero (token.Lit (literal.Int z hexadecimal)) = int_eq z (pos 0)
is_zero _ = false

abbrev pub word_of : TokenKind → Option (List ℕ)
word_of (token.Word name suffix) = Some name
word_of (token.Bracketed name suffix) = Some name
word_of _ = None

-- the name in `NAME.VB_UserMemId = 0`
abbrev pub default_name : List Token → Option (List ℕ)
default_name (a ∷ b ∷ c ∷ d ∷ e ∷ []) = cond (is_dot b.kind && (is_member_id c.kind && (is_equal d.kind && is_zero e.kind))) (word_of a.kind) None
default_name _ = None

abbrev pub named_in : Form → Option (List ℕ)
named_in (attribute tokens) = default_name tokens
named_in _ = None

abbrev pub is_procedure : ℕ → List ℕ → Procedure → Bool
is_procedure file name p = nat_eq p.module_number file && is_same_name p.name name

-- the first part of the first procedure of a name in the module of a file
abbrev pub procedure_named : ℕ → List ℕ → List Procedure → Option ProcId
procedure_named file name [] = None
procedure_named file name (p ∷ ps) = cond (is_procedure file name p) (Some p.first) (procedure_named file name ps)

abbrev pub found_by : ℕ → List Procedure → Option (List ℕ) → Option ProcId
found_by file ps None = None
found_by file ps (Some name) = procedure_named file name ps

abbrev pub or_procedure : Option ProcId → Option ProcId → Option ProcId
or_procedure None more = more
or_procedure (Some p) more = Some p

-- the first of the lines that names a procedure
abbrev pub default_in : ℕ → List Procedure → List Line → Option ProcId
default_in file ps [] = None
default_in file ps (l ∷ ls) = or_procedure (found_by file ps (named_in l.form)) (default_in file ps ls)

abbrev pub member_default : ℕ → List Procedure → Member → Option ProcId
member_default file ps (alone l) = found_by file ps (named_in l.form)
member_default file ps (proc head body close) = default_in file ps (flat_lines body)
member_default file ps _ = None

abbrev pub members_default : ℕ → List Procedure → List Member → Option ProcId
members_default file ps [] = None
members_default file ps (m ∷ ms) = or_procedure (member_default file ps m) (members_default file ps ms)

abbrev pub defaults_in : List Procedure → Module → List (Option ProcId)
defaults_in ps m = cond m.class (members_default m.file ps m.members ∷ []) []

abbrev pub defaults_along : List Procedure → List Module → List (Option ProcId)
defaults_along ps ms = flat_map (defaults_in ps) ms

-- the default member of each class
abbrev pub defaults_of : Project → List Procedure → List (Option ProcId)
defaults_of P ps = defaults_along ps P.modules
