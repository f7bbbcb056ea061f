-- The types that declarations name: behind As, else by a suffix, else by the first letter.
use Rattle.std.specs.Prelude.{ℕ, Bool, false, cond, ◌||◌, nat_eq, nat_lt, Option, Some, None, List, length, map, codes}
use Rattle.std.specs.Cmp.Lexicographic.{pointwise}
use Rattle.std.specs.List.{list_any}
use Rattle.up_base.specs.Names.{lower_case}
use Rattle.vb_tree.specs.BoundTree.{Ty, boolean, byte, integer, long, currency, str, user, class, object, variant, array, unknown}
use Rattle.vb_tree.specs.declared.form_parts.DefWord.{DefWord}
use Rattle.vb_tree.specs.declared.form_parts.DefWord.TheVariants as def
use Rattle.vb_tree.specs.declared.token.Suffix.{Suffix}
use Rattle.vb_tree.specs.declared.token.Suffix.TheVariants as suffix
use Rattle.vb_tree.specs.Tree.{Bounds, Module, TypeName, fixed_string}
use Rattle.vb_tree.specs.Tree as source
use Rattle.bound_tree.specs.declared.declared.Named.{Named}
use Rattle.bound_tree.specs.declared.declared.Named.TheVariants as named
use Rattle.bound_tree.specs.declared.rule_set.RuleSet.{RuleSet}
use Rattle.bound_tree.specs.RuleSets.{none, with_rule, both}
use Rattle.bound_tree.specs.Tree.{Declarations}
use Rattle.name_tables.specs.declared.uses.Use6.{Use6}
use Rattle.name_tables.specs.declared.uses.Use6.TheVariants as use6
use Rattle.name_tables.specs.Scopes.{found_type}
use Rattle.declarations.specs.ModuleFacts.{facts_in, Letter, letter_of}

-- a type, the rules that are broken by naming it, whether its module is named, and the Def line that gives it
pub record Choice : Type 0 where
  pub ty : Ty
  pub rules : RuleSet
  pub qualified : Bool
  pub lettered : Option ℕ

abbrev pub chosen : Ty → Choice
chosen ty = record { ty = ty; rules = none; qualified = false; lettered = None }

abbrev pub broken : ℕ → Choice
broken rule = record { ty = unknown; rules = with_rule none rule; qualified = false; lettered = None }

-- ---- suffixes

abbrev pub by_suffix : Suffix → Option Choice
by_suffix suffix.Absent = None
by_suffix suffix.Integer = Some (chosen integer)
by_suffix suffix.Long = Some (chosen long)
by_suffix suffix.Currency = Some (chosen currency)
by_suffix suffix.Str = Some (chosen str)
by_suffix suffix.Single = Some (broken 1)
by_suffix suffix.Double = Some (broken 1)

-- ---- names of types

abbrev pub is_key : List ℕ → List ℕ → Bool
is_key key word = pointwise nat_eq key word

-- the types that aren't translated
abbrev pub is_floating : List ℕ → Bool
is_floating key = is_key key (codes "single") || (is_key key (codes "double") || is_key key (codes "date"))

abbrev pub word_type : List ℕ → Option Ty
word_type key =
    cond (is_key key (codes "boolean")) (Some boolean)
    (cond (is_key key (codes "byte")) (Some byte)
    (cond (is_key key (codes "integer")) (Some integer)
    (cond (is_key key (codes "long")) (Some long)
    (cond (is_key key (codes "currency")) (Some currency)
    (cond (is_key key (codes "string")) (Some str)
    (cond (is_key key (codes "object")) (Some object)
    (cond (is_key key (codes "variant")) (Some variant) None)))))))

abbrev pub of_named : Named → Choice
of_named (named.Type t) = chosen (user t.0)
of_named (named.Enum e) = chosen long
of_named _ = broken 3

abbrev pub of_use : Use6 → Choice
of_use (use6.Local n) = of_named n
of_use (use6.Own n) = of_named n
of_use (use6.Foreign file n) = of_named n
of_use (use6.Class c) = chosen (class c.0)
of_use use6.Ambiguous = broken 20
of_use _ = broken 3

-- As New takes a class alone
abbrev pub of_new_use : Use6 → Choice
of_new_use (use6.Class c) = chosen (class c.0)
of_new_use use6.Ambiguous = broken 20
of_new_use _ = broken 3

abbrev pub has_stop : List ℕ → Bool
has_stop name = list_any (nat_eq 46) name

abbrev pub looked_up : (auto : Bool) → List ℕ → Use6 → Choice
looked_up auto name u = record (cond auto (of_new_use u) (of_use u)) { qualified = has_stop name }

abbrev pub word_or_found : (auto : Bool) → List ℕ → Use6 → Option Ty → Choice
word_or_found auto name u None = looked_up auto name u
word_or_found auto name u (Some ty) = cond auto (broken 3) (chosen ty)

-- the type of a name in the module of a file
abbrev pub by_name : Declarations → ℕ → (auto : Bool) → List ℕ → Choice
by_name D file auto name =
    cond (is_floating (lower_case name)) (broken 1)
    (word_or_found auto name (found_type D (record { file = file; procedure = None }) (lower_case name)) (word_type (lower_case name)))

-- a String of a fixed length, whose length is found later, reads as a String
abbrev pub by_type_name : Declarations → ℕ → (auto : Bool) → TypeName → Choice
by_type_name D file auto (source.named name) = by_name D file auto name
by_type_name D file auto (fixed_string units) = chosen str

-- ---- first letters

abbrev pub word_of : DefWord → Ty
word_of def.Boolean = boolean
word_of def.Byte = byte
word_of def.Integer = integer
word_of def.Long = long
word_of def.Currency = currency
word_of def.Str = str
word_of def.Object = object
word_of def.Variant = variant
word_of def.Single = unknown
word_of def.Double = unknown
word_of def.Date = unknown

-- a type that a Def line gives breaks nothing at the declaration
abbrev pub by_letter : Option Letter → Choice
by_letter None = chosen variant
by_letter (Some l) = record { ty = word_of l.word; rules = none; qualified = false; lettered = Some l.statement }

-- ---- declarations

-- The type behind As goes before that of a suffix. A suffix whose type isn't translated makes it unknown.
abbrev pub ty_behind : (suffix behind : Ty) → Ty
ty_behind unknown ty = unknown
ty_behind _ ty = ty

abbrev pub suffixed : Option Choice → Choice → Choice
suffixed None c = c
suffixed (Some s) c = record { ty = ty_behind s.ty c.ty; rules = both c.rules s.rules; qualified = c.qualified; lettered = None }

abbrev pub or_choice : Option Choice → Choice → Choice
or_choice None c = c
or_choice (Some s) c = s

-- the type of a single item of what is declared in the module of a file
abbrev pub single : Declarations → ℕ → List ℕ → Suffix → (auto : Bool) → Option TypeName → Choice
single D file name s auto None = or_choice (by_suffix s) (by_letter (letter_of name file (map facts_in D.project.modules)))
single D file name s auto (Some t) = suffixed (by_suffix s) (by_type_name D file auto t)

-- a rank above 255 is kept as 255
abbrev pub capped : ℕ → ℕ
capped rank = cond (nat_lt 255 rank) 255 rank

abbrev pub rank_of : Option (List Bounds) → Option ℕ
rank_of None = None
rank_of (Some bounds) = Some (capped (length bounds))

abbrev pub in_array : Option ℕ → Ty → Ty
in_array None ty = ty
in_array (Some rank) unknown = unknown
in_array (Some rank) ty = array ty rank
