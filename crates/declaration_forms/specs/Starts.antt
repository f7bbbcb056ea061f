-- What a line begins with, and what stands behind it.
--
-- The first words tell which form a line can be, so no two forms fit one line: a word that isn't reserved begins a
-- form only where what follows it fits no other one.
use Rattle.std.specs.Prelude.{ℕ, List, [], ◌∷◌, Option, Some, None, Bool, true, false, codes, if◌then◌else◌, option_map}
use Rattle.vb_tree.specs.declared.block.BlockKind.{BlockKind}
use Rattle.vb_tree.specs.declared.block.BlockKind.TheVariants as block
use Rattle.vb_tree.specs.declared.declared.ProcKind.{ProcKind}
use Rattle.vb_tree.specs.declared.declared.ProcKind.TheVariants as proc
use Rattle.vb_tree.specs.declared.form_parts.VarWord.{VarWord}
use Rattle.vb_tree.specs.declared.form_parts.VarWord.TheVariants as var
use Rattle.vb_tree.specs.declared.form_parts.Visibility.{Visibility}
use Rattle.vb_tree.specs.declared.form_parts.Visibility.TheVariants as seen
use Rattle.vb_tree.specs.declared.token.Token.{Token}
use Rattle.form_parts.specs.Words.{is_key}
use Rattle.form_parts.specs.Cuts.{pieces}
use Rattle.form_parts.specs.declared.cuts.Separator.TheVariants.{Comma}
use Rattle.declaration_forms.specs.declared.starts.Spot.{Spot}
use Rattle.declaration_forms.specs.declared.starts.Spot.TheVariants as spot
use Rattle.declaration_forms.specs.declared.starts.Start.{Start}
use Rattle.declaration_forms.specs.declared.starts.Start.TheVariants as start
use Rattle.declaration_forms.specs.declared.words.Lead.{Lead}
use Rattle.declaration_forms.specs.declared.words.Lead.TheVariants as lead
use Rattle.declaration_forms.specs.Words.{lead_of, begins_with, before_last}

abbrev pub Begun : Type 0
Begun = Option (Start × List Token)

-- constants, types, enumerations and lines that are kept as their tokens are no friends
abbrev pub is_general : Option Visibility → Bool
is_general None = true
is_general (Some seen.Public) = true
is_general (Some seen.Private) = true
is_general (Some seen.Friend) = false
is_general (Some seen.Global) = true

-- procedures aren't Global
abbrev pub is_procedural : Option Visibility → Bool
is_procedural None = true
is_procedural (Some seen.Public) = true
is_procedural (Some seen.Private) = true
is_procedural (Some seen.Friend) = true
is_procedural (Some seen.Global) = false

abbrev pub general : Option Visibility → Start → List Token → Begun
general v s rest = if is_general v then Some (s, rest) else None

-- the first word of a list of tokens
abbrev pub first_lead : List Token → Option Lead
first_lead [] = None
first_lead (t ∷ rest) = lead_of t

-- Get, Let or Set
abbrev pub property_kind : Token → Option ProcKind
property_kind t =
    if is_key (codes "get") t then Some proc.Get
    else if is_key (codes "let") t then Some proc.Let
    else if is_key (codes "set") t then Some proc.Set
    else None

abbrev pub property_part : List Token → Option (ProcKind × List Token)
property_part [] = None
property_part (t ∷ rest) = option_map (λ k. (k, rest)) (property_kind t)

abbrev pub part_of : Option Lead → List Token → Option (ProcKind × List Token)
part_of (Some lead.Sub) rest = Some (proc.Sub, rest)
part_of (Some lead.Function) rest = Some (proc.Function, rest)
part_of (Some lead.Property) rest = property_part rest
part_of _ rest = None

-- the procedure that a line is the head of, by its first words
abbrev pub procedure_part : List Token → Option (ProcKind × List Token)
procedure_part [] = None
procedure_part (t ∷ rest) = part_of (lead_of t) rest

-- what stands before the word Static, if a line ends with it
abbrev pub before_static : List Token → Option (List Token)
before_static tokens = before_last (is_key (codes "static")) tokens

abbrev pub head_of : ProcKind → Option Visibility → List Token → Option (List Token) → Start × List Token
head_of k v rest None = (start.Head k v, rest)
head_of k v rest (Some before) = (start.StaticHead k v, before)

-- the head of a procedure; Static may stand at its end
abbrev pub head_start : Option Visibility → ProcKind × List Token → Begun
head_start v p = if is_procedural v then Some (head_of p.0 v p.1 (before_static p.1)) else None

abbrev pub static_before : Option Visibility → ProcKind × List Token → Option (List Token) → Begun
static_before v p None = if is_procedural v then Some (start.StaticHead p.0 v, p.1) else None
static_before v p (Some before) = None

-- and one with Static before its kind, where none stands at its end (MS-VBAL, Procedure Declarations)
abbrev pub static_start : Option Visibility → ProcKind × List Token → Begun
static_start v p = static_before v p (before_static p.1)

-- whether a declaration begins with WithEvents
abbrev pub has_events : List (List Token) → Bool
has_events [] = false
has_events (p ∷ ps) = if begins_with (codes "withevents") p then true else has_events ps

abbrev pub variables_start : VarWord → List Token → Start × List Token
variables_start w rest = if has_events (pieces Comma rest) then (start.Events w, rest) else (start.Variables w, rest)

-- variables behind a word of visibility, or none
abbrev pub seen_variables : Option Visibility → List Token → Begun
seen_variables None line = None
seen_variables (Some seen.Public) line = Some (variables_start var.Public line)
seen_variables (Some seen.Private) line = Some (variables_start var.Private line)
seen_variables (Some seen.Friend) line = None
seen_variables (Some seen.Global) line = Some (variables_start var.Global line)

abbrev pub static_variables : Option Visibility → List Token → Begun
static_variables None rest = Some (variables_start var.Static rest)
static_variables (Some v) rest = None

abbrev pub property_start : Option Visibility → List Token → Option (ProcKind × List Token) → Begun
property_start v line None = seen_variables v line
property_start v line (Some p) = head_start v p

abbrev pub static_line : Option Visibility → List Token → Option (ProcKind × List Token) → Begun
static_line v rest None = static_variables v rest
static_line v rest (Some p) = static_start v p

-- the block that a closing line closes
abbrev pub closed_block : Option Lead → Option BlockKind
closed_block (Some lead.Sub) = Some block.Sub
closed_block (Some lead.Function) = Some block.Function
closed_block (Some lead.Property) = Some block.Property
closed_block (Some lead.Type) = Some block.Type
closed_block (Some lead.Enum) = Some block.Enum
closed_block _ = None

-- a procedure has no closing lines of a Type or an Enum
abbrev pub closed_procedure : Option Lead → Option BlockKind
closed_procedure (Some lead.Sub) = Some block.Sub
closed_procedure (Some lead.Function) = Some block.Function
closed_procedure (Some lead.Property) = Some block.Property
closed_procedure _ = None

abbrev pub ends : Option BlockKind → Begun
ends k = option_map (λ k. (start.End k, [])) k

-- a closing line: one word behind End
abbrev pub end_start : List Token → Begun
end_start (t ∷ []) = ends (closed_block (lead_of t))
end_start _ = None

abbrev pub procedure_end : List Token → Begun
procedure_end (t ∷ []) = ends (closed_procedure (lead_of t))
procedure_end _ = None

-- a line that begins with no word of visibility
abbrev pub plain_start : Option Lead → List Token → Begun
plain_start (Some lead.Attribute) rest = Some (start.Attribute, rest)
plain_start (Some lead.Option) rest = Some (start.Option, rest)
plain_start (Some (lead.Def w)) rest = Some (start.Def w, rest)
plain_start (Some lead.Dim) rest = Some (variables_start var.Dim rest)
plain_start (Some lead.End) rest = end_start rest
plain_start _ rest = None

-- a line that has no word of its own behind its visibility: variables
abbrev pub other_start : Option Visibility → Option Lead → List Token → List Token → Begun
other_start None word line rest = plain_start word rest
other_start (Some v) word line rest = seen_variables (Some v) line

-- a line at module level, behind its visibility: the first word, all tokens, and those behind that word
abbrev pub declared_start : Option Visibility → Option Lead → List Token → List Token → Begun
declared_start v (Some lead.Const) line rest = general v (start.Constants v) rest
declared_start v (Some lead.Type) line rest = general v (start.Type v) rest
declared_start v (Some lead.Enum) line rest = general v (start.Enum v) rest
declared_start v (Some lead.Declare) line rest = general v start.Opaque rest
declared_start v (Some lead.Event) line rest = general v start.Opaque rest
declared_start v (Some lead.Implements) line rest = general v start.Opaque rest
declared_start v (Some lead.Sub) line rest = head_start v (proc.Sub, rest)
declared_start v (Some lead.Function) line rest = head_start v (proc.Function, rest)
declared_start v (Some lead.Property) line rest = property_start v line (property_part rest)
declared_start v (Some lead.Static) line rest = static_line v rest (procedure_part rest)
declared_start v word line rest = other_start v word line rest

abbrev pub behind_visibility : Option Visibility → List Token → Begun
behind_visibility v [] = None
behind_visibility v (t ∷ rest) = declared_start v (lead_of t) (t ∷ rest) rest

abbrev pub seen_start : Option Lead → List Token → List Token → Begun
seen_start (Some (lead.Seen v)) line rest = behind_visibility (Some v) rest
seen_start word line rest = declared_start None word line rest

abbrev pub module_start : List Token → Begun
module_start [] = None
module_start (t ∷ rest) = seen_start (lead_of t) (t ∷ rest) rest

abbrev pub seen_constants : Visibility → Option Lead → List Token → Begun
seen_constants v (Some lead.Const) rest = general (Some v) (start.Constants (Some v)) rest
seen_constants v _ rest = None

abbrev pub seen_in_procedure : Visibility → List Token → Begun
seen_in_procedure v [] = None
seen_in_procedure v (t ∷ rest) = seen_constants v (lead_of t) rest

abbrev pub local_start : Option Lead → List Token → Begun
local_start (Some lead.Attribute) rest = Some (start.Attribute, rest)
local_start (Some lead.Dim) rest = Some (start.Variables var.Dim, rest)
local_start (Some lead.Static) rest = Some (start.Variables var.Static, rest)
local_start (Some lead.Const) rest = Some (start.Constants None, rest)
local_start (Some (lead.Seen v)) rest = seen_in_procedure v rest
local_start (Some lead.End) rest = procedure_end rest
local_start _ rest = None

-- a declaration or a closing line in a procedure
abbrev pub procedure_start : List Token → Begun
procedure_start [] = None
procedure_start (t ∷ rest) = local_start (lead_of t) rest

abbrev pub or_member : Start → List Token → Begun → Begun
or_member s line None = Some (s, line)
or_member s line (Some closing) = Some closing

-- a closing line, or else a field or a member: a field may have the name End
abbrev pub member_start : Start → Option Lead → List Token → List Token → Begun
member_start s (Some lead.End) line rest = or_member s line (end_start rest)
member_start s _ line rest = Some (s, line)

-- a line in a Type or an Enum
abbrev pub group_start : Start → List Token → Begun
group_start s [] = None
group_start s (t ∷ rest) = member_start s (lead_of t) (t ∷ rest) rest

abbrev pub start_of : Spot → List Token → Begun
start_of spot.Module tokens = module_start tokens
start_of spot.Procedure tokens = procedure_start tokens
start_of spot.TypeGroup tokens = group_start start.Field tokens
start_of spot.EnumGroup tokens = group_start start.Member tokens
