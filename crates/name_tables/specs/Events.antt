-- The names that lines of Declare, Event and WithEvents have. Such a line declares nothing, but its names are no undeclared variables.
use Rattle.std.specs.Prelude.{ℕ, Bool, true, false, ◌||◌, ◌&&◌, not, if◌then◌else◌, List, [], ◌∷◌, map, Option, Some, None, codes}
use Rattle.std.specs.List.{flat_map}
use Rattle.vb_tree.specs.declared.form_parts.VarWord.{VarWord}
use Rattle.vb_tree.specs.declared.form_parts.VarWord.TheVariants as var
use Rattle.vb_tree.specs.declared.token.Token.{Token}
use Rattle.vb_tree.specs.declared.token.TokenKind.{TokenKind}
use Rattle.vb_tree.specs.declared.token.TokenKind.TheVariants as kind
use Rattle.vb_tree.specs.LogicalLines.{is_word}
use Rattle.vb_tree.specs.Tree.{Declarator, Form, Member, alone, group, proc, Module, Project, opaque, event_variables}

pub record Event : Type 0 where
  pub name : List ℕ
  -- the number of its module's file
  pub file : ℕ
  -- whether other modules see it
  pub seen : Bool

abbrev pub is_visibility : Token → Bool
is_visibility t = is_word (codes "public") t.kind || is_word (codes "private") t.kind || is_word (codes "global") t.kind

abbrev pub is_private : List Token → Bool
is_private [] = false
is_private (t ∷ ts) = is_word (codes "private") t.kind

abbrev pub behind_visibility : List Token → List Token
behind_visibility [] = []
behind_visibility (t ∷ ts) = if is_visibility t then ts else t ∷ ts

abbrev pub name_in : TokenKind → Option (List ℕ)
name_in (kind.Word n s) = Some n
name_in (kind.Bracketed n s) = Some n
name_in (kind.Lit l) = None
name_in (kind.Sign s) = None

abbrev pub name_at : List Token → Option (List ℕ)
name_at [] = None
name_at (t ∷ ts) = name_in t.kind

-- the name behind the word Sub or Function
abbrev pub name_of_procedure : List Token → Option (List ℕ)
name_of_procedure [] = None
name_of_procedure (t ∷ ts) = if is_word (codes "sub") t.kind || is_word (codes "function") t.kind then name_at ts else None

-- the name behind `Declare Sub`, `Declare Function` or `Event`
abbrev pub name_of_line : List Token → Option (List ℕ)
name_of_line [] = None
name_of_line (t ∷ ts) = if is_word (codes "declare") t.kind then name_of_procedure ts else (if is_word (codes "event") t.kind then name_at ts else None)

abbrev pub event_of_name : ℕ → Bool → Option (List ℕ) → List Event
event_of_name file seen None = []
event_of_name file seen (Some n) = record { name = n; file = file; seen = seen } ∷ []

-- whether variables that are declared with this word are seen by other modules
abbrev pub is_open : VarWord → Bool
is_open var.Public = true
is_open var.Global = true
is_open _ = false

abbrev pub variable_events : ℕ → Bool → List Declarator → List Event
variable_events file seen declarators = map (λ (d : Declarator). record { name = d.name; file = file; seen = seen }) declarators

-- those of a line of the file with this number, in a standard module or not
abbrev pub form_events : ℕ → Bool → Form → List Event
form_events file standard (opaque tokens) = event_of_name file (standard && not (is_private tokens)) (name_of_line (behind_visibility tokens))
form_events file standard (event_variables w declarators) = variable_events file (standard && is_open w) declarators
form_events file standard _ = []

abbrev pub member_events : ℕ → Bool → Member → List Event
member_events file standard (alone l) = form_events file standard l.form
member_events file standard (group head lines close) = []
member_events file standard (proc head body close) = []

abbrev pub module_events : Module → List Event
module_events m = flat_map (member_events m.file (not m.class)) m.members

-- the names of such lines at the level of modules, in project order
abbrev pub events_of : Project → List Event
events_of P = flat_map module_events P.modules
