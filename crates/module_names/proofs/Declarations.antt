-- The names of a Sub and of variables are identifiers, where the tokens of the line that declares them are such names.
use Rattle.std.proofs.Common.{◌≡◌, ℕ, Bool, true, false, if◌then◌else◌, Option, Some, None, option_map, option_and_then, List, [], ◌∷◌, map, codes, refl, ap, ◌∙◌}
use Rattle.std.specs.List.{list_all}
use Rattle.vb_tree.specs.declared.block.BlockKind.{BlockKind}
use Rattle.vb_tree.specs.declared.block.BlockKind.TheVariants as block
use Rattle.vb_tree.specs.declared.declared.ProcKind.{ProcKind}
use Rattle.vb_tree.specs.declared.declared.ProcKind.TheVariants as proc
use Rattle.vb_tree.specs.declared.form_parts.VarWord.{VarWord}
use Rattle.vb_tree.specs.declared.form_parts.VarWord.TheVariants as var
use Rattle.vb_tree.specs.declared.form_parts.Visibility.{Visibility}
use Rattle.vb_tree.specs.declared.form_parts.Visibility.TheVariants as seen
use Rattle.vb_tree.specs.declared.token.Suffix.{Suffix}
use Rattle.vb_tree.specs.declared.token.Suffix.TheVariants as suffix
use Rattle.vb_tree.specs.declared.token.Sign.{Sign}
use Rattle.vb_tree.specs.declared.token.Sign.TheVariants as sign
use Rattle.vb_tree.specs.declared.token.Token.{Token}
use Rattle.vb_tree.specs.declared.token.TokenKind.{TokenKind}
use Rattle.vb_tree.specs.declared.token.TokenKind.TheVariants as kind
use Rattle.vb_tree.specs.Expressions.{Keyword, constant_word, operator_keyword, keyword_of, keyword_symbol, word_symbol, sign_symbol, symbol_of}
use Rattle.vb_tree.specs.Tree.{Declarator, Form}
use Rattle.form_parts.specs.Cuts.{open_after, part_behind, parts_here, placed, pieces_in, pieces, parted, Each}
use Rattle.form_parts.specs.declared.cuts.Separator.{Separator}
use Rattle.form_parts.specs.Parts.{symbol_name, name_of_token}
use Rattle.declaration_forms.specs.declared.starts.Spot.{Spot}
use Rattle.declaration_forms.specs.declared.starts.Spot.TheVariants as spot
use Rattle.declaration_forms.specs.declared.starts.Start.{Start}
use Rattle.declaration_forms.specs.declared.starts.Start.TheVariants as start
use Rattle.declaration_forms.specs.declared.words.Lead.{Lead}
use Rattle.declaration_forms.specs.declared.words.Lead.TheVariants as lead
use Rattle.declaration_forms.specs.Outlines.{can_be_declared, declared_name, is_as, typed_in, typed, in_parentheses, Outline, outlined, named_outline, cut_outline, outline_of, field_outline}
use Rattle.declaration_forms.specs.Words.{lead_of, before_last}
use Rattle.declaration_forms.specs.Starts.{Begun, is_general, is_procedural, general, property_kind, property_part, part_of, procedure_part, before_static, head_of, head_start, static_before, static_start, has_events, variables_start, seen_variables, static_variables, property_start, static_line, closed_block, closed_procedure, ends, end_start, procedure_end, plain_start, other_start, declared_start, behind_visibility, seen_start, module_start, seen_constants, seen_in_procedure, local_start, procedure_start, or_member, member_start, group_start, start_of}
use Rattle.declaration_forms.specs.Options.{whole_number, lower_bound, option_of_two, option_line}
use Rattle.declaration_forms.specs.DeclarationForms.{head_form, HeadLine, end_form, Fits, FitsStart, IsDeclaration}
use Rattle.declaration_forms.specs.Variables.{Outlines, DeclaratorOf, IsDeclarator, FieldOf, MemberOf, IsMemberCut}
use Rattle.form_parts.specs.Words.{is_key}
use Rattle.form_parts.specs.declared.cuts.Separator.TheVariants.{Comma, Equal}
use Rattle.std.specs.Prelude.{ℤ, pos}
use Rattle.std.specs.Ordering.{int_eq}
use Rattle.module_names.proofs.Statements.{is_good_form, option_names, found_names, either_names}
use Rattle.up_base.proofs.Lists.{by_test, and_true, all_more, all_first, all_rest}
use Rattle.module_names.proofs.Cuts.{are_named}
use Rattle.module_names.proofs.Tokens.{is_named_kind, is_named_token}
use Rattle.net_tree.specs.Spelling.{is_identifier}

-- ---- outlines

abbrev is_named_option : Option (List ℕ × Suffix) → Bool
is_named_option None = true
is_named_option (Some n) = is_identifier n.0

keyword_names : (k : Keyword) (n : List ℕ) → symbol_name (keyword_symbol k n) ≡ None
keyword_names constant_word n = refl
keyword_names (operator_keyword op) n = refl
keyword_names _ n = refl

sign_names : (s : Sign) → symbol_name (sign_symbol s) ≡ None
sign_names sign.OpenParen = refl
sign_names _ = refl

none_named : (o : Option (List ℕ × Suffix)) → o ≡ None → is_named_option o ≡ true
none_named o e = ap is_named_option e

word_names : (o : Option Keyword) (n : List ℕ) (s : Suffix) → is_identifier n ≡ true → is_named_option (symbol_name (word_symbol o n s)) ≡ true
word_names None n s h = h
word_names (Some k) n suffix.Absent h = none_named (symbol_name (keyword_symbol k n)) (keyword_names k n)
word_names (Some k) n _ h = refl

kind_names : (k : TokenKind) → is_named_kind k ≡ true → is_named_option (symbol_name (symbol_of k)) ≡ true
kind_names (kind.Word n s) h = word_names (keyword_of _) n s h
kind_names (kind.Bracketed n s) h = h
kind_names (kind.Lit l) h = refl
kind_names (kind.Sign s) h = none_named (symbol_name (sign_symbol s)) (sign_names s)

declared_names : (t : Token) → is_named_token t ≡ true → is_named_option (declared_name t) ≡ true
declared_names t h =
    by_test (can_be_declared t.kind) (λ b. is_named_option (if b then name_of_token t else None) ≡ true)
    (λ e. kind_names t.kind h)
    (λ e. refl)

abbrev is_named_outline : Option Outline → Bool
is_named_outline None = true
is_named_outline (Some o) = is_identifier o.name

outlined_names : (ty : Option (List Token)) (n : Option (List ℕ × Suffix)) (inside : Option (Option (List Token))) → is_named_option n ≡ true → is_named_outline (outlined ty n inside) ≡ true
outlined_names ty None inside h = refl
outlined_names ty (Some n) None h = refl
outlined_names ty (Some n) (Some i) h = h

named_outline_names : (ty : Option (List Token)) (tokens : List Token) → are_named tokens ≡ true → is_named_outline (named_outline ty tokens) ≡ true
named_outline_names ty [] h = refl
named_outline_names ty (t ∷ rest) h = outlined_names ty (declared_name t) (in_parentheses rest) (declared_names t (all_first is_named_token t rest h))

abbrev is_named_front : Option (List Token × List Token) → Bool
is_named_front None = true
is_named_front (Some p) = are_named p.0

typed_names : (d : ℕ) (tokens : List Token) → are_named tokens ≡ true → is_named_front (typed_in d tokens) ≡ true
typed_names d [] h = refl
typed_names d (t ∷ ts) h =
    of_test (is_as d t.kind) (typed_in (open_after d t.kind) ts) (typed_names (open_after d t.kind) ts (all_rest is_named_token t ts h))
  where
    of_test : (b : Bool) (r : Option (List Token × List Token)) → is_named_front r ≡ true → is_named_front (part_behind b t ts r) ≡ true
    of_test true r k = refl
    of_test false None k = refl
    of_test false (Some p) k = all_more is_named_token t p.0 (all_first is_named_token t ts h) k

cut_names : (tokens : List Token) (cut : Option (List Token × List Token)) → are_named tokens ≡ true → is_named_front cut ≡ true → is_named_outline (cut_outline tokens cut) ≡ true
cut_names tokens None h k = named_outline_names None tokens h
cut_names tokens (Some cut) h k = named_outline_names (Some cut.1) cut.0 k

pub outline_names : (tokens : List Token) → are_named tokens ≡ true → is_named_outline (outline_of tokens) ≡ true
outline_names tokens h = cut_names tokens (typed tokens) h (typed_names 0 tokens h)

-- ---- variables

placed_named : (b : Bool) (t : Token) (ps : List (List Token)) → is_named_token t ≡ true → list_all are_named ps ≡ true → list_all are_named (placed b t ps) ≡ true
placed_named true t ps h k = k
placed_named false t [] h k = all_more are_named (t ∷ []) [] (all_more is_named_token t [] h refl) refl
placed_named false t (p ∷ ps) h k = all_more are_named (t ∷ p) ps (all_more is_named_token t p h (all_first are_named p ps k)) (all_rest are_named p ps k)

pieces_named : (s : Separator) (d : ℕ) (tokens : List Token) → are_named tokens ≡ true → list_all are_named (pieces_in s d tokens) ≡ true
pieces_named s d [] h = refl
pieces_named s d (t ∷ ts) h =
    placed_named (parts_here s d t.kind) t (pieces_in s (open_after d t.kind) ts) (all_first is_named_token t ts h)
    (pieces_named s (open_after d t.kind) ts (all_rest is_named_token t ts h))

declarator_named : (tokens : List Token) (d : Declarator) → are_named tokens ≡ true → IsDeclarator tokens d → is_identifier d.name ≡ true
declarator_named tokens d h e = of_outline (outline_of tokens) (outline_names tokens h) e
  where
    of_outline : (o : Option Outline) → is_named_outline o ≡ true → Outlines DeclaratorOf o d → is_identifier d.name ≡ true
    of_outline None k e = absurd e
    of_outline (Some o) k e = ap is_identifier e.name ∙ k

declarators_named : (ps : List (List Token)) (ds : List Declarator) → list_all are_named ps ≡ true → Each IsDeclarator ps ds → list_all is_identifier (map (λ (d : Declarator). d.name) ds) ≡ true
declarators_named [] [] h e = refl
declarators_named [] (d ∷ ds) h e = absurd e
declarators_named (p ∷ ps) [] h e = absurd e
declarators_named (p ∷ ps) (d ∷ ds) h e =
    all_more is_identifier d.name (map (λ (d : Declarator). d.name) ds) (declarator_named p d (all_first are_named p ps h) e.0) (declarators_named ps ds (all_rest are_named p ps h) e.1)

-- ---- what a line begins with

abbrev is_named_rest : Option (List Token) → Bool
is_named_rest None = true
is_named_rest (Some tokens) = are_named tokens

before_last_names : (p : Token → Bool) (tokens : List Token) → are_named tokens ≡ true → is_named_rest (before_last p tokens) ≡ true
before_last_names p [] h = refl
before_last_names p (t ∷ []) h = by_test (p t) (λ b. is_named_rest (if b then Some [] else None) ≡ true) (λ e. refl) (λ e. refl)
before_last_names p (t ∷ u ∷ ts) h = of_rest (before_last p (u ∷ ts)) (before_last_names p (u ∷ ts) (all_rest is_named_token t (u ∷ ts) h))
  where
    of_rest : (o : Option (List Token)) → is_named_rest o ≡ true → is_named_rest (option_map (λ r. t ∷ r) o) ≡ true
    of_rest None k = refl
    of_rest (Some r) k = all_more is_named_token t r (all_first is_named_token t (u ∷ ts) h) k

-- what is left behind the first words is named
abbrev is_begun : Begun → Bool
is_begun None = true
is_begun (Some s) = are_named s.1

if_begun : (b : Bool) (x y : Begun) → is_begun x ≡ true → is_begun y ≡ true → is_begun (if b then x else y) ≡ true
if_begun true x y h k = h
if_begun false x y h k = k

abbrev is_named_part : Option (ProcKind × List Token) → Bool
is_named_part None = true
is_named_part (Some p) = are_named p.1

property_names : (tokens : List Token) → are_named tokens ≡ true → is_named_part (property_part tokens) ≡ true
property_names [] h = refl
property_names (t ∷ rest) h = of_kind (property_kind t)
  where
    of_kind : (o : Option ProcKind) → is_named_part (option_map (λ k. (k, rest)) o) ≡ true
    of_kind None = refl
    of_kind (Some k) = all_rest is_named_token t rest h

procedure_names : (tokens : List Token) → are_named tokens ≡ true → is_named_part (procedure_part tokens) ≡ true
procedure_names [] h = refl
procedure_names (t ∷ rest) h = of_lead (lead_of t)
  where
    rest_named : are_named rest ≡ true
    rest_named = all_rest is_named_token t rest h

    of_lead : (o : Option Lead) → is_named_part (part_of o rest) ≡ true
    of_lead (Some lead.Sub) = rest_named
    of_lead (Some lead.Function) = rest_named
    of_lead (Some lead.Property) = property_names rest rest_named
    of_lead _ = refl

head_begun : (v : Option Visibility) (p : ProcKind × List Token) → are_named p.1 ≡ true → is_begun (head_start v p) ≡ true
head_begun v p h = if_begun (is_procedural v) (Some (head_of p.0 v p.1 (before_static p.1))) None (of_static (before_static p.1) (before_last_names (is_key (codes "static")) p.1 h)) refl
  where
    of_static : (o : Option (List Token)) → is_named_rest o ≡ true → are_named (head_of p.0 v p.1 o).1 ≡ true
    of_static None k = h
    of_static (Some before) k = k

static_begun : (v : Option Visibility) (p : ProcKind × List Token) → are_named p.1 ≡ true → is_begun (static_start v p) ≡ true
static_begun v p h = of_static (before_static p.1)
  where
    of_static : (o : Option (List Token)) → is_begun (static_before v p o) ≡ true
    of_static None = if_begun (is_procedural v) (Some (start.StaticHead p.0 v, p.1)) None h refl
    of_static (Some before) = refl

variables_begun : (w : VarWord) (rest : List Token) → are_named rest ≡ true → is_begun (Some (variables_start w rest)) ≡ true
variables_begun w rest h =
    by_test (has_events (pieces Comma rest)) (λ b. is_begun (Some (if b then (start.Events w, rest) else (start.Variables w, rest))) ≡ true) (λ e. h) (λ e. h)

seen_begun : (v : Option Visibility) (line : List Token) → are_named line ≡ true → is_begun (seen_variables v line) ≡ true
seen_begun None line h = refl
seen_begun (Some seen.Public) line h = variables_begun var.Public line h
seen_begun (Some seen.Private) line h = variables_begun var.Private line h
seen_begun (Some seen.Friend) line h = refl
seen_begun (Some seen.Global) line h = variables_begun var.Global line h

static_variables_begun : (v : Option Visibility) (rest : List Token) → are_named rest ≡ true → is_begun (static_variables v rest) ≡ true
static_variables_begun None rest h = variables_begun var.Static rest h
static_variables_begun (Some v) rest h = refl

general_begun : (v : Option Visibility) (s : Start) (rest : List Token) → are_named rest ≡ true → is_begun (general v s rest) ≡ true
general_begun v s rest h = if_begun (is_general v) (Some (s, rest)) None h refl

ends_begun : (k : Option BlockKind) → is_begun (ends k) ≡ true
ends_begun None = refl
ends_begun (Some k) = refl

end_begun : (tokens : List Token) → is_begun (end_start tokens) ≡ true
end_begun [] = refl
end_begun (t ∷ []) = ends_begun (closed_block (lead_of t))
end_begun (t ∷ u ∷ ts) = refl

procedure_end_begun : (tokens : List Token) → is_begun (procedure_end tokens) ≡ true
procedure_end_begun [] = refl
procedure_end_begun (t ∷ []) = ends_begun (closed_procedure (lead_of t))
procedure_end_begun (t ∷ u ∷ ts) = refl

plain_begun : (o : Option Lead) (rest : List Token) → are_named rest ≡ true → is_begun (plain_start o rest) ≡ true
plain_begun (Some lead.Attribute) rest h = h
plain_begun (Some lead.Option) rest h = h
plain_begun (Some (lead.Def w)) rest h = h
plain_begun (Some lead.Dim) rest h = variables_begun var.Dim rest h
plain_begun (Some lead.End) rest h = end_begun rest
plain_begun _ rest h = refl

other_begun : (v : Option Visibility) (o : Option Lead) (line rest : List Token) → are_named line ≡ true → are_named rest ≡ true → is_begun (other_start v o line rest) ≡ true
other_begun None o line rest h k = plain_begun o rest k
other_begun (Some v) o line rest h k = seen_begun (Some v) line h

declared_begun : (v : Option Visibility) (o : Option Lead) (line rest : List Token) → are_named line ≡ true → are_named rest ≡ true → is_begun (declared_start v o line rest) ≡ true
declared_begun v (Some lead.Const) line rest h k = general_begun v (start.Constants v) rest k
declared_begun v (Some lead.Type) line rest h k = general_begun v (start.Type v) rest k
declared_begun v (Some lead.Enum) line rest h k = general_begun v (start.Enum v) rest k
declared_begun v (Some lead.Declare) line rest h k = general_begun v start.Opaque rest k
declared_begun v (Some lead.Event) line rest h k = general_begun v start.Opaque rest k
declared_begun v (Some lead.Implements) line rest h k = general_begun v start.Opaque rest k
declared_begun v (Some lead.Sub) line rest h k = head_begun v (proc.Sub, rest) k
declared_begun v (Some lead.Function) line rest h k = head_begun v (proc.Function, rest) k
declared_begun v (Some lead.Property) line rest h k = of_part (property_part rest) (property_names rest k)
  where
    of_part : (p : Option (ProcKind × List Token)) → is_named_part p ≡ true → is_begun (property_start v line p) ≡ true
    of_part None e = seen_begun v line h
    of_part (Some p) e = head_begun v p e
declared_begun v (Some lead.Static) line rest h k = of_part (procedure_part rest) (procedure_names rest k)
  where
    of_part : (p : Option (ProcKind × List Token)) → is_named_part p ≡ true → is_begun (static_line v rest p) ≡ true
    of_part None e = static_variables_begun v rest k
    of_part (Some p) e = static_begun v p e
declared_begun v o line rest h k = other_begun v o line rest h k

behind_begun : (v : Option Visibility) (line : List Token) → are_named line ≡ true → is_begun (behind_visibility v line) ≡ true
behind_begun v [] h = refl
behind_begun v (t ∷ rest) h = declared_begun v (lead_of t) (t ∷ rest) rest h (all_rest is_named_token t rest h)

module_begun : (line : List Token) → are_named line ≡ true → is_begun (module_start line) ≡ true
module_begun [] h = refl
module_begun (t ∷ rest) h = of_lead (lead_of t)
  where
    rest_named : are_named rest ≡ true
    rest_named = all_rest is_named_token t rest h

    of_lead : (o : Option Lead) → is_begun (seen_start o (t ∷ rest) rest) ≡ true
    of_lead (Some (lead.Seen v)) = behind_begun (Some v) rest rest_named
    of_lead o = declared_begun None o (t ∷ rest) rest h rest_named

seen_in_begun : (v : Visibility) (line : List Token) → are_named line ≡ true → is_begun (seen_in_procedure v line) ≡ true
seen_in_begun v [] h = refl
seen_in_begun v (t ∷ rest) h = of_lead (lead_of t)
  where
    of_lead : (o : Option Lead) → is_begun (seen_constants v o rest) ≡ true
    of_lead (Some lead.Const) = general_begun (Some v) (start.Constants (Some v)) rest (all_rest is_named_token t rest h)
    of_lead _ = refl

procedure_begun : (line : List Token) → are_named line ≡ true → is_begun (procedure_start line) ≡ true
procedure_begun [] h = refl
procedure_begun (t ∷ rest) h = of_lead (lead_of t)
  where
    rest_named : are_named rest ≡ true
    rest_named = all_rest is_named_token t rest h

    of_lead : (o : Option Lead) → is_begun (local_start o rest) ≡ true
    of_lead (Some lead.Attribute) = rest_named
    of_lead (Some lead.Dim) = rest_named
    of_lead (Some lead.Static) = rest_named
    of_lead (Some lead.Const) = rest_named
    of_lead (Some (lead.Seen v)) = seen_in_begun v rest rest_named
    of_lead (Some lead.End) = procedure_end_begun rest
    of_lead _ = refl

group_begun : (s : Start) (line : List Token) → are_named line ≡ true → is_begun (group_start s line) ≡ true
group_begun s [] h = refl
group_begun s (t ∷ rest) h = of_lead (lead_of t)
  where
    of_end : (b : Begun) → is_begun b ≡ true → is_begun (or_member s (t ∷ rest) b) ≡ true
    of_end None k = h
    of_end (Some closing) k = k

    of_lead : (o : Option Lead) → is_begun (member_start s o (t ∷ rest) rest) ≡ true
    of_lead (Some lead.End) = of_end (end_start rest) (end_begun rest)
    of_lead _ = h

start_begun : (place : Spot) (line : List Token) → are_named line ≡ true → is_begun (start_of place line) ≡ true
start_begun spot.Module line h = module_begun line h
start_begun spot.Procedure line h = procedure_begun line h
start_begun spot.TypeGroup line h = group_begun start.Field line h
start_begun spot.EnumGroup line h = group_begun start.Member line h

-- ---- forms

base_names : (o : Option ℤ) → option_names (option_and_then lower_bound o) ≡ true
base_names None = refl
base_names (Some v) = either_names (int_eq v (pos 0)) _ _ refl (either_names (int_eq v (pos 1)) _ _ refl refl)

two_names : (a b : Token) → option_names (option_of_two a b) ≡ true
two_names a b =
    either_names (is_key (codes "base") a) _ _ (base_names (whole_number b.kind))
    (either_names (is_key (codes "compare") a) _ _ (either_names (is_key (codes "binary") b) _ _ refl (either_names (is_key (codes "text") b) _ _ refl refl))
    (either_names (is_key (codes "private") a) _ _ (either_names (is_key (codes "module") b) _ _ refl refl) refl))

option_line_names : (rest : List Token) → option_names (option_line rest) ≡ true
option_line_names [] = refl
option_line_names (a ∷ []) = either_names (is_key (codes "explicit") a) _ _ refl refl
option_line_names (a ∷ b ∷ []) = two_names a b
option_line_names (a ∷ b ∷ c ∷ rest) = refl

end_form_names : (k : BlockKind) → option_names (end_form k) ≡ true
end_form_names block.Sub = refl
end_form_names block.Function = refl
end_form_names block.Property = refl
end_form_names block.Type = refl
end_form_names block.Enum = refl
end_form_names _ = refl

outlines_names : (Is : Outline → Form → Type 0) (o : Option Outline) (f : Form) → is_named_outline o ≡ true → ((o : Outline) → is_identifier o.name ≡ true → Is o f → is_good_form f ≡ true) → Outlines Is o f → is_good_form f ≡ true
outlines_names Is None f h each e = absurd e
outlines_names Is (Some o) f h each e = each o h e

head_names : (k : ProcKind) (v : Option Visibility) (o : Outline) (f : Form) → is_identifier o.name ≡ true → HeadLine k v (head_form k) o f → is_good_form f ≡ true
head_names proc.Sub v o f h l = ap is_good_form l.form ∙ and_true (is_identifier l.signature.name) true (ap is_identifier l.head.signed.name ∙ h) refl
head_names proc.Function v o f h l = ap is_good_form l.form
head_names proc.Get v o f h l = ap is_good_form l.form
head_names proc.Let v o f h l = ap is_good_form l.form
head_names proc.Set v o f h l = ap is_good_form l.form

field_names : (o : Option Outline) (f : Form) → Outlines FieldOf o f → is_good_form f ≡ true
field_names None f e = absurd e
field_names (Some o) f e = ap is_good_form e.form

member_names : (behind : Option (List Token)) (o : Option Outline) (f : Form) → Outlines (MemberOf behind) o f → is_good_form f ≡ true
member_names behind None f e = absurd e
member_names behind (Some o) f e = ap is_good_form e.form

fits_names : (s : Start) (line rest : List Token) (f : Form) → are_named rest ≡ true → Fits s line rest f → is_good_form f ≡ true
fits_names start.Attribute line rest f h e = ap is_good_form e
fits_names start.Option line rest f h e = found_names (option_line rest) f (option_line_names rest) e
fits_names (start.Def w) line rest f h e = ap is_good_form e.form
fits_names (start.Variables w) line rest f h e =
    ap is_good_form e.form ∙ declarators_named (pieces Comma rest) e.declarators (pieces_named Comma 0 rest h) e.each
fits_names (start.Events w) line rest f h e = ap is_good_form e.form
fits_names (start.Constants v) line rest f h e = ap is_good_form e.form
fits_names (start.Type v) line rest f h e = outlines_names _ (outline_of rest) f (outline_names rest h) (λ o n l. ap is_good_form l.form) e
fits_names (start.Enum v) line rest f h e = outlines_names _ (outline_of rest) f (outline_names rest h) (λ o n l. ap is_good_form l.form) e
fits_names (start.Head k v) line rest f h e = outlines_names _ (outline_of rest) f (outline_names rest h) (λ o n l. head_names k v o f n l) e
fits_names (start.StaticHead k v) line rest f h e = outlines_names _ (outline_of rest) f (outline_names rest h) (λ o n l. ap is_good_form l.form) e
fits_names (start.End k) line rest f h e = found_names (end_form k) f (end_form_names k) e
fits_names start.Opaque line rest f h e = ap is_good_form e
fits_names start.Field line rest f h e = field_names (field_outline rest) f e
fits_names start.Member line rest f h e = of_cut (parted Equal rest) e
  where
    of_cut : (cut : Option (List Token × List Token)) → IsMemberCut rest cut f → is_good_form f ≡ true
    of_cut None k = member_names None (outline_of rest) f k
    of_cut (Some cut) k = member_names (Some cut.1) (outline_of cut.0) f k

pub declaration_names : (place : Spot) (line : List Token) (f : Form) → are_named line ≡ true → IsDeclaration place line f → is_good_form f ≡ true
declaration_names place line f h e = of_start (start_of place line) (start_begun place line h) e
  where
    of_start : (b : Begun) → is_begun b ≡ true → FitsStart b line f → is_good_form f ≡ true
    of_start None k e = absurd e
    of_start (Some s) k e = fits_names s.0 line s.1 f k e
