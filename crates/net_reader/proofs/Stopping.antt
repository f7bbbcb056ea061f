-- How what isn't read, or can't be held, stops the reader of a module.
use Rattle.std.proofs.Common.{◌≡◌, ℕ, Bool, true, false, ◌&&◌, ◌||◌, not, List, [], drop, refl, Option, Some, None}
use Rattle.std.specs.Prelude.{option_and_then, option_map}
use Rattle.std.specs.List.{list_all}
use Rattle.net_tree.specs.declared.block.NetBlock.{NetBlock}
use Rattle.net_tree.specs.declared.declaration.NetVisibility.{NetVisibility}
use Rattle.net_tree.specs.Blocks.{fits_in, role_of}
use Rattle.net_tree.specs.Comments.{is_comment}
use Rattle.net_tree.specs.Declarations.{is_get, is_set, is_writable_dim, is_writable_field, is_writable_head, is_writable_member, is_writable_param}
use Rattle.net_tree.specs.Lines.{is_writable_line}
use Rattle.net_tree.specs.Expressions.{is_writable_type}
use Rattle.net_tree.specs.Spelling.{is_identifier}
use Rattle.net_tree.specs.Tree.{Head, Member, Property, const_member, member_comment, variable}
use Rattle.net_tree.specs.Types.{TypeName}
use Rattle.net_exprs.specs.declared.fail.PhraseFail.{PhraseFail}
use Rattle.net_exprs.specs.declared.fail.PhraseFail.TheVariants as fail
use Rattle.net_exprs.specs.Answers.{FailsFor}
use Rattle.net_exprs.specs.Fitting.{fits_name, fits_type}
use Rattle.net_exprs.specs.Names.{name_at}
use Rattle.net_exprs.specs.Types.{type_at}
use Rattle.net_reader.specs.Answers.{FailsWhole}
use Rattle.net_reader.specs.DeclarationReader.{Signature, constant_in, dim_at, field_at, function_in, property_in, set_in, signature_at, sub_in, variable_in}
use Rattle.net_reader.specs.FileLines.{units_in}
use Rattle.net_reader.specs.Fits.{fits_constant, fits_dim, fits_field, fits_head, fits_line, fits_member, fits_param, fits_property, fits_text, fits_variable}
use Rattle.net_reader.specs.LineReader.{line_at}
use Rattle.net_reader.specs.ModuleReader.{Access, Body, NotedModule, Promised, has_no_lines, head_taken, is_fine_property, is_kept, member_taken, property_taken, structure_taken}
use Rattle.net_reader.specs.Steps.{StopsFor}
use Rattle.net_reader.specs.Takings.{comment_within, dim_within, field_within, line_within, may_set, set_within}

-- ---- tests

second_false : (a b : Bool) → b ≡ false → a && b ≡ false
second_false true b h = h
second_false false b h = refl

first_false : (a b : Bool) → a ≡ false → a && b ≡ false
first_false true b h = absurd (cc h)
first_false false b h = refl

-- ---- steps

stops : {A B : Type 0} (fits : A → Bool) (go : Option A → Option B) → go None ≡ None → ((x : A) → fits x ≡ false → go (Some x) ≡ None) →
    (o : Option A) (e : PhraseFail) → FailsWhole fits o e → StopsFor (go o) e
stops fits go n s None fail.NotNet h = n
stops fits go n s (Some x) fail.NotNet h = s x h
stops fits go n s o fail.Mem h = tt

pub map_stops : {A B : Type 0} (f : A → B) (o : Option A) (e : PhraseFail) → StopsFor o e → StopsFor (option_map f o) e
map_stops f o fail.NotNet h = rw h refl
map_stops f o fail.Mem h = tt

-- what is read as part of more
whole_up : {A B : Type 0} (f : A → Bool) (g : B → Bool) (view : A → B) → ((x : A) → f x ≡ false → g (view x) ≡ false) →
    (o : Option A) (e : PhraseFail) → FailsWhole f o e → FailsWhole g (option_map view o) e
whole_up f g view up None fail.NotNet h = tt
whole_up f g view up (Some x) fail.NotNet h = up x h
whole_up f g view up o fail.Mem h = tt

-- ---- items

pub line_stops : (depth : ℕ) (blocks : List NetBlock) (line text : List ℕ) (e : PhraseFail) → FailsWhole fits_line (line_at text) e → StopsFor (line_within depth blocks line (line_at text)) e
line_stops depth blocks line text e h =
    stops fits_line (line_within depth blocks line) refl
    (λ l k. rw (first_false (is_writable_line l && fits_line l) (fits_in (role_of l) blocks) (second_false (is_writable_line l) (fits_line l) k)) refl) (line_at text) e h

pub dim_stops : (depth : ℕ) (b : Body) (line text : List ℕ) (e : PhraseFail) → FailsWhole fits_dim (dim_at text) e → StopsFor (dim_within depth b line (dim_at text)) e
dim_stops depth b line text e h =
    stops fits_dim (dim_within depth b line) refl (λ d k. rw (second_false (has_no_lines b.tree.lines && is_writable_dim d) (fits_dim d) k) refl) (dim_at text) e h

pub field_stops : (line text : List ℕ) (e : PhraseFail) → FailsWhole fits_field (field_at text) e → StopsFor (field_within line (field_at text)) e
field_stops line text e h =
    stops fits_field (field_within line) refl (λ f k. rw (second_false (is_writable_field f) (fits_field f) k) refl) (field_at text) e h

pub set_stops : (p : Promised) (line text : List ℕ) (e : PhraseFail) → FailsWhole fits_head (set_in text) e → StopsFor (set_within p line (set_in text)) e
set_stops p line text e h =
    stops fits_head (set_within p line) refl (λ head k. rw (second_false (may_set p && is_set head && is_writable_head head) (fits_head head) k) refl) (set_in text) e h

pub comment_stops : (p : Promised) (line text : List ℕ) (e : PhraseFail) → FailsWhole fits_text (units_in text) e → StopsFor (comment_within p line (units_in text)) e
comment_stops p line text e h =
    stops fits_text (comment_within p line) refl (λ units k. rw (second_false (not (is_kept p) && is_comment units) (fits_text units) k) refl) (units_in text) e h

-- ---- members

pub comment_fails : (text : List ℕ) (e : PhraseFail) → FailsWhole fits_text (units_in text) e → FailsWhole fits_member (option_map member_comment (units_in text)) e
comment_fails text e h = whole_up fits_text fits_member member_comment (λ x k. k) (units_in text) e h

pub variable_fails : (visibility : NetVisibility) (text : List ℕ) (e : PhraseFail) → FailsWhole fits_variable (variable_in text) e → FailsWhole fits_member (option_map (variable visibility) (variable_in text)) e
variable_fails visibility text e h = whole_up fits_variable fits_member (variable visibility) (λ x k. k) (variable_in text) e h

pub constant_fails : (visibility : NetVisibility) (text : List ℕ) (e : PhraseFail) → FailsWhole fits_constant (constant_in text) e → FailsWhole fits_member (option_map (const_member visibility) (constant_in text)) e
constant_fails visibility text e h = whole_up fits_constant fits_member (const_member visibility) (λ x k. k) (constant_in text) e h

pub member_stops : (m : NotedModule) (line : List ℕ) (o : Option Member) (e : PhraseFail) → FailsWhole fits_member o e → StopsFor (member_taken m line o) e
member_stops m line o e h =
    stops fits_member (member_taken m line) refl (λ member k. rw (second_false (is_writable_member member) (fits_member member) k) refl) o e h

head_stops : (m : NotedModule) (line : List ℕ) (o : Option Head) (e : PhraseFail) → FailsWhole fits_head o e → StopsFor (head_taken m line o) e
head_stops m line o e h =
    stops fits_head (head_taken m line) refl (λ head k. rw (second_false (not (is_get head || is_set head) && is_writable_head head) (fits_head head) k) refl) o e h

pub sub_stops : (m : NotedModule) (line : List ℕ) (visibility : NetVisibility) (text : List ℕ) (e : PhraseFail) → FailsWhole fits_head (sub_in visibility text) e → StopsFor (head_taken m line (sub_in visibility text)) e
sub_stops m line visibility text e h = head_stops m line (sub_in visibility text) e h

pub function_stops : (m : NotedModule) (line : List ℕ) (visibility : NetVisibility) (text : List ℕ) (e : PhraseFail) → FailsWhole fits_head (function_in visibility text) e → StopsFor (head_taken m line (function_in visibility text)) e
function_stops m line visibility text e h = head_stops m line (function_in visibility text) e h

pub structure_stops : (m : NotedModule) (line text : List ℕ) (e : PhraseFail) → FailsFor fits_name (name_at text) e → StopsFor (structure_taken m line (name_at text)) e
structure_stops m line text e h = go (name_at text) e h
  where
    go : (o : Option (List ℕ × List ℕ)) (e : PhraseFail) → FailsFor fits_name o e → StopsFor (structure_taken m line o) e
    go None fail.NotNet h = refl
    go (Some r) fail.NotNet h = rw (second_false (is_identifier r.0) (fits_name r.0) h) refl
    go o fail.Mem h = tt

-- ---- properties

fine_false : (w n p t : Bool) → (((n && p) && t) && true) && true ≡ false → ((w && n) && p) && t ≡ false
fine_false false n p t h = refl
fine_false true false p t h = refl
fine_false true true false t h = refl
fine_false true true true false h = refl
fine_false true true true true h = absurd (cc h)

-- a property without its parts
abbrev bare : NetVisibility → Signature → TypeName → Property
bare visibility s t = record { visibility = visibility; name = s.name; params = s.params; ty = t; get_comments = []; get = None; set_comments = []; set = None }

bare_false : (visibility : NetVisibility) (s : Signature) (t : TypeName) → fits_property (bare visibility s t) ≡ false → is_fine_property (bare visibility s t) ≡ false
bare_false visibility s t h =
    fine_false ((is_identifier s.name && list_all is_writable_param s.params) && is_writable_type t) (fits_name s.name) (list_all fits_param s.params) (fits_type t) h

type_stops : (m : NotedModule) (access : Access) (line : List ℕ) (visibility : NetVisibility) (s : Signature) (found : Option (TypeName × List ℕ)) (e : PhraseFail) →
    FailsWhole fits_property (option_map (λ (t : TypeName × List ℕ). bare visibility s t.0) found) e →
    StopsFor (property_taken m access line (option_map (λ (t : TypeName × List ℕ). bare visibility s t.0) found)) e
type_stops m access line visibility s None fail.NotNet h = refl
type_stops m access line visibility s (Some t) fail.NotNet h = rw (bare_false visibility s t.0 h) refl
type_stops m access line visibility s found fail.Mem h = tt

signature_stops : (m : NotedModule) (access : Access) (line : List ℕ) (visibility : NetVisibility) (found : Option (Signature × List ℕ)) (e : PhraseFail) →
    FailsWhole fits_property (option_and_then (λ (s : Signature × List ℕ). option_map (λ (t : TypeName × List ℕ). bare visibility s.0 t.0) (type_at (drop 4 s.1))) found) e →
    StopsFor (property_taken m access line (option_and_then (λ (s : Signature × List ℕ). option_map (λ (t : TypeName × List ℕ). bare visibility s.0 t.0) (type_at (drop 4 s.1))) found)) e
signature_stops m access line visibility None fail.NotNet h = refl
signature_stops m access line visibility None fail.Mem h = tt
signature_stops m access line visibility (Some s) e h = type_stops m access line visibility s.0 (type_at (drop 4 s.1)) e h

pub property_stops : (m : NotedModule) (access : Access) (line : List ℕ) (visibility : NetVisibility) (text : List ℕ) (e : PhraseFail) →
    FailsWhole fits_property (property_in visibility text) e → StopsFor (property_taken m access line (property_in visibility text)) e
property_stops m access line visibility text e h = signature_stops m access line visibility (signature_at text) e h
