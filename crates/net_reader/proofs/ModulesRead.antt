-- Modules are read back from their files.
use Rattle.std.proofs.Common.{◌≡◌, ℕ, Bool, true, false, not, ◌&&◌, ◌||◌, nat_le, List, [], ◌∷◌, ◌++◌, length, codes, refl, sym, ap, subst, ◌∙◌, append_assoc, append-nil, Option, Some}
use Rattle.std.specs.Prelude.{drop, is_some, option_map}
use Rattle.std.specs.List.{flat_map, list_all}
use Rattle.up_base.specs.Names.{is_printable}
use Rattle.net_tree.specs.declared.declaration.NetVisibility.{NetVisibility}
use Rattle.net_tree.specs.declared.declaration.NetVisibility.TheVariants.{Public, Private, Friend}
use Rattle.net_tree.specs.Types as ty
use Rattle.net_tree.specs.Types.{TypeName}
use Rattle.net_tree.specs.Tree.{Constant, Exp, Field, Head, Member, Procedure, Property, Structure, Variable, const_member, field, field_comment, function, get_part, member_comment, proc, property, set_part, structure, sub, sub_new, variable}
use Rattle.net_tree.specs.Spelling.{at_depth, is_identifier, name_text}
use Rattle.net_tree.specs.Comments.{comment_text, is_comment, utf8_of}
use Rattle.net_tree.specs.Expressions.{exp_text, is_writable_type, rank_text, type_text}
use Rattle.net_tree.specs.Declarations.{access_text, comments_text, constant_text, declared_text, field_text, head_text, is_get, is_set, is_writable_constant, is_writable_field, is_writable_head, is_writable_member, is_writable_param, is_writable_part, is_writable_procedure, is_writable_property, is_writable_structure, is_writable_variable, member_text, params_text, part_text, procedure_text, property_head_text, value_text, variable_text, visibility_text}
use Rattle.net_tree.specs.Text.{is_note, is_writable_module, note_text, options_text}
use Rattle.net_exprs.specs.Ends.{ends_name}
use Rattle.net_exprs.specs.Fitting.{fits_name, fits_type}
use Rattle.net_exprs.specs.Names.{name_at}
use Rattle.net_exprs.proofs.Words.{both_true, name_reads, never}
use Rattle.net_reader.specs.DeclarationReader.{constant_in, field_at, function_in, property_in, set_in, sub_in, variable_in}
use Rattle.net_reader.specs.FileLines.{file_lines, text_of_line, units_in}
use Rattle.net_reader.specs.Fits.{fits_constant, fits_field, fits_head, fits_member, fits_module, fits_param, fits_part, fits_procedure, fits_property, fits_structure, fits_text, fits_variable}
use Rattle.net_reader.specs.Laws.{IsModuleOf, IsNoteKnown, file_of}
use Rattle.net_reader.specs.ModuleReader as reader
use Rattle.net_reader.specs.ModuleReader.{Access, NotedModule, Promised, State, among_members, at_front, behind_part, behind_procedure, both_parts, complete, ended, first_step, front_lines, front_step, gets, headed, in_front, in_part, in_procedure, in_property, in_structure, is_fine_property, is_kept, is_line, member_of, member_step, module_end_text, module_head_text, module_in, note_in, option_lines, promise, promised_text, property_by, read_only, run, sets, start, step, structure_by, structure_head_text, taken, with_comment, with_field, with_get, with_member, with_set, write_only}
use Rattle.net_reader.specs.Words.{keyword_at, line_words, name_words}
use Rattle.net_reader.proofs.Bodies.{HoldsProcedure, is_written, procedure_taken}
use Rattle.net_reader.proofs.CutLines.{IsLine, line_says}
use Rattle.net_reader.proofs.DeclarationsRead.{constant_reads, field_reads, function_reads, property_reads, set_reads, sub_reads, variable_reads}
use Rattle.net_reader.proofs.LineTexts.{comment_is, constant_is, field_is, function_again, head_is, name_within, printable, property_again, property_head_is, sub_again, variable_is}
use Rattle.net_reader.proofs.Openings.{name_opens}
use Rattle.net_reader.proofs.Taking.{Takes, all_taken, both_taken, line_is_itself, line_taken, none_taken, own_taken}
use Rattle.net_reader.proofs.Tests.{all_both, and_true, if_false, if_true}
use Rattle.net_reader.proofs.Units.{units_read}

name_reads_all : (n : List ℕ) → is_identifier n ≡ true → name_at (name_text n) ≡ Some (n, [])
name_reads_all n h = ap name_at (sym (append-nil (name_text n))) ∙ name_reads n [] h refl

-- ---- members of one line

-- a line among the members of a module
among_taken : (m : NotedModule) (depth : ℕ) (text : List ℕ) (after : State) → IsLine text → member_step m text (at_depth depth text) ≡ Some after →
    Takes (among_members m) (at_depth depth text) after
among_taken m depth text after is e =
    line_taken depth text (among_members m) after is (ap (λ text_there. member_step m text_there (at_depth depth text)) (line_says depth text is) ∙ e)

own_member : (m : NotedModule) (member : Member) (found : Option Member) → found ≡ Some member → is_writable_member member ≡ true → fits_member member ≡ true →
    reader.member_taken m (member_text member) found ≡ Some (among_members (with_member m member))
own_member m member found is h k =
    ap (option_map (λ (member : Member). among_members (with_member m member)))
    (own_taken (λ (member : Member). is_writable_member member && fits_member member) member_text member (member_text member) found is
    (and_true (is_writable_member member) (fits_member member) h k) refl)

comment_taken : (m : NotedModule) (units : List ℕ) → is_comment units ≡ true → fits_member (member_comment units) ≡ true →
    Takes (among_members m) (member_text (member_comment units)) (among_members (with_member m (member_comment units)))
comment_taken m units h k =
    among_taken m 1 (comment_text units) (among_members (with_member m (member_comment units))) (comment_is units h)
    (own_member m (member_comment units) (option_map member_comment (units_in (utf8_of units))) (ap (option_map member_comment) (units_read units h k)) h k)

-- a line that begins with a visibility, by the word behind it
visible_step : (m : NotedModule) (v : NetVisibility) (text line : List ℕ) → member_step m (visibility_text v ++ text) line ≡ member_of m v (keyword_at text) text line
unfolding line_words
visible_step m Public text line = refl
visible_step m Private text line = refl
visible_step m Friend text line = refl

declared_keyword : (name : List ℕ) (t : TypeName) (rest : List ℕ) → is_identifier name ≡ true → ends_name rest ≡ true → keyword_at (declared_text name t ++ rest) ≡ Option.None
declared_keyword name (ty.array_of element rank) rest h ends =
    let again : name_text name ++ rank_text rank ++ codes " As " ++ type_text element ++ rest ≡ name_text name ++ (rank_text rank ++ (codes " As " ++ (type_text element ++ rest))) = simp append_assoc in
    ap keyword_at again ∙ (name_opens name h).word (rank_text rank ++ (codes " As " ++ (type_text element ++ rest))) refl
declared_keyword name t rest h ends = plain name t rest h
  where
    plain : (name : List ℕ) (t : TypeName) (rest : List ℕ) → is_identifier name ≡ true → keyword_at (name_text name ++ codes " As " ++ type_text t ++ rest) ≡ Option.None
    plain name t rest h =
        let again : name_text name ++ codes " As " ++ type_text t ++ rest ≡ name_text name ++ (codes " As " ++ (type_text t ++ rest)) = simp append_assoc in
        ap keyword_at again ∙ (name_opens name h).word (codes " As " ++ (type_text t ++ rest)) refl

value_ends_name : (value : Option Exp) → ends_name (value_text value) ≡ true
value_ends_name Option.None = refl
value_ends_name (Some e) = refl

variable_taken : (m : NotedModule) (v : NetVisibility) (x : Variable) → is_writable_variable x ≡ true → fits_variable x ≡ true →
    Takes (among_members m) (member_text (variable v x)) (among_members (with_member m (variable v x)))
variable_taken m v x h k =
    let name = (both_true _ _ (both_true _ _ h).0).0 in
    let line = member_text (variable v x) in
    among_taken m 1 (visibility_text v ++ variable_text x) (among_members (with_member m (variable v x))) (variable_is v x h)
    (visible_step m v (variable_text x) line
    ∙ ap (λ word. member_of m v word (variable_text x) line) (declared_keyword x.name x.ty (value_text x.value) name (value_ends_name x.value))
    ∙ own_member m (variable v x) (option_map (variable v) (variable_in (variable_text x))) (ap (option_map (variable v)) (variable_reads x h k)) h k)

constant_taken : (m : NotedModule) (v : NetVisibility) (c : Constant) → is_writable_constant c ≡ true → fits_constant c ≡ true →
    Takes (among_members m) (member_text (const_member v c)) (among_members (with_member m (const_member v c)))
unfolding line_words
constant_taken m v c h k =
    among_taken m 1 (visibility_text v ++ constant_text c) (among_members (with_member m (const_member v c))) (constant_is v c h)
    (visible_step m v (constant_text c) (member_text (const_member v c))
    ∙ own_member m (const_member v c) (option_map (const_member v) (constant_in (declared_text c.name c.ty ++ codes " = " ++ exp_text c.value)))
    (ap (option_map (const_member v)) (constant_reads c h k)) h k)

-- ---- structures

abbrev is_read_field : Field → Bool
is_read_field f = is_writable_field f && fits_field f

field_step : (m : NotedModule) (s : Structure) (f : Field) (line : List ℕ) →
    structure_by m s (keyword_at (field_text f)) line
    ≡ option_map (λ (f : Field). in_structure m (with_field s f))
    (taken (λ (f : Field). is_writable_field f && fits_field f) (λ (f : Field). at_depth 2 (field_text f)) line (field_at (text_of_line line)))
unfolding line_words
field_step m s (field_comment units) line = refl
field_step m s (field name t) line = refl

abbrev with_fields : NotedModule → List ℕ → List Field → State
with_fields m name fields = in_structure m (record { name = name; fields = fields })

field_taken : (m : NotedModule) (name : List ℕ) (before : List Field) (f : Field) → is_read_field f ≡ true →
    Takes (with_fields m name before) (at_depth 2 (field_text f)) (with_fields m name (before ++ f ∷ []))
field_taken m name before f h =
    let can = both_true (is_writable_field f) (fits_field f) h in
    let line = at_depth 2 (field_text f) in
    let says = line_says 2 (field_text f) (field_is f can.0) in
    let s : Structure = record { name = name; fields = before } in
    line_taken 2 (field_text f) (with_fields m name before) (with_fields m name (before ++ f ∷ [])) (field_is f can.0)
    (ap (λ text. structure_by m s (keyword_at text) line) says
    ∙ field_step m s f line
    ∙ ap (option_map (λ (f : Field). with_fields m name (before ++ f ∷ [])))
    (own_taken (λ (f : Field). is_writable_field f && fits_field f) (λ (f : Field). at_depth 2 (field_text f)) f line (field_at (text_of_line line))
    (ap field_at says ∙ field_reads f can.0 can.1) h refl))

structure_head_step : (m : NotedModule) (name : List ℕ) → is_identifier name ≡ true → fits_name name ≡ true →
    member_step m (structure_head_text name) (at_depth 1 (structure_head_text name)) ≡ Some (with_fields m name [])
unfolding line_words
structure_head_step m name h k =
    ap (option_map (λ (name : List ℕ). with_fields m name []))
    (own_taken (λ (name : List ℕ). is_identifier name && fits_name name) (λ (name : List ℕ). at_depth 1 (structure_head_text name)) name (at_depth 1 (structure_head_text name))
    (option_map (λ (n : List ℕ × List ℕ). n.0) (name_at (name_text name))) (ap (option_map (λ (n : List ℕ × List ℕ). n.0)) (name_reads_all name h))
    (and_true (is_identifier name) (fits_name name) h k) refl)

structure_end_step : (m : NotedModule) (s : Structure) → step (in_structure m s) (at_depth 1 (codes "End Structure")) ≡ Some (among_members (with_member m (structure s)))
unfolding line_words
structure_end_step m s = refl

structure_taken : (m : NotedModule) (s : Structure) → is_writable_structure s ≡ true → fits_structure s ≡ true →
    Takes (among_members m) (member_text (structure s)) (among_members (with_member m (structure s)))
structure_taken m s h k =
    let can = both_true (is_identifier s.name) (list_all is_writable_field s.fields) h in
    let fit = both_true (fits_name s.name) (list_all fits_field s.fields) k in
    let head = at_depth 1 (structure_head_text s.name) in
    let fields = flat_map (λ (f : Field). at_depth 2 (field_text f)) s.fields in
    both_taken (head ++ fields) (at_depth 1 (codes "End Structure")) (among_members m) (with_fields m s.name s.fields) (among_members (with_member m (structure s)))
    (both_taken head fields (among_members m) (with_fields m s.name []) (with_fields m s.name s.fields)
    (among_taken m 1 (structure_head_text s.name) (with_fields m s.name []) (record { within = name_within s.name can.0; begins = refl }) (structure_head_step m s.name can.0 fit.0))
    (all_taken (λ (f : Field). at_depth 2 (field_text f)) is_read_field (with_fields m s.name) (field_taken m s.name) [] s.fields
    (all_both is_writable_field fits_field s.fields can.1 fit.1)))
    (line_taken 1 (codes "End Structure") (with_fields m s.name s.fields) (among_members (with_member m (structure s))) (record { within = refl; begins = refl })
    (structure_end_step m s))

-- ---- procedures

member_procedures : (m : NotedModule) → HoldsProcedure 1 (in_procedure m) (behind_procedure m)
member_procedures m = record { steps = λ b line. refl; goes = λ b. refl }

own_head : (m : NotedModule) (head : Head) (found : Option Head) → found ≡ Some head → not (is_get head || is_set head) ≡ true → is_writable_head head ≡ true →
    fits_head head ≡ true → reader.head_taken m (at_depth 1 (head_text head)) found ≡ Some (in_procedure m (headed head))
own_head m head found is member h k =
    ap (option_map (λ (head : Head). in_procedure m (headed head)))
    (own_taken (λ (head : Head). not (is_get head || is_set head) && is_writable_head head && fits_head head) (λ (head : Head). at_depth 1 (head_text head)) head
    (at_depth 1 (head_text head)) found is
    (and_true (not (is_get head || is_set head) && is_writable_head head) (fits_head head) (and_true (not (is_get head || is_set head)) (is_writable_head head) member h) k) refl)

head_step : (m : NotedModule) (head : Head) → not (is_get head || is_set head) ≡ true → is_writable_head head ≡ true → fits_head head ≡ true →
    member_step m (head_text head) (at_depth 1 (head_text head)) ≡ Some (in_procedure m (headed head))
unfolding line_words name_words
head_step m (sub v name params) member h k =
    let can = both_true (is_identifier name) (list_all is_writable_param params) h in
    let line = at_depth 1 (head_text (sub v name params)) in
    let behind = name_text name ++ params_text params in
    ap (λ text. member_step m text line) (sym (sub_again (visibility_text v) (name_text name) (params_text params)))
    ∙ visible_step m v (codes "Sub " ++ name_text name ++ params_text params) line
    ∙ own_head m (sub v name params) (sub_in v behind) (sub_reads v name params can.0 can.1) member h k
head_step m (function v name params t) member h k =
    let two = both_true (is_identifier name && list_all is_writable_param params) (is_writable_type t) h in
    let one = both_true (is_identifier name) (list_all is_writable_param params) two.0 in
    let line = at_depth 1 (head_text (function v name params t)) in
    let behind = name_text name ++ params_text params ++ codes " As " ++ type_text t in
    ap (λ text. member_step m text line) (sym (function_again (visibility_text v) (name_text name) (params_text params) (type_text t)))
    ∙ visible_step m v (codes "Function " ++ name_text name ++ params_text params ++ codes " As " ++ type_text t) line
    ∙ own_head m (function v name params t) (function_in v behind) (function_reads v name params t one.0 one.1 two.1) member h k
head_step m sub_new member h k = refl
head_step m get_part member h k = never member
head_step m (set_part name t) member h k = never member

proc_taken : (m : NotedModule) (p : Procedure) → is_writable_member (proc p) ≡ true → fits_procedure p ≡ true →
    Takes (among_members m) (member_text (proc p)) (among_members (with_member m (proc p)))
proc_taken m p h k =
    let can = both_true (not (is_get p.head || is_set p.head)) (is_writable_procedure p) h in
    let written = is_written p can.1 k in
    procedure_taken 1 (in_procedure m) (behind_procedure m) (member_procedures m) p (among_members m) written
    (among_taken m 1 (head_text p.head) (in_procedure m (headed p.head)) (head_is p.head written.head) (head_step m p.head can.0 written.head written.fits))

-- ---- properties

-- which parts a head asks for, where at least one is there
abbrev access_of : (get set : Bool) → Access
access_of true true = both_parts
access_of true false = read_only
access_of false set = write_only

-- the head asks for the parts that a property has
record Asks (access : Access) (get set : Option Procedure) : Type 0 where
  getting : gets access ≡ is_some get
  setting : sets access ≡ is_some set

asks_for : (get set : Option Procedure) → is_some get || is_some set ≡ true → Asks (access_of (is_some get) (is_some set)) get set
asks_for (Some g) (Some s) h = record { getting = refl; setting = refl }
asks_for (Some g) Option.None h = record { getting = refl; setting = refl }
asks_for Option.None (Some s) h = record { getting = refl; setting = refl }
asks_for Option.None Option.None h = never h

kept_part : (asked there : Bool) → asked ≡ there → there || not asked ≡ true
kept_part true true h = refl
kept_part true false h = sym h
kept_part false there h = rw (sym h) refl

earlier_part : (asked there : Bool) → asked ≡ there → not asked || there ≡ true
earlier_part true true h = refl
earlier_part true false h = sym h
earlier_part false there h = refl

-- a part of a property and the comments before it
abbrev Part : Type 0
Part = List (List ℕ) × Option Procedure

abbrev no_part : Part
no_part = ([], Option.None)

-- a property, some parts of which are read
abbrev with_parts : Property → (get set : Part) → Property
with_parts p get set = record {
  visibility = p.visibility;
  name = p.name;
  params = p.params;
  ty = p.ty;
  get_comments = get.0;
  get = get.1;
  set_comments = set.0;
  set = set.1;
}

-- the same before its next part, and behind these comments
abbrev promised : Access → Property → (get set : Part) → (comments : List (List ℕ)) → Promised
promised access p get set comments = record { access = access; tree = with_parts p get set; comments = comments }

-- ---- comments before a part

abbrev is_read_comment : List ℕ → Bool
is_read_comment units = is_comment units && fits_text units

comment_step : (m : NotedModule) (p : Promised) (units line : List ℕ) →
    property_by m p (keyword_at (comment_text units)) line ≡ reader.comment_taken m p line (units_in (drop 1 (text_of_line line)))
unfolding line_words
comment_step m p units line = refl

waiting_taken : (m : NotedModule) (access : Access) (t : Property) → not (is_kept (promise access t)) ≡ true → (before : List (List ℕ)) (units : List ℕ) → is_read_comment units ≡ true →
    Takes (in_property m (record { access = access; tree = t; comments = before })) (at_depth 2 (comment_text units))
    (in_property m (record { access = access; tree = t; comments = before ++ units ∷ [] }))
waiting_taken m access t awaits before units h =
    let can = both_true (is_comment units) (fits_text units) h in
    let p : Promised = record { access = access; tree = t; comments = before } in
    let line = at_depth 2 (comment_text units) in
    let says = line_says 2 (comment_text units) (comment_is units can.0) in
    line_taken 2 (comment_text units) (in_property m p) (in_property m (with_comment p units)) (comment_is units can.0)
    (ap (λ text. property_by m p (keyword_at text) line) says
    ∙ comment_step m p units line
    ∙ ap (option_map (λ (units : List ℕ). in_property m (with_comment p units)))
    (own_taken (λ (units : List ℕ). not (is_kept p) && is_comment units && fits_text units) (λ (units : List ℕ). at_depth 2 (comment_text units)) units line
    (units_in (drop 1 (text_of_line line)))
    (ap (λ text. units_in (drop 1 text)) says ∙ units_read units can.0 can.1)
    (and_true (not (is_kept p) && is_comment units) (fits_text units) (and_true (not (is_kept p)) (is_comment units) awaits can.0) can.1) refl))

comments_taken : (m : NotedModule) (access : Access) (t : Property) (comments : List (List ℕ)) → not (is_kept (promise access t)) ≡ true →
    list_all is_comment comments ≡ true → list_all fits_text comments ≡ true →
    Takes (in_property m (promise access t)) (comments_text 2 comments) (in_property m (record { access = access; tree = t; comments = comments }))
comments_taken m access t comments awaits h k =
    all_taken (λ (units : List ℕ). at_depth 2 (comment_text units)) is_read_comment (λ (read : List (List ℕ)). in_property m (record { access = access; tree = t; comments = read }))
    (waiting_taken m access t awaits) [] comments (all_both is_comment fits_text comments h k)

get_awaited : (access : Access) (p : Property) → gets access ≡ true → not (is_kept (promise access (with_parts p no_part no_part))) ≡ true
get_awaited access p h = rw h refl

set_awaited : (access : Access) (p : Property) (get : Part) → sets access ≡ true → not (is_kept (promise access (with_parts p get no_part))) ≡ true
set_awaited access p get h = rw h (go (is_some get.1 || not (gets access)))
  where
    go : (b : Bool) → not (b && false) ≡ true
    go true = refl
    go false = refl

-- ---- parts

part_procedures : (m : NotedModule) (p : Promised) → HoldsProcedure 2 (in_part m p) (behind_part m p)
part_procedures m p = record { steps = λ b line. refl; goes = λ b. refl }

get_head_step : (m : NotedModule) (p : Property) (access : Access) (comments : List (List ℕ)) (head : Head) → is_get head ≡ true → gets access ≡ true →
    step (in_property m (promised access p no_part no_part comments)) (at_depth 2 (head_text head)) ≡ Some (in_part m (promised access p no_part no_part comments) (headed head))
unfolding line_words
get_head_step m p access comments get_part h asked = rw asked refl
get_head_step m p access comments _ h asked = never h

set_head_step : (m : NotedModule) (p : Property) (access : Access) (get : Part) (comments : List (List ℕ)) (head : Head) →
    is_set head ≡ true → is_writable_head head ≡ true → fits_head head ≡ true → gets access ≡ is_some get.1 → sets access ≡ true →
    step (in_property m (promised access p get no_part comments)) (at_depth 2 (head_text head)) ≡ Some (in_part m (promised access p get no_part comments) (headed head))
unfolding line_words
set_head_step m p access get comments (set_part name t) h k fits earlier asked =
    let can = both_true (is_identifier name) (is_writable_type t) k in
    let head = set_part name t in
    let q = promised access p get no_part comments in
    let line = at_depth 2 (head_text head) in
    let says = line_says 2 (head_text head) (head_is head k) in
    ap (λ text. property_by m q (keyword_at text) line) says
    ∙ ap (option_map (λ (head : Head). in_part m q (headed head)))
    (own_taken (λ (head : Head). sets access && true && (not (gets access) || is_some get.1) && is_set head && is_writable_head head && fits_head head)
    (λ (head : Head). at_depth 2 (head_text head)) head line (set_in (drop 3 (text_of_line line)))
    (ap (λ text. set_in (drop 3 text)) says ∙ set_reads name t can.0 can.1)
    (and_true (sets access && true && (not (gets access) || is_some get.1) && true && is_writable_head head) (fits_head head)
    (and_true (sets access && true && (not (gets access) || is_some get.1) && true) (is_writable_head head)
    (and_true (sets access && true && (not (gets access) || is_some get.1)) true
    (and_true (sets access && true) (not (gets access) || is_some get.1) (and_true (sets access) true asked refl) (earlier_part (gets access) (is_some get.1) earlier)) refl) k) fits)
    refl)
set_head_step m p access get comments _ h k fits earlier asked = never h

set_is_no_get : (head : Head) → is_set head ≡ true → is_get head ≡ false
set_is_no_get get_part h = never h
set_is_no_get _ h = refl

get_taken : (m : NotedModule) (p : Property) (access : Access) (comments : List (List ℕ)) (get : Option Procedure) → gets access ≡ is_some get →
    is_writable_part is_get comments get ≡ true → fits_part comments get ≡ true →
    Takes (in_property m (promised access p no_part no_part [])) (part_text comments get) (in_property m (promised access p (comments, get) no_part []))
get_taken m p access [] Option.None asked h k = none_taken (in_property m (promised access p no_part no_part []))
get_taken m p access (units ∷ comments) Option.None asked h k = never h
get_taken m p access comments (Some part) asked h k =
    let two = both_true (list_all is_comment comments && is_get part.head) (is_writable_procedure part) h in
    let one = both_true (list_all is_comment comments) (is_get part.head) two.0 in
    let fit = both_true (list_all fits_text comments) (fits_procedure part) k in
    let written = is_written part two.1 fit.1 in
    let bare = in_property m (promised access p no_part no_part []) in
    let before = promised access p no_part no_part comments in
    let after = promised access p (comments, Some part) no_part [] in
    both_taken (comments_text 2 comments) (procedure_text 2 part) bare (in_property m before) (in_property m after)
    (comments_taken m access (with_parts p no_part no_part) comments (get_awaited access p asked) one.0 fit.0)
    (subst (λ (q : Promised). Takes (in_property m before) (procedure_text 2 part) (in_property m q)) (if_true (is_get part.head) (with_get before part) (with_set before part) one.1)
    (procedure_taken 2 (in_part m before) (behind_part m before) (part_procedures m before) part (in_property m before) written
    (line_taken 2 (head_text part.head) (in_property m before) (in_part m before (headed part.head)) (head_is part.head written.head)
    (get_head_step m p access comments part.head one.1 asked))))

set_taken : (m : NotedModule) (p : Property) (access : Access) (get : Part) (comments : List (List ℕ)) (set : Option Procedure) → Asks access get.1 set →
    is_writable_part is_set comments set ≡ true → fits_part comments set ≡ true →
    Takes (in_property m (promised access p get no_part [])) (part_text comments set) (in_property m (promised access p get (comments, set) []))
set_taken m p access get [] Option.None asks h k = none_taken (in_property m (promised access p get no_part []))
set_taken m p access get (units ∷ comments) Option.None asks h k = never h
set_taken m p access get comments (Some part) asks h k =
    let two = both_true (list_all is_comment comments && is_set part.head) (is_writable_procedure part) h in
    let one = both_true (list_all is_comment comments) (is_set part.head) two.0 in
    let fit = both_true (list_all fits_text comments) (fits_procedure part) k in
    let written = is_written part two.1 fit.1 in
    let gotten = in_property m (promised access p get no_part []) in
    let before = promised access p get no_part comments in
    let after = promised access p get (comments, Some part) [] in
    both_taken (comments_text 2 comments) (procedure_text 2 part) gotten (in_property m before) (in_property m after)
    (comments_taken m access (with_parts p get no_part) comments (set_awaited access p get asks.setting) one.0 fit.0)
    (subst (λ (q : Promised). Takes (in_property m before) (procedure_text 2 part) (in_property m q))
    (if_false (is_get part.head) (with_get before part) (with_set before part) (set_is_no_get part.head one.1))
    (procedure_taken 2 (in_part m before) (behind_part m before) (part_procedures m before) part (in_property m before) written
    (line_taken 2 (head_text part.head) (in_property m before) (in_part m before (headed part.head)) (head_is part.head written.head)
    (set_head_step m p access get comments part.head one.1 written.head written.fits asks.getting asks.setting))))

access_step : (m : NotedModule) (v : NetVisibility) (access : Access) (text line : List ℕ) →
    member_step m (visibility_text v ++ (access_text (gets access) (sets access) ++ (codes "Property " ++ text))) line
    ≡ reader.property_taken m access line (property_in v text)
unfolding line_words
access_step m v both_parts text line = visible_step m v (codes "Property " ++ text) line
access_step m v read_only text line = visible_step m v (codes "ReadOnly Property " ++ text) line
access_step m v write_only text line = visible_step m v (codes "WriteOnly Property " ++ text) line

property_head_step : (m : NotedModule) (p : Property) (access : Access) → is_identifier p.name ≡ true → list_all is_writable_param p.params ≡ true → is_writable_type p.ty ≡ true →
    is_fine_property p ≡ true →
    member_step m (promised_text (promised access p no_part no_part [])) (at_depth 1 (promised_text (promised access p no_part no_part [])))
    ≡ Some (in_property m (promised access p no_part no_part []))
property_head_step m p access h k l fine =
    let bare = with_parts p no_part no_part in
    let line = at_depth 1 (promised_text (promised access p no_part no_part [])) in
    let behind = name_text p.name ++ params_text p.params ++ codes " As " ++ type_text p.ty in
    ap (λ text. member_step m text line)
    (sym (property_again (visibility_text p.visibility) (access_text (gets access) (sets access)) (name_text p.name) (params_text p.params) (type_text p.ty)))
    ∙ access_step m p.visibility access behind line
    ∙ ap (option_map (λ (p : Property). in_property m (promise access p)))
    (own_taken is_fine_property (λ (p : Property). at_depth 1 (promised_text (promise access p))) bare line (property_in p.visibility behind)
    (property_reads p.visibility p.name p.params p.ty h k l) fine refl)

abbrev whole_property : Access → Property → Promised
whole_property access p = promised access p (p.get_comments, p.get) (p.set_comments, p.set) []

property_end_step : (m : NotedModule) (p : Property) (access : Access) → Asks access p.get p.set →
    step (in_property m (whole_property access p)) (at_depth 1 (codes "End Property")) ≡ Some (among_members (with_member m (property p)))
unfolding line_words
property_end_step m p access asks =
    if_true (is_kept (whole_property access p) && true) (Some (among_members (with_member m (property p)))) Option.None
    (and_true (is_kept (whole_property access p)) true
    (and_true (is_some p.get || not (gets access)) (is_some p.set || not (sets access))
    (kept_part (gets access) (is_some p.get) asks.getting) (kept_part (sets access) (is_some p.set) asks.setting)) refl)

property_head_as : (p : Property) (access : Access) → Asks access p.get p.set → promised_text (promised access p no_part no_part []) ≡ property_head_text p
property_head_as p access asks =
    ap (λ z. visibility_text p.visibility ++ z ++ codes "Property " ++ name_text p.name ++ params_text p.params ++ codes " As " ++ type_text p.ty)
    (ap (λ get. access_text get (sets access)) asks.getting ∙ ap (λ set. access_text (is_some p.get) set) asks.setting)

property_taken : (m : NotedModule) (p : Property) → is_writable_property p ≡ true → fits_property p ≡ true →
    Takes (among_members m) (member_text (property p)) (among_members (with_member m (property p)))
property_taken m p h k =
    let five = both_true (is_identifier p.name && list_all is_writable_param p.params && is_writable_type p.ty && (is_some p.get || is_some p.set) && is_writable_part is_get p.get_comments p.get) (is_writable_part is_set p.set_comments p.set) h in
    let four = both_true (is_identifier p.name && list_all is_writable_param p.params && is_writable_type p.ty && (is_some p.get || is_some p.set)) (is_writable_part is_get p.get_comments p.get) five.0 in
    let three = both_true (is_identifier p.name && list_all is_writable_param p.params && is_writable_type p.ty) (is_some p.get || is_some p.set) four.0 in
    let two = both_true (is_identifier p.name && list_all is_writable_param p.params) (is_writable_type p.ty) three.0 in
    let one = both_true (is_identifier p.name) (list_all is_writable_param p.params) two.0 in
    let fit_four = both_true (fits_name p.name && list_all fits_param p.params && fits_type p.ty && fits_part p.get_comments p.get) (fits_part p.set_comments p.set) k in
    let fit_three = both_true (fits_name p.name && list_all fits_param p.params && fits_type p.ty) (fits_part p.get_comments p.get) fit_four.0 in
    let fit_two = both_true (fits_name p.name && list_all fits_param p.params) (fits_type p.ty) fit_three.0 in
    let fit_one = both_true (fits_name p.name) (list_all fits_param p.params) fit_two.0 in
    let fine : is_fine_property p ≡ true =
    and_true (is_identifier p.name && list_all is_writable_param p.params && is_writable_type p.ty && fits_name p.name && list_all fits_param p.params) (fits_type p.ty)
    (and_true (is_identifier p.name && list_all is_writable_param p.params && is_writable_type p.ty && fits_name p.name) (list_all fits_param p.params)
    (and_true (is_identifier p.name && list_all is_writable_param p.params && is_writable_type p.ty) (fits_name p.name) three.0 fit_one.0) fit_one.1) fit_two.1 in
    let access = access_of (is_some p.get) (is_some p.set) in
    let asks = asks_for p.get p.set three.1 in
    let bare = in_property m (promised access p no_part no_part []) in
    let gotten = in_property m (promised access p (p.get_comments, p.get) no_part []) in
    let whole = in_property m (whole_property access p) in
    let after = among_members (with_member m (property p)) in
    let head = at_depth 1 (property_head_text p) in
    both_taken (head ++ part_text p.get_comments p.get ++ part_text p.set_comments p.set) (at_depth 1 (codes "End Property")) (among_members m) whole after
    (both_taken (head ++ part_text p.get_comments p.get) (part_text p.set_comments p.set) (among_members m) gotten whole
    (both_taken head (part_text p.get_comments p.get) (among_members m) bare gotten
    (subst (λ text. Takes (among_members m) (at_depth 1 text) bare) (property_head_as p access asks)
    (among_taken m 1 (promised_text (promised access p no_part no_part [])) bare (property_head_is p (gets access) (sets access) one.0 one.1 two.1)
    (property_head_step m p access one.0 one.1 two.1 fine)))
    (get_taken m p access p.get_comments p.get asks.getting four.1 fit_three.1))
    (set_taken m p access (p.get_comments, p.get) p.set_comments p.set asks five.1 fit_four.1))
    (line_taken 1 (codes "End Property") whole after (record { within = refl; begins = refl }) (property_end_step m p access asks))

-- ---- modules

member_taken : (m : NotedModule) (member : Member) → is_writable_member member ≡ true → fits_member member ≡ true →
    Takes (among_members m) (member_text member) (among_members (with_member m member))
member_taken m (member_comment units) h k = comment_taken m units h k
member_taken m (variable v x) h k = variable_taken m v x h k
member_taken m (const_member v c) h k = constant_taken m v c h k
member_taken m (structure s) h k = structure_taken m s h k
member_taken m (property p) h k = property_taken m p h k
member_taken m (proc p) h k = proc_taken m p h k

abbrev is_read_member : Member → Bool
is_read_member member = is_writable_member member && fits_member member

abbrev so_far : Option (List ℕ) → List ℕ → Bool → List Member → NotedModule
so_far noted name class members = record { note = noted; tree = record { name = name; class = class; members = members } }

each_member_taken : (noted : Option (List ℕ)) (name : List ℕ) (class : Bool) (before : List Member) (member : Member) → is_read_member member ≡ true →
    Takes (among_members (so_far noted name class before)) (member_text member) (among_members (so_far noted name class (before ++ member ∷ [])))
each_member_taken noted name class before member h =
    let can = both_true (is_writable_member member) (fits_member member) h in
    member_taken (so_far noted name class before) member can.0 can.1

-- ---- the front of a file

front_line_taken : (noted : Option (List ℕ)) (name text : List ℕ) (texts : List (List ℕ)) → IsLine text →
    Takes (in_front noted name (text ∷ texts)) (at_depth 0 text) (in_front noted name texts)
front_line_taken noted name text texts is =
    line_taken 0 text (in_front noted name (text ∷ texts)) (in_front noted name texts) is
    (if_true (is_line 0 text (at_depth 0 text)) (Some (in_front noted name texts)) Option.None (line_is_itself 0 text))

abbrev explicit_text : List ℕ
explicit_text = codes "Option Explicit On"

abbrev more_options : List (List ℕ)
more_options = codes "Option Strict Off" ∷ codes "Option Compare Binary" ∷ []

more_options_taken : (noted : Option (List ℕ)) (name : List ℕ) →
    Takes (in_front noted name more_options) (at_depth 0 (codes "Option Strict Off") ++ at_depth 0 (codes "Option Compare Binary")) (in_front noted name [])
more_options_taken noted name =
    both_taken (at_depth 0 (codes "Option Strict Off")) (at_depth 0 (codes "Option Compare Binary"))
    (in_front noted name more_options) (in_front noted name (codes "Option Compare Binary" ∷ [])) (in_front noted name [])
    (front_line_taken noted name (codes "Option Strict Off") (codes "Option Compare Binary" ∷ []) (record { within = refl; begins = refl }))
    (front_line_taken noted name (codes "Option Compare Binary") [] (record { within = refl; begins = refl }))

options_taken : (noted : Option (List ℕ)) (name : List ℕ) → Takes (in_front noted name option_lines) options_text (in_front noted name [])
options_taken noted name =
    both_taken (at_depth 0 explicit_text) (at_depth 0 (codes "Option Strict Off") ++ at_depth 0 (codes "Option Compare Binary"))
    (in_front noted name option_lines) (in_front noted name more_options) (in_front noted name [])
    (front_line_taken noted name explicit_text more_options (record { within = refl; begins = refl })) (more_options_taken noted name)

note_is : (text : List ℕ) → is_note (Some text) ≡ true → IsLine (codes "' " ++ text)
note_is text h = record { within = printable text (both_true (nat_le (length text) 200) (list_all is_printable text) h).1; begins = refl }

-- the comment at the head, where it is known
known_front_taken : (noted : Option (List ℕ)) (name : List ℕ) → is_note noted ≡ true →
    Takes (in_front noted name (front_lines noted)) (note_text noted ++ options_text) (in_front noted name [])
known_front_taken Option.None name h = options_taken Option.None name
known_front_taken (Some text) name h =
    both_taken (at_depth 0 (codes "' " ++ text)) options_text (in_front (Some text) name (front_lines (Some text))) (in_front (Some text) name option_lines) (in_front (Some text) name [])
    (front_line_taken (Some text) name (codes "' " ++ text) option_lines (note_is text h)) (options_taken (Some text) name)

note_step : (name text : List ℕ) → is_note (Some text) ≡ true → step (at_front name) (at_depth 0 (codes "' " ++ text)) ≡ Some (in_front (Some text) name option_lines)
note_step name text h =
    let line = at_depth 0 (codes "' " ++ text) in
    ap (λ text_there. first_step name (note_in text_there) line) (line_says 0 (codes "' " ++ text) (note_is text h))
    ∙ if_true (is_note (Some text)) (front_step (Some text) name (front_lines (Some text)) line) Option.None h
    ∙ if_true (is_line 0 (codes "' " ++ text) line) (Some (in_front (Some text) name option_lines)) Option.None (line_is_itself 0 (codes "' " ++ text))

-- and where it isn't
any_front_taken : (noted : Option (List ℕ)) (name : List ℕ) → is_note noted ≡ true →
    Takes (at_front name) (note_text noted ++ options_text) (in_front noted name [])
any_front_taken Option.None name h =
    both_taken (at_depth 0 explicit_text) (at_depth 0 (codes "Option Strict Off") ++ at_depth 0 (codes "Option Compare Binary"))
    (at_front name) (in_front Option.None name more_options) (in_front Option.None name [])
    (line_taken 0 explicit_text (at_front name) (in_front Option.None name more_options) (record { within = refl; begins = refl }) refl) (more_options_taken Option.None name)
any_front_taken (Some text) name h =
    both_taken (at_depth 0 (codes "' " ++ text)) options_text (at_front name) (in_front (Some text) name option_lines) (in_front (Some text) name [])
    (line_taken 0 (codes "' " ++ text) (at_front name) (in_front (Some text) name option_lines) (note_is text h) (note_step name text h)) (options_taken (Some text) name)

front_taken : (known : Option (Option (List ℕ))) (noted : Option (List ℕ)) (name : List ℕ) → IsNoteKnown known noted → is_note noted ≡ true →
    Takes (start known name) (note_text noted ++ options_text) (in_front noted name [])
front_taken Option.None noted name e h = any_front_taken noted name h
front_taken (Some known) noted name e h =
    subst (λ (own : Option (List ℕ)). Takes (in_front own name (front_lines own)) (note_text noted ++ options_text) (in_front noted name [])) (sym e) (known_front_taken noted name h)

module_head_is : (class : Bool) (name : List ℕ) → is_identifier name ≡ true → IsLine (module_head_text class name)
module_head_is true name h = record { within = name_within name h; begins = refl }
module_head_is false name h = record { within = name_within name h; begins = refl }

module_head_step : (noted : Option (List ℕ)) (class : Bool) (name : List ℕ) →
    front_step noted name [] (at_depth 0 (module_head_text class name)) ≡ Some (among_members (so_far noted name class []))
module_head_step noted false name =
    if_true (is_line 0 (module_head_text false name) (at_depth 0 (module_head_text false name))) (Some (among_members (so_far noted name false []))) _ (line_is_itself 0 (module_head_text false name))
module_head_step noted true name =
    if_true (is_line 0 (module_head_text true name) (at_depth 0 (module_head_text true name))) (Some (among_members (so_far noted name true []))) Option.None (line_is_itself 0 (module_head_text true name))

head_taken : (noted : Option (List ℕ)) (class : Bool) (name : List ℕ) → is_identifier name ≡ true →
    Takes (in_front noted name []) (at_depth 0 (module_head_text class name)) (among_members (so_far noted name class []))
head_taken noted class name h =
    line_taken 0 (module_head_text class name) (in_front noted name []) (among_members (so_far noted name class [])) (module_head_is class name h) (module_head_step noted class name)

end_taken : (noted : Option (List ℕ)) (name : List ℕ) (class : Bool) (members : List Member) →
    Takes (among_members (so_far noted name class members)) (at_depth 0 (module_end_text class)) (ended (so_far noted name class members))
unfolding line_words
end_taken noted name true members =
    line_taken 0 (codes "End Class") (among_members (so_far noted name true members)) (ended (so_far noted name true members)) (record { within = refl; begins = refl }) refl
end_taken noted name false members =
    line_taken 0 (codes "End Module") (among_members (so_far noted name false members)) (ended (so_far noted name false members)) (record { within = refl; begins = refl }) refl

read_whole : (s : State) (text : List ℕ) (m : NotedModule) → Takes s text (ended m) → run s 1 (file_lines text) ≡ complete m
read_whole s text m x = ap (λ text. run s 1 (file_lines text)) (sym (append-nil text)) ∙ x.takes 1 []

module_taken : (known : Option (Option (List ℕ))) (m : NotedModule) → IsNoteKnown known m.note → is_note m.note ≡ true → is_writable_module m.tree ≡ true → fits_module m.tree ≡ true →
    module_in known m.tree.name (file_of m) ≡ complete m
module_taken known m e h k l =
    let can = both_true (is_identifier m.tree.name) (list_all is_writable_member m.tree.members) k in
    let fit = both_true (fits_name m.tree.name) (list_all fits_member m.tree.members) l in
    let name = m.tree.name in
    let class = m.tree.class in
    let front = note_text m.note ++ options_text in
    let head = at_depth 0 (module_head_text class name) in
    let members = flat_map member_text m.tree.members in
    let end = at_depth 0 (module_end_text class) in
    let begin = start known name in
    let begun = among_members (so_far m.note name class []) in
    let read = among_members (so_far m.note name class m.tree.members) in
    read_whole begin (front ++ head ++ members ++ end) m
    (both_taken (front ++ head ++ members) end begin read (ended m)
    (both_taken (front ++ head) members begin begun read
    (both_taken front head begin (in_front m.note name []) begun (front_taken known m.note name e h) (head_taken m.note class name can.0))
    (all_taken member_text is_read_member (λ (members : List Member). among_members (so_far m.note name class members))
    (each_member_taken m.note name class) [] m.tree.members (all_both is_writable_member fits_member m.tree.members can.1 fit.1)))
    (end_taken m.note name class m.tree.members))

pub module_reads : (known : Option (Option (List ℕ))) (name : List ℕ) (m : NotedModule) → IsModuleOf known name m → module_in known name (file_of m) ≡ complete m
module_reads known name m is =
    ap (λ name. module_in known name (file_of m)) (sym is.named) ∙ module_taken known m is.is_known is.note is.writable is.fits
