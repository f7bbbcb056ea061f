-- What is held behind the lines of structures, properties and procedures, where what was held before them is what was read.
use Rattle.std.proofs.Common.{◌≡◌, ℕ, Bool, true, false, not, ◌&&◌, ◌||◌, List, [], ◌∷◌, ◌++◌, codes, refl, sym, ap, subst, ◌∙◌, ◌⊎◌, inl, inr, append_assoc, append-nil, Option, Some, None}
use Rattle.std.specs.Prelude.{is_none, is_some}
use Rattle.std.specs.List.{list_all}
use Rattle.std.proofs.lemmas.List.{flat_map_more}
use Rattle.net_tree.specs.Comments.{comment_text, is_comment}
use Rattle.net_tree.specs.Declarations.{access_text, comments_text, field_text, has_no_comment, head_text, is_get, is_set, is_writable_field, is_writable_head, is_writable_member, is_writable_param, is_writable_part, is_writable_procedure, member_text, params_text, part_text, procedure_text, property_head_text, visibility_text}
use Rattle.net_tree.specs.Expressions.{is_writable_type, type_text}
use Rattle.net_tree.specs.Spelling.{at_depth, is_identifier, name_text}
use Rattle.net_tree.specs.Tree.{Field, Head, Member, Procedure, Property, Structure, function, get_part, proc, property, set_part, structure, sub, sub_new}
use Rattle.net_exprs.specs.Fitting.{fits_name, fits_type}
use Rattle.net_exprs.proofs.Words.{both_true, never}
use Rattle.net_reader.specs.Fits.{fits_field, fits_head, fits_member, fits_param, fits_part, fits_procedure, fits_text}
use Rattle.net_reader.specs.Laws.{IsModuleOf}
use Rattle.net_reader.specs.ModuleReader.{Access, Body, Grown, NotedModule, Promised, behind_part, behind_procedure, both_parts, closed, gets, going, headed, is_fine_property, is_kept, module_head_text, promise, promised_text, read_only, sets, structure_head_text, with_comment, with_field, with_get, with_member, with_part, with_set, write_only}
use Rattle.net_reader.proofs.BodiesGrow.{head_alone, head_is_body, one_more}
use Rattle.net_reader.proofs.SoFar.{Closes, Goes, Grows, GrowsTo, IsAmongMembers, IsInPart, IsInProcedure, IsInProperty, IsInStructure, body_text, front_text, is_next_part, may_get, may_set, open_text, property_front, structure_front}
use Rattle.net_reader.proofs.Tests.{and_true, if_false, if_true}

-- ---- tests

is_nothing : {A : Type 0} (o : Option A) → is_none o ≡ true → o ≡ None
is_nothing None h = refl
is_nothing (Some x) h = never h

same_if_asked : (a b : Bool) → not a || b ≡ true → a || not b ≡ true → a ≡ b
same_if_asked true b h k = sym h
same_if_asked false true h k = never k
same_if_asked false false h k = refl

pub or_true : (a b : Bool) → b ≡ true → a || b ≡ true
or_true true b h = refl
or_true false b h = h

or_false : (a : Bool) → a || false ≡ true → a ≡ true
or_false true h = refl
or_false false h = never h

-- ---- texts of parts

part_text_ends : (bytes line a f b part whole : List ℕ) → bytes ≡ a ++ (f ++ b) → part ≡ b ++ line → f ++ part ≡ whole → bytes ++ line ≡ a ++ whole
part_text_ends bytes line a f b part whole h k l =
    ap (λ x. x ++ line) h ∙ append_assoc a (f ++ b) line ∙ ap (λ x. a ++ x) (append_assoc f b line ∙ ap (λ x. f ++ x) (sym k) ∙ l)

get_in_place : (head get set comments part : List ℕ) → get ≡ [] → set ≡ [] → head ++ get ++ set ++ comments ++ part ≡ head ++ (comments ++ part) ++ set ++ []
get_in_place head get set comments part g s =
    ap (λ x. x ++ comments ++ part) (ap (λ x. head ++ x ++ set) g ∙ ap (λ x. head ++ [] ++ x) s ∙ append-nil (head ++ []) ∙ append-nil head)
    ∙ append_assoc head comments part
    ∙ sym (append-nil (head ++ (comments ++ part) ++ set) ∙ ap (λ x. head ++ (comments ++ part) ++ x) s ∙ append-nil (head ++ (comments ++ part)))

set_in_place : (head set comments part : List ℕ) → set ≡ [] → head ++ set ++ comments ++ part ≡ head ++ (comments ++ part) ++ []
set_in_place head set comments part s =
    ap (λ x. x ++ comments ++ part) (ap (λ x. head ++ x) s ∙ append-nil head) ∙ append_assoc head comments part ∙ sym (append-nil (head ++ (comments ++ part)))

-- where no comment waits, none is written
no_comments_text : (comments : List (List ℕ)) → has_no_comment comments ≡ true → comments_text 2 comments ≡ []
no_comments_text [] h = refl
no_comments_text (units ∷ comments) h = never h

is_first : (a b : Bool) → a || not b ≡ true → b ≡ true → a ≡ true
is_first true b h k = refl
is_first false true h k = never h
is_first false false h k = never k

-- a property without its parts
abbrev pub bare : Property → Property
bare t = record { visibility = t.visibility; name = t.name; params = t.params; ty = t.ty; get_comments = []; get = None; set_comments = []; set = None }

module _ (known : Option (Option (List ℕ))) (name : List ℕ) where
  -- ---- members

  module_grows : (m : NotedModule) (x : Member) → IsModuleOf known name m → is_writable_member x ≡ true → fits_member x ≡ true → IsModuleOf known name (with_member m x)
  module_grows m x is h k =
      let can = both_true (is_identifier m.tree.name) (list_all is_writable_member m.tree.members) is.writable in
      let fits = both_true (fits_name m.tree.name) (list_all fits_member m.tree.members) is.fits in
      record {
        is_known = is.is_known;
        note = is.note;
        named = is.named;
        writable = and_true (is_identifier m.tree.name) (list_all is_writable_member (m.tree.members ++ x ∷ [])) can.0 (one_more is_writable_member m.tree.members x can.1 h);
        fits = and_true (fits_name m.tree.name) (list_all fits_member (m.tree.members ++ x ∷ [])) fits.0 (one_more fits_member m.tree.members x fits.1 k);
      }

  open_more : (m : NotedModule) (x : Member) → open_text m ++ member_text x ≡ open_text (with_member m x)
  open_more m x = flat_map_more member_text (front_text m.note ++ at_depth 0 (module_head_text m.tree.class m.tree.name)) m.tree.members x

  pub member_holds : (bytes : List ℕ) (m : NotedModule) (x : Member) → IsAmongMembers known name bytes m → is_writable_member x ≡ true → fits_member x ≡ true →
      IsAmongMembers known name (bytes ++ member_text x) (with_member m x)
  member_holds bytes m x is h k = record { tree = module_grows m x is.tree h k; are = ap (λ b. b ++ member_text x) is.are ∙ open_more m x }

  -- the last line of a member
  last_line : (bytes inner line : List ℕ) (m : NotedModule) (x : Member) → bytes ≡ open_text m ++ inner → inner ++ line ≡ member_text x →
      bytes ++ line ≡ open_text (with_member m x)
  last_line bytes inner line m x h k =
      ap (λ b. b ++ line) h ∙ append_assoc (open_text m) inner line ∙ ap (λ t. open_text m ++ t) k ∙ open_more m x

  -- ---- structures

  pub structure_begins : (bytes : List ℕ) (m : NotedModule) (n : List ℕ) → IsAmongMembers known name bytes m → is_identifier n ≡ true → fits_name n ≡ true →
      IsInStructure known name (bytes ++ at_depth 1 (structure_head_text n)) m (record { name = n; fields = [] })
  structure_begins bytes m n is h k =
      let head = at_depth 1 (structure_head_text n) in
      record {
        tree = is.tree;
        writable = and_true (is_identifier n) true h refl;
        fits = and_true (fits_name n) true k refl;
        are = ap (λ b. b ++ head) is.are ∙ ap (λ x. open_text m ++ x) (sym (append-nil head));
      }

  pub field_holds : (bytes : List ℕ) (m : NotedModule) (s : Structure) (f : Field) → IsInStructure known name bytes m s → is_writable_field f ≡ true → fits_field f ≡ true →
      IsInStructure known name (bytes ++ at_depth 2 (field_text f)) m (with_field s f)
  field_holds bytes m s f is h k =
      let can = both_true (is_identifier s.name) (list_all is_writable_field s.fields) is.writable in
      let fits = both_true (fits_name s.name) (list_all fits_field s.fields) is.fits in
      let each = λ (f : Field). at_depth 2 (field_text f) in
      record {
        tree = is.tree;
        writable = and_true (is_identifier s.name) (list_all is_writable_field (s.fields ++ f ∷ [])) can.0 (one_more is_writable_field s.fields f can.1 h);
        fits = and_true (fits_name s.name) (list_all fits_field (s.fields ++ f ∷ [])) fits.0 (one_more fits_field s.fields f fits.1 k);
        are =
            ap (λ b. b ++ each f) is.are ∙ append_assoc (open_text m) (structure_front s) (each f)
            ∙ ap (λ t. open_text m ++ t) (flat_map_more each (at_depth 1 (structure_head_text s.name)) s.fields f);
      }

  pub structure_ends : (bytes : List ℕ) (m : NotedModule) (s : Structure) → IsInStructure known name bytes m s →
      IsAmongMembers known name (bytes ++ at_depth 1 (codes "End Structure")) (with_member m (structure s))
  structure_ends bytes m s is = record {
    tree = module_grows m (structure s) is.tree is.writable is.fits;
    are = last_line bytes (structure_front s) (at_depth 1 (codes "End Structure")) m (structure s) is.are refl;
  }

  -- ---- procedures

  pub procedure_begins : (bytes : List ℕ) (m : NotedModule) (h : Head) → IsAmongMembers known name bytes m →
      not (is_get h || is_set h) ≡ true → is_writable_head h ≡ true → fits_head h ≡ true → IsInProcedure known name (bytes ++ at_depth 1 (head_text h)) m (headed h)
  procedure_begins bytes m h is no_part can fits = record {
    tree = is.tree;
    body = head_is_body h can fits;
    no_part = no_part;
    are = ap (λ b. b ++ at_depth 1 (head_text h)) is.are ∙ ap (λ x. open_text m ++ x) (sym (head_alone 1 h));
  }

  pub procedure_goes : (bytes line : List ℕ) (m : NotedModule) (b c : Body) → IsInProcedure known name bytes m b → Goes 1 b line c → IsInProcedure known name (bytes ++ line) m c
  procedure_goes bytes line m b c is goes = record {
    tree = is.tree;
    body = goes.body;
    no_part = ap (λ h. not (is_get h || is_set h)) goes.head ∙ is.no_part;
    are = ap (λ b. b ++ line) is.are ∙ append_assoc (open_text m) (body_text 1 b) line ∙ ap (λ t. open_text m ++ t) (sym goes.text);
  }

  pub procedure_closes : (bytes line : List ℕ) (m : NotedModule) (b : Body) (p : Procedure) → IsInProcedure known name bytes m b → Closes 1 b line p →
      IsAmongMembers known name (bytes ++ line) (with_member m (proc p))
  procedure_closes bytes line m b p is closes = record {
    tree =
        module_grows m (proc p) is.tree
        (and_true (not (is_get p.head || is_set p.head)) (is_writable_procedure p) (ap (λ h. not (is_get h || is_set h)) closes.head ∙ is.no_part) closes.writable) closes.fits;
    are = last_line bytes (body_text 1 b) line m (proc p) is.are (sym closes.text);
  }

  pub procedure_grows : (bytes line : List ℕ) (m : NotedModule) (b : Body) (g : Grown) → IsInProcedure known name bytes m b → GrowsTo 1 b line g →
      Grows known name bytes line (behind_procedure m g)
  procedure_grows bytes line m b (going c) is goes = record { holds = procedure_goes bytes line m b c is goes; ends = goes.ends }
  procedure_grows bytes line m b (closed p) is closes = record { holds = procedure_closes bytes line m b p is closes; ends = closes.ends }

  -- ---- properties

  -- a property up to some part
  abbrev property_parts : Promised → List ℕ
  property_parts p = at_depth 1 (promised_text p) ++ part_text p.tree.get_comments p.tree.get ++ part_text p.tree.set_comments p.tree.set

  pub property_begins : (bytes : List ℕ) (m : NotedModule) (access : Access) (t : Property) → IsAmongMembers known name bytes m → is_fine_property t ≡ true →
      IsInProperty known name (bytes ++ at_depth 1 (promised_text (promise access (bare t)))) m (promise access (bare t))
  property_begins bytes m access t is fine =
      let head = at_depth 1 (promised_text (promise access (bare t))) in
      record {
        tree = is.tree;
        promised = record {
          fine = fine;
          get = refl;
          get_fits = refl;
          get_asked = refl;
          set = refl;
          set_fits = refl;
          set_asked = refl;
          in_order = refl;
          comments = refl;
          comments_fit = refl;
          awaited = refl;
        };
        are =
            ap (λ b. b ++ head) is.are
            ∙ ap (λ x. open_text m ++ x) (sym (append-nil (head ++ [] ++ []) ∙ append-nil (head ++ []) ∙ append-nil head));
      }

  pub comment_holds : (bytes : List ℕ) (m : NotedModule) (p : Promised) (units : List ℕ) → IsInProperty known name bytes m p →
      not (is_kept p) ≡ true → is_comment units ≡ true → fits_text units ≡ true → IsInProperty known name (bytes ++ at_depth 2 (comment_text units)) m (with_comment p units)
  comment_holds bytes m p units is awaits can fits =
      let each = λ (units : List ℕ). at_depth 2 (comment_text units) in
      record {
        tree = is.tree;
        promised = record {
          fine = is.promised.fine;
          get = is.promised.get;
          get_fits = is.promised.get_fits;
          get_asked = is.promised.get_asked;
          set = is.promised.set;
          set_fits = is.promised.set_fits;
          set_asked = is.promised.set_asked;
          in_order = is.promised.in_order;
          comments = one_more is_comment p.comments units is.promised.comments can;
          comments_fit = one_more fits_text p.comments units is.promised.comments_fit fits;
          awaited = or_true (has_no_comment (p.comments ++ units ∷ [])) (not (is_kept p)) awaits;
        };
        are =
            ap (λ b. b ++ each units) is.are ∙ append_assoc (open_text m) (property_front p) (each units)
            ∙ ap (λ t. open_text m ++ t) (flat_map_more each (property_parts p) p.comments units);
      }

  pub part_begins : (bytes : List ℕ) (m : NotedModule) (p : Promised) (h : Head) → IsInProperty known name bytes m p → is_next_part p h ≡ true →
      is_writable_head h ≡ true → fits_head h ≡ true → IsInPart known name (bytes ++ at_depth 2 (head_text h)) m p (headed h)
  part_begins bytes m p h is next can fits = record {
    tree = is.tree;
    promised = is.promised;
    body = head_is_body h can fits;
    next = next;
    are =
        ap (λ b. b ++ at_depth 2 (head_text h)) is.are ∙ append_assoc (open_text m) (property_front p) (at_depth 2 (head_text h))
        ∙ ap (λ x. open_text m ++ (property_front p ++ x)) (sym (head_alone 2 h));
  }

  pub part_goes : (bytes line : List ℕ) (m : NotedModule) (p : Promised) (b c : Body) → IsInPart known name bytes m p b → Goes 2 b line c → IsInPart known name (bytes ++ line) m p c
  part_goes bytes line m p b c is goes = record {
    tree = is.tree;
    promised = is.promised;
    body = goes.body;
    next = ap (is_next_part p) goes.head ∙ is.next;
    are = longer bytes line (open_text m) (property_front p) (body_text 2 b) (body_text 2 c) is.are goes.text;
  }
    where
      longer : (bytes line a f b c : List ℕ) → bytes ≡ a ++ (f ++ b) → c ≡ b ++ line → bytes ++ line ≡ a ++ (f ++ c)
      longer bytes line a f b c h k =
          ap (λ x. x ++ line) h ∙ append_assoc a (f ++ b) line ∙ ap (λ x. a ++ x) (append_assoc f b line ∙ ap (λ x. f ++ x) (sym k))

  -- ---- the last line of a part

  get_ends : (bytes line : List ℕ) (m : NotedModule) (p : Promised) (b : Body) (part : Procedure) → IsInPart known name bytes m p b → Closes 2 b line part →
      may_get p ≡ true → is_get part.head ≡ true → IsInProperty known name (bytes ++ line) m (with_get p part)
  get_ends bytes line m p b part is closes may kind =
      let none = both_true (gets p.access && is_none p.tree.get) (is_none p.tree.set) may in
      let asked = both_true (gets p.access) (is_none p.tree.get) none.0 in
      let g = is_nothing p.tree.get asked.1 in
      let s = is_nothing p.tree.set none.1 in
      record {
        tree = is.tree;
        promised = record {
          fine = is.promised.fine;
          get =
              and_true (list_all is_comment p.comments && is_get part.head) (is_writable_procedure part)
              (and_true (list_all is_comment p.comments) (is_get part.head) is.promised.comments kind) closes.writable;
          get_fits = and_true (list_all fits_text p.comments) (fits_procedure part) is.promised.comments_fit closes.fits;
          get_asked = asked.0;
          set = is.promised.set;
          set_fits = is.promised.set_fits;
          set_asked = is.promised.set_asked;
          in_order = or_true (not (is_some p.tree.set) || not (gets p.access)) true refl;
          comments = refl;
          comments_fit = refl;
          awaited = refl;
        };
        are =
            part_text_ends bytes line (open_text m) (property_front p) (body_text 2 b) (procedure_text 2 part) (property_front (with_get p part)) is.are closes.text
            (get_in_place (at_depth 1 (promised_text p)) (part_text p.tree.get_comments p.tree.get) (part_text p.tree.set_comments p.tree.set) (comments_text 2 p.comments)
            (procedure_text 2 part) (ap (part_text p.tree.get_comments) g) (ap (part_text p.tree.set_comments) s));
      }

  set_ends : (bytes line : List ℕ) (m : NotedModule) (p : Promised) (b : Body) (part : Procedure) → IsInPart known name bytes m p b → Closes 2 b line part →
      may_set p ≡ true → is_set part.head ≡ true → IsInProperty known name (bytes ++ line) m (with_set p part)
  set_ends bytes line m p b part is closes may kind =
      let both = both_true (sets p.access && is_none p.tree.set) (not (gets p.access) || is_some p.tree.get) may in
      let asked = both_true (sets p.access) (is_none p.tree.set) both.0 in
      let s = is_nothing p.tree.set asked.1 in
      record {
        tree = is.tree;
        promised = record {
          fine = is.promised.fine;
          get = is.promised.get;
          get_fits = is.promised.get_fits;
          get_asked = is.promised.get_asked;
          set =
              and_true (list_all is_comment p.comments && is_set part.head) (is_writable_procedure part)
              (and_true (list_all is_comment p.comments) (is_set part.head) is.promised.comments kind) closes.writable;
          set_fits = and_true (list_all fits_text p.comments) (fits_procedure part) is.promised.comments_fit closes.fits;
          set_asked = asked.0;
          in_order = both.1;
          comments = refl;
          comments_fit = refl;
          awaited = refl;
        };
        are =
            part_text_ends bytes line (open_text m) (property_front p) (body_text 2 b) (procedure_text 2 part) (property_front (with_set p part)) is.are closes.text
            (set_in_place (at_depth 1 (promised_text p) ++ part_text p.tree.get_comments p.tree.get) (part_text p.tree.set_comments p.tree.set) (comments_text 2 p.comments)
            (procedure_text 2 part) (ap (part_text p.tree.set_comments) s));
      }

  abbrev IsGetNext : Promised → Head → Type 0
  IsGetNext p h = (is_get h ≡ true) × (may_get p ≡ true)

  abbrev IsSetNext : Promised → Head → Type 0
  IsSetNext p h = (is_get h ≡ false) × (is_set h ≡ true) × (may_set p ≡ true)

  which_part : (p : Promised) (h : Head) → is_next_part p h ≡ true → IsGetNext p h ⊎ IsSetNext p h
  which_part p (sub visibility n params) h = never h
  which_part p (function visibility n params t) h = never h
  which_part p sub_new h = never h
  which_part p get_part h = inl (refl, or_false (may_get p) h)
  which_part p (set_part n t) h = inr (refl, refl, h)

  pub part_closes : (bytes line : List ℕ) (m : NotedModule) (p : Promised) (b : Body) (part : Procedure) → IsInPart known name bytes m p b → Closes 2 b line part →
      IsInProperty known name (bytes ++ line) m (with_part p part)
  part_closes bytes line m p b part is closes =
      elim (which_part p part.head (ap (is_next_part p) closes.head ∙ is.next)) as (λ s. IsInProperty known name (bytes ++ line) m (with_part p part)) [
        | inl g ↦ subst (λ q. IsInProperty known name (bytes ++ line) m q) (sym (if_true (is_get part.head) (with_get p part) (with_set p part) g.0)) (get_ends bytes line m p b part is closes g.1 g.0)
        | inr s ↦ subst (λ q. IsInProperty known name (bytes ++ line) m q) (sym (if_false (is_get part.head) (with_get p part) (with_set p part) s.0)) (set_ends bytes line m p b part is closes s.2 s.1)
      ]

  pub part_grows : (bytes line : List ℕ) (m : NotedModule) (p : Promised) (b : Body) (g : Grown) → IsInPart known name bytes m p b → GrowsTo 2 b line g →
      Grows known name bytes line (behind_part m p g)
  part_grows bytes line m p b (going c) is goes = record { holds = part_goes bytes line m p b c is goes; ends = goes.ends }
  part_grows bytes line m p b (closed part) is closes = record { holds = part_closes bytes line m p b part is closes; ends = closes.ends }

  -- ---- the last line of a property

  some_part : (a : Access) (get set : Bool) → get ≡ gets a → set ≡ sets a → get || set ≡ true
  some_part both_parts get set g s = ap (λ x. x || set) g
  some_part read_only get set g s = ap (λ x. x || set) g
  some_part write_only get set g s = or_true get set s

  pub property_ends : (bytes : List ℕ) (m : NotedModule) (p : Promised) → IsInProperty known name bytes m p → is_kept p ≡ true →
      IsAmongMembers known name (bytes ++ at_depth 1 (codes "End Property")) (with_member m (property p.tree))
  property_ends bytes m p is kept =
      let t = p.tree in
      let asks = both_true (is_some t.get || not (gets p.access)) (is_some t.set || not (sets p.access)) kept in
      let g : is_some t.get ≡ gets p.access = same_if_asked (is_some t.get) (gets p.access) is.promised.get_asked asks.0 in
      let s : is_some t.set ≡ sets p.access = same_if_asked (is_some t.set) (sets p.access) is.promised.set_asked asks.1 in
      let text = λ (get set : Bool).
      visibility_text t.visibility ++ access_text get set ++ codes "Property " ++ name_text t.name ++ params_text t.params ++ codes " As " ++ type_text t.ty in
      let head : promised_text p ≡ property_head_text t = sym (ap (λ x. text x (is_some t.set)) g ∙ ap (text (gets p.access)) s) in
      let five = both_true (is_identifier t.name && list_all is_writable_param t.params && is_writable_type t.ty && fits_name t.name && list_all fits_param t.params) (fits_type t.ty) is.promised.fine in
      let four = both_true (is_identifier t.name && list_all is_writable_param t.params && is_writable_type t.ty && fits_name t.name) (list_all fits_param t.params) five.0 in
      let three = both_true (is_identifier t.name && list_all is_writable_param t.params && is_writable_type t.ty) (fits_name t.name) four.0 in
      let can : is_writable_member (property t) ≡ true =
      and_true _ (is_writable_part is_set t.set_comments t.set)
      (and_true _ (is_writable_part is_get t.get_comments t.get)
      (and_true (is_identifier t.name && list_all is_writable_param t.params && is_writable_type t.ty) (is_some t.get || is_some t.set) three.0
      (some_part p.access (is_some t.get) (is_some t.set) g s)) is.promised.get) is.promised.set in
      let none = no_comments_text p.comments (is_first (has_no_comment p.comments) (is_kept p) is.promised.awaited kept) in
      let fits : fits_member (property t) ≡ true =
      and_true _ (fits_part t.set_comments t.set)
      (and_true _ (fits_part t.get_comments t.get)
      (and_true _ (fits_type t.ty) (and_true (fits_name t.name) (list_all fits_param t.params) three.1 four.1) five.1) is.promised.get_fits) is.promised.set_fits in
      record {
        tree = module_grows m (property t) is.tree can fits;
        are =
            last_line bytes (property_front p) (at_depth 1 (codes "End Property")) m (property t) is.are
            (ap (λ c. property_parts p ++ c ++ at_depth 1 (codes "End Property")) none ∙ ap (λ x. x ++ at_depth 1 (codes "End Property")) (append-nil (property_parts p))
            ∙ ap (λ x. at_depth 1 x ++ part_text t.get_comments t.get ++ part_text t.set_comments t.set ++ at_depth 1 (codes "End Property")) head);
      }
