-- Declarations behind others, one after the other.
use Rattle.std.proofs.Common.{◌≡◌, ℕ, refl, sym, ap, ◌∙◌, List, [], ◌∷◌, ◌++◌, ◌+◌, length, Option, Some}
use Rattle.std.proofs.lemmas.List.{append-nil, append_assoc, length-append}
use Rattle.up_base.specs.declared.place.Place.{Place}
use Rattle.vb_tree.specs.declared.form_parts.Visibility.{Visibility}
use Rattle.vb_tree.specs.Tree.{Line}
use Rattle.vb_tree.specs.declared.declared.Owner.TheVariants as owner
use Rattle.bound_tree.specs.declared.declared.ConstId.{ConstId}
use Rattle.bound_tree.specs.declared.declared.Scope.{Scope}
use Rattle.bound_tree.specs.declared.declared.EnumDecl.{EnumDecl}
use Rattle.bound_tree.specs.declared.declared.NamedEntry.{NamedEntry}
use Rattle.bound_tree.specs.declared.declared.TypeDecl.{TypeDecl}
use Rattle.vb_tree.specs.declared.declared.VarId.{VarId}
use Rattle.bound_tree.specs.declared.declared.Named.TheVariants as named
use Rattle.declared_names.specs.Declaring.{Lists, Declares, NamedVariable, NamedConstant, NamedProcedure, Head, along, numbers_behind, counts, nothing, follow, with_declared, entry, a_variable, a_constant, a_field, a_procedure, a_type, an_enum, procedure_in, open_scope, ids, const_ids, procedure_declares, inside_declares, type_declares, fields_declare, members_declare, enum_line_declares}

pub behind_nothing : (d : Lists) → with_declared nothing d ≡ d
unfolding with_declared nothing
behind_nothing d = simp append-nil refl

counts_along : (a b : Lists) → counts (along a b) ≡ numbers_behind (counts a) b
counts_along a b = simp length-append refl

along_assoc : (a b c : Lists) → along (along a b) c ≡ along a (along b c)
along_assoc a b c = simp append_assoc refl

pub behind_follow : (f g : Declares) (d : Lists) → with_declared (follow f g) d ≡ with_declared g (with_declared f d)
unfolding with_declared follow
behind_follow f g d =
    sym (along_assoc d (f (counts d)) (g (numbers_behind (counts d) (f (counts d)))))
    ∙ ap (λ k. along (along d (f (counts d))) (g k)) (sym (counts_along d (f (counts d))))

-- one declaration behind others

pub variable_behind : (s : Scope) (v : NamedVariable) (d : Lists)
    → with_declared (a_variable s v) d ≡ record d { names = d.names ++ entry v.name s (named.Var (record { 0 = length d.vars })) ∷ []; vars = d.vars ++ v ∷ [] }
unfolding with_declared a_variable
variable_behind s v d = simp append-nil refl

pub field_behind : (v : NamedVariable) (d : Lists) → with_declared (a_field v) d ≡ record d { vars = d.vars ++ v ∷ [] }
unfolding with_declared a_field
field_behind v d = simp append-nil refl

pub constant_behind : (s : Scope) (c : NamedConstant) (d : Lists)
    → with_declared (a_constant s c) d ≡ record d { names = d.names ++ entry c.name s (named.Const (record { 0 = length d.consts })) ∷ []; consts = d.consts ++ c ∷ [] }
unfolding with_declared a_constant
constant_behind s c d = simp append-nil refl

pub procedure_behind : (file : ℕ) (place : Place) (n : ℕ) (h : Head) (d : Lists)
    → with_declared (a_procedure file place n h) d ≡ record d {
      names = d.names ++ entry h.signature.name (open_scope file h.signature.visibility) (named.Proc (record { 0 = length d.procs })) ∷ [];
      procs = d.procs ++ procedure_in file place n h (length d.vars) ∷ [];
    }
unfolding with_declared a_procedure
procedure_behind file place n h d = simp append-nil refl

pub type_behind : (file : ℕ) (place : Place) (v : Option Visibility) (name : List ℕ) (lines : List Line) (d : Lists)
    → with_declared (a_type file place v name lines) d ≡ record d {
      names = d.names ++ entry name (open_scope file v) (named.Type (record { 0 = length d.types })) ∷ [];
      types = d.types ++ record { name = name; place = place; «module» = file; fields = ids (length d.vars) (length lines) } ∷ [];
    }
unfolding with_declared a_type
type_behind file place v name lines d = simp append-nil refl

pub enum_behind : (file : ℕ) (place : Place) (v : Option Visibility) (name : List ℕ) (lines : List Line) (d : Lists)
    → with_declared (an_enum file place v name lines) d ≡ record d {
      names = d.names ++ entry name (open_scope file v) (named.Enum (record { 0 = length d.enums })) ∷ [];
      enums = d.enums ++ record { name = name; place = place; «module» = file; members = const_ids (length d.consts) (length lines) } ∷ [];
    }
unfolding with_declared an_enum
enum_behind file place v name lines d = simp append-nil refl

-- declarations that ask for the number of the one before them

pub procedure_parts : (file : ℕ) (place : Place) (n : ℕ) (h : Head) (body : List Line) (d : Lists)
    → with_declared (procedure_declares file place n h body) d
    ≡ with_declared (inside_declares (record { 0 = length d.procs }) place n h body) (with_declared (a_procedure file place n h) d)
unfolding with_declared procedure_declares
procedure_parts file place n h body d = behind_follow (a_procedure file place n h) (inside_declares (record { 0 = length d.procs }) place n h body) d

pub type_parts : (file : ℕ) (place : Place) (n : ℕ) (v : Option Visibility) (name : List ℕ) (lines : List Line) (d : Lists)
    → with_declared (type_declares file place n v name lines) d
    ≡ with_declared (fields_declare (owner.Field (record { 0 = length d.types })) (n + 1) lines) (with_declared (a_type file place v name lines) d)
unfolding with_declared type_declares
type_parts file place n v name lines d = behind_follow (a_type file place v name lines) (fields_declare (owner.Field (record { 0 = length d.types })) (n + 1) lines) d

pub members_done : (s : Scope) (file : ℕ) (before : Option ConstId) (n : ℕ) (d : Lists) → with_declared (members_declare s file before n []) d ≡ d
unfolding with_declared members_declare
members_done s file before n d = simp append-nil refl

pub members_more : (s : Scope) (file : ℕ) (before : Option ConstId) (n : ℕ) (l : Line) (ls : List Line) (d : Lists)
    → with_declared (members_declare s file before n (l ∷ ls)) d
    ≡ with_declared (members_declare s file (Some (record { 0 = length d.consts })) (n + 1) ls) (with_declared (enum_line_declares s file before n l.place l.form) d)
unfolding with_declared members_declare
members_more s file before n l ls d =
    behind_follow (enum_line_declares s file before n l.place l.form) (members_declare s file (Some (record { 0 = length d.consts })) (n + 1) ls) d

-- lists that a declaration was pushed to

pub variable_put : (d : Lists) (s : Scope) (v : NamedVariable) (ns : List NamedEntry) (vs : List NamedVariable) (n : ℕ)
    → ns ≡ d.names ++ entry v.name s (named.Var (record { 0 = n })) ∷ [] → n ≡ length d.vars → vs ≡ d.vars ++ v ∷ []
    → record d { names = ns; vars = vs } ≡ with_declared (a_variable s v) d
variable_put d s v ns vs n names number vars = rw (names, number, vars) (sym (variable_behind s v d))

pub field_put : (d : Lists) (v : NamedVariable) (vs : List NamedVariable) → vs ≡ d.vars ++ v ∷ [] → record d { vars = vs } ≡ with_declared (a_field v) d
field_put d v vs vars = rw vars (sym (field_behind v d))

pub constant_put : (d : Lists) (s : Scope) (c : NamedConstant) (ns : List NamedEntry) (cs : List NamedConstant) (n : ℕ)
    → ns ≡ d.names ++ entry c.name s (named.Const (record { 0 = n })) ∷ [] → n ≡ length d.consts → cs ≡ d.consts ++ c ∷ []
    → record d { names = ns; consts = cs } ≡ with_declared (a_constant s c) d
constant_put d s c ns cs n names number consts = rw (names, number, consts) (sym (constant_behind s c d))

pub procedure_put : (d : Lists) (file : ℕ) (place : Place) (m : ℕ) (h : Head) (s : Scope) (ns : List NamedEntry) (ps : List NamedProcedure) (p : NamedProcedure) (n k : ℕ)
    → ns ≡ d.names ++ entry h.signature.name s (named.Proc (record { 0 = n })) ∷ [] → s ≡ open_scope file h.signature.visibility → n ≡ length d.procs
    → ps ≡ d.procs ++ p ∷ [] → p ≡ procedure_in file place m h k → k ≡ length d.vars
    → record d { names = ns; procs = ps } ≡ with_declared (a_procedure file place m h) d
procedure_put d file place m h s ns ps p n k names seen number procs made first = rw (names, seen, number, procs, made, first) (sym (procedure_behind file place m h d))

pub type_put : (d : Lists) (file : ℕ) (place : Place) (v : Option Visibility) (name own : List ℕ) (lines : List Line) (s : Scope) (ns : List NamedEntry) (ts : List TypeDecl) (fields : List VarId) (n : ℕ)
    → ns ≡ d.names ++ entry name s (named.Type (record { 0 = n })) ∷ [] → s ≡ open_scope file v → n ≡ length d.types
    → ts ≡ d.types ++ record { name = own; place = place; «module» = file; fields = fields } ∷ [] → own ≡ name → fields ≡ ids (length d.vars) (length lines)
    → record d { names = ns; types = ts } ≡ with_declared (a_type file place v name lines) d
type_put d file place v name own lines s ns ts fields n names seen number types copied numbered = rw (names, seen, number, types, copied, numbered) (sym (type_behind file place v name lines d))

pub enum_put : (d : Lists) (file : ℕ) (place : Place) (v : Option Visibility) (name own : List ℕ) (lines : List Line) (s : Scope) (ns : List NamedEntry) (es : List EnumDecl) (members : List ConstId) (n : ℕ)
    → ns ≡ d.names ++ entry name s (named.Enum (record { 0 = n })) ∷ [] → s ≡ open_scope file v → n ≡ length d.enums
    → es ≡ d.enums ++ record { name = own; place = place; «module» = file; members = members } ∷ [] → own ≡ name → members ≡ const_ids (length d.consts) (length lines)
    → record d { names = ns; enums = es } ≡ with_declared (an_enum file place v name lines) d
enum_put d file place v name own lines s ns es members n names seen number enums copied numbered = rw (names, seen, number, enums, copied, numbered) (sym (enum_behind file place v name lines d))
