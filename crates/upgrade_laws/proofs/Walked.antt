-- What lines and members declare, by owners and statements.
use Rattle.std.proofs.Common.{◌≡◌, ℕ, suc, ◌+◌, Bool, true, false, nat_eq, List, [], ◌∷◌, ◌++◌, length, map, Option, Some, None, refl, sym, subst, length-append, arith}
use Rattle.std.specs.Prelude.{cond, ◌||◌, ◌&&◌, not}
use Rattle.std.specs.List.{AllByRecursion as Each}
use Rattle.std.proofs.lemmas.List.{map-append}
use Rattle.up_base.specs.declared.place.Place.{Place}
use Rattle.vb_tree.specs.declared.declared.Owner.{Owner}
use Rattle.vb_tree.specs.declared.declared.Owner.TheVariants as owner
use Rattle.vb_tree.specs.declared.declared.ProcId.{ProcId}
use Rattle.vb_tree.specs.declared.form_parts.VarWord.{VarWord}
use Rattle.vb_tree.specs.declared.form_parts.VarWord.TheVariants as word
use Rattle.vb_tree.specs.declared.form_parts.Visibility.{Visibility}
use Rattle.vb_tree.specs.Tree.{Declarator, Param, Form, variables, constants, type_head, field, enum_head, enum_member, Line}
use Rattle.vb_tree.specs.Tree as source
use Rattle.bound_tree.specs.declared.declared.ConstId.{ConstId}
use Rattle.bound_tree.specs.declared.declared.Scope.{Scope}
use Rattle.bound_tree.specs.declared.declared.Scope.TheVariants as scope
use Rattle.declared_names.specs.Declaring.{NamedVariable, NamedConstant, Lists, Numbers, no_lists, along, numbers_behind, Declares, nothing, follow, each, a_variable, a_field, a_constant, word_scope, constant_scope, open_scope, variable_in, constant_in, variables_in, constants_in, line_declares, local_owner, local_declares, locals_declare, Head, has_result, param_owner, parameter_in, is_by_value, params_declare, answer_in, answer_declares, field_in, field_declares, fields_declare, member_in, enum_line_declares, members_declare, a_type, an_enum, type_declares, group_declares}
use Rattle.written_trees.specs.Prologues.{declares}
use Rattle.upgrade_laws.specs.Ordered.{StandsIn}
use Rattle.upgrade_laws.proofs.Lists.{each_append, each_from}
use Rattle.upgrade_laws.proofs.Slots.{Slot, IsAt, Laid}

abbrev pub slot : Owner → Place → ℕ → Slot
slot of place n = record { owner = of; file = place.file; statement = n }

abbrev pub slot_in : NamedVariable → Slot
slot_in v = slot v.owner v.place v.statement

abbrev pub slots_in : Lists → List Slot
slots_in d = map slot_in d.vars

-- what holds of the variables of lists that have no procedure
pub record Given (R : Slot → Type 0) (d : Lists) : Type 0 where
  pub slots : Each R (slots_in d)
  pub procs : length d.procs ≡ 0

abbrev pub Gives : (Slot → Type 0) → Declares → Type 0
Gives R f = (k : Numbers) → Given R (f k)

-- ---- declarations behind others

pub slots_along : (a b : Lists) → slots_in (along a b) ≡ slots_in a ++ slots_in b
slots_along a b = map-append slot_in a.vars b.vars

pub slots_follow : (f g : Declares) (k : Numbers) → slots_in (follow f g k) ≡ slots_in (f k) ++ slots_in (g (numbers_behind k (f k)))
unfolding follow
slots_follow f g k = slots_along (f k) (g (numbers_behind k (f k)))

pub procs_follow : (f g : Declares) (k : Numbers) → length (follow f g k).procs ≡ length (f k).procs + length (g (numbers_behind k (f k))).procs
unfolding follow
procs_follow f g k = length-append (f k).procs (g (numbers_behind k (f k))).procs

none_given : (R : Slot → Type 0) → Given R no_lists
none_given R = record { slots = tt; procs = refl }

pub nothing_gives : (R : Slot → Type 0) → Gives R nothing
unfolding nothing
nothing_gives R = λ k. none_given R

pub follow_gives : (R : Slot → Type 0) (f g : Declares) → Gives R f → Gives R g → Gives R (follow f g)
follow_gives R f g h i = λ k. record {
  slots = subst (λ (x : List Slot). Each R x) (sym (slots_follow f g k)) (each_append R (slots_in (f k)) (slots_in (g (numbers_behind k (f k)))) (h k).slots (i (numbers_behind k (f k))).slots);
  procs = omega (arith, procs_follow f g k, (h k).procs, (i (numbers_behind k (f k))).procs);
}

each_gives : {A : Type 0} (R : Slot → Type 0) (f : A → Declares) → ((x : A) → Gives R (f x)) → (xs : List A) → Gives R (each f xs)
each_gives R f h [] = nothing_gives R
each_gives R f h (x ∷ xs) = follow_gives R (f x) (each f xs) (h x) (each_gives R f h xs)

either_gives : (R : Slot → Type 0) (b : Bool) (f g : Declares) → Gives R f → Gives R g → Gives R (cond b f g)
either_gives R true f g h i = h
either_gives R false f g h i = i

-- ---- one declaration

variable_gives : (R : Slot → Type 0) (s : Scope) (v : NamedVariable) → R (slot_in v) → Gives R (a_variable s v)
unfolding a_variable
variable_gives R s v h = λ k. record { slots = (h, tt); procs = refl }

named_field_gives : (R : Slot → Type 0) (v : NamedVariable) → R (slot_in v) → Gives R (a_field v)
unfolding a_field
named_field_gives R v h = λ k. record { slots = (h, tt); procs = refl }

constant_gives : (R : Slot → Type 0) (s : Scope) (c : NamedConstant) → Gives R (a_constant s c)
unfolding a_constant
constant_gives R s c = λ k. record { slots = tt; procs = refl }

-- ---- lines

variables_give : (R : Slot → Type 0) (s : Scope) (of : Owner) (place : Place) (n : ℕ) (ds : List Declarator) → R (slot of place n) → Gives R (variables_in s of place n ds)
variables_give R s of place n ds h =
    each_gives R (λ (d : Declarator). a_variable s (variable_in of place n d)) (λ (d : Declarator). variable_gives R s (variable_in of place n d) h) ds

constants_give : (R : Slot → Type 0) (s : Scope) (of : Owner) (place : Place) (n : ℕ) (cs : List source.Constant) → Gives R (constants_in s of place n cs)
constants_give R s of place n cs =
    each_gives R (λ (c : source.Constant). a_constant s (constant_in of place n c)) (λ (c : source.Constant). constant_gives R s (constant_in of place n c)) cs

pub line_gives : (R : Slot → Type 0) (file n : ℕ) (place : Place) (f : Form) → R (slot (owner.Module file) place n) → Gives R (line_declares file n place f)
line_gives R file n place (variables w ds) h = variables_give R (word_scope file w) (owner.Module file) place n ds h
line_gives R file n place (constants v cs) h = constants_give R (constant_scope file v) (owner.Module file) place n cs
line_gives R file n place _ h = nothing_gives R

either_owner : (R : Slot → Type 0) (p : ProcId) (w : VarWord) (place : Place) (n : ℕ) → R (slot (owner.Local p) place n) → R (slot (owner.Static p) place n)
    → R (slot (local_owner p w) place n)
either_owner R p word.Static place n h i = i
either_owner R p _ place n h i = h

pub local_gives : (R : Slot → Type 0) (p : ProcId) (n : ℕ) (place : Place) (f : Form) → R (slot (owner.Local p) place n) → R (slot (owner.Static p) place n)
    → Gives R (local_declares p n place f)
local_gives R p n place (variables w ds) h i = variables_give R (scope.Local p) (local_owner p w) place n ds (either_owner R p w place n h i)
local_gives R p n place (constants v cs) h i = constants_give R (scope.Local p) (owner.Local p) place n cs
local_gives R p n place _ h i = nothing_gives R

-- ---- heads of procedures

pub params_give : (R : Slot → Type 0) (p : ProcId) (value : ℕ) (place : Place) (n i : ℕ) (qs : List Param) → ((of : Bool) → R (slot (cond of (owner.Value p) (owner.Reference p)) place n))
    → Gives R (params_declare p value place n i qs)
params_give R p value place n i [] h = nothing_gives R
params_give R p value place n i (q ∷ qs) h =
    let v : NamedVariable = parameter_in (param_owner p (nat_eq (i + 1) value) q) place n q in
    follow_gives R (a_variable (scope.Local p) v) (params_declare p value place n (i + 1) qs)
    (variable_gives R (scope.Local p) v (h (nat_eq (i + 1) value || (is_by_value q.passing && not q.array))))
    (params_give R p value place n (i + 1) qs h)

pub answer_gives : (R : Slot → Type 0) (p : ProcId) (place : Place) (n : ℕ) (d : Head) → R (slot (owner.Answer p) place n) → Gives R (answer_declares p place n d)
answer_gives R p place n d h =
    either_gives R (has_result d.kind) (a_variable (scope.Local p) (answer_in p place n d)) nothing (variable_gives R (scope.Local p) (answer_in p place n d) h) (nothing_gives R)

-- ---- locals, line by line

none_declared : (p : ProcId) (n : ℕ) (place : Place) (f : Form) (k : Numbers) → declares f ≡ false → slots_in (local_declares p n place f k) ≡ []
unfolding nothing
none_declared p n place (variables w ds) k h = absurd (cc h)
none_declared p n place (constants v cs) k h = absurd (cc h)
none_declared p n place _ k h = refl

-- what locals are by a property of owners
pub record LocalsLaid (file : ℕ) (R : Owner → Type 0) (n : ℕ) (ls : List Line) (d : Lists) : Type 0 where
  pub laid : Laid file declares n ls (slots_in d)
  pub owners : Each (λ (s : Slot). R s.owner) (slots_in d)
  pub procs : length d.procs ≡ 0

one : (n : ℕ) → n + 1 ≡ suc n
one n = omega arith

pub locals_laid : (file : ℕ) (R : Owner → Type 0) (p : ProcId) → R (owner.Local p) → R (owner.Static p) → (n : ℕ) (ls : List Line) → Each (StandsIn file) ls → (k : Numbers)
    → LocalsLaid file R n ls (locals_declare p n ls k)
unfolding nothing
locals_laid file R p h i n [] e k = record { laid = refl; owners = tt; procs = refl }
locals_laid file R p h i n (l ∷ ls) e k =
    let Q : Slot → Type 0 = λ (s : Slot). IsAt file n s × R s.owner in
    let f : Declares = local_declares p n l.place l.form in
    let later : Numbers = numbers_behind k (f k) in
    let own : Given Q (f k) = local_gives Q p n l.place l.form ((e.0, refl), h) ((e.0, refl), i) k in
    let rest : LocalsLaid file R (n + 1) ls (locals_declare p (n + 1) ls later) = locals_laid file R p h i (n + 1) ls e.1 later in
    record {
      laid = (
        slots_in (f k),
        slots_in (locals_declare p (n + 1) ls later),
        slots_follow f (locals_declare p (n + 1) ls) k,
        each_from Q (IsAt file n) (λ s x. x.0) (slots_in (f k)) own.slots,
        none_declared p n l.place l.form k,
        subst (λ (m : ℕ). Laid file declares m ls (slots_in (locals_declare p (n + 1) ls later))) (one n) rest.laid,
      );
      owners =
          subst (λ (x : List Slot). Each (λ (s : Slot). R s.owner) x) (sym (slots_follow f (locals_declare p (n + 1) ls) k))
          (each_append (λ (s : Slot). R s.owner) (slots_in (f k)) (slots_in (locals_declare p (n + 1) ls later))
          (each_from Q (λ (s : Slot). R s.owner) (λ s x. x.1) (slots_in (f k)) own.slots) rest.owners);
      procs = omega (arith, procs_follow f (locals_declare p (n + 1) ls) k, own.procs, rest.procs);
    }

-- ---- groups, by the statements of their lines

abbrev pub FieldsFit : (Slot → Type 0) → Owner → ℕ → List Line → Type 0
FieldsFit R of n [] = Unit {0}
FieldsFit R of n (l ∷ ls) = R (slot of l.place n) × FieldsFit R of (n + 1) ls

field_gives : (R : Slot → Type 0) (of : Owner) (n : ℕ) (place : Place) (f : Form) → R (slot of place n) → Gives R (field_declares of n place f)
field_gives R of n place (field name suffix bounds ty) h = named_field_gives R (field_in of place n name suffix bounds ty) h
field_gives R of n place _ h = nothing_gives R

fields_give : (R : Slot → Type 0) (of : Owner) (n : ℕ) (ls : List Line) → FieldsFit R of n ls → Gives R (fields_declare of n ls)
fields_give R of n [] h = nothing_gives R
fields_give R of n (l ∷ ls) h =
    follow_gives R (field_declares of n l.place l.form) (fields_declare of (n + 1) ls) (field_gives R of n l.place l.form h.0) (fields_give R of (n + 1) ls h.1)

enum_line_gives : (R : Slot → Type 0) (s : Scope) (file : ℕ) (before : Option ConstId) (n : ℕ) (place : Place) (f : Form) → Gives R (enum_line_declares s file before n place f)
enum_line_gives R s file before n place (enum_member name suffix value) = constant_gives R s (member_in file before place n name suffix value)
enum_line_gives R s file before n place _ = nothing_gives R

enum_lines_give : (R : Slot → Type 0) (s : Scope) (file : ℕ) (before : Option ConstId) (n : ℕ) (ls : List Line) → Gives R (members_declare s file before n ls)
unfolding members_declare
enum_lines_give R s file before n [] = λ k. none_given R
enum_lines_give R s file before n (l ∷ ls) = λ k.
    let last : Option ConstId = Some (record { 0 = k.consts }) in
    follow_gives R (enum_line_declares s file before n l.place l.form) (members_declare s file last (n + 1) ls)
    (enum_line_gives R s file before n l.place l.form) (enum_lines_give R s file last (n + 1) ls) k

type_gives : (R : Slot → Type 0) (file : ℕ) (place : Place) (v : Option Visibility) (name : List ℕ) (ls : List Line) → Gives R (a_type file place v name ls)
unfolding a_type
type_gives R file place v name ls = λ k. record { slots = tt; procs = refl }

enum_gives : (R : Slot → Type 0) (file : ℕ) (place : Place) (v : Option Visibility) (name : List ℕ) (ls : List Line) → Gives R (an_enum file place v name ls)
unfolding an_enum
enum_gives R file place v name ls = λ k. record { slots = tt; procs = refl }

types_give : (R : Slot → Type 0) (file : ℕ) (place : Place) (n : ℕ) (v : Option Visibility) (name : List ℕ) (ls : List Line)
    → ((t : ℕ) → FieldsFit R (owner.Field (record { 0 = t })) (n + 1) ls) → Gives R (type_declares file place n v name ls)
unfolding type_declares
types_give R file place n v name ls h = λ k.
    let of : Owner = owner.Field (record { 0 = k.types }) in
    follow_gives R (a_type file place v name ls) (fields_declare of (n + 1) ls) (type_gives R file place v name ls) (fields_give R of (n + 1) ls (h k.types)) k

pub group_gives : (R : Slot → Type 0) (file : ℕ) (place : Place) (n : ℕ) (f : Form) (ls : List Line)
    → ((t : ℕ) → FieldsFit R (owner.Field (record { 0 = t })) (n + 1) ls) → Gives R (group_declares file place n f ls)
group_gives R file place n (type_head v name suffix) ls h = types_give R file place n v name ls h
group_gives R file place n (enum_head v name suffix) ls h =
    follow_gives R (an_enum file place v name ls) (members_declare (open_scope file v) file None (n + 1) ls)
    (enum_gives R file place v name ls) (enum_lines_give R (open_scope file v) file None (n + 1) ls)
group_gives R file place n _ ls h = nothing_gives R
