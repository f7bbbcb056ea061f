-- What tables of first declarations say is what a search through all declarations finds.
use Rattle.std.proofs.Common.{◌≡◌, ℕ, ◌+◌, Bool, true, false, cond, List, [], ◌∷◌, map, refl, ap, sym, ◌∙◌, ◌||◌, ◌&&◌, nat_eq}
use Rattle.std.specs.Prelude.{position, find, not, Option, Some, None, slice_get}
use Rattle.std.specs.List.{position_from}
use Rattle.std.proofs.lemmas.Iterator.Adapters.{position_from-zero}
use Rattle.up_base.specs.Names.{is_same_name, lower_case}
use Rattle.vb_tree.specs.declared.declared.Owner.{Owner}
use Rattle.vb_tree.specs.declared.declared.Owner.TheVariants as owner
use Rattle.vb_tree.specs.declared.declared.ProcId.{ProcId}
use Rattle.vb_tree.specs.declared.declared.ProcKind.{ProcKind}
use Rattle.vb_tree.specs.declared.declared.ProcKind.TheVariants as kind
use Rattle.bound_tree.specs.declared.declared.Named.{Named}
use Rattle.bound_tree.specs.declared.declared.Named.TheVariants as named
use Rattle.bound_tree.specs.declared.declared.NamedEntry.{NamedEntry}
use Rattle.bound_tree.specs.declared.declared.Scope.{Scope}
use Rattle.bound_tree.specs.declared.declared.Scope.TheVariants as scope
use Rattle.bound_tree.specs.RuleSets.{none, with_if}
use Rattle.name_places.specs.declared.places.NamePlaces.{NamePlaces}
use Rattle.name_places.specs.declared.places.Row.{Row}
use Rattle.name_places.specs.Places.{Keyed, has_key, is_at, is_home, keyed, placed}
use Rattle.name_places.proofs.Firsts.{find_first, item_at, position_like, position_map}
use Rattle.name_places.proofs.WordMaps.{eq_symm, same_symm}
use Rattle.declared_names.specs.declared.rivals.MemberPlaces.{MemberPlaces}
use Rattle.declared_names.specs.Declaring.{NamedVariable, NamedProcedure, Lists}
use Rattle.declared_names.specs.Parts.{are_parts, first_part, firsts_from, is_property}
use Rattle.declared_names.specs.Rivals.{AreFirst, AreMembers, field_home, field_row, first_member, firsts_by, in_way, is_elsewhere, is_other, is_other_at, is_part, least, local_home, local_row, member_home, member_row, or_own, placed_field_rules, property_place, property_row}
use Rattle.declared_names.specs.Rules.{are_beside, field_rules, is_field_named, is_field_of, is_inherited, is_reserved, is_rival, is_same, is_same_scope, is_second, is_second_field, part_of, part_of_kind, part_of_procedure}
use Rattle.declared_names.proofs.Places.{nowhere, of_four, unless}

pub rows_placed : {A : Type 0} (t : NamePlaces) (rows : List Row) (row : A → Keyed) (xs : List A)
    → ((h : ℕ) (key : List ℕ) → placed t h key ≡ position (λ (r : Row). is_at h key (keyed r)) rows) → map keyed rows ≡ map row xs → AreFirst t row xs
rows_placed t rows row xs made same h key =
    made h key ∙ sym (position_map (is_at h key) keyed rows) ∙ ap (position (is_at h key)) same ∙ position_map (is_at h key) row xs

-- ---- a second declaration

second_step : (what : Named) (e : NamedEntry) (b r : Bool) (o : Option NamedEntry) → r ≡ is_other what o
    → cond b (not (is_same e.named what)) r ≡ is_other what (cond b (Some e) o)
second_step what e true r o h = refl
second_step what e false r o h = h

second_found : (ps : List NamedProcedure) (s : Scope) (name : List ℕ) (what : Named) (es : List NamedEntry)
    → is_second ps s name what es ≡ is_other what (find (is_rival ps s name what) es)
second_found ps s name what [] = refl
second_found ps s name what (e ∷ es) =
    second_step what e (is_rival ps s name what e) (is_second ps s name what es) (find (is_rival ps s name what) es) (second_found ps s name what es)

other_item : (es : List NamedEntry) (what : Named) (o : Option ℕ) → is_other what (item_at es o) ≡ is_other_at es what o
other_item es what None = refl
other_item es what (Some i) = refl

second_first : (ps : List NamedProcedure) (s : Scope) (name : List ℕ) (what : Named) (es : List NamedEntry)
    → is_second ps s name what es ≡ is_other_at es what (position (is_rival ps s name what) es)
second_first ps s name what es =
    second_found ps s name what es ∙ ap (is_other what) (find_first (is_rival ps s name what) es) ∙ other_item es what (position (is_rival ps s name what) es)

-- ---- names of procedures' own

beside_none : (a : Option ProcKind) → are_beside a None ≡ false
beside_none None = refl
beside_none (Some k) = refl

and_true : (a : Bool) → a ≡ (a && not false)
and_true true = refl
and_true false = refl

local_rival : (ps : List NamedProcedure) (p : ProcId) (name : List ℕ) (what : Named) → part_of ps what ≡ None → (e : NamedEntry)
    → is_at p.0 (lower_case name) (local_row e) ≡ is_rival ps (scope.Local p) name what e
local_rival ps p name what no_part e =
    ap (λ b. b && is_same_name e.name name) (by e.scope)
    ∙ and_true (is_same_scope e.scope (scope.Local p) && is_same_name e.name name)
    ∙ ap (λ b. is_same_scope e.scope (scope.Local p) && is_same_name e.name name && not b)
    (sym (ap (are_beside (part_of ps e.named)) no_part ∙ beside_none (part_of ps e.named)))
  where
    by : (s : Scope) → is_home p.0 (local_home s) ≡ is_same_scope s (scope.Local p)
    by (scope.Local q) = refl
    by (scope.Public f) = refl
    by (scope.Private f) = refl

pub second_local : (t : NamePlaces) (ps : List NamedProcedure) (p : ProcId) (name : List ℕ) (what : Named) (es : List NamedEntry)
    → AreFirst t local_row es → part_of ps what ≡ None → is_other_at es what (placed t p.0 (lower_case name)) ≡ is_second ps (scope.Local p) name what es
second_local t ps p name what es first no_part =
    ap (is_other_at es what)
    (first p.0 (lower_case name) ∙ position_like (λ e. is_at p.0 (lower_case name) (local_row e)) (is_rival ps (scope.Local p) name what) (local_rival ps p name what no_part) es)
    ∙ sym (second_first ps (scope.Local p) name what es)

-- ---- names of modules

-- what holds of any answer on parts
of_kind : (P : Option ProcKind → Type 0) → P None → P (Some kind.Get) → P (Some kind.Let) → P (Some kind.Set) → (k : ProcKind) → P (part_of_kind k)
of_kind P n g l s kind.Sub = n
of_kind P n g l s kind.Function = n
of_kind P n g l s kind.Get = g
of_kind P n g l s kind.Let = l
of_kind P n g l s kind.Set = s

of_procedure : (P : Option ProcKind → Type 0) → P None → P (Some kind.Get) → P (Some kind.Let) → P (Some kind.Set) → (o : Option NamedProcedure) → P (part_of_procedure o)
of_procedure P n g l s None = n
of_procedure P n g l s (Some p) = of_kind P n g l s p.kind

of_part : (P : Option ProcKind → Type 0) → P None → P (Some kind.Get) → P (Some kind.Let) → P (Some kind.Set) → (ps : List NamedProcedure) (what : Named) → P (part_of ps what)
of_part P n g l s ps (named.Proc p) = of_procedure P n g l s (slice_get ps p.0)
of_part P n g l s ps (named.Var v) = n
of_part P n g l s ps (named.Const c) = n
of_part P n g l s ps (named.Type t) = n
of_part P n g l s ps (named.Enum e) = n

-- one test of four, where the others fail
or_none : (a : Bool) → a ≡ (a || false)
or_none true = refl
or_none false = refl

only_first : (a b c d : Bool) → b ≡ false → c ≡ false → d ≡ false → a ≡ (a || (b || (c || d)))
only_first a b c d p q r = rw (p, q, r) (or_none a)

only_second : (a b c d : Bool) → a ≡ false → c ≡ false → d ≡ false → b ≡ (a || (b || (c || d)))
only_second a b c d p q r = rw (p, q, r) (or_none b)

only_third : (a b c d : Bool) → a ≡ false → b ≡ false → d ≡ false → c ≡ (a || (b || (c || d)))
only_third a b c d p q r = rw (p, q, r) (or_none c)

only_fourth : (a b c d : Bool) → a ≡ false → b ≡ false → c ≡ false → d ≡ (a || (b || (c || d)))
only_fourth a b c d p q r = rw (p, q, r) refl

off : (b n : Bool) → (not b && (false && n)) ≡ false
off true n = refl
off false n = refl

turned : (x b : Bool) → (x && not b) ≡ (not b && x)
turned true true = refl
turned true false = refl
turned false true = refl
turned false false = refl

part_none : (h n b c d : Bool) → (h && n && not false) ≡ ((not false && (h && n)) || ((not b && (false && n)) || ((not c && (false && n)) || (not d && (false && n)))))
part_none h n b c d = sym (and_true (h && n)) ∙ only_first (h && n) (not b && (false && n)) (not c && (false && n)) (not d && (false && n)) (off b n) (off c n) (off d n)

part_get : (h n b c d : Bool) → (h && n && not b) ≡ ((not false && (false && n)) || ((not b && (h && n)) || ((not c && (false && n)) || (not d && (false && n)))))
part_get h n b c d = turned (h && n) b ∙ only_second false (not b && (h && n)) (not c && (false && n)) (not d && (false && n)) refl (off c n) (off d n)

part_let : (h n b c d : Bool) → (h && n && not c) ≡ ((not false && (false && n)) || ((not b && (false && n)) || ((not c && (h && n)) || (not d && (false && n)))))
part_let h n b c d = turned (h && n) c ∙ only_third false (not b && (false && n)) (not c && (h && n)) (not d && (false && n)) refl (off b n) (off d n)

part_set : (h n b c d : Bool) → (h && n && not d) ≡ ((not false && (false && n)) || ((not b && (false && n)) || ((not c && (false && n)) || (not d && (h && n)))))
part_set h n b c d = turned (h && n) d ∙ only_fourth false (not b && (false && n)) (not c && (false && n)) (not d && (h && n)) refl (off b n) (off c n)

-- whether a name of a module is a part of a property that is in the way of another one
abbrev in_part : List NamedProcedure → (of : Option ProcKind) → ℕ → List ℕ → (part : Option ProcKind) → NamedEntry → Bool
in_part ps of file key part e = not (are_beside part of) && is_at file key (member_row ps part e)

abbrev in_any_part : List NamedProcedure → (of : Option ProcKind) → ℕ → List ℕ → NamedEntry → Bool
in_any_part ps of file key e =
    in_part ps of file key None e || (in_part ps of file key (Some kind.Get) e || (in_part ps of file key (Some kind.Let) e || in_part ps of file key (Some kind.Set) e))

by_parts : (ps : List NamedProcedure) (of : Option ProcKind) (file : ℕ) (key : List ℕ) (e : NamedEntry)
    → (is_home file (member_home e.scope) && has_key key e.name && not (are_beside (part_of ps e.named) of)) ≡ in_any_part ps of file key e
by_parts ps of file key e =
    of_part
    (λ (a : Option ProcKind). (is_home file (member_home e.scope) && has_key key e.name && not (are_beside a of))
    ≡ ((not (are_beside None of) && (is_home file (cond (is_part None a) (member_home e.scope) None) && has_key key e.name))
    || ((not (are_beside (Some kind.Get) of) && (is_home file (cond (is_part (Some kind.Get) a) (member_home e.scope) None) && has_key key e.name))
    || ((not (are_beside (Some kind.Let) of) && (is_home file (cond (is_part (Some kind.Let) a) (member_home e.scope) None) && has_key key e.name))
    || (not (are_beside (Some kind.Set) of) && (is_home file (cond (is_part (Some kind.Set) a) (member_home e.scope) None) && has_key key e.name))))))
    (part_none (is_home file (member_home e.scope)) (has_key key e.name) (are_beside (Some kind.Get) of) (are_beside (Some kind.Let) of) (are_beside (Some kind.Set) of))
    (part_get (is_home file (member_home e.scope)) (has_key key e.name) (are_beside (Some kind.Get) of) (are_beside (Some kind.Let) of) (are_beside (Some kind.Set) of))
    (part_let (is_home file (member_home e.scope)) (has_key key e.name) (are_beside (Some kind.Get) of) (are_beside (Some kind.Let) of) (are_beside (Some kind.Set) of))
    (part_set (is_home file (member_home e.scope)) (has_key key e.name) (are_beside (Some kind.Get) of) (are_beside (Some kind.Let) of) (are_beside (Some kind.Set) of))
    ps e.named

member_rival : (ps : List NamedProcedure) (file : ℕ) (name : List ℕ) (what : Named) (e : NamedEntry)
    → is_rival ps (scope.Private file) name what e ≡ in_any_part ps (part_of ps what) file (lower_case name) e
member_rival ps file name what e =
    ap (λ b. b && is_same_name e.name name && not (are_beside (part_of ps e.named) (part_of ps what))) (by e.scope)
    ∙ by_parts ps (part_of ps what) file (lower_case name) e
  where
    by : (s : Scope) → is_same_scope s (scope.Private file) ≡ is_home file (member_home s)
    by (scope.Local q) = refl
    by (scope.Public f) = refl
    by (scope.Private f) = refl

-- the place of the first name of a module that is a part of a property, where that part is in the way of another one
way : (t : NamePlaces) (ps : List NamedProcedure) (part of : Option ProcKind) (file : ℕ) (key : List ℕ) (es : List NamedEntry) → AreFirst t (member_row ps part) es
    → position (in_part ps of file key part) es ≡ in_way part of (placed t file key)
way t ps part of file key es first =
    unless (are_beside part of) (λ (e : NamedEntry). is_at file key (member_row ps part e)) es ∙ ap (in_way part of) (sym (first file key))

least_same : (a b c d e f g h : Option ℕ) → a ≡ e → b ≡ f → c ≡ g → d ≡ h → least a (least b (least c d)) ≡ least e (least f (least g h))
least_same a b c d e f g h p q r s = rw (p, q, r, s) refl

member_place : (t : MemberPlaces) (ps : List NamedProcedure) (of : Option ProcKind) (file : ℕ) (key : List ℕ) (es : List NamedEntry) → AreMembers t ps es
    → position (in_any_part ps of file key) es ≡ first_member t of file key
member_place t ps of file key es first =
    of_four (in_part ps of file key None) (in_part ps of file key (Some kind.Get)) (in_part ps of file key (Some kind.Let)) (in_part ps of file key (Some kind.Set)) es
    ∙ least_same (position (in_part ps of file key None) es) (position (in_part ps of file key (Some kind.Get)) es) (position (in_part ps of file key (Some kind.Let)) es)
    (position (in_part ps of file key (Some kind.Set)) es)
    (in_way None of (placed t.others file key)) (in_way (Some kind.Get) of (placed t.gets file key)) (in_way (Some kind.Let) of (placed t.lets file key))
    (in_way (Some kind.Set) of (placed t.sets file key))
    (way t.others ps None of file key es first.others)
    (way t.gets ps (Some kind.Get) of file key es first.gets)
    (way t.lets ps (Some kind.Let) of file key es first.lets)
    (way t.sets ps (Some kind.Set) of file key es first.sets)

pub second_member : (t : MemberPlaces) (ps : List NamedProcedure) (file : ℕ) (name : List ℕ) (what : Named) (es : List NamedEntry) → AreMembers t ps es
    → is_other_at es what (first_member t (part_of ps what) file (lower_case name)) ≡ is_second ps (scope.Private file) name what es
second_member t ps file name what es first =
    ap (is_other_at es what)
    (sym (member_place t ps (part_of ps what) file (lower_case name) es first)
    ∙ sym (position_like (is_rival ps (scope.Private file) name what) (in_any_part ps (part_of ps what) file (lower_case name)) (member_rival ps file name what) es))
    ∙ sym (second_first ps (scope.Private file) name what es)

-- ---- fields

elsewhere_step : (k i : ℕ) (b r : Bool) (o : Option ℕ) → r ≡ is_elsewhere k o → cond b (not (nat_eq i k)) r ≡ is_elsewhere k (cond b (Some i) o)
elsewhere_step k i true r o h = refl
elsewhere_step k i false r o h = h

field_from : (ty : ℕ) (name : List ℕ) (k i : ℕ) (vs : List NamedVariable)
    → is_second_field ty name k i vs ≡ is_elsewhere k (position_from (is_field_named ty name) i vs)
field_from ty name k i [] = refl
field_from ty name k i (v ∷ vs) =
    elsewhere_step k i (is_field_named ty name v) (is_second_field ty name k (i + 1) vs) (position_from (is_field_named ty name) (i + 1) vs) (field_from ty name k (i + 1) vs)

field_like : (ty : ℕ) (name : List ℕ) (v : NamedVariable) → is_at ty (lower_case name) (field_row v) ≡ is_field_named ty name v
field_like ty name v = ap (λ b. b && is_same_name v.name name) (by v.owner)
  where
    by : (o : Owner) → is_home ty (field_home o) ≡ is_field_of ty o
    by (owner.Field t) = refl
    by (owner.Module f) = refl
    by (owner.Local p) = refl
    by (owner.Static p) = refl
    by (owner.Value p) = refl
    by (owner.Reference p) = refl
    by (owner.Answer p) = refl

second_field : (t : NamePlaces) (ty : ℕ) (name : List ℕ) (k : ℕ) (vs : List NamedVariable) → AreFirst t field_row vs
    → is_elsewhere k (placed t ty (lower_case name)) ≡ is_second_field ty name k 0 vs
second_field t ty name k vs first =
    ap (is_elsewhere k)
    (first ty (lower_case name)
    ∙ position_like (λ v. is_at ty (lower_case name) (field_row v)) (is_field_named ty name) (field_like ty name) vs
    ∙ position_from-zero (is_field_named ty name) vs)
    ∙ sym (field_from ty name k 0 vs)

pub field_ruled : (t : NamePlaces) (d : Lists) (ty : ℕ) (name : List ℕ) (k : ℕ) → AreFirst t field_row d.vars → placed_field_rules t ty name k ≡ field_rules d ty name k
field_ruled t d ty name k first =
    ap (λ b. with_if (with_if none 20 (b || is_reserved name)) 16 (is_inherited name)) (second_field t ty name k d.vars first)

-- ---- first parts

part_step : (k i : ℕ) (b : Bool) (n : ℕ) (o : Option ℕ) → n ≡ or_own k o → cond b i n ≡ or_own k (cond b (Some i) o)
part_step k i true n o h = refl
part_step k i false n o h = h

part_from : (k : ℕ) (p : NamedProcedure) (i : ℕ) (qs : List NamedProcedure) → first_part k p i qs ≡ or_own k (position_from (are_parts p) i qs)
part_from k p i [] = refl
part_from k p i (q ∷ qs) =
    part_step k i (are_parts p q) (first_part k p (i + 1) qs) (position_from (are_parts p) (i + 1) qs) (part_from k p (i + 1) qs)

property_like : (m : ℕ) (name : List ℕ) (q : NamedProcedure)
    → is_at m (lower_case name) (property_row q) ≡ (true && is_property q.kind && nat_eq m q.module_number && is_same_name name q.name)
property_like m name q = by (is_property q.kind)
  where
    by : (b : Bool) → (is_home m (cond b (Some q.module_number) None) && has_key (lower_case name) q.name) ≡ (true && b && nat_eq m q.module_number && is_same_name name q.name)
    by true =
        ap (λ b. b && has_key (lower_case name) q.name) (eq_symm q.module_number m)
        ∙ ap (λ b. nat_eq m q.module_number && b) (same_symm (lower_case q.name) (lower_case name))
    by false = refl

property_first : (t : NamePlaces) (p : NamedProcedure) (ps : List NamedProcedure) → AreFirst t property_row ps → property_place t p ≡ position (are_parts p) ps
property_first t p ps first = by (is_property p.kind)
  where
    by : (b : Bool)
        → cond b (placed t p.module_number (lower_case p.name)) None
        ≡ position (λ (q : NamedProcedure). b && is_property q.kind && nat_eq p.module_number q.module_number && is_same_name p.name q.name) ps
    by true =
        first p.module_number (lower_case p.name)
        ∙ position_like (λ q. is_at p.module_number (lower_case p.name) (property_row q))
        (λ q. true && is_property q.kind && nat_eq p.module_number q.module_number && is_same_name p.name q.name) (property_like p.module_number p.name) ps
    by false = sym (nowhere ps)

own_part : (t : NamePlaces) (all : List NamedProcedure) (k : ℕ) (p : NamedProcedure) → AreFirst t property_row all → or_own k (property_place t p) ≡ first_part k p 0 all
own_part t all k p first = ap (or_own k) (property_first t p all first ∙ position_from-zero (are_parts p) all) ∙ sym (part_from k p 0 all)

firsts_are : (t : NamePlaces) (all : List NamedProcedure) (k : ℕ) (ps : List NamedProcedure) → AreFirst t property_row all → firsts_by t k ps ≡ firsts_from all k ps
firsts_are t all k [] first = refl
firsts_are t all k (p ∷ ps) first =
    ap (λ (n : ℕ). let q : ProcId = record { 0 = n } in q ∷ firsts_by t (k + 1) ps) (own_part t all k p first)
    ∙ ap (λ qs. let q : ProcId = record { 0 = first_part k p 0 all } in q ∷ qs) (firsts_are t all (k + 1) ps first)

pub all_firsts : (t : NamePlaces) (ps : List NamedProcedure) → AreFirst t property_row ps → firsts_by t 0 ps ≡ firsts_from ps 0 ps
all_firsts t ps first = firsts_are t ps 0 ps first
