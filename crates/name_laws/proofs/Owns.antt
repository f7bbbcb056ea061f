-- What a covered, clean procedure declares is written as it is declared.
use Rattle.std.proofs.Common.{◌≡◌, refl, ap, sym, subst, ◌∙◌, ℕ, ℤ, length, nat_eq, Bool, true, false, cond, not, ◌&&◌, List, [], ◌∷◌, map, Option, Some, None, slice_get, inl, inr}
use Rattle.std.specs.Prelude.{is_some, ◌⊎◌, ◌||◌}
use Rattle.std.specs.Cmp.Lexicographic.{pointwise}
use Rattle.std.specs.List.{list_all}
use Rattle.std.proofs.lemmas.Bool.{eqb-true}
use Rattle.vb_tree.specs.BoundTree as types
use Rattle.vb_tree.specs.BoundTree.{Ty}
use Rattle.vb_tree.specs.Blocks.{is_code}
use Rattle.vb_tree.specs.declared.declared.Owner.{Owner}
use Rattle.vb_tree.specs.declared.declared.Owner.TheVariants as owner
use Rattle.vb_tree.specs.declared.value.Value6.{Value6}
use Rattle.bound_tree.specs.Tree.{Variable, Constant, Declarations, Program}
use Rattle.reach_table.specs.Chains.{empty}
use Rattle.bound_facts.specs.Clean.{variable, point_broken, IsClean}
use Rattle.bound_facts.specs.Locks.{is_same_type}
use Rattle.bound_facts.specs.Facts.{AreFacts, acts, is_quiet, is_quiet_owner, is_quiet_variable}
use Rattle.written_trees.specs.Bodies.{inside_procedure}
use Rattle.written_trees.specs.Facts.{is_flagged_variable, is_flagged_constant}
use Rattle.written_trees.specs.Names.{Scope}
use Rattle.written_trees.specs.Prologues.{declares, constant_dim_by, constant_dim, is_static}
use Rattle.written_trees.specs.Types.{element_type}
use Rattle.net_run.specs.Members.{is_same_flag}
use Rattle.vb6_run.specs.Programs.{is_local_of, owned_from, is_static_of}
use Rattle.run_matches.specs.CoveredVariables.{covers_type, covers_owner, covers_variable, belongs_to, are_different, is_loud, is_loud_owner, is_touched, covers_array_owner, covers_array_variable, covers_auto_variable, covers_bounds, covers_declared, covers_group_type, covers_group_variable, has_extents, is_array_of, is_in_order}
use Rattle.run_matches.specs.Covered.{covers_head, covers_variables, covers_body, covers_names, covers_all_calls, covers_own, covers_owns, has_no_static, is_class_number, covers_site, covers_procedure}
use Rattle.run_matches.specs.Callees.{frame_owns}
use Rattle.run_matches.specs.CleanLines.{IsSoundPoint}
use Rattle.run_matches.specs.Sites.{Site, site_of, site_lines, first_statement, Own, own_variable, own_constant, own_name, owns_from, owns_of, local_number, local_numbers, static_number, static_numbers}
use Rattle.run_matches.specs.Upgrades.{Upgrade, is_flagged, is_unknown, type_of_some, type_of}
use Rattle.run_statements.specs.Frames.{AreBounds, IsArray, IsGroup, IsReadable, IsUsable}
use Rattle.run_statements.specs.Kept.{IsConstantDim}
use Rattle.run_statements.specs.Written.{IsWritten, site_scope}
use Rattle.name_laws.proofs.Looked.{not_true}
use Rattle.name_laws.proofs.Lists.{both_true, none_of_both, Among, among_append, all_among, all_at, same_numbers, flat_among}
use Rattle.name_laws.proofs.Arrows.{constant_unbroken, variable_unflagged, constant_unflagged}
use Rattle.name_laws.proofs.SoundPoints.{group_sound, is_unflagged, owned_sound, sound_unbroken}
use Rattle.name_laws.proofs.Autos.{AutoParts, auto_parts, usable_auto}
use Rattle.name_laws.proofs.Owned.{IsOwn, lines_own, owned_is}
use Rattle.run_matches.specs.Frames.{is_mirrored, is_scalar_in}

-- ---- what can be read

pub type_known : (ty : Ty) → covers_type ty ≡ true → is_unknown (Some ty) ≡ false
type_known types.boolean h = refl
type_known types.byte h = refl
type_known types.integer h = refl
type_known types.long h = refl
type_known types.currency h = refl
type_known types.str h = refl
type_known (types.fixed units) h = absurd (cc h)
type_known (types.user t) h = absurd (cc h)
type_known (types.class c) h = absurd (cc h)
type_known types.object h = absurd (cc h)
type_known types.variant h = absurd (cc h)
type_known (types.array e rank) h = absurd (cc h)
type_known types.nothing h = absurd (cc h)
type_known types.unknown h = absurd (cc h)

pub covered_type : (x : Variable) → covers_variable x ≡ true → covers_type x.ty ≡ true
covered_type x h = (both_true (covers_type x.ty) (not x.auto) (both_true (covers_owner x.owner) (covers_type x.ty && not x.auto) h).1).0

-- ---- quiet parameters

touched_exact : (a b c d : Bool) → (a || b) ≡ true → d ≡ a → (b ≡ true → c ≡ true) → (not c && not d) ≡ false
touched_exact true b true d h e f = refl
touched_exact true b false d h e f = ap not e
touched_exact false true c d h e f = ap (λ z. not z && not d) (f refl)
touched_exact false false c d h e f = absurd (cc h)

loud_owner : (U : Upgrade) → AreFacts U.program U.known → (v : ℕ) (o : Owner) → is_loud_owner U.program v o ≡ true
    → (is_quiet_owner U.known o && not (U.known.touched v)) ≡ false
loud_owner U known v (owner.Module file) h = refl
loud_owner U known v (owner.Local p) h = refl
loud_owner U known v (owner.Static p) h = refl
loud_owner U known v (owner.Value p) h = refl
loud_owner U known v (owner.Reference p) h =
    touched_exact (is_touched U.program v) (acts U.program p.0) (U.known.outward p.0) (U.known.touched v) h (known.touched_are v)
    (λ a. (known.outward_are p.0).1 (p.0, a, empty p.0))
loud_owner U known v (owner.Answer p) h = refl
loud_owner U known v (owner.Field t) h = refl

-- such a variable is none
pub loud_exact : (U : Upgrade) → AreFacts U.program U.known → (v : ℕ) (x : Variable) → slice_get U.program.declarations.vars v ≡ Some x
    → is_loud_owner U.program v x.owner ≡ true → is_quiet U.program.declarations U.known v ≡ false
loud_exact U known v x e h =
    ap (λ o. is_quiet_variable U.known o && not (U.known.touched v)) e ∙ loud_owner U known v x.owner h

not_both : (b c : Bool) → c ≡ false → (b && c) ≡ false
not_both false c e = refl
not_both true c e = e

-- a value stands for scalars alone
pub other_exact : (U : Upgrade) (v : ℕ) (x : Variable) → slice_get U.program.declarations.vars v ≡ Some x → covers_type x.ty ≡ false
    → is_mirrored U v ≡ false
other_exact U v x e h =
    not_both (is_quiet U.program.declarations U.known v) (is_scalar_in (slice_get U.program.declarations.vars v)) (ap is_scalar_in e ∙ h)

-- so is one that is changed or given by reference
pub uses_exact : (U : Upgrade) → AreFacts U.program U.known → (v : ℕ) → is_loud U.program v (slice_get U.program.declarations.vars v) ≡ true
    → is_quiet U.program.declarations U.known v ≡ false
uses_exact U known v h = by (slice_get U.program.declarations.vars v) refl h
  where
    by : (o : Option Variable) → slice_get U.program.declarations.vars v ≡ o → is_loud U.program v o ≡ true → is_quiet U.program.declarations U.known v ≡ false
    by None e k = absurd (cc k)
    by (Some x) e k = loud_exact U known v x e k

-- a covered variable whose statement breaks no rule
pub readable : (U : Upgrade) → AreFacts U.program U.known → (v : ℕ) (x : Variable) → slice_get U.program.declarations.vars v ≡ Some x
    → covers_variable x ≡ true
    → point_broken U.program.declarations U.facts.marks (variable v) ≡ false → IsReadable U v
readable U known_are v x e h unbroken =
    let ty = both_true (covers_type x.ty) (not x.auto) (both_true (covers_owner x.owner) (covers_type x.ty && not x.auto) h).1 in
    let known : is_unknown (type_of U v) ≡ false = ap (λ (o : Option Variable). is_unknown (type_of_some o)) e ∙ type_known x.ty ty.0 in
    record {
      variable = x;
      is_variable = e;
      covers = h;
      sound =
          none_of_both (is_flagged_variable U.facts v) (is_unknown (type_of U v)) (variable_unflagged U.program.declarations U.facts v x e unbroken) known;
    }

-- ---- arrays

of_boolean : (t : Ty) → is_same_type types.boolean t ≡ true → t ≡ types.boolean
of_boolean types.boolean h = refl
of_boolean _ h = absurd (cc h)

of_byte : (t : Ty) → is_same_type types.byte t ≡ true → t ≡ types.byte
of_byte types.byte h = refl
of_byte _ h = absurd (cc h)

of_integer : (t : Ty) → is_same_type types.integer t ≡ true → t ≡ types.integer
of_integer types.integer h = refl
of_integer _ h = absurd (cc h)

of_long : (t : Ty) → is_same_type types.long t ≡ true → t ≡ types.long
of_long types.long h = refl
of_long _ h = absurd (cc h)

of_currency : (t : Ty) → is_same_type types.currency t ≡ true → t ≡ types.currency
of_currency types.currency h = refl
of_currency _ h = absurd (cc h)

of_str : (t : Ty) → is_same_type types.str t ≡ true → t ≡ types.str
of_str types.str h = refl
of_str _ h = absurd (cc h)

same_type : (s t : Ty) → covers_type s ≡ true → is_same_type s t ≡ true → t ≡ s
same_type types.boolean t c h = of_boolean t h
same_type types.byte t c h = of_byte t h
same_type types.integer t c h = of_integer t h
same_type types.long t c h = of_long t h
same_type types.currency t c h = of_currency t h
same_type types.str t c h = of_str t h
same_type _ t c h = absurd (cc c)

array_of : (e ty : Ty) → covers_type e ≡ true → is_array_of e ty ≡ true → (rank : ℕ) × (ty ≡ types.array e rank)
array_of e (types.array f rank) c h = (rank, ap (λ z. types.array z rank) (same_type e f c h))
array_of e _ c h = absurd (cc h)

-- what is covered of an array variable
pub record ArrayParts (e : Ty) (x : Variable) : Type 0 where
  pub owner : covers_array_owner x.owner ≡ true
  pub covers : covers_type e ≡ true
  pub rank : ℕ
  pub is_array : x.ty ≡ types.array e rank
  pub bounds : covers_bounds x.ty x.bounds ≡ true
  pub plain : x.auto ≡ false

pub array_parts : (e : Ty) (x : Variable) → covers_array_variable e x ≡ true → ArrayParts e x
array_parts e x h =
    let bounds = covers_bounds x.ty x.bounds in
    let a = both_true (covers_array_owner x.owner) (covers_type e && (is_array_of e x.ty && (bounds && not x.auto))) h in
    let b = both_true (covers_type e) (is_array_of e x.ty && (bounds && not x.auto)) a.1 in
    let c = both_true (is_array_of e x.ty) (bounds && not x.auto) b.1 in
    let d = both_true bounds (not x.auto) c.1 in
    let is = array_of e x.ty b.0 c.0 in
    record { owner = a.0; covers = b.0; rank = is.0; is_array = is.1; bounds = d.0; plain = not_true x.auto d.1 }

-- a fixed one has bounds of as many dimensions as its rank
bounds_are : (U : Upgrade) → IsWritten U → (v : ℕ) (x : Variable) (e : Ty) (rank : ℕ) → slice_get U.program.declarations.vars v ≡ Some x
    → x.ty ≡ types.array e rank → is_flagged U v ≡ false → covers_bounds x.ty x.bounds ≡ true → AreBounds (U.facts.rank v) x.bounds
bounds_are U I v x e rank is array sound h = by x.bounds (sym (ap (λ ty. covers_bounds ty x.bounds) array) ∙ h)
  where
    by : (bs : List (ℤ × ℤ)) → covers_bounds (types.array e rank) bs ≡ true → AreBounds (U.facts.rank v) bs
    by [] k = tt
    by (b ∷ bs) k =
        let t = both_true (nat_eq (length (b ∷ bs)) rank) (list_all is_in_order (b ∷ bs)) k in
        let count : length (b ∷ bs) ≡ rank = eqb-true (length (b ∷ bs)) rank t.0 in
        (sym (I.ranks v x e (length bs) is (array ∙ ap (λ n. types.array e n) (sym count)) sound), t.1)

-- an array variable whose declaration carries no issue
pub sound_array : (U : Upgrade) → IsWritten U → (v : ℕ) (x : Variable) (e : Ty) → slice_get U.program.declarations.vars v ≡ Some x
    → covers_array_variable e x ≡ true → is_flagged U v ≡ false → IsArray U v e
sound_array U I v x e is h sound =
    let parts : ArrayParts e x = array_parts e x h in
    record {
      known = record { variable = x; is_variable = is; plain = parts.plain; sound = sound };
      exact = other_exact U v x is (ap covers_type parts.is_array);
      rank = parts.rank;
      is_array = parts.is_array;
      covers = parts.covers;
      bounds = bounds_are U I v x e parts.rank is parts.is_array sound parts.bounds;
    }

pub array_known : (e : Ty) (x : Variable) → covers_array_variable e x ≡ true → is_unknown (Some x.ty) ≡ false
array_known e x h =
    let parts : ArrayParts e x = array_parts e x h in
    ap (λ ty. is_unknown (Some ty)) parts.is_array ∙ type_known e parts.covers

-- whose statement breaks no rule
pub usable_array : (U : Upgrade) → IsWritten U → (v : ℕ) (x : Variable) (e : Ty) → slice_get U.program.declarations.vars v ≡ Some x
    → covers_array_variable e x ≡ true → point_broken U.program.declarations U.facts.marks (variable v) ≡ false → IsArray U v e
usable_array U I v x e is h unbroken = sound_array U I v x e is h (is_unflagged U v x is (array_known e x h) unbroken)

-- ---- user types and classes

pub group_known : (D : Declarations) (ty : Ty) → covers_group_type D ty ≡ true → is_unknown (Some ty) ≡ false
group_known D (types.user t) h = refl
group_known D (types.class c) h = refl
group_known D _ h = absurd (cc h)

pub no_scalar : (D : Declarations) (ty : Ty) → covers_group_type D ty ≡ true → covers_type ty ≡ false
no_scalar D (types.user t) h = refl
no_scalar D (types.class c) h = refl
no_scalar D _ h = absurd (cc h)

-- what is covered of a variable of a user type or a class
pub record GroupParts (D : Declarations) (x : Variable) : Type 0 where
  pub owner : covers_owner x.owner ≡ true
  pub covers : covers_group_type D x.ty ≡ true
  pub plain : x.auto ≡ false

pub group_parts : (D : Declarations) (x : Variable) → covers_group_variable D x ≡ true → GroupParts D x
group_parts D x h =
    let a = both_true (covers_owner x.owner) (covers_group_type D x.ty && not x.auto) h in
    let b = both_true (covers_group_type D x.ty) (not x.auto) a.1 in
    record { owner = a.0; covers = b.0; plain = not_true x.auto b.1 }

-- one from which no chain leads to what breaks a rule
pub usable_group : (U : Upgrade) → IsWritten U → (v : ℕ) (x : Variable) → slice_get U.program.declarations.vars v ≡ Some x
    → covers_group_variable U.program.declarations x ≡ true → IsSoundPoint U.program U.facts.marks (variable v) → IsGroup U v x.ty
usable_group U I v x is h sound =
    let parts : GroupParts U.program.declarations x = group_parts U.program.declarations x h in
    record {
      known = record {
        variable = x;
        is_variable = is;
        plain = parts.plain;
        sound =
            is_unflagged U v x is (group_known U.program.declarations x.ty parts.covers)
            (sound_unbroken U.program U.facts.marks (variable v) sound);
      };
      exact = other_exact U v x is (no_scalar U.program.declarations x.ty parts.covers);
      is_type = refl;
      covers = parts.covers;
      sound = group_sound U I v x is x.ty refl parts.covers sound;
    }

-- a scalar, an array, or of a user type or a class, also an As New one
pub usable : (U : Upgrade) → IsWritten U → (v : ℕ) (x : Variable) → slice_get U.program.declarations.vars v ≡ Some x
    → covers_declared U.program.declarations x ≡ true → IsSoundPoint U.program U.facts.marks (variable v) → IsUsable U v
usable U I v x is h sound = by (covers_variable x) refl h
  where
    unbroken : point_broken U.program.declarations U.facts.marks (variable v) ≡ false
    unbroken = sound_unbroken U.program U.facts.marks (variable v) sound

    no_array : (b : Bool) → covers_group_variable U.program.declarations x ≡ b → (b || covers_auto_variable U.program.declarations x) ≡ true → IsUsable U v
    no_array true e k = inr (inr (inl (x.ty, usable_group U I v x is e sound)))
    no_array false e k =
        let parts : AutoParts U.program.declarations x = auto_parts U.program.declarations x k in
        inr (inr (inr (parts.class, usable_auto U v x is parts sound)))

    not_scalar : (b : Bool) → covers_array_variable (element_type x.ty) x ≡ b
        → (b || (covers_group_variable U.program.declarations x || covers_auto_variable U.program.declarations x)) ≡ true → IsUsable U v
    not_scalar true e k =
        inr (inl (element_type x.ty, usable_array U I v x (element_type x.ty) is e unbroken))
    not_scalar false e k = no_array (covers_group_variable U.program.declarations x) refl k

    by : (b : Bool) → covers_variable x ≡ b
        → (b || (covers_array_variable (element_type x.ty) x
        || (covers_group_variable U.program.declarations x || covers_auto_variable U.program.declarations x))) ≡ true → IsUsable U v
    by true e k = inl (readable U I.known v x is e unbroken)
    by false e k = not_scalar (covers_array_variable (element_type x.ty) x) refl k

pub usable_sound : (U : Upgrade) (v : ℕ) → IsUsable U v → is_flagged U v ≡ false
usable_sound U v (inl r) = r.sound
usable_sound U v (inr (inl a)) = a.1.known.sound
usable_sound U v (inr (inr (inl g))) = g.1.known.sound
usable_sound U v (inr (inr (inr a))) = a.1.sound

-- ---- the parts of what covers a procedure

pub record Covers (P : Program) (p : ℕ) (s : Site) : Type 0 where
  pub locals : pointwise nat_eq (local_numbers (owns_of P.declarations s)) (owned_from (is_local_of p) 0 P.declarations.vars) ≡ true
  pub statics : pointwise nat_eq (static_numbers (owns_of P.declarations s)) (owned_from (is_static_of p) 0 P.declarations.vars) ≡ true
  pub owns : list_all (covers_own P.declarations p) (owns_of P.declarations s) ≡ true
  pub vars : covers_variables P p ≡ true
  pub body : covers_body P p (slice_get P.bodies p) ≡ true

pub covered_parts : (P : Program) (p : ℕ) (s : Site) → site_of P.declarations p ≡ Some s → covers_procedure P p ≡ true → Covers P p s
covered_parts P p s e h =
    let D = P.declarations in
    let os = owns_of D s in
    let whole = both_true (covers_all_calls P p (slice_get P.bodies p)) (covers_names D && (covers_head P p (slice_get D.procs p)
    && (covers_site D p (site_of D p) && (covers_variables P p && covers_body P p (slice_get P.bodies p))))) h in
    let a = both_true (covers_names D) (covers_head P p (slice_get D.procs p)
    && (covers_site D p (site_of D p) && (covers_variables P p && covers_body P p (slice_get P.bodies p)))) whole.1 in
    let b = both_true (covers_head P p (slice_get D.procs p)) (covers_site D p (site_of D p) && (covers_variables P p && covers_body P p (slice_get P.bodies p))) a.1 in
    let c = both_true (covers_site D p (site_of D p)) (covers_variables P p && covers_body P p (slice_get P.bodies p)) b.1 in
    let d = both_true (covers_variables P p) (covers_body P p (slice_get P.bodies p)) c.1 in
    let site : covers_site D p (Some s) ≡ true = sym (ap (covers_site D p) e) ∙ c.0 in
    let names = are_different (map own_name (frame_owns D (slice_get D.procs p) s)) in
    let f = both_true (covers_owns D p os) names (both_true (list_all has_no_static os || is_same_flag (is_class_number D (slice_get D.procs p)) s.source_module.class)
    (covers_owns D p os && names) site).1 in
    let locals = pointwise nat_eq (local_numbers os) (owned_from (is_local_of p) 0 D.vars) in
    let statics = pointwise nat_eq (static_numbers os) (owned_from (is_static_of p) 0 D.vars) in
    let g = both_true (locals && statics) (list_all (covers_own D p) os) f.0 in
    let j = both_true locals statics g.0 in
    record { locals = j.0; statics = j.1; owns = g.1; vars = d.0; body = d.1 }

local_belongs : (p : ℕ) (o : Owner) → is_local_of p o ≡ true → belongs_to p o ≡ true
local_belongs p (owner.Module file) h = absurd (cc h)
local_belongs p (owner.Local q) h = h
local_belongs p (owner.Static q) h = absurd (cc h)
local_belongs p (owner.Value q) h = absurd (cc h)
local_belongs p (owner.Reference q) h = absurd (cc h)
local_belongs p (owner.Answer q) h = absurd (cc h)
local_belongs p (owner.Field t) h = absurd (cc h)

static_belongs : (p : ℕ) (o : Owner) → is_static_of p o ≡ true → belongs_to p o ≡ true
static_belongs p (owner.Static q) h = h
static_belongs p (owner.Module file) h = absurd (cc h)
static_belongs p (owner.Local q) h = absurd (cc h)
static_belongs p (owner.Value q) h = absurd (cc h)
static_belongs p (owner.Reference q) h = absurd (cc h)
static_belongs p (owner.Answer q) h = absurd (cc h)
static_belongs p (owner.Field t) h = absurd (cc h)

pub number_if : (b : Bool) (v : ℕ) → b ≡ true → Among (cond b (v ∷ []) []) v
number_if true v h = inl refl
number_if false v h = absurd (cc h)

number_unless : (b : Bool) (v : ℕ) → b ≡ false → Among (cond b [] (v ∷ [])) v
number_unless true v h = absurd (cc h)
number_unless false v h = inl refl

pub own_covers : (b c : Bool) → cond b c true ≡ true → b ≡ true → c ≡ true
own_covers true c h e = h
own_covers false c h e = absurd (cc e)

-- ---- what the procedure declares

pub own_is : (D : Declarations) (s : Site) (o : Own) → Among (owns_of D s) o → IsOwn D o
own_is D s o h =
    let file = s.source_module.file in
    by (among_append (owns_from D file declares (first_statement s) (site_lines s)) (owns_from D file is_code (first_statement s) (site_lines s)) o h)
  where
    by : Among (owns_from D s.source_module.file declares (first_statement s) (site_lines s)) o
        ⊎ Among (owns_from D s.source_module.file is_code (first_statement s) (site_lines s)) o → IsOwn D o
    by (inl m) = lines_own D s.source_module.file declares (first_statement s) (site_lines s) o m
    by (inr m) = lines_own D s.source_module.file is_code (first_statement s) (site_lines s) o m

pub own_usable : (U : Upgrade) → IsWritten U → (p : ℕ) (s : Site) → Covers U.program p s → IsClean U.program U.facts.marks p → (v : ℕ) (y : Variable)
    → Among (owns_of U.program.declarations s) (own_variable v y) → IsUsable U v
own_usable U I p s C clean v y h =
    let D = U.program.declarations in
    let stands : slice_get D.vars v ≡ Some y = own_is D s (own_variable v y) h in
    let owned : belongs_to p y.owner ≡ true = by (is_static y.owner) refl stands in
    let covers : covers_declared D y ≡ true =
    own_covers (belongs_to p y.owner) (covers_declared D y)
    (all_at (λ (x : Variable). cond (belongs_to p x.owner) (covers_declared D x) true) D.vars v y
    (both_true (list_all (λ (x : Variable). cond (belongs_to p x.owner) (covers_declared D x) true) D.vars) (has_extents U.program) C.vars).0 stands) owned in
    usable U I v y stands covers (owned_sound U.program U.facts.marks p v y clean stands owned)
  where
    by : (b : Bool) → is_static y.owner ≡ b → slice_get U.program.declarations.vars v ≡ Some y
        → belongs_to p y.owner ≡ true
    by true e stands =
        let D = U.program.declarations in
        let number : Among (owned_from (is_static_of p) 0 D.vars) v =
        subst (λ (ns : List ℕ). Among ns v) (same_numbers (static_numbers (owns_of D s)) (owned_from (is_static_of p) 0 D.vars) C.statics)
        (flat_among static_number (owns_of D s) (own_variable v y) v h (number_if (is_static y.owner) v e)) in
        let static = owned_is (is_static_of p) D.vars v y number stands in
        static_belongs p y.owner static
    by false e stands =
        let D = U.program.declarations in
        let number : Among (owned_from (is_local_of p) 0 D.vars) v =
        subst (λ (ns : List ℕ). Among ns v) (same_numbers (local_numbers (owns_of D s)) (owned_from (is_local_of p) 0 D.vars) C.locals)
        (flat_among local_number (owns_of D s) (own_variable v y) v h (number_unless (is_static y.owner) v e)) in
        let local = owned_is (is_local_of p) D.vars v y number stands in
        local_belongs p y.owner local

pub own_unflagged : (U : Upgrade) (p : ℕ) (s : Site) → Covers U.program p s → IsClean U.program U.facts.marks p → (c : ℕ) (y : Constant)
    → Among (owns_of U.program.declarations s) (own_constant c y) → is_flagged_constant U.facts c ≡ false
own_unflagged U p s C clean c y h =
    let D = U.program.declarations in
    let stands : slice_get D.consts c ≡ Some y = own_is D s (own_constant c y) h in
    let own = both_true (belongs_to p y.owner) (is_some y.value) (all_among (covers_own D p) (owns_of D s) (own_constant c y) C.owns h) in
    constant_unflagged D U.facts c y stands (constant_unbroken U.program U.facts.marks p c y clean stands own.0)

constant_kept : (S : Scope) (x : Constant) (b : Bool) (o : Option Value6) → b ≡ false → is_some o ≡ true → IsConstantDim (constant_dim_by S x (cond b None o))
constant_kept S x true o h e = absurd (cc h)
constant_kept S x false None h e = absurd (cc e)
constant_kept S x false (Some v) h e = tt

pub own_constant_dim : (U : Upgrade) (p : ℕ) (s : Site) → Covers U.program p s → IsClean U.program U.facts.marks p → (c : ℕ) (y : Constant)
    → Among (owns_of U.program.declarations s) (own_constant c y) → IsConstantDim (constant_dim (inside_procedure (site_scope U s) p) (c, y))
own_constant_dim U p s C clean c y h =
    let own = both_true (belongs_to p y.owner) (is_some y.value) (all_among (covers_own U.program.declarations p) (owns_of U.program.declarations s) (own_constant c y) C.owns h) in
    constant_kept (inside_procedure (site_scope U s) p) y (is_flagged_constant U.facts c) y.value (own_unflagged U p s C clean c y h) own.1
