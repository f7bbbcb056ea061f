-- What is covered of As New variables, and of their uses.
use Rattle.std.proofs.Common.{◌≡◌, refl, ap, subst, ℕ, ◌&&◌, true, false, Option, None, Some, List, slice_get}
use Rattle.std.specs.List.{list_any}
use Rattle.std.proofs.lemmas.Bool.{eqb-true}
use Rattle.vb_tree.specs.BoundTree as types
use Rattle.vb_tree.specs.BoundTree.{Ty}
use Rattle.vb_tree.specs.declared.declared.VarId.{VarId}
use Rattle.bound_tree.specs.declared.body.Mention.{Mention}
use Rattle.bound_tree.specs.Tree.{Declarations, Program, Variable}
use Rattle.bound_facts.specs.Clean.{variable}
use Rattle.bound_facts.specs.Locks.{is_same_type}
use Rattle.run_matches.specs.CleanLines.{IsSoundPoint}
use Rattle.run_matches.specs.CoveredVariables.{covers_auto_owner, covers_auto_use, covers_auto_variable, covers_group_type, covers_made, covers_some_auto, is_made_type, is_mention_of, is_reached}
use Rattle.run_matches.specs.Upgrades.{Upgrade, is_flagged, is_unknown}
use Rattle.run_matches.specs.UserTypes.{is_class_type}
use Rattle.run_statements.specs.Frames.{IsAutoOf}
use Rattle.name_laws.proofs.Lists.{both_true}
use Rattle.name_laws.proofs.SoundPoints.{is_unflagged, sound_unbroken}

-- ---- variables

-- what is covered of an As New variable
pub record AutoParts (D : Declarations) (x : Variable) : Type 0 where
  pub owner : covers_auto_owner x.owner ≡ true
  pub class : ℕ
  pub is_type : x.ty ≡ types.class class
  pub covers : covers_group_type D (types.class class) ≡ true
  pub is_auto : x.auto ≡ true

class_of : (ty : Ty) → is_class_type ty ≡ true → (class : ℕ) × (ty ≡ types.class class)
class_of (types.class c) h = (c, refl)
class_of _ h = absurd (cc h)

pub auto_parts : (D : Declarations) (x : Variable) → covers_auto_variable D x ≡ true → AutoParts D x
auto_parts D x h =
    let a = both_true (covers_auto_owner x.owner) ((is_class_type x.ty && covers_group_type D x.ty) && x.auto) h in
    let b = both_true (is_class_type x.ty && covers_group_type D x.ty) x.auto a.1 in
    let c = both_true (is_class_type x.ty) (covers_group_type D x.ty) b.0 in
    let of = class_of x.ty c.0 in
    record { owner = a.0; class = of.0; is_type = of.1; covers = subst (λ ty. covers_group_type D ty ≡ true) of.1 c.1; is_auto = b.1 }

-- its type is none that a Def line gives
pub auto_known : (D : Declarations) (x : Variable) → AutoParts D x → is_unknown (Some x.ty) ≡ false
auto_known D x parts = ap (λ ty. is_unknown (Some ty)) parts.is_type

-- one whose declaration carries no issue
pub sound_auto : (U : Upgrade) (v : ℕ) (x : Variable) → slice_get U.program.declarations.vars v ≡ Some x
    → (parts : AutoParts U.program.declarations x) → is_flagged U v ≡ false → IsAutoOf U v parts.class
sound_auto U v x is parts sound = record {
  variable = x;
  is_variable = is;
  is_auto = parts.is_auto;
  sound = sound;
  is_type = parts.is_type;
  owner = parts.owner;
  covers = parts.covers;
}

-- one from which no chain leads to what breaks a rule
pub usable_auto : (U : Upgrade) (v : ℕ) (x : Variable) → slice_get U.program.declarations.vars v ≡ Some x
    → (parts : AutoParts U.program.declarations x) → IsSoundPoint U.program U.facts.marks (variable v) → IsAutoOf U v parts.class
usable_auto U v x is parts sound =
    sound_auto U v x is parts
    (is_unflagged U v x is (auto_known U.program.declarations x parts) (sound_unbroken U.program U.facts.marks (variable v) sound))

-- ---- uses

-- a covered use of an As New variable is of one that is reached, of a class of which objects may be made
pub record AutoUse (P : Program) (p v : ℕ) (ty : Ty) : Type 0 where
  pub used : Variable
  pub is_used : slice_get P.declarations.vars v ≡ Some used
  pub reached : is_reached P.declarations p v used.name used.owner ≡ true
  pub parts : AutoParts P.declarations used
  pub is_type : ty ≡ types.class parts.class
  pub made : covers_made P parts.class ≡ true

same_class : (c : ℕ) (ty : Ty) → is_same_type ty (types.class c) ≡ true → ty ≡ types.class c
same_class c (types.class d) h = ap types.class (eqb-true d c h)
same_class c _ h = absurd (cc h)

auto_use_of : (P : Program) (p v : ℕ) (ty : Ty) → covers_some_auto P.declarations p v ty (slice_get P.declarations.vars v) ≡ true
    → is_made_type P ty ≡ true → AutoUse P p v ty
auto_use_of P p v ty h made = by (slice_get P.declarations.vars v) refl h
  where
    by : (o : Option Variable) → slice_get P.declarations.vars v ≡ o → covers_some_auto P.declarations p v ty o ≡ true → AutoUse P p v ty
    by None e k = absurd (cc k)
    by (Some x) e k =
        let b = both_true (is_reached P.declarations p v x.name x.owner) (is_same_type ty x.ty && covers_auto_variable P.declarations x) k in
        let c = both_true (is_same_type ty x.ty) (covers_auto_variable P.declarations x) b.1 in
        let parts : AutoParts P.declarations x = auto_parts P.declarations x c.1 in
        let is : ty ≡ types.class parts.class = same_class parts.class ty (subst (λ z. is_same_type ty z ≡ true) parts.is_type c.0) in
        record { used = x; is_used = e; reached = b.0; parts = parts; is_type = is; made = subst (λ z. is_made_type P z ≡ true) is made }

pub auto_use : (P : Program) (p : ℕ) (mentions : List Mention) (v : VarId) (ty : Ty) → covers_auto_use P p mentions v ty ≡ true
    → (list_any (is_mention_of v) mentions ≡ true) × AutoUse P p v.0 ty
auto_use P p mentions v ty h =
    let covers = covers_some_auto P.declarations p v.0 ty (slice_get P.declarations.vars v.0) in
    let b = both_true (list_any (is_mention_of v) mentions) (covers && is_made_type P ty) h in
    let c = both_true covers (is_made_type P ty) b.1 in
    (b.0, auto_use_of P p v.0 ty c.0 c.1)
