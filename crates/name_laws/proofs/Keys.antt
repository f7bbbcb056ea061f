-- Statics of a written project have different keys, but those of one name in one procedure.
use Rattle.std.proofs.Common.{◌≡◌, refl, ap, sym, subst, ◌∙◌, ℕ, zero, suc, ◌≤◌, arith, Bool, true, false, cond, List, [], ◌∷◌, ◌++◌, get_or, Option, Some, None, option_map, slice_get, inl, inr, ⊎_elim, true≢false}
use Rattle.std.specs.Prelude.{position, option_and_then}
use Rattle.std.proofs.lemmas.Bool.{eqb-true}
use Rattle.std.proofs.lemmas.List.Quantifiers.{position-Some}
use Rattle.up_base.specs.Names.{is_same_name}
use Rattle.vb_tree.specs.declared.declared.Owner.{Owner}
use Rattle.vb_tree.specs.declared.declared.Owner.TheVariants as owner
use Rattle.bound_tree.specs.Tree.{Variable}
use Rattle.net_tree.specs.Tree as net
use Rattle.run_base.specs.Positions.{Key}
use Rattle.written_trees.specs.Order.{written_order}
use Rattle.net_run.specs.Members.{Code, part_code, codes_of_member, codes_of_members, codes_of_modules, codes_of, code_at, member_named}
use Rattle.net_run.specs.Names.{key_of}
use Rattle.net_run.specs.Program.{static_key}
use Rattle.net_run.specs.Shapes.{members_of, module_at}
use Rattle.run_matches.specs.Upgrades.{Upgrade, is_that, written_number, code_of, home_of, member_key, is_dim_named, static_key_in, owned_key, declared_key, variable_key}
use Rattle.vb6_run.specs.Programs.{is_static_of}
use Rattle.net_tree.specs.Types.{object}
use Rattle.name_laws.proofs.Lists.{same_number, some_same, Among, among_at, among_append}
use Rattle.name_laws.proofs.Looked.{name_joined}

-- ---- codes

abbrev SameCode : Code → Code → Type 0
SameCode c d = (c.home ≡ d.home) × (c.member ≡ d.member) × (c.sets ≡ d.sets)

abbrev Apart : List Code → Type 0
Apart [] = Unit {0}
Apart (c ∷ cs) = ((d : Code) → Among cs d → SameCode c d → ⊥) × Apart cs

apart_append : (xs ys : List Code) → Apart xs → Apart ys → ((c d : Code) → Among xs c → Among ys d → SameCode c d → ⊥) → Apart (xs ++ ys)
apart_append [] ys h k between = k
apart_append (x ∷ xs) ys h k between = (
  λ d m s. ⊎_elim (λ a. h.0 d a s) (λ a. between x d (inl refl) a s) (among_append xs ys d m),
  apart_append xs ys h.1 k (λ c d a b. between c d (inr a) b),
)

-- two codes at places of a list of which all are apart
apart_places : (cs : List Code) → Apart cs → (i j : ℕ) (c d : Code) → slice_get cs i ≡ Some c → slice_get cs j ≡ Some d → SameCode c d → i ≡ j
apart_places [] h i j c d e f s = absurd (cc e)
apart_places (x ∷ cs) h zero zero c d e f s = refl
apart_places (x ∷ cs) h zero (suc j) c d e f s =
    absurd (h.0 d (among_at cs j d f) (subst (λ (z : Code). SameCode z d) (sym (some_same x c e)) s))
apart_places (x ∷ cs) h (suc i) zero c d e f s =
    let back : SameCode d c = (sym s.0, sym s.1, sym s.2) in
    absurd (h.0 c (among_at cs i c e) (subst (λ (z : Code). SameCode z c) (sym (some_same x d f)) back))
apart_places (x ∷ cs) h (suc i) (suc j) c d e f s = ap suc (apart_places cs h.1 i j c d e f s)

-- ---- those of a project

abbrev IsOf : (home k : ℕ) → Code → Type 0
IsOf home k c = (c.home ≡ home) × (c.member ≡ k)

part_of : (home k : ℕ) (sets : Bool) (p : net.Property) (o : Option net.Procedure) (c : Code) → Among (part_code home k sets p o) c
    → IsOf home k c × (c.sets ≡ sets)
part_of home k sets p None c m = absurd m
part_of home k sets p (Some q) c (inl e) = ((ap (λ (z : Code). z.home) (sym e), ap (λ (z : Code). z.member) (sym e)), ap (λ (z : Code). z.sets) (sym e))
part_of home k sets p (Some q) c (inr m) = absurd m

part_apart : (home k : ℕ) (sets : Bool) (p : net.Property) (o : Option net.Procedure) → Apart (part_code home k sets p o)
part_apart home k sets p None = tt
part_apart home k sets p (Some q) = (λ d m s. m, tt)

member_of : (home k : ℕ) (m : net.Member) (c : Code) → Among (codes_of_member home k m) c → IsOf home k c
member_of home k (net.member_comment units) c a = absurd a
member_of home k (net.variable visibility v) c a = absurd a
member_of home k (net.const_member visibility d) c a = absurd a
member_of home k (net.structure s) c a = absurd a
member_of home k (net.property p) c a =
    ⊎_elim (λ x. (part_of home k false p p.get c x).0) (λ x. (part_of home k true p p.set c x).0)
    (among_append (part_code home k false p p.get) (part_code home k true p p.set) c a)
member_of home k (net.proc p) c (inl e) = (ap (λ (z : Code). z.home) (sym e), ap (λ (z : Code). z.member) (sym e))
member_of home k (net.proc p) c (inr a) = absurd a

member_apart : (home k : ℕ) (m : net.Member) → Apart (codes_of_member home k m)
member_apart home k (net.member_comment units) = tt
member_apart home k (net.variable visibility v) = tt
member_apart home k (net.const_member visibility d) = tt
member_apart home k (net.structure s) = tt
member_apart home k (net.property p) =
    apart_append (part_code home k false p p.get) (part_code home k true p p.set) (part_apart home k false p p.get) (part_apart home k true p p.set)
    (λ c d a b s. true≢false (sym (part_of home k true p p.set d b).1 ∙ sym s.2 ∙ (part_of home k false p p.get c a).1))
member_apart home k (net.proc p) = (λ d m s. m, tt)

up_one : (k n : ℕ) → suc k ≤ n → k ≤ n
up_one k n h = omega (arith, h)

no_less : (k n : ℕ) → n ≡ k → k ≤ n
no_less k n e = omega (arith, e)

not_both : (k a b : ℕ) → a ≡ k → suc k ≤ b → a ≡ b → ⊥
not_both k a b e h s = omega (arith, e, h, s)

members_from : (home k : ℕ) (ms : List net.Member) (c : Code) → Among (codes_of_members home k ms) c → (c.home ≡ home) × (k ≤ c.member)
members_from home k [] c a = absurd a
members_from home k (m ∷ ms) c a =
    ⊎_elim (λ x. let o = member_of home k m c x in (o.0, no_less k c.member o.1))
    (λ x. let o = members_from home (suc k) ms c x in (o.0, up_one k c.member o.1)) (among_append (codes_of_member home k m) (codes_of_members home (suc k) ms) c a)

members_apart : (home k : ℕ) (ms : List net.Member) → Apart (codes_of_members home k ms)
members_apart home k [] = tt
members_apart home k (m ∷ ms) =
    apart_append (codes_of_member home k m) (codes_of_members home (suc k) ms) (member_apart home k m) (members_apart home (suc k) ms)
    (λ c d a b s. not_both k c.member d.member (member_of home k m c a).1 (members_from home (suc k) ms d b).1 s.1)

modules_above : (home : ℕ) (ms : List net.Module) (c : Code) → Among (codes_of_modules home ms) c → home ≤ c.home
modules_above home [] c a = absurd a
modules_above home (m ∷ ms) c a =
    ⊎_elim (λ x. no_less home c.home (members_from home 0 m.members c x).0) (λ x. up_one home c.home (modules_above (suc home) ms c x))
    (among_append (codes_of_members home 0 m.members) (codes_of_modules (suc home) ms) c a)

modules_apart : (home : ℕ) (ms : List net.Module) → Apart (codes_of_modules home ms)
modules_apart home [] = tt
modules_apart home (m ∷ ms) =
    apart_append (codes_of_members home 0 m.members) (codes_of_modules (suc home) ms) (members_apart home 0 m.members) (modules_apart (suc home) ms)
    (λ c d a b s. not_both home c.home d.home (members_from home 0 m.members c a).0 (modules_above (suc home) ms d b) s.0)

-- each written procedure stands at one place
pub same_code : (N : net.Project) (a b : ℕ) (c d : Code) → code_at N a ≡ Some c → code_at N b ≡ Some d → c.home ≡ d.home → c.member ≡ d.member → c.sets ≡ d.sets
    → a ≡ b
same_code N a b c d e f home member sets = apart_places (codes_of N) (modules_apart 0 N.modules) a b c d e f (home, member, sets)

-- ---- procedures

that_number : (p : ℕ) (o : Option ℕ) → is_that p o ≡ true → o ≡ Some p
that_number p None h = absurd (cc h)
that_number p (Some q) h = ap {B = Option ℕ} Some (sym (eqb-true p q h))

-- a written procedure is that of one procedure of the source
pub same_written : (U : Upgrade) (p q n : ℕ) → written_number U p ≡ Some n → written_number U q ≡ Some n → p ≡ q
same_written U p q n e f =
    let order = written_order U.program U.facts in
    let a = position-Some (is_that p) order n None e in
    let b = position-Some (is_that q) order n None f in
    some_same p q (sym (that_number p (get_or order n None) a.1) ∙ that_number q (get_or order n None) b.1)

-- ---- keys

abbrev has_third : Option Key → Bool
has_third None = false
has_third (Some []) = false
has_third (Some (a ∷ [])) = false
has_third (Some (a ∷ b ∷ [])) = false
has_third (Some (a ∷ b ∷ c ∷ k)) = true

same_flag : (a b : Bool) → ◌≡◌ {A = ℕ} (cond a 1 0) (cond b 1 0) → a ≡ b
same_flag true true e = refl
same_flag true false e = absurd (omega (arith, e))
same_flag false true e = absurd (omega (arith, e))
same_flag false false e = refl

-- the parts of a Static's key
pub record StaticKey (U : Upgrade) (p : ℕ) (name : List ℕ) (key : Key) : Type 0 where
  pub number : ℕ
  pub is_number : written_number U p ≡ Some number
  pub code : Code
  pub is_code : code_at U.written number ≡ Some code
  pub place : ℕ
  pub is_place : position (is_dim_named name) code.procedure.prologue ≡ Some place
  pub is_key : key ≡ static_key code place

pub static_parts : (U : Upgrade) (p : ℕ) (name : List ℕ) (key : Key) → option_and_then (static_key_in name) (code_of U p) ≡ Some key → StaticKey U p name key
static_parts U p name key h = by_number (written_number U p) refl h
  where
    by_place : (n : ℕ) → written_number U p ≡ Some n → (c : Code) → code_at U.written n ≡ Some c → (o : Option ℕ)
        → position (is_dim_named name) c.procedure.prologue ≡ o → option_map (static_key c) o ≡ Some key → StaticKey U p name key
    by_place n e c f None g k = absurd (cc k)
    by_place n e c f (Some i) g k = record {
      number = n;
      is_number = e;
      code = c;
      is_code = f;
      place = i;
      is_place = g;
      is_key = sym (some_same (static_key c i) key k);
    }

    by_code : (n : ℕ) → written_number U p ≡ Some n → (o : Option Code) → code_at U.written n ≡ o → option_and_then (static_key_in name) o ≡ Some key
        → StaticKey U p name key
    by_code n e None f k = absurd (cc k)
    by_code n e (Some c) f k = by_place n e c f (position (is_dim_named name) c.procedure.prologue) refl k

    by_number : (o : Option ℕ) → written_number U p ≡ o → option_and_then (static_key_in name) (option_and_then (code_at U.written) o) ≡ Some key
        → StaticKey U p name key
    by_number None e k = absurd (cc k)
    by_number (Some n) e k = by_code n e (code_at U.written n) refl k

both_named : (a b : List ℕ) (d : net.Dim) → is_dim_named a d ≡ true → is_dim_named b d ≡ true → is_same_name b a ≡ true
both_named a b (net.local v) h e = name_joined v.name a b h e
both_named a b (net.static_local v) h e = name_joined v.name a b h e
both_named a b (net.constant c) h e = name_joined c.name a b h e

-- one key means one procedure and one name
pub static_same : (U : Upgrade) (p q : ℕ) (a b : List ℕ) (key : Key) → StaticKey U p a key → StaticKey U q b key → (p ≡ q) × (is_same_name b a ≡ true)
static_same U p q a b key x y =
    let keys : static_key x.code x.place ≡ static_key y.code y.place = sym x.is_key ∙ y.is_key in
    let at : (n : ℕ) → get_or (static_key x.code x.place) n 0 ≡ get_or (static_key y.code y.place) n 0 = λ n. ap (λ k. get_or k n 0) keys in
    let number : x.number ≡ y.number =
    same_code U.written x.number y.number x.code y.code x.is_code y.is_code (at 0) (at 1) (same_flag x.code.sets y.code.sets (at 2)) in
    let one : p ≡ q = same_written U p q x.number x.is_number (y.is_number ∙ ap {B = Option ℕ} Some (sym number)) in
    let code : x.code ≡ y.code = some_same x.code y.code (sym x.is_code ∙ ap (code_at U.written) number ∙ y.is_code) in
    let place : x.place ≡ y.place = at 3 in
    let dims = x.code.procedure.prologue in
    let there : position (is_dim_named b) dims ≡ Some x.place =
    ap (λ (c : Code). position (is_dim_named b) c.procedure.prologue) code ∙ y.is_place ∙ ap {B = Option ℕ} Some (sym place) in
    let none : net.Dim = net.local (record { name = []; ty = object; value = None }) in
    let d = position-Some (is_dim_named a) dims x.place none x.is_place in
    let e = position-Some (is_dim_named b) dims x.place none there in
    (one, both_named a b (get_or dims x.place none) d.1 e.1)

-- a variable with the key of a Static is a Static of its name and its procedure
pub key_of_static : (U : Upgrade) (p : ℕ) (name : List ℕ) (key : Key) → StaticKey U p name key → (u : ℕ) → variable_key U u ≡ Some key
    → (z : Variable) × (slice_get U.program.declarations.vars u ≡ Some z) × (is_static_of p z.owner ≡ true) × (is_same_name z.name name ≡ true)
key_of_static U p name key x u h = by_variable (slice_get U.program.declarations.vars u) refl h
  where
    no_key : ◌≡◌ {A = Option Key} None (Some key) → ⊥
    no_key e = cc e

    third : has_third (Some key) ≡ true
    third = ap (λ (k : Key). has_third (Some k)) x.is_key

    by_found : (f h : ℕ) (name : List ℕ) (o : Option (ℕ × net.Member)) → option_map (λ (found : ℕ × net.Member). key_of h found.0) o ≡ Some key → ⊥
    by_found f h name None k = no_key k
    by_found f h name (Some m) k = true≢false (sym third ∙ sym (ap has_third k))

    by_home : (f : ℕ) (name : List ℕ) (o : Option ℕ) → option_and_then (member_key U name) o ≡ Some key → ⊥
    by_home f name None k = no_key k
    by_home f name (Some h) k = by_found f h name (member_named name (members_of (module_at U.written h))) k

    by_owner : (z : Variable) → slice_get U.program.declarations.vars u ≡ Some z → (o : Owner) → z.owner ≡ o → owned_key U z.name o ≡ Some key
        → (z : Variable) × (slice_get U.program.declarations.vars u ≡ Some z) × (is_static_of p z.owner ≡ true) × (is_same_name z.name name ≡ true)
    by_owner z e (owner.Module f) o k = absurd (by_home f z.name (home_of U f) k)
    by_owner z e (owner.Static q) o k =
        let s = static_same U p q.0 name z.name key x (static_parts U q.0 z.name key k) in
        (z, e, ap (is_static_of p) o ∙ same_number p q.0 s.0, s.1)
    by_owner z e (owner.Local q) o k = absurd (no_key k)
    by_owner z e (owner.Value q) o k = absurd (no_key k)
    by_owner z e (owner.Reference q) o k = absurd (no_key k)
    by_owner z e (owner.Answer q) o k = absurd (no_key k)
    by_owner z e (owner.Field t) o k = absurd (no_key k)

    by_variable : (o : Option Variable) → slice_get U.program.declarations.vars u ≡ o → declared_key U o ≡ Some key
        → (z : Variable) × (slice_get U.program.declarations.vars u ≡ Some z) × (is_static_of p z.owner ≡ true) × (is_same_name z.name name ≡ true)
    by_variable None e k = absurd (no_key k)
    by_variable (Some z) e k = by_owner z e z.owner refl k
