-- The structure that is written for a covered user type: where it stands, and that names lead to it.
use Rattle.std.proofs.Common.{◌≡◌, refl, ap, sym, subst, ◌∙◌, ℕ, suc, ◌+◌, ◌<◌, Bool, true, false, cond, not, ◌&&◌, nat_eq, List, [], ◌∷◌, ◌++◌, length, Option, Some, None, option_map, slice_get, codes, arith, inl, inr, true≢false}
use Rattle.std.specs.Prelude.{◌||◌, filter, find, is_some, option_and_then, position}
use Rattle.std.specs.List.{flat_map, list_all, list_any}
use Rattle.std.proofs.lemmas.Bool.{eqb-true}
use Rattle.up_base.specs.Names.{is_same_name}
use Rattle.vb_tree.specs.Tree.{Module, Member, alone, group, proc}
use Rattle.vb_tree.specs.Tree as source
use Rattle.bound_tree.specs.declared.declared.TypeDecl.{TypeDecl}
use Rattle.bound_tree.specs.Tree.{Declarations}
use Rattle.bound_facts.specs.Members.{sub_from}
use Rattle.net_tree.specs.Tree as net
use Rattle.written_trees.specs.DeclaredMembers.{structure_of, type_name}
use Rattle.written_trees.specs.Members.{written_members}
use Rattle.written_trees.specs.Names.{Scope, is_standard_module, module_at, module_name, name_in, type_path, type_path_of}
use Rattle.written_trees.specs.Placing.{Placed, is_type_head}
use Rattle.written_trees.specs.Projects.{first_numbers, makers, module_scope, modules_from}
use Rattle.net_run.specs.Shapes as written_shape
use Rattle.net_run.specs.Shapes.{Shape, first_from, is_structure, is_structure_named, members_of, module_in, module_named, named_by, structure_by, structure_or, structure_found, foreign_structure, class_by}
use Rattle.net_tree.specs.Types.{TypeName}
use Rattle.run_matches.specs.Shared.{is_module, placed_module}
use Rattle.run_matches.specs.Upgrades.{Upgrade, home_of, structure_for, structure_number, structure_place}
use Rattle.run_matches.specs.UserTypes.{declares_type, has_fields, is_type_of, suits_type, type_leads, type_leads_home, type_leads_in}
use Rattle.run_statements.specs.Written.{IsWritten}
use Rattle.name_laws.proofs.Codes.{module_is}
use Rattle.name_laws.proofs.CoveredTypes.{among_flat}
use Rattle.name_laws.proofs.Counting.{found_stands}
use Rattle.name_laws.proofs.Led.{PlacedAt, first_written, placed_at}
use Rattle.name_laws.proofs.Lists.{Among, all_among, any_among, both_true, flat_among, some_same}
use Rattle.name_laws.proofs.Looked.{name_self, not_true, position_at}
use Rattle.name_laws.proofs.WrittenTypes.{among_filter, count_structures, filter_among, members_structures, own_structures, structures_of, type_below}

-- ---- what the tests say

abbrev first_of : Declarations → Module → Option (ℕ × Module)
first_of D m = first_from (λ (n : Module). is_same_name n.name m.name) 0 D.project.modules

-- the user type is declared in the module of a number, to which the name of that module leads
pub record TypeLed (D : Declarations) (t : ℕ) (d : TypeDecl) : Type 0 where
  pub home : ℕ
  pub is_home : position (λ (m : Module). nat_eq m.file d.module) D.project.modules ≡ Some home
  pub placed : Module × List Placed
  pub is_placed : placed_module D home ≡ Some placed
  pub known : is_standard_module (module_at D.project d.module) ≡ true
  pub standard : placed.0.class ≡ false
  pub first : ℕ × Module
  pub is_first : first_of D placed.0 ≡ Some first
  pub first_home : first.0 ≡ home
  pub declares : list_any (λ (p : Placed). is_type_of t p p.member) placed.1 ≡ true
  pub suits : list_all (λ (p : Placed). suits_type D t d p p.member) placed.1 ≡ true

pub type_led : (D : Declarations) (t : ℕ) (d : TypeDecl) → type_leads D t d ≡ true → TypeLed D t d
type_led D t d h =
    let a = both_true (is_standard_module (module_at D.project d.module))
    (type_leads_home D t d (position (λ (m : Module). nat_eq m.file d.module) D.project.modules)) h in
    by_home a.0 (position (λ (m : Module). nat_eq m.file d.module) D.project.modules) refl a.1
  where
    by_first : is_standard_module (module_at D.project d.module) ≡ true → (home : ℕ) (m : Module × List Placed)
        → position (λ (m : Module). nat_eq m.file d.module) D.project.modules ≡ Some home → placed_module D home ≡ Some m → m.0.class ≡ false
        → declares_type D t d m.1 ≡ true → (o : Option (ℕ × Module)) → first_of D m.0 ≡ o → is_module home o ≡ true → TypeLed D t d
    by_first known home m i j standard own None e k = absurd (cc k)
    by_first known home m i j standard own (Some f) e k =
        let a = both_true (nat_eq f.0 home) (not f.1.class) k in
        let b = both_true (list_any (λ (p : Placed). is_type_of t p p.member) m.1) (list_all (λ (p : Placed). suits_type D t d p p.member) m.1) own in
        record {
          home = home;
          is_home = i;
          placed = m;
          is_placed = j;
          known = known;
          standard = standard;
          first = f;
          is_first = e;
          first_home = eqb-true f.0 home a.0;
          declares = b.0;
          suits = b.1;
        }

    by_module : is_standard_module (module_at D.project d.module) ≡ true → (home : ℕ)
        → position (λ (m : Module). nat_eq m.file d.module) D.project.modules ≡ Some home → (o : Option (Module × List Placed)) → placed_module D home ≡ o
        → type_leads_in D t d home o ≡ true → TypeLed D t d
    by_module known home i None j k = absurd (cc k)
    by_module known home i (Some m) j k =
        let a = both_true (not m.0.class) (is_module home (first_of D m.0) && declares_type D t d m.1) k in
        let b = both_true (is_module home (first_of D m.0)) (declares_type D t d m.1) a.1 in
        by_first known home m i j (not_true m.0.class a.0) b.1 (first_of D m.0) refl b.0

    by_home : is_standard_module (module_at D.project d.module) ≡ true → (o : Option ℕ)
        → position (λ (m : Module). nat_eq m.file d.module) D.project.modules ≡ o → type_leads_home D t d o ≡ true → TypeLed D t d
    by_home known None e k = absurd (cc k)
    by_home known (Some home) e k = by_module known home e (placed_module D home) refl k

-- ---- what is found first

first_among : {X : Type 0} (test : X → Bool) (k : ℕ) (xs : List X) (x : X) → Among xs x → test x ≡ true
    → (n : ℕ) × (y : X) × (first_from test k xs ≡ Some (n, y)) × Among xs y × (test y ≡ true)
first_among test k [] x h e = absurd h
first_among {X} test k (y ∷ ys) x h e = by (test y) refl h (λ m. first_among test (suc k) ys x m e)
  where
    by : (b : Bool) → test y ≡ b → Among (y ∷ ys) x
        → (Among ys x → (n : ℕ) × (z : X) × (first_from test (suc k) ys ≡ Some (n, z)) × Among ys z × (test z ≡ true))
        → (n : ℕ) × (z : X) × (first_from test k (y ∷ ys) ≡ Some (n, z)) × Among (y ∷ ys) z × (test z ≡ true)
    by true q m more = (k, y, ap (λ t. cond t (Some (k, y)) (first_from test (suc k) ys)) q, inl refl, q)
    by false q (inl s) more = absurd (true≢false (sym e ∙ ap test (sym s) ∙ q))
    by false q (inr m) more =
        let f = more m in
        (f.0, f.1, ap (λ t. cond t (Some (k, y)) (first_from test (suc k) ys)) q ∙ f.2, inr f.3, f.4)

pub structure_named : (name : List ℕ) (m : net.Member) → is_structure_named name m ≡ true → is_structure m ≡ true
structure_named name (net.structure s) h = refl
structure_named name _ h = absurd (cc h)

pub same_place : (i n k : ℕ) → n ≡ 0 + i → n ≡ k → i ≡ k
same_place i n k e f = omega (arith, e, f)

-- ---- the structure

-- a Type among the members of a module
pub record TypeGroup (ps : List Placed) (p : Placed) (lines : List source.Line) : Type 0 where
  pub there : Among ps p
  pub head : source.Line
  pub close : source.Line
  pub is_member : p.member ≡ group head lines close
  pub is_type : is_type_head head.form ≡ true

pub group_of : (S : Scope) (ps : List Placed) (p : Placed) (m : Member) (x : net.Member) → Among ps p → p.member ≡ m → Among (own_structures S p m) x
    → (lines : List source.Line) × TypeGroup ps p lines × (x ≡ structure_of S p lines)
group_of S ps p (alone l) x a e h = absurd h
group_of S ps p (group head lines close) x a e h = by (is_type_head head.form) refl h
  where
    by : (b : Bool) → is_type_head head.form ≡ b → Among (cond b (structure_of S p lines ∷ []) []) x
        → (ls : List source.Line) × TypeGroup ps p ls × (x ≡ structure_of S p ls)
    by true q (inl s) = (lines, record { there = a; head = head; close = close; is_member = e; is_type = q }, sym s)
    by true q (inr s) = absurd s
    by false q s = absurd s
group_of S ps p (proc head body close) x a e h = absurd h

type_group : (D : Declarations) (t : ℕ) (ps : List Placed) (p : Placed) (m : Member) → Among ps p → p.member ≡ m → is_type_of t p m ≡ true
    → (lines : List source.Line) × TypeGroup ps p lines × (t ≡ p.at.user_type)
type_group D t ps p (alone l) a e h = absurd (cc h)
type_group D t ps p (group head lines close) a e h =
    let b = both_true (is_type_head head.form) (nat_eq t p.at.user_type) h in
    (lines, record { there = a; head = head; close = close; is_member = e; is_type = b.0 }, eqb-true t p.at.user_type b.1)
type_group D t ps p (proc head body close) a e h = absurd (cc h)

group_structure : (S : Scope) (ps : List Placed) (p : Placed) (lines : List source.Line) → TypeGroup ps p lines → structures_of S p ≡ structure_of S p lines ∷ []
group_structure S ps p lines G =
    ap (own_structures S p) G.is_member ∙ ap (λ b. cond b (structure_of S p lines ∷ []) []) G.is_type

-- a Type of the name of the user type is it, with its fields
suited_fields : (D : Declarations) (t : ℕ) (d : TypeDecl) (ps : List Placed) (p : Placed) (lines : List source.Line) → TypeGroup ps p lines
    → list_all (λ (p : Placed). suits_type D t d p p.member) ps ≡ true → is_same_name (type_name (slice_get D.types p.at.user_type)) d.name ≡ true
    → has_fields D d.module (suc p.at.statement) lines d ≡ true
suited_fields D t d ps p lines G all named =
    by (is_type_head G.head.form) (is_same_name (type_name (slice_get D.types p.at.user_type)) d.name) G.is_type named
    (ap (suits_type D t d p) (sym G.is_member) ∙ all_among (λ (p : Placed). suits_type D t d p p.member) ps p all G.there)
  where
    fields : Bool
    fields = has_fields D d.module (suc p.at.statement) lines d

    by : (b c : Bool) → b ≡ true → c ≡ true → (not b || ((nat_eq t p.at.user_type && fields) || not c)) ≡ true → fields ≡ true
    by false c e f h = absurd (cc e)
    by true false e f h = absurd (cc f)
    by true true e f h = (both_true (nat_eq t p.at.user_type) fields (first_one (nat_eq t p.at.user_type && fields) h)).1
      where
        first_one : (a : Bool) → (a || false) ≡ true → a ≡ true
        first_one true h = refl
        first_one false h = absurd (cc h)

module _ (U : Upgrade) (I : IsWritten U) (t : ℕ) (d : TypeDecl) (is_declared : slice_get U.program.declarations.types t ≡ Some d)
    (L : TypeLed U.program.declarations t d) where
  abbrev D : Declarations
  D = U.program.declarations

  abbrev N : net.Project
  N = U.written

  abbrev m : Module
  m = L.placed.0

  abbrev ps : List Placed
  ps = L.placed.1

  abbrev S : Scope
  S = module_scope U.program U.facts m

  abbrev name : List ℕ
  name = d.name

  modules_are : N.modules ≡ modules_from U.program U.facts first_numbers D.project.modules
  modules_are = ap (λ (M : net.Project). M.modules) I.is_written

  abbrev A : PlacedAt U.program U.facts first_numbers D.project.modules L.home L.placed
  A = placed_at U.program U.facts first_numbers D.project.modules L.home L.placed L.is_placed

  abbrev members : List net.Member
  members = written_members U.program S A.numbers m.comments m.members

  members_are : members_of (written_shape.module_at N L.home) ≡ members
  members_are =
      ap (λ ms. members_of (module_in ms L.home)) modules_are ∙ ap members_of A.is_written
      ∙ ap (λ c. makers (c && is_some (sub_from m.file (codes "Class_Initialize") 0 D.procs)) ++ members) L.standard

  at_file : (nat_eq m.file d.module ≡ true) × (find (λ (n : Module). nat_eq n.file d.module) D.project.modules ≡ Some m)
  at_file = position_at (λ (n : Module). nat_eq n.file d.module) D.project.modules L.home m L.is_home A.stands

  pub file_is : m.file ≡ d.module
  file_is = eqb-true m.file d.module at_file.0

  structures_are : filter is_structure members ≡ flat_map (structures_of S) ps
  structures_are = members_structures U.program S A.numbers m.comments m.members ∙ ap (flat_map (structures_of S)) (sym A.placed)

  abbrev OwnGroup : Type 0
  OwnGroup = (p : Placed) × (lines : List source.Line) × TypeGroup ps p lines × (t ≡ p.at.user_type)

  own_group : OwnGroup
  own_group =
      let a = any_among (λ (p : Placed). is_type_of t p p.member) ps L.declares in
      let g = type_group D t ps a.0 a.0.member a.1 refl a.2 in
      (a.0, g.0, g.1, g.2)

  -- its number is below that of the structures
  pub number_is_below : t < count_structures N.modules
  number_is_below =
      let g = own_group in
      let below = type_below U.program U.facts first_numbers D.project.modules L.home L.placed L.is_placed g.0 g.2.there
      (ap length (group_structure S ps g.0 g.1 g.2)) in
      let number = g.3 in
      let count = ap count_structures modules_are in
      omega (arith, below, number, count)

  abbrev Found : Type 0
  Found = (n : ℕ) × (x : net.Member) × (first_from (is_structure_named name) 0 members ≡ Some (n, x)) × Among members x × (is_structure_named name x ≡ true)

  found : Found
  found =
      let g = own_group in
      let own : Among (structures_of S g.0) (structure_of S g.0 g.1) =
      subst (λ (zs : List net.Member). Among zs (structure_of S g.0 g.1)) (sym (group_structure S ps g.0 g.1 g.2)) (inl refl) in
      let all : Among (filter is_structure members) (structure_of S g.0 g.1) =
      subst (λ (zs : List net.Member). Among zs (structure_of S g.0 g.1)) (sym structures_are)
      (flat_among (structures_of S) ps g.0 (structure_of S g.0 g.1) g.2.there own) in
      let named : is_same_name (type_name (slice_get D.types g.0.at.user_type)) name ≡ true =
      ap (λ k. is_same_name (type_name (slice_get D.types k)) name) (sym g.3) ∙ ap (λ o. is_same_name (type_name o) name) is_declared ∙ name_self name in
      first_among (is_structure_named name) 0 members (structure_of S g.0 g.1) (among_filter is_structure members (structure_of S g.0 g.1) all).0 named

  -- the structure with its fields
  pub record Structure : Type 0 where
    pub number : ℕ
    pub place : Placed
    pub lines : List source.Line
    pub is_first : first_from (is_structure_named name) 0 (members_of (written_shape.module_at N L.home)) ≡ Some (number, structure_of S place lines)
    pub fields : has_fields D d.module (suc place.at.statement) lines d ≡ true

  pub structure : Structure
  structure =
      let f = found in
      let x : net.Member = f.1 in
      let all : Among (flat_map (structures_of S) ps) x =
      subst (λ (zs : List net.Member). Among zs x) structures_are (filter_among is_structure members x f.3 (structure_named name x f.4)) in
      let q = among_flat (structures_of S) ps x all in
      let g = group_of S ps q.0 q.0.member x q.1 refl q.2 in
      let named : is_structure_named name (structure_of S q.0 g.0) ≡ true = subst (λ z. is_structure_named name z ≡ true) g.2 f.4 in
      record {
        number = f.0;
        place = q.0;
        lines = g.0;
        is_first =
            ap (first_from (is_structure_named name) 0) members_are ∙ f.2
            ∙ ap (λ (z : net.Member). Some (f.0, z)) g.2;
        fields = suited_fields D t d ps q.0 g.0 g.1 L.suits named;
      }

  pub place_is : structure_place U t ≡ Some (L.home, structure.number)
  place_is =
      ap (option_and_then (structure_for U)) is_declared ∙ ap (option_and_then (structure_number U d.name)) L.is_home
      ∙ ap (option_map (λ (f : ℕ × net.Member). (L.home, f.0))) structure.is_first

  -- ---- names lead there

  module _ (shape : ℕ → TypeName → Shape) where
    abbrev made : Shape
    made = structure_by shape L.home (structure.number, structure_of S structure.place structure.lines)

    in_home : (otherwise : Shape) → structure_or shape L.home name (members_of (written_shape.module_at N L.home)) otherwise ≡ made
    in_home otherwise = ap (structure_found shape L.home otherwise) structure.is_first

    -- behind the name of its module
    qualified_leads : (h : ℕ) → named_by shape N h (m.name ∷ name ∷ []) ≡ made
    qualified_leads h =
        let w = first_written U.program U.facts m.name 0 first_numbers D.project.modules L.first L.is_first in
        let named : module_named N m.name ≡ Some (L.first.0, w.0) =
        ap (λ ms. first_from (λ (q : net.Module). is_same_name q.name m.name) 0 ms) modules_are ∙ w.1 in
        let at = found_stands (λ (q : net.Module). is_same_name q.name m.name) 0 N.modules L.first.0 w.0 named in
        let number : at.0 ≡ L.home = same_place at.0 L.first.0 L.home at.1 L.first_home in
        let stands : written_shape.module_at N L.home ≡ Some w.0 =
        module_is N.modules L.home ∙ ap (slice_get N.modules) (sym number) ∙ at.2 in
        let members_same : w.0.members ≡ members_of (written_shape.module_at N L.home) = ap members_of (sym stands) in
        ap (foreign_structure shape name) named
        ∙ ap (λ ms. structure_or shape L.first.0 name ms written_shape.shapeless) members_same
        ∙ ap (λ k. structure_or shape k name (members_of (written_shape.module_at N L.home)) written_shape.shapeless) L.first_home
        ∙ in_home written_shape.shapeless

    -- by itself in its module
    alone_leads : (file home : ℕ) → nat_eq file d.module ≡ true → home_of U file ≡ Some home → named_by shape N home (name ∷ []) ≡ made
    alone_leads file home e h =
        let same : file ≡ d.module = eqb-true file d.module e in
        let here : home ≡ L.home = some_same home L.home (sym h ∙ ap (home_of U) same ∙ L.is_home) in
        ap (λ k. named_by shape N k (name ∷ [])) here ∙ in_home (class_by (module_named N name))

    path_by : (file home : ℕ) (q b : Bool) → home_of U file ≡ Some home → nat_eq file d.module ≡ b
        → named_by shape N home (cond (q || (not b && true)) (m.name ∷ name ∷ []) (name ∷ [])) ≡ made
    path_by file home true b h e = qualified_leads home
    path_by file home false false h e = qualified_leads home
    path_by file home false true h e = alone_leads file home e h

    path_is : (file : ℕ) (q : Bool) → type_path D file q t ≡ cond (q || (not (nat_eq file d.module) && true)) (m.name ∷ name ∷ []) (name ∷ [])
    path_is file q =
        ap (type_path_of D file q) is_declared
        ∙ ap (λ c. cond (q || (not (nat_eq file d.module) && c)) (module_name D d.module ∷ name ∷ []) (name ∷ [])) L.known
        ∙ ap (λ o. cond (q || (not (nat_eq file d.module) && true)) (name_in o ∷ name ∷ []) (name ∷ [])) at_file.1

    -- what is written for its name in a module leads to it
    pub path_leads : (file home : ℕ) (q : Bool) → home_of U file ≡ Some home → named_by shape N home (type_path D file q t) ≡ made
    path_leads file home q h = ap (named_by shape N home) (path_is file q) ∙ path_by file home q (nat_eq file d.module) h refl
