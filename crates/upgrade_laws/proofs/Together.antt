-- The parts of a property stand in the module of its first part.
use Rattle.std.proofs.Common.{◌≡◌, ◌⊎◌, inl, inr, ℕ, zero, suc, ◌+◌, Bool, true, false, nat_eq, List, [], ◌∷◌, ◌++◌, length, map, Option, Some, None, slice_get, refl, sym, ap, subst, ◌∙◌, arith}
use Rattle.std.specs.Prelude.{◌&&◌, cond, is_some, option_map}
use Rattle.std.specs.List.{AllByRecursion as Each}
use Rattle.std.proofs.lemmas.Bool.Decides.{nat_tests}
use Rattle.std.proofs.lemmas.List.{map-append}
use Rattle.std.proofs.lemmas.Option.{none-some, same_Some, slice_get-map}
use Rattle.up_base.specs.declared.place.Place.{Place}
use Rattle.up_base.specs.Names.{is_same_name}
use Rattle.vb_tree.specs.FlatLines.{flat_lines, member_lines}
use Rattle.vb_tree.specs.Tree.{Line, Member, alone, group, proc, Module, Project}
use Rattle.bound_tree.specs.declared.body.Bound.{Bound}
use Rattle.bound_tree.specs.declared.marks.Marks.{Marks}
use Rattle.bound_tree.specs.declared.rule_set.RuleSet.{RuleSet}
use Rattle.bound_tree.specs.Tree.{Declarations, Procedure, Program, Variable}
use Rattle.bound_tree.specs.View.{program_of}
use Rattle.written_trees.specs.Arguments.{is_property_kind}
use Rattle.written_trees.specs.Comments.{Comment, past}
use Rattle.written_trees.specs.Placing.{Numbers as Standing, behind_member, behind_members, last_line, placed_members}
use Rattle.written_trees.specs.Projects.{first_numbers, next_module}
use Rattle.declared_names.specs.Declaring.{Declares, Head, Lists, NamedProcedure, Numbers, a_procedure, counts, follow, head_declares, head_of, inside_declares, lists_of, member_declares, module_declares, no_lists, nothing, numbers_behind, procedure_declares, project_declares, with_declared}
use Rattle.declared_names.specs.Parts.{are_parts, first_part, firsts_from, is_property}
use Rattle.declarations.specs.Bare.{bare_of, bare_procedures}
use Rattle.declarations.specs.Constants.{settled}
use Rattle.declarations.specs.Finals.{IsDeclared, final_procedure, final_variable, plans_of}
use Rattle.declarations.specs.Numbered.{numbered}
use Rattle.declarations.specs.Typed.{typed_variables, with_result}
use Rattle.binder.specs.Programs.{all_declarations}
use Rattle.broken_rules.specs.View.{IsBoundTo}
use Rattle.run_matches.specs.Sites.{Site, module_sites, sites_from}
use Rattle.run_statements.specs.Written.{PartsStandTogether}
use Rattle.upgrade_laws.specs.Ordered.{AreOrderly, IsOrderly}
use Rattle.upgrade_laws.specs.Separate.{HaveDifferentFiles}
use Rattle.upgrade_laws.proofs.Bodies.{sites_at}
use Rattle.upgrade_laws.proofs.Lists.{each_append, each_from, each_got}
use Rattle.upgrade_laws.proofs.Settling.{declared_project, settled_keeps}
use Rattle.upgrade_laws.proofs.Standing.{Foreign, Own, head_procs, member_foreign, procedure_own}
use Rattle.upgrade_laws.proofs.Walked.{procs_follow}

-- ---- the files of procedures

abbrev pub named_file : NamedProcedure → ℕ
named_file p = p.module_number

abbrev pub site_file : Site → ℕ
site_file s = s.source_module.file

abbrev files_in : Lists → List ℕ
files_in d = map named_file d.procs

files_along : (f g : Declares) (k : Numbers) → files_in (follow f g k) ≡ files_in (f k) ++ files_in (g (numbers_behind k (f k)))
unfolding follow
files_along f g k = map-append named_file (f k).procs (g (numbers_behind k (f k))).procs

nothing_filed : (k : Numbers) → files_in (nothing k) ≡ []
unfolding nothing
nothing_filed k = refl

none_filed : (ps : List NamedProcedure) → length ps ≡ 0 → map named_file ps ≡ []
none_filed [] e = refl
none_filed (p ∷ ps) e = absurd (omega (arith, e))

head_filed : (file : ℕ) (place : Place) (n : ℕ) (d : Head) (k : Numbers) → files_in (a_procedure file place n d k) ≡ file ∷ []
unfolding a_procedure
head_filed file place n d k = refl

-- a procedure is the only one that its lines declare
procedure_filed : (file : ℕ) (place : Place) (n : ℕ) (d : Head) (body : List Line) (k : Numbers) → length (procedure_declares file place n d body k).procs ≡ 1
    → files_in (procedure_declares file place n d body k) ≡ file ∷ []
unfolding procedure_declares
procedure_filed file place n d body k e =
    let f : Declares = a_procedure file place n d in
    let g : Declares = inside_declares (record { 0 = k.procs }) place n d body in
    let inner : Numbers = numbers_behind k (f k) in
    files_along f g k
    ∙ ap (λ (x : List ℕ). x ++ files_in (g inner)) (head_filed file place n d k)
    ∙ ap (λ (x : List ℕ). file ∷ x) (none_filed (g inner).procs (omega (arith, procs_follow f g k, head_procs file place n d k, e)))

headed_filed : (file : ℕ) (place : Place) (n : ℕ) (o : Option Head) (body : List Line) (k : Numbers) → is_some o ≡ true
    → length (head_declares file place n o body k).procs ≡ 1 → files_in (head_declares file place n o body k) ≡ file ∷ []
headed_filed file place n None body k some e = absurd (cc some)
headed_filed file place n (Some d) body k some e = procedure_filed file place n d body k e

-- each procedure of a module declares one of its file
members_filed : (home : ℕ) (m : Module) (at : Standing) (cs : List Comment) (n : ℕ) (ms : List Member) (k : Numbers) → Each (IsOrderly m.file) ms
    → files_in (module_declares m.file n ms k) ≡ map site_file (sites_at home m (placed_members at cs ms))
members_filed home m at cs n [] k o = nothing_filed k
members_filed home m at cs n (alone l ∷ ms) k o =
    let x : Member = alone l in
    let later : ℕ = n + length (member_lines x) in
    let f : Declares = member_declares m.file n x in
    let g : Declares = module_declares m.file later ms in
    let own : Foreign 0 m.file n later 0 (f k) = member_foreign 0 m.file n x k o.0 tt in
    files_along f g k
    ∙ ap (λ (xs : List ℕ). xs ++ files_in (g (numbers_behind k (f k)))) (none_filed (f k).procs own.procs)
    ∙ members_filed home m (behind_member at x) (past (last_line x) cs) later ms (numbers_behind k (f k)) o.1
members_filed home m at cs n (group head lines close ∷ ms) k o =
    let x : Member = group head lines close in
    let later : ℕ = n + length (member_lines x) in
    let f : Declares = member_declares m.file n x in
    let g : Declares = module_declares m.file later ms in
    let own : Foreign 0 m.file n later 0 (f k) = member_foreign 0 m.file n x k o.0 tt in
    files_along f g k
    ∙ ap (λ (xs : List ℕ). xs ++ files_in (g (numbers_behind k (f k)))) (none_filed (f k).procs own.procs)
    ∙ members_filed home m (behind_member at x) (past (last_line x) cs) later ms (numbers_behind k (f k)) o.1
members_filed home m at cs n (proc head body close ∷ ms) k o =
    let x : Member = proc head body close in
    let later : ℕ = n + length (member_lines x) in
    let f : Declares = member_declares m.file n x in
    let g : Declares = module_declares m.file later ms in
    let own : Own k.procs m.file n (flat_lines body) (f k) = procedure_own k.procs m.file n head body close k o.0 refl in
    files_along f g k
    ∙ ap (λ (xs : List ℕ). xs ++ files_in (g (numbers_behind k (f k))))
    (headed_filed m.file head.place n (head_of head.form) (flat_lines body) k o.0.headed own.procs)
    ∙ ap (λ (xs : List ℕ). m.file ∷ xs) (members_filed home m (behind_member at x) (past (last_line x) cs) later ms (numbers_behind k (f k)) o.1)

modules_filed : (home : ℕ) (at : Standing) (ms : List Module) (k : Numbers) → Each (λ (m : Module). Each (IsOrderly m.file) m.members) ms
    → files_in (project_declares ms k) ≡ map site_file (sites_from home at ms)
modules_filed home at [] k o = nothing_filed k
modules_filed home at (m ∷ ms) k o =
    let f : Declares = module_declares m.file 0 m.members in
    let g : Declares = project_declares ms in
    let rest : List Site = sites_from (suc home) (next_module (behind_members at m.members)) ms in
    files_along f g k
    ∙ ap (λ (xs : List ℕ). xs ++ files_in (g (numbers_behind k (f k)))) (members_filed home m at m.comments 0 m.members k o.0)
    ∙ ap (λ (xs : List ℕ). map site_file (module_sites home at m) ++ xs)
    (modules_filed (suc home) (next_module (behind_members at m.members)) ms (numbers_behind k (f k)) o.1)
    ∙ sym (map-append site_file (module_sites home at m) rest)

-- the procedures of a project stand in the files of its sites
pub listed_filed : (P : Project) → AreOrderly P.modules → files_in (lists_of P) ≡ map site_file (sites_from 0 first_numbers P.modules)
unfolding with_declared
listed_filed P o = modules_filed 0 first_numbers P.modules (counts no_lists) o.members

-- ---- modules of sites

-- a site is one of the modules that are numbered from one on
abbrev pub StandsAmong : (home : ℕ) → List Module → Site → Type 0
StandsAmong home [] s = ⊥
StandsAmong home (m ∷ ms) s = ((s.home ≡ home) × (site_file s ≡ m.file)) ⊎ StandsAmong (suc home) ms s

members_among : (home : ℕ) (m : Module) (at : Standing) (cs : List Comment) (ms : List Member)
    → Each (λ (s : Site). (s.home ≡ home) × (site_file s ≡ m.file)) (sites_at home m (placed_members at cs ms))
members_among home m at cs [] = tt
members_among home m at cs (alone l ∷ ms) = members_among home m (behind_member at (alone l)) (past (last_line (alone l)) cs) ms
members_among home m at cs (group head lines close ∷ ms) =
    members_among home m (behind_member at (group head lines close)) (past (last_line (group head lines close)) cs) ms
members_among home m at cs (proc head body close ∷ ms) =
    ((refl, refl), members_among home m (behind_member at (proc head body close)) (past (last_line (proc head body close)) cs) ms)

pub sites_among : (home : ℕ) (at : Standing) (ms : List Module) → Each (StandsAmong home ms) (sites_from home at ms)
sites_among home at [] = tt
sites_among home at (m ∷ ms) =
    let rest : List Site = sites_from (suc home) (next_module (behind_members at m.members)) ms in
    each_append (StandsAmong home (m ∷ ms)) (module_sites home at m) rest
    (each_from (λ (s : Site). (s.home ≡ home) × (site_file s ≡ m.file)) (StandsAmong home (m ∷ ms)) (λ s h. inl h) (module_sites home at m)
    (members_among home m at m.comments m.members))
    (each_from (StandsAmong (suc home) ms) (StandsAmong home (m ∷ ms)) (λ s h. inr h) rest (sites_among (suc home) (next_module (behind_members at m.members)) ms))

-- one in a file that none of the modules has
pub elsewhere : (home file : ℕ) (ms : List Module) (s : Site) → Each (λ (m : Module). nat_eq file m.file ≡ false) ms → site_file s ≡ file → StandsAmong home ms s → ⊥
elsewhere home file [] s d e h = h
elsewhere home file (m ∷ ms) s d e (inl h) = differ file m.file d.0 (sym e ∙ h.1)
  where
    differ : (a b : ℕ) → nat_eq a b ≡ false → a ≡ b → ⊥
    differ a b n i = grind (arith, nat_tests)
elsewhere home file (m ∷ ms) s d e (inr h) = elsewhere (suc home) file ms s d.1 e h

-- modules in different files are told by those
same_home : (home : ℕ) (ms : List Module) (s t : Site) → HaveDifferentFiles ms → StandsAmong home ms s → StandsAmong home ms t → site_file t ≡ site_file s → t.home ≡ s.home
same_home home [] s t d h i e = absurd h
same_home home (m ∷ ms) s t d (inl h) (inl i) e = i.0 ∙ sym h.0
same_home home (m ∷ ms) s t d (inl h) (inr i) e = absurd (elsewhere (suc home) m.file ms t d.0 (e ∙ h.1) i)
same_home home (m ∷ ms) s t d (inr h) (inl i) e = absurd (elsewhere (suc home) m.file ms s d.0 (sym e ∙ i.1) h)
same_home home (m ∷ ms) s t d (inr h) (inr i) e = same_home (suc home) ms s t d.1 h i e

-- ---- first parts

third_true : (a b c d : Bool) → (a && b && c && d) ≡ true → c ≡ true
third_true true true true d e = refl
third_true true true false d e = e
third_true true false c d e = absurd (cc e)
third_true false b c d e = absurd (cc e)

-- a procedure of the module of another, whose number is this one
pub record IsBeside (p : NamedProcedure) (qs : List NamedProcedure) (i number : ℕ) : Type 0 where
  pub place : ℕ
  pub procedure : NamedProcedure
  pub is_number : number ≡ i + place
  pub is_listed : slice_get qs place ≡ Some procedure
  pub same : p.module_number ≡ procedure.module_number
  pub parts : are_parts p procedure ≡ true

pub first_found : (k : ℕ) (p : NamedProcedure) (i : ℕ) (qs : List NamedProcedure) → (first_part k p i qs ≡ k) ⊎ IsBeside p qs i (first_part k p i qs)
first_found k p i [] = inl refl
first_found k p i (q ∷ qs) = by (are_parts p q) refl (first_found k p (i + 1) qs)
  where
    equal : (a b : ℕ) → nat_eq a b ≡ true → a ≡ b
    equal a b e = grind (arith, nat_tests)

    by : (b : Bool) → are_parts p q ≡ b → (first_part k p (i + 1) qs ≡ k) ⊎ IsBeside p qs (i + 1) (first_part k p (i + 1) qs)
        → (cond b i (first_part k p (i + 1) qs) ≡ k) ⊎ IsBeside p (q ∷ qs) i (cond b i (first_part k p (i + 1) qs))
    by true e h =
        inr (record {
          place = 0;
          procedure = q;
          is_number = omega arith;
          is_listed = refl;
          same = equal p.module_number q.module_number
              (third_true (is_property p.kind) (is_property q.kind) (nat_eq p.module_number q.module_number) (is_same_name p.name q.name) e);
          parts = e;
        })
    by false e (inl h) = inl h
    by false e (inr h) =
        inr (record {
          place = suc h.place;
          procedure = h.procedure;
          is_number = omega (arith, h.is_number);
          is_listed = h.is_listed;
          same = h.same;
          parts = h.parts;
        })

abbrev pub firsts_of : List Procedure → List ℕ
firsts_of qs = map (λ (q : Procedure). q.first.0) qs

-- the number that is the first part for the procedure of a number
pub record IsFirst (all ps : List NamedProcedure) (k n first : ℕ) : Type 0 where
  pub procedure : NamedProcedure
  pub is_listed : slice_get ps n ≡ Some procedure
  pub is_first : first ≡ first_part (k + n) procedure 0 all

itself : (k : ℕ) → k ≡ k + 0
itself k = omega arith

next : (k n : ℕ) → (k + 1) + n ≡ k + suc n
next k n = omega arith

from_zero : (n : ℕ) → 0 + n ≡ n
from_zero n = omega arith

pub bare_firsts : (all : List NamedProcedure) (k : ℕ) (ps : List NamedProcedure) (n first : ℕ)
    → slice_get (firsts_of (bare_procedures (firsts_from all k ps) ps)) n ≡ Some first → IsFirst all ps k n first
bare_firsts all k [] n first e = absurd (none-some first e)
bare_firsts all k (p ∷ ps) zero first e = record {
  procedure = p;
  is_listed = refl;
  is_first = sym (same_Some (first_part k p 0 all) first e) ∙ ap (λ (i : ℕ). first_part i p 0 all) (itself k);
}
bare_firsts all k (p ∷ ps) (suc n) first e =
    let o : IsFirst all ps (k + 1) n first = bare_firsts all (k + 1) ps n first e in
    record {
      procedure = o.procedure;
      is_listed = o.is_listed;
      is_first = o.is_first ∙ ap (λ (i : ℕ). first_part i o.procedure 0 all) (next k n);
    }

typed_firsts : (vs : List Variable) (qs : List Procedure) → firsts_of (map (with_result vs) qs) ≡ firsts_of qs
typed_firsts vs [] = refl
typed_firsts vs (q ∷ qs) = ap (λ (l : List ℕ). q.first.0 ∷ l) (typed_firsts vs qs)

final_firsts : (vs : List Variable) (heads : List RuleSet) (n : ℕ) (qs : List Procedure) → firsts_of (numbered (final_procedure vs heads) n qs) ≡ firsts_of qs
final_firsts vs heads n [] = refl
final_firsts vs heads n (q ∷ qs) = ap (λ (l : List ℕ). q.first.0 ∷ l) (final_firsts vs heads (n + 1) qs)

pub declared_firsts : (P : Project) (D : Declarations) (M : Marks) → IsDeclared P D M → firsts_of D.procs ≡ firsts_of (bare_of (lists_of P))
declared_firsts P D M is =
    let S : Declarations = settled is.member P (lists_of P) in
    ap (λ (E : Declarations). firsts_of E.procs) is.declarations
    ∙ final_firsts (numbered (final_variable (plans_of S (lists_of P)) M.vars) 0 S.vars) M.heads 0 S.procs
    ∙ settled_keeps (λ (E : Declarations). firsts_of E.procs) (λ E cs. refl) is.member P
    ∙ typed_firsts (typed_variables P (lists_of P)) (bare_of (lists_of P))

-- ---- parts of properties

pub with_file : (ss : List Site) (n file : ℕ) → slice_get (map site_file ss) n ≡ Some file → (t : Site) × (slice_get ss n ≡ Some t) × (site_file t ≡ file)
with_file [] n file e = absurd (none-some file e)
with_file (s ∷ ss) zero file e = (s, refl, same_Some (site_file s) file e)
with_file (s ∷ ss) (suc n) file e = with_file ss n file e

-- one item of lists that are mapped to the same
pub file_at : (ps : List NamedProcedure) (ss : List Site) (n : ℕ) (p : NamedProcedure) → map named_file ps ≡ map site_file ss → slice_get ps n ≡ Some p
    → slice_get (map site_file ss) n ≡ Some p.module_number
file_at ps ss n p same e =
    ap (λ (l : List ℕ). slice_get l n) (sym same) ∙ slice_get-map named_file ps n ∙ ap (λ (o : Option NamedProcedure). option_map named_file o) e

own_site : (ms : List Module) (all : List NamedProcedure) (n first : ℕ) (s : Site) → HaveDifferentFiles ms
    → map named_file all ≡ map site_file (sites_from 0 first_numbers ms) → IsFirst all all 0 n first → slice_get (sites_from 0 first_numbers ms) first ≡ Some s
    → (t : Site) × (slice_get (sites_from 0 first_numbers ms) n ≡ Some t) × (t.home ≡ s.home)
own_site ms all n first s d same f e = by (first_found n f.procedure 0 all)
  where
    ss : List Site
    ss = sites_from 0 first_numbers ms

    number : first ≡ first_part n f.procedure 0 all
    number = f.is_first ∙ ap (λ (i : ℕ). first_part i f.procedure 0 all) (from_zero n)

    by : (first_part n f.procedure 0 all ≡ n) ⊎ IsBeside f.procedure all 0 (first_part n f.procedure 0 all)
        → (t : Site) × (slice_get (sites_from 0 first_numbers ms) n ≡ Some t) × (t.home ≡ s.home)
    by (inl h) = (s, ap (λ (i : ℕ). slice_get ss i) (sym (number ∙ h)) ∙ e, refl)
    by (inr h) =
        let t : (t : Site) × (slice_get ss n ≡ Some t) × (site_file t ≡ f.procedure.module_number) =
        with_file ss n f.procedure.module_number (file_at all ss n f.procedure same f.is_listed) in
        let at : first ≡ h.place = omega (arith, number, h.is_number) in
        let of_first : (u : Site) × (slice_get ss h.place ≡ Some u) × (site_file u ≡ h.procedure.module_number) =
        with_file ss h.place h.procedure.module_number (file_at all ss h.place h.procedure same h.is_listed) in
        let it : of_first.0 ≡ s = same_Some of_first.0 s (sym of_first.1 ∙ ap (λ (i : ℕ). slice_get ss i) (sym at) ∙ e) in
        let file : site_file t.0 ≡ site_file s = t.2 ∙ h.same ∙ sym of_first.2 ∙ ap site_file it in (
          t.0,
          t.1,
          same_home 0 ms s t.0 d (each_got (StandsAmong 0 ms) ss first s e (sites_among 0 first_numbers ms))
              (each_got (StandsAmong 0 ms) ss n t.0 t.1 (sites_among 0 first_numbers ms)) file,
        )

-- in a project, by its procedures
abbrev StandBy : List Procedure → Project → Type 0
StandBy qs Q =
    (n : ℕ) (q : Procedure) (s : Site) → slice_get qs n ≡ Some q → is_property_kind q.kind ≡ true
    → slice_get (sites_from 0 first_numbers Q.modules) q.first.0 ≡ Some s
    → (t : Site) × (slice_get (sites_from 0 first_numbers Q.modules) n ≡ Some t) × (t.home ≡ s.home)

declared_together : (P : Project) (D : Declarations) (M : Marks) → IsDeclared P D M → AreOrderly P.modules → StandBy D.procs P
declared_together P D M is o n q s got property e =
    own_site P.modules (lists_of P).procs n q.first.0 s o.files (listed_filed P o)
    (bare_firsts (lists_of P).procs 0 (lists_of P).procs n q.first.0
    (ap (λ (l : List ℕ). slice_get l n) (sym (declared_firsts P D M is)) ∙ slice_get-map (λ (x : Procedure). x.first.0) D.procs n
    ∙ ap (λ (x : Option Procedure). option_map (λ (y : Procedure). y.first.0) x) got))
    e

pub parts_stand_together : (P : Project) (b : Bound) → IsBoundTo P b → AreOrderly P.modules → PartsStandTogether (program_of b).declarations
parts_stand_together P b is o =
    let D : Declarations = is.declarations in
    let M : Marks = b.declared.marks in
    let together : PartsStandTogether (all_declarations D) =
    subst (λ (Q : Project). StandBy D.procs Q) (sym (declared_project P D M is.declared)) (declared_together P D M is.declared o) in
    subst (λ (Q : Program). PartsStandTogether Q.declarations) (sym is.program) together
