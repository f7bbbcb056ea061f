-- Tables depend on the declared names, the project and the Enums alone.
use Rattle.std.proofs.Common.{◌≡◌, ℕ, Bool, List, [], ◌∷◌, refl, ap, ◌∙◌, subst}
use Rattle.std.specs.Prelude.{filter_map, option_map, Option, Some, None}
use Rattle.std.specs.List.{cons_option, list_any}
use Rattle.vb_tree.specs.Tree.{Module, Project}
use Rattle.bound_tree.specs.declared.declared.Named.{Named}
use Rattle.bound_tree.specs.declared.declared.Named.TheVariants as named
use Rattle.bound_tree.specs.Tree.{Declarations}
use Rattle.name_tables.specs.declared.homes.Home.{Home}
use Rattle.name_tables.specs.declared.tables.NameTables.{NameTables}
use Rattle.name_tables.specs.Events.{events_of}
use Rattle.name_tables.specs.Homes.{home_in, home_of, is_public_at}
use Rattle.name_tables.specs.Scopes.{first_named, has_member, is_enum_member}
use Rattle.name_tables.specs.Tables.{AreEvents, AreModules, AreScopes, AreTables}

same_member : (D E : Declarations) → D.enums ≡ E.enums → (n : Named) → is_enum_member D n ≡ is_enum_member E n
same_member D E e (named.Const c) = ap (list_any (has_member c)) e
same_member D E e (named.Var v) = refl
same_member D E e (named.Proc p) = refl
same_member D E e (named.Type t) = refl
same_member D E e (named.Enum n) = refl

same_home : (D E : Declarations) → D.enums ≡ E.enums → (m : Module) (o : Option Named) → option_map (home_of D m) o ≡ option_map (home_of E m) o
same_home D E e m None = refl
same_home D E e m (Some n) =
    ap (λ (b : Bool). let h : Home = record { file = m.file; class = m.class; named = n; enum_member = b } in Some h) (same_member D E e n)

same_homes : (D E : Declarations) (key : List ℕ) → D.names ≡ E.names → D.enums ≡ E.enums → (ms : List Module) → filter_map (home_in D key) ms ≡ filter_map (home_in E key) ms
same_homes D E key names enums [] = refl
same_homes D E key names enums (m ∷ ms) =
    ap (cons_option (home_in D key m)) (same_homes D E key names enums ms)
    ∙ ap (λ o. cons_option o (filter_map (home_in E key) ms))
    (ap (λ ns. option_map (home_of D m) (first_named (is_public_at m.file key) ns)) names ∙ same_home D E enums m (first_named (is_public_at m.file key) E.names))

pub same_tables : (t : NameTables) (D E : Declarations) → D.names ≡ E.names → D.project ≡ E.project → D.enums ≡ E.enums → AreTables t D → AreTables t E
same_tables t D E names project enums tables = record {
  scopes = subst (AreScopes t.scopes) names tables.scopes;
  modules = subst (λ (P : Project). AreModules t.modules P.modules) project tables.modules;
  events = subst (λ (P : Project). AreEvents t.events (events_of P)) project tables.events;
  homes = λ key. tables.homes key ∙ ap (λ (P : Project). filter_map (home_in D key) P.modules) project ∙ same_homes D E key names enums E.project.modules;
}
